-- The entries of a line that is read: each is what its key text is read as, so that its type begins with no White_Space.
-- Assumes nothing.
use mathlib.Core.Path.{◌≡◌, refl, sym, ap, ap₂, subst, ◌∙◌}
use mathlib.Core.Bool.{Bool, true, false, cond}
use mathlib.Core.List.{List, [], ◌∷◌, ◌++◌}
use Prim.Native.Nat.{ℕ, zero, suc, ◌+◌, ◌-◌, ◌<◌}
use Prim.Native.Char.{code}
use native.Mathlib.Omega.{arith}
use lib.ListN.{length, get_or, take, drop}
use Rattle.buffers.specs.Same.{among}
use Rattle.buffers.proofs.Choice.{by_cond}
use Rattle.format.specs.Limits.{levels}
use Rattle.format.specs.Refusals.{duplicate_key, entry_without_colon, entities_unclosed}
use Rattle.chars.specs.White.{white_at, trim_from, trim_end, trim}
use Rattle.chars.proofs.Trimming.{trim_idempotent}
use Rattle.cuts.specs.Scan.{top_level_char, matching_brace, matching_paren}
use Rattle.keys.specs.Escape.{pinned, entity_uid}
use Rattle.keys.specs.Entity.{EntityText, read_entity, find_entity_quote_open}
use Rattle.keys.proofs.Trimmed.{read_key_trimmed, key_trimmed_iff}
use Rattle.pack.specs.Value.{null, bool, integer, decimal, string, entity, array, fields, Value}
use Rattle.values.specs.Text.{parts}
use Rattle.values.specs.Parse.{parse}
use Rattle.values.proofs.ValueLaws.{parse_trim}
use Rattle.format.specs.Outcome.{Outcome, ok, refused}
use Rattle.format.proofs.Outcomes.{never, same_answer, taken}
use Rattle.entities.specs.Entries.{Entries, no_entry, entry, count_entries, stored_keys}
use Rattle.entities.specs.Parse.{Key, Entry, only_record, only_key, parse_entity_parents, unless_stored, entry_parts, entry_closed, entry_opened, ends_in_colon, before_record, key_text, parse_entry, with_entry, parse_entries, parse_entities}
use Rattle.entities.proofs.EntryLaws.{no_entries}
use Rattle.entities.proofs.KeyTexts.{OtherQuote, read_entity_at, key_entity, other_parse}
use Rattle.events.specs.Event.{Event}
use Rattle.events.specs.Line.{Behind, begins, entities_word, envelope_at, parse_entities_envelope, parse_line}
use Rattle.events.proofs.LineParts.{line_parts}
use Rattle.guarantees.specs.Keys.{entry_at, body_up_to, entities_body, key_text_before, key_text_of}
use Rattle.std.specs.Prelude.{None, Option, Some}

-- ---- a value that is an entity

entity_trimmed : (s ty id : List ℕ) → trim s ≡ s → parse levels s ≡ ok (entity ty id) → read_entity s ≡ EntityText.entity ty id
entity_trimmed s ty id t e = go (find_entity_quote_open s) refl
  where
    go : (f : Option ℕ) → find_entity_quote_open s ≡ f → read_entity s ≡ EntityText.entity ty id
    go None f = absurd (subst OtherQuote e (other_parse levels 128 s refl t f))
    go (Some p) f =
        let k = same_answer (sym (key_entity s p _ t f refl) ∙ ap only_key e) in
        read_entity_at s p f ∙ ap (λ (x : Key). EntityText.entity x.type x.id) k

pub entity_read : (s ty id : List ℕ) → parse levels s ≡ ok (entity ty id) → read_entity (trim s) ≡ EntityText.entity ty id
entity_read s ty id e = entity_trimmed (trim s) ty id (trim_idempotent s) (parse_trim levels s ∙ e)

-- its type begins with no White_Space
pub type_clean : (s ty id : List ℕ) → parse levels s ≡ ok (entity ty id) → white_at ty ≡ 0
type_clean s ty id e = (key_trimmed_iff pinned ty id).0 (read_key_trimmed pinned s ty id (entity_read s ty id e))

pub same_key : {ty id ty' id' : List ℕ} → ok (entity ty id) ≡ ok (entity ty' id') → entity_uid pinned ty id ≡ entity_uid pinned ty' id'
same_key {ty} {id} {ty'} {id'} e =
    let t : ty ≡ ty' = cc in
    let i : id ≡ id' = cc in
    ap₂ (entity_uid pinned) t i

-- ---- an entry

abbrev pub ReadAs : List ℕ → Key → Type 0
ReadAs x k = parse levels x ≡ ok (entity k.type k.id)

only_key_entity : (r : Outcome Value) (k : Key) → only_key r ≡ ok k → r ≡ ok (entity k.type k.id)
only_key_entity (refused n) k e = absurd (never e)
only_key_entity (ok (entity ty id)) k e = ap (λ (x : Key). ok (entity x.type x.id)) (same_answer e)
only_key_entity (ok null) k e = absurd (never e)
only_key_entity (ok (bool b)) k e = absurd (never e)
only_key_entity (ok (integer n)) k e = absurd (never e)
only_key_entity (ok (decimal s)) k e = absurd (never e)
only_key_entity (ok (string s)) k e = absurd (never e)
only_key_entity (ok (array vs)) k e = absurd (never e)
only_key_entity (ok (fields fs)) k e = absurd (never e)

module _ (before : List (List ℕ)) (en : Entry) where
  pub unless_stored_same : (e : Entry) → unless_stored before e ≡ ok en → e ≡ en
  unless_stored_same e h =
      by_cond (λ (o : Outcome Entry). o ≡ ok en → e ≡ en) (among (entity_uid pinned e.key.type e.key.id) before) (Outcome.refused duplicate_key) (ok e)
      (λ _ h. absurd (never h)) (λ _ h. same_answer h) h

  parts_key : (uid attributes tail : List ℕ) → entry_parts before uid attributes tail ≡ ok en → ReadAs uid en.key
  parts_key uid attributes tail e =
      let a = taken (only_record (parse levels attributes)) _ en e in
      let b = taken (parse_entity_parents (trim tail)) _ en a.next in
      let c = taken (only_key (parse levels uid)) _ en b.next in
      only_key_entity (parse levels uid) c.part c.first
      ∙ ap (λ (x : Entry). ok (entity x.key.type x.key.id)) (unless_stored_same (record { key = c.part; attributes = a.part; parents = b.part }) c.next)

  closed_key : (uid rs : List ℕ) (f : Option ℕ) → entry_closed before uid rs f ≡ ok en → ReadAs uid en.key
  closed_key uid rs None e = absurd (never e)
  closed_key uid rs (Some c) e = parts_key uid (take (c + 1) rs) (drop (c + 1) rs) e

  opened_key : (x : List ℕ) (f : Option ℕ) → entry_opened before x f ≡ ok en → ReadAs (key_text_before x f) en.key
  opened_key x None e = absurd (never e)
  opened_key x (Some b) e =
      by_cond (λ (o : Outcome Entry). o ≡ ok en → ReadAs (key_text (before_record x b)) en.key) (ends_in_colon (before_record x b)) _ (Outcome.refused entry_without_colon)
      (λ _ h. closed_key (key_text (before_record x b)) (drop b x) (matching_brace (drop b x)) h) (λ _ h. absurd (never h)) e

  entry_key : (x : List ℕ) → parse_entry before x ≡ ok en → ReadAs (key_text_of x) en.key
  unfolding parse_entry key_text_of
  entry_key x e = opened_key x (top_level_char (code "{") x) e

pub key_text_trimmed : (x : List ℕ) → trim (key_text_of x) ≡ key_text_of x
unfolding key_text_of trim_from trim_end
key_text_trimmed x = go (top_level_char (code "{") x)
  where
    go : (f : Option ℕ) → trim (key_text_before x f) ≡ key_text_before x f
    go (Some b) = trim_idempotent (take (length (before_record x b) - 1) (before_record x b))
    go None = refl

-- ---- all of them

-- as many entries as parts, each what its part's key text is read as
pub record EntryEntered (xs : List (List ℕ)) (es : Entries) : Type 0 where
  pub count : length xs ≡ count_entries es
  pub reads : (i : ℕ) → i < count_entries es → ReadAs (key_text_of (get_or xs i [])) (entry_at i es)

entered_more : (x : List ℕ) (xs : List (List ℕ)) (e : Entry) (es : Entries) → ReadAs (key_text_of x) e.key → EntryEntered xs es → EntryEntered (x ∷ xs) (with_entry e es)
unfolding count_entries entry_at
entered_more x xs e es k o = record {
  count = ap suc o.count;
  reads = λ i. go i;
}
  where
    go : (i : ℕ) → i < suc (count_entries es) → ReadAs (key_text_of (get_or (x ∷ xs) i [])) (entry_at i (with_entry e es))
    go zero h = k
    go (suc i) h = o.reads i (omega arith)

entered : (xs before : List (List ℕ)) (es : Entries) → parse_entries before xs ≡ ok es → EntryEntered xs es
unfolding parse_entries count_entries
entered [] before es e = subst (EntryEntered []) (same_answer e) (record { count = refl; reads = λ i h. absurd (omega arith) })
entered (x ∷ xs) before es e =
    let a = taken (parse_entry before x) _ es e in
    let b = taken (parse_entries (before ++ entity_uid pinned a.part.key.type a.part.key.id ∷ []) xs) _ es a.next in
    subst (EntryEntered (x ∷ xs)) (same_answer b.next)
    (entered_more x xs a.part b.part (entry_key before a.part x a.first) (entered xs _ b.part b.first))

-- ---- of a line

closed_body : (s : List ℕ) (f : Option ℕ) (en : Behind Entries) → envelope_at parse_entities entities_unclosed s f ≡ ok en → parse_entities (body_up_to f s) ≡ ok en.part
closed_body s None en e = absurd (never e)
closed_body s (Some c) en e =
    let a = taken (parse_entities (take c s)) _ en e in
    a.first ∙ ap (λ (b : Behind Entries). ok b.part) (same_answer a.next)

body_read : (s : List ℕ) (en : Behind Entries) → parse_entities_envelope s ≡ ok en
    → parse_entities (cond (begins entities_word s) (body_up_to (matching_paren (drop 9 s)) (drop 9 s)) []) ≡ ok en.part
unfolding parse_entities_envelope
body_read s en e = go (begins entities_word s) e
  where
    go : (t : Bool)
        → cond t (envelope_at parse_entities entities_unclosed (drop 9 s) (matching_paren (drop 9 s))) (ok (record { part = no_entry; rest = s })) ≡ ok en
        → parse_entities (cond t (body_up_to (matching_paren (drop 9 s)) (drop 9 s)) []) ≡ ok en.part
    go true e = closed_body (drop 9 s) (matching_paren (drop 9 s)) en e
    go false e = no_entries ∙ ap (λ (b : Behind Entries). ok b.part) (same_answer e)

pub line_body : (s : List ℕ) (e : Event) → parse_line s ≡ ok e → parse_entities (entities_body s) ≡ ok e.entities
unfolding entities_body
line_body s e w =
    let o = line_parts s e w in
    rw (o.time_read, o.scope_read) (body_read o.scope.rest o.entities o.entities_read ∙ ap (λ (x : Event). ok x.entities) o.is)

pub line_entered : (s : List ℕ) (e : Event) → parse_line s ≡ ok e → EntryEntered (parts (entities_body s)) e.entities
unfolding parse_entities
line_entered s e w = entered (parts (entities_body s)) [] e.entities (line_body s e w)

-- ---- the stored key of an entry

pub stored_at : (es : Entries) (i : ℕ) → i < count_entries es → get_or (stored_keys es) i [] ≡ entity_uid pinned (entry_at i es).type (entry_at i es).id
unfolding count_entries stored_keys entry_at
stored_at no_entry i h = absurd (omega arith)
stored_at (entry ty id fs ps es) zero h = refl
stored_at (entry ty id fs ps es) (suc i) h = stored_at es i (omega arith)

pub stored_count : (es : Entries) → length (stored_keys es) ≡ count_entries es
unfolding count_entries stored_keys
stored_count no_entry = refl
stored_count (entry ty id fs ps es) = ap suc (stored_count es)
