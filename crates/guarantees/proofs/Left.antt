-- The tables that a call of `read_line` or of `read_entities` left, where it answered with a pack: the pack stands in them, they hold its entries,
-- and its text is one that is read.
-- Assumes nothing.
use mathlib.Core.Path.{◌≡◌, refl, ap, subst, ◌∙◌}
use mathlib.Core.Bool.{Bool, true, false, cond}
use mathlib.Core.List.{List}
use mathlib.Core.Logic.{◌⊎◌, inl, inr}
use Prim.Native.Nat.{ℕ, ◌^◌, ◌<◌}
use native.Mathlib.Omega.{arith}
use lib.Dec.{leb}
use lib.ListN.{length, drop}
use Rattle.format.specs.Limits.{text_limit, nodes_used, texts_used}
use Rattle.format.specs.Outcome.{Outcome, ok, refused}
use Rattle.format.specs.Refusals.{text_too_long, not_utf8, table_too_short}
use Rattle.format.specs.declared.Reach.{Reach}
use Rattle.chars.specs.Utf8.{utf8}
use Rattle.chars.specs.White.{white_at, trim}
use Rattle.pack.specs.Pack.{Pack, empty_pack}
use Rattle.pack.proofs.Appended.{pack_is}
use Rattle.entities.specs.Entries.{Entries, count_entries}
use Rattle.events.specs.Event.{Event, append_event}
use Rattle.events.specs.Answer.{Answer, event, blank, line_answer, read_line}
use Rattle.events.proofs.Answers.{answer_event}
use Rattle.events.proofs.Bounds.{line_small}
use Rattle.lines.specs.Entry.{line_read_of, enough, sizes_of}
use Rattle.json_entities.specs.Entry as Json
use Rattle.json_entities.specs.Entry.{cells_pack, sizes_or, read_entities}
use Rattle.guarantees.specs.Keys.{AcceptedLine, followed_by, tables_of, entry_type, Holds, written_key}
use Rattle.guarantees.specs.Lines.{IsRead, ReadOrBlank}
use Rattle.guarantees.specs.Calls.{ReadInto, EntitiesInto, Source, from_line, from_json, entries_of_answer, entries_of_outcome, GivesEntries, PackInto}
use Rattle.guarantees.proofs.EntryReading.{type_clean, line_entered}
use Rattle.guarantees.proofs.JsonReading.{entities_read, types_clean}
use Rattle.json_entities.proofs.EntryBounds.{cells_small}
use Rattle.guarantees.proofs.Laying.{before_entities, parts_laid, json_parts_laid}
use Rattle.guarantees.proofs.Standing.{EntitiesStand, tables_padded, keys_stand}
use Rattle.std.specs.Prelude.{Err, None, Ok, Option, Result, Some}
use Rattle.format.specs.declared.Refusal.{Refusal}

-- ---- a line that is read

line_read : (s : List ℕ) (e : Event) → line_answer s ≡ event e → AcceptedLine (trim s) e
line_read s e h = let a = answer_event s e h in record { read = a.2; short = omega (arith, a.1) }

pub read_accepted : (s : List ℕ) {e : Event} → read_line s ≡ event e → AcceptedLine (trim s) e
unfolding read_line
read_accepted s {e} h = line_read s e (go (leb (length s) text_limit) (utf8 s) h)
  where
    go : (a b : Bool) → cond a (cond b (line_answer s) (Answer.refused not_utf8)) (Answer.refused text_too_long) ≡ event e → line_answer s ≡ event e
    go true true h = h
    go true false h = let z : ◌≡◌ {A = ℕ} 0 1 = cc in absurd (omega arith)
    go false b h = let z : ◌≡◌ {A = ℕ} 0 1 = cc in absurd (omega arith)

-- ---- its pack's texts, and those of a text of entities JSON

pub line_short : (s : List ℕ) {e : Event} → read_line s ≡ event e → length (append_event e empty_pack).texts < 2 ^ 32
line_short s {e} h = let a = read_accepted s h in let short = a.short in omega (arith, (line_small (trim s) e a.read).1)

pub json_short : (s : List ℕ) {es : Entries} → read_entities s ≡ ok es → length (cells_pack es).texts < 2 ^ 32
json_short s {es} h = let short = (entities_read s es h).short in omega (arith, (cells_small s es h).1)

-- ---- what an accepted source gives

event_of : (a : Answer) (es : Entries) → entries_of_answer a ≡ Some es → (e : Event) × (a ≡ event e) × (e.entities ≡ es)
event_of (event e) es g = (e, refl, cc)
event_of blank es g = let z : ◌≡◌ {A = ℕ} 0 1 = cc in absurd (omega arith)
event_of (Answer.refused n) es g = let z : ◌≡◌ {A = ℕ} 0 1 = cc in absurd (omega arith)

entries_read : (o : Outcome Entries) (es : Entries) → entries_of_outcome o ≡ Some es → o ≡ ok es
entries_read (ok es') es g = let w : es' ≡ es = cc in ap ok w
entries_read (refused n) es g = let z : ◌≡◌ {A = ℕ} 0 1 = cc in absurd (omega arith)

-- no type begins with White_Space
types_of : (x : Source) {es : Entries} → GivesEntries x es → (i : ℕ) → i < count_entries es → white_at (entry_type i es) ≡ 0
types_of (from_line s) {es} g =
    let h = event_of (read_line s) es g in
    subst (λ (es : Entries). (i : ℕ) → i < count_entries es → white_at (entry_type i es) ≡ 0) h.2
    (λ i l. type_clean (written_key i (trim s)) _ _ ((line_entered (trim s) h.0 (read_accepted s h.1).read).reads i l))
types_of (from_json s) {es} g = let r = entities_read s es (entries_read (read_entities s) es g) in types_clean r.tree es r.read

-- ---- a call

event_answer : (a : Answer) (f : Reach) → Ok (Some f) ≡ line_read_of a → (e : Event) × (a ≡ event e)
event_answer (event e) f h = (e, refl)
event_answer blank f h = let z : ◌≡◌ {A = ℕ} 0 1 = cc in absurd (omega arith)
event_answer (Answer.refused n) f h = let z : ◌≡◌ {A = ℕ} 0 1 = cc in absurd (omega arith)

entries_answer : (o : Outcome Entries) (f : Reach) → Ok f ≡ sizes_or o → (es : Entries) × (o ≡ ok es)
entries_answer (ok es) f h = (es, refl)
entries_answer (refused n) f h = let z : ◌≡◌ {A = ℕ} 0 1 = cc in absurd (omega arith)

-- tables that were too short are answered with no pack
long_enough : {A : Type 0} (b : Bool) (a : Result A Refusal) (x : A) → Ok x ≡ cond b a (Err table_too_short) → b ≡ true
long_enough true a x h = refl
long_enough false a x h = let z : ◌≡◌ {A = ℕ} 0 1 = cc in absurd (omega arith)

-- what lies past the used parts of the tables that were lent
abbrev past_used : Pack → Pack
past_used p = record { kinds = drop nodes_used p.kinds; numbers = drop nodes_used p.numbers; texts = drop texts_used p.texts }

module _ {s : List ℕ} {p q : Pack} where
  enough_lent : {f : Reach} → ReadInto s p (Ok (Some f)) q → enough p.kinds p.numbers p.texts ≡ true
  enough_lent {f} w = long_enough _ (line_read_of (read_line s)) (Some f) w.answer

  pub event_read : {f : Reach} → ReadInto s p (Ok (Some f)) q → IsRead s
  event_read {f} w = event_answer (read_line s) f (rw (enough_lent w) at w.answer)

  pub event_left_tables : {f : Reach} {e : Event} → ReadInto s p (Ok (Some f)) q → read_line s ≡ event e → (rest : Pack) × (q ≡ tables_of e rest)
  event_left_tables {f} {e} w h =
      let b = enough_lent w in
      let o = tables_padded nodes_used texts_used (append_event e empty_pack) (past_used p) in
      (o.0, pack_is _ _ (w.kinds ∙ rw (b, h)) (w.numbers ∙ rw (b, h)) (w.texts ∙ rw (b, h)) ∙ o.1)

  event_stands : {f : Reach} {e : Event} → ReadInto s p (Ok (Some f)) q → read_line s ≡ event e → EntitiesStand f q e.entities
  event_stands {f} {e} w h =
      let t = event_left_tables w h in
      let sizes : Ok (Some f) ≡ Ok (Some (sizes_of (append_event e empty_pack))) = w.answer ∙ rw (enough_lent w, h) in
      record {
        before = before_entities e empty_pack;
        laid = parts_laid e empty_pack;
        rest = t.0;
        is = t.1;
        sizes = cc;
        short = line_short s h;
      }

  pub taken_line : {r : Result (Option Reach) Refusal} → ReadOrBlank s → enough p.kinds p.numbers p.texts ≡ true → ReadInto s p r q
      → (r ≡ (Ok None)) ⊎ ((f : Reach) × (r ≡ Ok (Some f)))
  taken_line (inl h) b w = inl (w.answer ∙ rw (b, h))
  taken_line (inr (e, h)) b w = inr (sizes_of (append_event e empty_pack), w.answer ∙ rw (b, h))

  json_lent : {f : Reach} → EntitiesInto s p (Ok f) q → enough p.kinds p.numbers p.texts ≡ true
  json_lent {f} w = long_enough _ (sizes_or (read_entities s)) f w.answer

  entries_left : {f : Reach} → EntitiesInto s p (Ok f) q → (es : Entries) × (read_entities s ≡ ok es)
  entries_left {f} w = entries_answer (read_entities s) f (rw (json_lent w) at w.answer)

  json_left_tables : {f : Reach} {es : Entries} → EntitiesInto s p (Ok f) q → read_entities s ≡ ok es → (rest : Pack) × (q ≡ followed_by (cells_pack es) rest)
  json_left_tables {f} {es} w h =
      let b = json_lent w in
      let o = tables_padded nodes_used texts_used (cells_pack es) (past_used p) in
      (o.0, pack_is _ _ (w.kinds ∙ rw (b, h)) (w.numbers ∙ rw (b, h)) (w.texts ∙ rw (b, h)) ∙ o.1)

  json_stands : {f : Reach} {es : Entries} → EntitiesInto s p (Ok f) q → read_entities s ≡ ok es → EntitiesStand f q es
  json_stands {f} {es} w h =
      let t = json_left_tables w h in
      let sizes : Ok f ≡ Ok (sizes_of (cells_pack es)) = w.answer ∙ rw (json_lent w, h) in
      record {
        before = Json.before_entities;
        laid = json_parts_laid;
        rest = t.0;
        is = t.1;
        sizes = cc;
        short = json_short s h;
      }

-- ---- a call on either source

pub call_gives : (x : Source) {p q : Pack} {f : Reach} → PackInto x p f q → (es : Entries) × GivesEntries x es
call_gives (from_line s) w = let h = event_read w.call in (h.0.entities, ap entries_of_answer h.1)
call_gives (from_json s) w = let h = entries_left w.call in (h.0, ap entries_of_outcome h.1)

pub call_stands : (x : Source) {p q : Pack} {f : Reach} {es : Entries} → PackInto x p f q → GivesEntries x es → EntitiesStand f q es
call_stands (from_line s) {q = q} {f = f} {es = es} w g = let h = event_of (read_line s) es g in subst (EntitiesStand f q) h.2 (event_stands w.call h.1)
call_stands (from_json s) {es = es} w g = json_stands w.call (entries_read (read_entities s) es g)

pub call_holds : (x : Source) {p q : Pack} {f : Reach} {es : Entries} → PackInto x p f q → GivesEntries x es → Holds q es
call_holds x w g = record { keys = keys_stand (call_stands x w g); types = types_of x g }
