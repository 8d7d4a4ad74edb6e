-- The entries of a JSON text that is read without refusal: each is what the item of its place has as `uid`, so that its type begins with no
-- White_Space, and its type text and decoded id are the strings of the members `type` and `id`.
-- Assumes nothing.
use mathlib.Core.Path.{◌≡◌, refl, sym, ap, subst, ◌∙◌}
use mathlib.Core.Bool.{true, false}
use mathlib.Core.List.{List, [], ◌∷◌, ◌++◌}
use Prim.Native.Nat.{ℕ, zero, suc, ◌≤◌, ◌<◌}
use native.Mathlib.Omega.{arith}
use borrow.Author.Tests.{leb-true, eqb-true}
use lib.Dec.{leb, eqb}
use lib.ListN.{length}
use Rattle.buffers.specs.Same.{same}
use Rattle.buffers.proofs.Choice.{by_cond, and_left, and_right}
use Rattle.buffers.proofs.Equal.{same_true}
use Rattle.format.specs.Limits.{text_limit, json_limit}
use Rattle.format.specs.Outcome.{Outcome, ok, refused, mapped}
use Rattle.format.specs.Refusals.{text_too_long, not_utf8, line_too_long, not_entities}
use Rattle.format.proofs.Outcomes.{never, same_answer, taken}
use Rattle.chars.specs.Utf8.{utf8}
use Rattle.chars.specs.White.{white_at}
use Rattle.keys.specs.Escape.{pinned, entity_uid}
use Rattle.json_text.specs.Json.{Json, Items, no_item, item, Members, no_member, member}
use Rattle.json_text.specs.Syntax.{json}
use Rattle.pack.specs.Value.{Values, Fields}
use Rattle.entities.specs.Entries.{Entries, count_entries}
use Rattle.entities.specs.Parse.{Key, Entry, with_entry}
use Rattle.json_entities.specs.Shape.{uid_word, attrs_word, parents_word, type_word, id_word, text_of, first_named, uid_from, unless_white, uid_of, attributes_of, parents_of, entry_from, entry_of, entries_from, entries_of}
use Rattle.json_entities.specs.Entry.{entries_if_json, read_entities}
use Rattle.guarantees.specs.Keys.{entry_at}
use Rattle.guarantees.specs.Given.{member_named, member_of, item_numbered, count_items, uid_of_item, EntriesGiven}
use Rattle.guarantees.proofs.EntryReading.{unless_stored_same}
use Rattle.std.specs.Prelude.{None, Option, Some, is_none}

-- ---- a member that is met once, in any order

-- the part a that the members gave: it was there before them, or is what `read` makes of the member named `word`
module _ {A : Type 0} (read : Json → Outcome A) (word : List ℕ) where
  abbrev Met : Option A → Members → A → Type 0
  Met (Some b) ms a = b ≡ a
  Met None ms a = read (member_named word ms) ≡ ok a

  here : (o : Option A) (x : List ℕ) (j : Json) (ms : Members) (a b : A) → first_named word x o ≡ true → read j ≡ ok b → Met (Some b) ms a → Met o (member x j ms) a
  unfolding member_named
  here (Some c) x j ms a b t r e = let f : false ≡ true = and_right (same x word) false t in let z : ◌≡◌ {A = ℕ} 0 1 = cc in absurd (omega arith)
  here None x j ms a b t r e = rw (and_left (same x word) true t) (r ∙ ap ok e)

  -- a member of another name
  passed : (o : Option A) (other x : List ℕ) (j : Json) (ms : Members) (a : A) → same x other ≡ true → same other word ≡ false → Met o ms a → Met o (member x j ms) a
  unfolding member_named
  passed (Some c) other x j ms a t f e = e
  passed None other x j ms a t f e = rw (same_true x other t, f) e

-- a name that is a word, and was not met before
is_word : {A : Type 0} (word x : List ℕ) (o : Option A) → first_named word x o ≡ true → same x word ≡ true
is_word word x o t = and_left (same x word) (is_none o) t

-- ---- a uid

uid_met : (ty id : Option (List ℕ)) (ms : Members) (k : Key) → uid_from ty id ms ≡ ok k → Met text_of type_word ty ms k.type × Met text_of id_word id ms k.id
unfolding uid_from same
uid_met (Some ty) (Some id) no_member k e = let w : record { type = ty; id = id } ≡ k = same_answer e in (ap (λ (x : Key). x.type) w, ap (λ (x : Key). x.id) w)
uid_met (Some ty) None no_member k e = absurd (never e)
uid_met None id no_member k e = absurd (never e)
uid_met ty id (member x j ms) k e =
    by_cond (λ (o : Outcome Key). o ≡ ok k → Both) (first_named type_word x ty) _ _
    (λ t h.
    let a = taken (text_of j) _ k h in
    let m = uid_met (Some a.part) id ms k a.next in
    (here text_of type_word ty x j ms k.type a.part t a.first m.0, passed text_of id_word id type_word x j ms k.id (is_word type_word x ty t) refl m.1))
    (λ _. by_cond (λ (o : Outcome Key). o ≡ ok k → Both) (first_named id_word x id) _ _
    (λ t h.
    let a = taken (text_of j) _ k h in
    let m = uid_met ty (Some a.part) ms k a.next in
    (passed text_of type_word ty id_word x j ms k.type (is_word id_word x id t) refl m.0, here text_of id_word id x j ms k.id a.part t a.first m.1))
    (λ _ h. absurd (never h)))
    e
  where
    Both : Type 0
    Both = Met text_of type_word ty (member x j ms) k.type × Met text_of id_word id (member x j ms) k.id

string_is : (j : Json) (s : List ℕ) → text_of j ≡ ok s → j ≡ Json.string s
string_is (Json.string t) s e = ap Json.string (same_answer e)
string_is Json.null s e = absurd (never e)
string_is (Json.bool b) s e = absurd (never e)
string_is (Json.number t) s e = absurd (never e)
string_is (Json.array js) s e = absurd (never e)
string_is (Json.object ms) s e = absurd (never e)

unless_white_same : (k k' : Key) → unless_white k ≡ ok k' → (k ≡ k') × (white_at k'.type ≡ 0)
unless_white_same k k' e =
    by_cond (λ (o : Outcome Key). o ≡ ok k' → (k ≡ k') × (white_at k'.type ≡ 0)) (eqb (white_at k.type) 0) (ok k) (refused not_entities)
    (λ t h. let s = same_answer h in (s, ap (λ (x : Key). white_at x.type) (sym s) ∙ eqb-true (white_at k.type) 0 t)) (λ _ h. absurd (never h)) e

-- a uid that is read
record UidStrings (j : Json) (k : Key) : Type 0 where
  type : member_of type_word j ≡ Json.string k.type
  id : member_of id_word j ≡ Json.string k.id
  clean : white_at k.type ≡ 0

uid_strings : (j : Json) (k : Key) → uid_of j ≡ ok k → UidStrings j k
uid_strings (Json.object ms) k e =
    let a = taken (uid_from None None ms) _ k e in
    let w = unless_white_same a.part k a.next in
    let m = uid_met None None ms k (a.first ∙ ap ok w.0) in
    record { type = string_is _ k.type m.0; id = string_is _ k.id m.1; clean = w.1 }
uid_strings Json.null k e = absurd (never e)
uid_strings (Json.bool b) k e = absurd (never e)
uid_strings (Json.number s) k e = absurd (never e)
uid_strings (Json.string s) k e = absurd (never e)
uid_strings (Json.array js) k e = absurd (never e)

-- ---- an entry

entry_met : (uid : Option Key) (attrs : Option Fields) (parents : Option Values) (ms : Members) (en : Entry) → entry_from uid attrs parents ms ≡ ok en → Met uid_of uid_word uid ms en.key
unfolding entry_from same
entry_met (Some k) (Some fs) (Some ps) no_member en e = ap (λ (x : Entry). x.key) (same_answer e)
entry_met (Some k) (Some fs) None no_member en e = absurd (never e)
entry_met (Some k) None parents no_member en e = absurd (never e)
entry_met None attrs parents no_member en e = absurd (never e)
entry_met uid attrs parents (member x j ms) en e =
    by_cond (λ (o : Outcome Entry). o ≡ ok en → Key_met) (first_named uid_word x uid) _ _
    (λ t h. let a = taken (uid_of j) _ en h in here uid_of uid_word uid x j ms en.key a.part t a.first (entry_met (Some a.part) attrs parents ms en a.next))
    (λ _. by_cond (λ (o : Outcome Entry). o ≡ ok en → Key_met) (first_named attrs_word x attrs) _ _
    (λ t h.
    let a = taken (attributes_of j) _ en h in
    passed uid_of uid_word uid attrs_word x j ms en.key (is_word attrs_word x attrs t) refl (entry_met uid (Some a.part) parents ms en a.next))
    (λ _. by_cond (λ (o : Outcome Entry). o ≡ ok en → Key_met) (first_named parents_word x parents) _ _
    (λ t h.
    let a = taken (parents_of j) _ en h in
    passed uid_of uid_word uid parents_word x j ms en.key (is_word parents_word x parents t) refl (entry_met uid attrs (Some a.part) ms en a.next))
    (λ _ h. absurd (never h))))
    e
  where
    Key_met : Type 0
    Key_met = Met uid_of uid_word uid (member x j ms) en.key

entry_uid : (before : List (List ℕ)) (j : Json) (en : Entry) → entry_of before j ≡ ok en → uid_of (member_of uid_word j) ≡ ok en.key
entry_uid before (Json.object ms) en e =
    let a = taken (entry_from None None None ms) _ en e in
    entry_met None None None ms a.part a.first ∙ ap (λ (x : Entry). ok x.key) (unless_stored_same before en a.part a.next)
entry_uid before Json.null en e = absurd (never e)
entry_uid before (Json.bool b) en e = absurd (never e)
entry_uid before (Json.number s) en e = absurd (never e)
entry_uid before (Json.string s) en e = absurd (never e)
entry_uid before (Json.array js) en e = absurd (never e)

-- ---- all of them

record Entered (js : Items) (es : Entries) : Type 0 where
  count : count_items js ≡ count_entries es
  uids : (i : ℕ) → i < count_entries es → uid_of (uid_of_item i js) ≡ ok (entry_at i es)

entered_more : (j : Json) (js : Items) (e : Entry) (es : Entries) → uid_of (member_of uid_word j) ≡ ok e.key → Entered js es → Entered (item j js) (with_entry e es)
unfolding count_items count_entries item_numbered entry_at
entered_more j js e es k o = record {
  count = ap suc o.count;
  uids = λ i. go i;
}
  where
    go : (i : ℕ) → i < suc (count_entries es) → uid_of (uid_of_item i (item j js)) ≡ ok (entry_at i (with_entry e es))
    go zero h = k
    go (suc i) h = o.uids i (omega arith)

mapped_taken : {A B : Type 0} (f : A → B) (o : Outcome A) (b : B) → mapped f o ≡ ok b → (a : A) × (o ≡ ok a) × (f a ≡ b)
mapped_taken f (ok a) b e = (a, refl, same_answer e)
mapped_taken f (refused n) b e = absurd (never e)

entered : (before : List (List ℕ)) (js : Items) (es : Entries) → entries_from before js ≡ ok es → Entered js es
unfolding entries_from count_items count_entries
entered before no_item es e = subst (Entered no_item) (same_answer e) (record { count = refl; uids = λ i h. absurd (omega arith) })
entered before (item j js) es e =
    let a = taken (entry_of before j) _ es e in
    let b = mapped_taken (with_entry a.part) _ es a.next in
    subst (Entered (item j js)) b.2 (entered_more j js a.part b.0 (entry_uid before j a.part a.first) (entered (before ++ entity_uid pinned a.part.key.type a.part.key.id ∷ []) js b.0 b.1))

-- ---- a text that is read

pub record EntitiesRead (s : List ℕ) (es : Entries) : Type 0 where
  pub short : length s ≤ json_limit
  pub tree : Json
  pub is : json s ≡ Some tree
  pub read : entries_of tree ≡ ok es

json_taken : (o : Option Json) (es : Entries) → entries_if_json o ≡ ok es → (j : Json) × (o ≡ Some j) × (entries_of j ≡ ok es)
json_taken (Some j) es e = (j, refl, e)
json_taken None es e = absurd (never e)

pub entities_read : (s : List ℕ) (es : Entries) → read_entities s ≡ ok es → EntitiesRead s es
unfolding read_entities
entities_read s es e =
    by_cond (λ (o : Outcome Entries). o ≡ ok es → EntitiesRead s es) (leb (length s) text_limit) _ (refused text_too_long)
    (λ _. by_cond (λ (o : Outcome Entries). o ≡ ok es → EntitiesRead s es) (utf8 s) _ (refused not_utf8)
    (λ _. by_cond (λ (o : Outcome Entries). o ≡ ok es → EntitiesRead s es) (leb (length s) json_limit) (entries_if_json (json s)) (refused line_too_long)
    (λ t h. let a = json_taken (json s) es h in record { short = leb-true (length s) json_limit t; tree = a.0; is = a.1; read = a.2 }) (λ _ h. absurd (never h)))
    (λ _ h. absurd (never h)))
    (λ _ h. absurd (never h)) e

record TreeEntered (j : Json) (es : Entries) : Type 0 where
  items : Items
  is : j ≡ Json.array items
  entered : Entered items es

tree_entered : (j : Json) (es : Entries) → entries_of j ≡ ok es → TreeEntered j es
tree_entered (Json.array js) es e = record { items = js; is = refl; entered = entered [] js es e }
tree_entered Json.null es e = absurd (never e)
tree_entered (Json.bool b) es e = absurd (never e)
tree_entered (Json.number s) es e = absurd (never e)
tree_entered (Json.string s) es e = absurd (never e)
tree_entered (Json.object ms) es e = absurd (never e)

pub entries_given : (j : Json) (es : Entries) → entries_of j ≡ ok es → EntriesGiven j es
entries_given j es e =
    let t = tree_entered j es e in
    record {
      items = t.items;
      is = t.is;
      count = t.entered.count;
      types = λ i h. (uid_strings _ _ (t.entered.uids i h)).type;
      ids = λ i h. (uid_strings _ _ (t.entered.uids i h)).id;
    }

pub types_clean : (j : Json) (es : Entries) → entries_of j ≡ ok es → (i : ℕ) → i < count_entries es → white_at (entry_at i es).type ≡ 0
types_clean j es e i h = (uid_strings _ _ ((tree_entered j es e).entered.uids i h)).clean
