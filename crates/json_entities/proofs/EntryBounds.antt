-- How many nodes and how much text the cells of a JSON text take: what a tree gives takes a node a byte at most, and six bytes of text a byte, by the
-- weight of the tree (`JsonWeights`). A stored key alone takes more text than is written.
-- Assumes nothing.
use mathlib.Core.Path.{◌≡◌, refl, sym, ap, ◌∙◌}
use mathlib.Core.Bool.{Bool, true, false, cond}
use mathlib.Core.List.{List, [], ◌∷◌, ◌++◌}
use Prim.Native.Nat.{ℕ, zero, suc, ◌+◌, ◌-◌, ◌*◌, ◌≤◌}
use native.Mathlib.Omega.{arith}
use lib.Dec.{eqb, leb}
use lib.ListN.{length, length-append}
use Rattle.std.specs.Prelude.{IsSome, None, Option, Some}
use Rattle.buffers.specs.Same.{same, among}
use Rattle.buffers.proofs.Choice.{both_arms}
use Rattle.format.specs.Kinds.{record_kind}
use Rattle.format.specs.Limits.{levels, text_limit, json_limit}
use Rattle.format.specs.Outcome.{Outcome, ok, refused, mapped}
use Rattle.format.specs.declared.Refusal.{Refusal}
use Rattle.format.proofs.Outcomes.{never}
use Rattle.chars.specs.Utf8.{utf8}
use Rattle.chars.specs.White.{white_at}
use Rattle.numbers.specs.Integer.{i64_of}
use Rattle.json_text.specs.Json.{Json, Items, no_item, item, Members, no_member, member}
use Rattle.json_text.specs.Syntax.{ws, read_value, json}
use Rattle.pack.specs.Value as Value
use Rattle.pack.specs.Value.{Value, Values, Fields, array, fields}
use Rattle.pack.specs.Closed.{kinds_of, kinds_all, kinds_fields, texts_of, texts_all, texts_fields}
use Rattle.pack.specs.Pack.{node}
use Rattle.values.specs.Parse.{unless_seen}
use Rattle.values.specs.declared.Names.TheVariants.{Decoded}
use Rattle.values.proofs.BoundLaws.{SmallBound, SmallAll, SmallFields}
use Rattle.entities.specs.Entries.{Entries, count_entries}
use Rattle.entities.specs.Closed.{kinds_entries, texts_entries}
use Rattle.entities.specs.Parse.{Key, Entry, unless_stored, with_entry}
use Rattle.entities.specs.Read.{key_bytes}
use Rattle.entities.proofs.KeyTexts.{key_size}
use Rattle.entities.proofs.Bounds.{onward, SmallEntry}
use Rattle.entities.proofs.Laid.{append_entries_closed}
use Rattle.json_entities.specs.Shape.{first_named, type_word, id_word, uid_word, attrs_word, parents_word, both_of, text_of, uid_from, unless_white, uid_of, entity_of, reference_of, integer_of, items_by, is_reserved, fields_by, reference_alone, entity_word, object_by, value_by, value_of, attributes_of, parents_of, parts_of, entry_from, entry_of, entries_from, entries_of}
use Rattle.json_entities.specs.Post.{json_in}
use Rattle.json_entities.specs.Parts.{value_in}
use Rattle.json_entities.specs.Entry.{entries_if_json, read_entities, before_entities, cells_pack}
use Rattle.json_text.proofs.Lengths.{ws_shorter}
use Rattle.json_entities.proofs.JsonWeights.{weight, items_weight, members_weight, value_weight}
use Rattle.json_entities.proofs.Finish.{json_read}

-- ---- uids: type and id, and six bytes at least around them

abbrev SmallUid : ℕ → Outcome Key → Type 0
SmallUid n (ok k) = length k.type + length k.id + 6 ≤ n
SmallUid n (refused e) = Unit {0}

abbrev SmallText : ℕ → Outcome (List ℕ) → Type 0
SmallText n (ok s) = length s + 2 ≤ n
SmallText n (refused e) = Unit {0}

abbrev text_weight : Option (List ℕ) → ℕ
text_weight (Some s) = length s + 3
text_weight None = 0

text_small : (j : Json) → SmallText (weight j) (text_of j)
unfolding weight
text_small (Json.string s) = omega arith
text_small Json.null = tt
text_small (Json.bool b) = tt
text_small (Json.number s) = tt
text_small (Json.array js) = tt
text_small (Json.object ms) = tt

more_uid : (m n : ℕ) (o : Outcome Key) → m ≤ n → SmallUid m o → SmallUid n o
more_uid m n (ok k) l h = omega arith
more_uid m n (refused e) l h = tt

both_small : (ty id : Option (List ℕ)) → SmallUid (text_weight ty + text_weight id + 0) (both_of ty id)
both_small (Some ty) (Some id) = omega arith
both_small (Some ty) None = tt
both_small None id = tt

uid_small_from : (ty id : Option (List ℕ)) (ms : Members) → SmallUid (text_weight ty + text_weight id + members_weight ms) (uid_from ty id ms)
unfolding uid_from weight
uid_small_from ty id no_member = both_small ty id
uid_small_from ty id (member x j ms) =
    let n : ℕ = text_weight ty + text_weight id + (1 + length x + weight j + members_weight ms) in
    both_arms (SmallUid n) (first_named type_word x ty)
    (onward (SmallText (weight j)) (SmallUid n) (λ _. tt) (text_of j) _ (text_small j) (λ s h. more_uid _ n (uid_from (Some s) id ms) (omega arith) (uid_small_from (Some s) id ms)))
    (both_arms (SmallUid n) (first_named id_word x id)
    (onward (SmallText (weight j)) (SmallUid n) (λ _. tt) (text_of j) _ (text_small j) (λ s h. more_uid _ n (uid_from ty (Some s) ms) (omega arith) (uid_small_from ty (Some s) ms))) tt)

uid_small : (j : Json) → SmallUid (weight j) (uid_of j)
unfolding weight
uid_small (Json.object ms) =
    onward (SmallUid (members_weight ms)) (SmallUid (1 + members_weight ms)) (λ _. tt) (uid_from None None ms) unless_white (more_uid _ _ (uid_from None None ms) (omega arith) (uid_small_from None None ms))
    (λ k h. both_arms (SmallUid (1 + members_weight ms)) (eqb (white_at k.type) 0) (omega arith) tt)
uid_small Json.null = tt
uid_small (Json.bool b) = tt
uid_small (Json.number s) = tt
uid_small (Json.string s) = tt
uid_small (Json.array js) = tt

reference_small : (j : Json) → SmallBound (weight j) (weight j) (reference_of j)
unfolding kinds_of texts_of
reference_small j = go (uid_of j) (uid_small j)
  where
    go : (o : Outcome Key) → SmallUid (weight j) o → SmallBound (weight j) (weight j) (mapped entity_of o)
    go (ok k) h = (omega arith, omega (arith, length-append k.type k.id))
    go (refused e) h = tt

-- ---- values

array_small : (m l : ℕ) (o : Outcome Values) → SmallAll m l o → SmallBound (1 + m) l (mapped array o)
unfolding kinds_of texts_of
array_small m l (ok vs) h = (omega arith, h.1)
array_small m l (refused e) h = tt

record_small : (m l : ℕ) (o : Outcome Fields) → SmallFields m l o → SmallBound (1 + m) l (mapped fields o)
unfolding kinds_of texts_of
record_small m l (ok fs) h = (omega arith, h.1)
record_small m l (refused e) h = tt

item_small : (v : Value) (m l a b : ℕ) (o : Outcome Values) → length (kinds_of v) ≤ a → length (texts_of v) ≤ b → SmallAll m l o → SmallAll (a + m) (b + l) (mapped (Value.more v) o)
unfolding kinds_of texts_of
item_small v m l a b (ok vs) x y h = (omega (arith, h.0, length-append (kinds_of v) (kinds_all vs)), omega (arith, h.1, length-append (texts_of v) (texts_all vs)))
item_small v m l a b (refused e) x y h = tt

field_small : (x : List ℕ) (v : Value) (m l a b : ℕ) (o : Outcome Fields) → length (kinds_of v) ≤ a → length (texts_of v) ≤ b → SmallFields m l o
    → SmallFields (1 + length x + a + m) (1 + length x + b + l) (mapped (Value.field x v) o)
unfolding kinds_of texts_of
field_small x v m l a b (ok fs) y z h = (
  omega (arith, h.0, length-append (kinds_of v) (kinds_fields fs)),
  omega (arith, h.1, length-append x (texts_of v ++ texts_fields fs), length-append (texts_of v) (texts_fields fs)),
)
field_small x v m l a b (refused e) y z h = tt

seen_small : (b : Bool) (m l : ℕ) (o : Outcome Value) → SmallBound m l o → SmallBound m l (unless_seen Decoded b o)
unfolding unless_seen
seen_small b m l (refused e) h = tt
seen_small true m l (ok v) h = tt
seen_small false m l (ok v) h = h

abbrev Small : (Json → Outcome Value) → Type 0
Small p = (j : Json) → SmallBound (weight j) (weight j) (p j)

items_small : (p : Json → Outcome Value) → Small p → (js : Items) → SmallAll (items_weight js) (items_weight js) (items_by p js)
unfolding items_by weight kinds_of texts_of
items_small p s no_item = (omega arith, omega arith)
items_small p s (item j js) =
    onward (SmallBound (weight j) (weight j)) (SmallAll (weight j + items_weight js) (weight j + items_weight js)) (λ _. tt) (p j) _ (s j)
    (λ v h. item_small v _ _ _ _ (items_by p js) h.0 h.1 (items_small p s js))

fields_small : (p : Json → Outcome Value) → Small p → (before : List (List ℕ)) (ms : Members) → SmallFields (members_weight ms) (members_weight ms) (fields_by p before ms)
unfolding fields_by weight kinds_of texts_of
fields_small p s before no_member = (omega arith, omega arith)
fields_small p s before (member x j ms) =
    let n : ℕ = 1 + length x + weight j + members_weight ms in
    both_arms (SmallFields n n) (is_reserved x) tt
    (onward (SmallBound (weight j) (weight j)) (SmallFields n n) (λ _. tt) (unless_seen Decoded (among x before) (p j)) _ (seen_small (among x before) _ _ (p j) (s j))
    (λ v h. field_small x v _ _ _ _ (fields_by p (before ++ x ∷ []) ms) h.0 h.1 (fields_small p s (before ++ x ∷ []) ms)))

alone_small : (j : Json) (ms : Members) → SmallBound (weight j) (weight j) (reference_alone j ms)
alone_small j no_member = reference_small j
alone_small j (member x i ms) = tt

more_value : (m n : ℕ) (o : Outcome Value) → m ≤ n → SmallBound m m o → SmallBound n n o
more_value m n (ok v) l h = (omega (arith, h.0), omega (arith, h.1))
more_value m n (refused e) l h = tt

widened : (n : ℕ) (o : Outcome Value) → SmallBound (1 + n) n o → SmallBound (1 + n) (1 + n) o
widened n (ok v) h = (h.0, omega (arith, h.1))
widened n (refused e) h = tt

object_small : (p : Json → Outcome Value) → Small p → (ms : Members) → SmallBound (1 + members_weight ms) (1 + members_weight ms) (object_by p ms)
unfolding object_by weight kinds_of texts_of
object_small p s no_member = (omega arith, omega arith)
object_small p s (member x j ms) =
    let n : ℕ = members_weight (member x j ms) in
    both_arms (SmallBound (1 + n) (1 + n)) (same x entity_word) (more_value (weight j) (1 + n) (reference_alone j ms) (omega arith) (alone_small j ms))
    (widened n (mapped fields (fields_by p [] (member x j ms))) (record_small n n (fields_by p [] (member x j ms)) (fields_small p s [] (member x j ms))))

integer_small : (o : Option ℕ) → SmallBound 1 1 (integer_of o)
unfolding kinds_of texts_of
integer_small (Some n) = (omega arith, omega arith)
integer_small None = tt

by_small : (p : Json → Outcome Value) → Small p → Small (value_by p)
unfolding value_by weight kinds_of texts_of
by_small p s Json.null = (omega arith, omega arith)
by_small p s (Json.bool b) = (omega arith, omega arith)
by_small p s (Json.number x) = integer_small (i64_of x)
by_small p s (Json.string x) = (omega arith, omega arith)
by_small p s (Json.array js) = widened (items_weight js) (mapped array (items_by p js)) (array_small _ _ (items_by p js) (items_small p s js))
by_small p s (Json.object ms) = object_small p s ms

value_small : (k : ℕ) → Small (value_of k)
unfolding value_of
value_small zero j = tt
value_small (suc k) j = by_small (value_of k) (value_small k) j

-- ---- an entry

abbrev SmallKey : ℕ → Outcome Key → Type 0
SmallKey n (ok k) = (1 ≤ n) × (length (key_bytes k) ≤ 6 * n)
SmallKey n (refused e) = Unit {0}

abbrev SmallRecord : ℕ → Outcome Fields → Type 0
SmallRecord n (ok fs) = (length (kinds_of (fields fs)) ≤ n) × (length (texts_of (fields fs)) ≤ 6 * n)
SmallRecord n (refused e) = Unit {0}

abbrev SmallParents : ℕ → Outcome Values → Type 0
SmallParents n (ok ps) = (length (kinds_of (array ps)) ≤ n) × (length (texts_of (array ps)) ≤ 6 * n)
SmallParents n (refused e) = Unit {0}

key_small : (j : Json) → SmallKey (weight j) (uid_of j)
key_small j = go (uid_of j) (uid_small j)
  where
    go : (o : Outcome Key) → SmallUid (weight j) o → SmallKey (weight j) o
    go (ok k) h = (omega arith, omega (arith, key_size k.type k.id))
    go (refused e) h = tt

attributes_small : (j : Json) → SmallRecord (weight j) (attributes_of j)
unfolding weight kinds_of texts_of
attributes_small (Json.object ms) = go (fields_by (value_of (levels - 1)) [] ms) (fields_small (value_of (levels - 1)) (value_small (levels - 1)) [] ms)
  where
    go : (o : Outcome Fields) → SmallFields (members_weight ms) (members_weight ms) o → SmallRecord (1 + members_weight ms) o
    go (ok fs) h = (omega (arith, h.0), omega (arith, h.1))
    go (refused e) h = tt
attributes_small Json.null = tt
attributes_small (Json.bool b) = tt
attributes_small (Json.number s) = tt
attributes_small (Json.string s) = tt
attributes_small (Json.array js) = tt

parents_small : (j : Json) → SmallParents (weight j) (parents_of j)
unfolding weight kinds_of texts_of
parents_small (Json.array js) = go (items_by reference_of js) (items_small reference_of reference_small js)
  where
    go : (o : Outcome Values) → SmallAll (items_weight js) (items_weight js) o → SmallParents (1 + items_weight js) o
    go (ok ps) h = (omega (arith, h.0), omega (arith, h.1))
    go (refused e) h = tt
parents_small Json.null = tt
parents_small (Json.bool b) = tt
parents_small (Json.number s) = tt
parents_small (Json.string s) = tt
parents_small (Json.object ms) = tt

-- what the parts read so far take
abbrev key_taken : Option Key → ℕ × ℕ
key_taken (Some k) = (1, length (key_bytes k))
key_taken None = (0, 0)

abbrev record_taken : Option Fields → ℕ × ℕ
record_taken (Some fs) = (length (kinds_of (fields fs)), length (texts_of (fields fs)))
record_taken None = (0, 0)

abbrev parents_taken : Option Values → ℕ × ℕ
parents_taken (Some ps) = (length (kinds_of (array ps)), length (texts_of (array ps)))
parents_taken None = (0, 0)

more_entry : (m l m' l' : ℕ) (o : Outcome Entry) → m ≤ m' → l ≤ l' → SmallEntry m l o → SmallEntry m' l' o
more_entry m l m' l' (ok e) a b h = (omega (arith, h.0), omega (arith, h.1))
more_entry m l m' l' (refused e) a b h = tt

abbrev SmallBehind : Option Key → Option Fields → Option Values → ℕ → Outcome Entry → Type 0
SmallBehind k fs ps n o =
    SmallEntry ((key_taken k).0 + (record_taken fs).0 + (parents_taken ps).0 + n) ((key_taken k).1 + (record_taken fs).1 + (parents_taken ps).1 + 6 * n) o

parts_small : (k : Option Key) (fs : Option Fields) (ps : Option Values) → SmallBehind k fs ps 0 (parts_of k fs ps)
parts_small (Some k) (Some fs) (Some ps) = (omega arith, omega arith)
parts_small (Some k) (Some fs) None = tt
parts_small (Some k) None ps = tt
parts_small None fs ps = tt

entry_small_from : (k : Option Key) (fs : Option Fields) (ps : Option Values) (ms : Members) → SmallBehind k fs ps (members_weight ms) (entry_from k fs ps ms)
unfolding entry_from weight
entry_small_from k fs ps no_member = parts_small k fs ps
entry_small_from k fs ps (member x j ms) =
    let n : ℕ = 1 + length x + weight j + members_weight ms in
    let Q : Outcome Entry → Type 0 = SmallBehind k fs ps n in
    both_arms Q (first_named uid_word x k)
    (onward (SmallKey (weight j)) Q (λ _. tt) (uid_of j) _ (key_small j) (λ a h. more_entry _ _ _ _ (entry_from (Some a) fs ps ms) (omega (arith, h.0)) (omega (arith, h.1)) (entry_small_from (Some a) fs ps ms)))
    (both_arms Q (first_named attrs_word x fs)
    (onward (SmallRecord (weight j)) Q (λ _. tt) (attributes_of j) _ (attributes_small j) (λ a h. more_entry _ _ _ _ (entry_from k (Some a) ps ms) (omega (arith, h.0)) (omega (arith, h.1)) (entry_small_from k (Some a) ps ms)))
    (both_arms Q (first_named parents_word x ps)
    (onward (SmallParents (weight j)) Q (λ _. tt) (parents_of j) _ (parents_small j) (λ a h. more_entry _ _ _ _ (entry_from k fs (Some a) ms) (omega (arith, h.0)) (omega (arith, h.1)) (entry_small_from k fs (Some a) ms))) tt))

entry_small : (before : List (List ℕ)) (j : Json) → SmallEntry (weight j) (6 * weight j) (entry_of before j)
unfolding weight
entry_small before (Json.object ms) =
    onward (SmallEntry (1 + members_weight ms) (6 * (1 + members_weight ms))) (SmallEntry (1 + members_weight ms) (6 * (1 + members_weight ms))) (λ _. tt) (entry_from None None None ms) (unless_stored before)
    (more_entry _ _ _ _ (entry_from None None None ms) (omega arith) (omega arith) (entry_small_from None None None ms))
    (λ e h. both_arms (SmallEntry (1 + members_weight ms) (6 * (1 + members_weight ms))) (among (key_bytes e.key) before) tt h)
entry_small before Json.null = tt
entry_small before (Json.bool b) = tt
entry_small before (Json.number s) = tt
entry_small before (Json.string s) = tt
entry_small before (Json.array js) = tt

-- ---- all of them

abbrev SmallEntries : ℕ → Outcome Entries → Type 0
SmallEntries n (ok es) = (length (kinds_entries es) ≤ n) × (length (texts_entries es) ≤ 6 * n)
SmallEntries n (refused e) = Unit {0}

one_more : (e : Entry) (m n : ℕ) (o : Outcome Entries) → 1 + length (kinds_of (fields e.attributes)) + length (kinds_of (array e.parents)) ≤ m
    → length (key_bytes e.key) + length (texts_of (fields e.attributes)) + length (texts_of (array e.parents)) ≤ 6 * m → SmallEntries n o → SmallEntries (m + n) (mapped (with_entry e) o)
unfolding kinds_entries texts_entries
one_more e m n (ok es) a b h =
    let v = kinds_of (fields e.attributes) in
    let w = kinds_of (array e.parents) in
    let y = texts_of (fields e.attributes) in
    let z = texts_of (array e.parents) in (
      omega (arith, h.0, length-append v (w ++ kinds_entries es), length-append w (kinds_entries es)),
      omega (arith, h.1, length-append (key_bytes e.key) (y ++ (z ++ texts_entries es)), length-append y (z ++ texts_entries es), length-append z (texts_entries es)),
    )
one_more e m n (refused r) a b h = tt

entries_small : (before : List (List ℕ)) (js : Items) → SmallEntries (items_weight js) (entries_from before js)
unfolding entries_from weight kinds_entries texts_entries
entries_small before no_item = (omega arith, omega arith)
entries_small before (item j js) =
    onward (SmallEntry (weight j) (6 * weight j)) (SmallEntries (weight j + items_weight js)) (λ _. tt) (entry_of before j) _ (entry_small before j)
    (λ e h. one_more e _ _ (entries_from (before ++ key_bytes e.key ∷ []) js) h.0 h.1 (entries_small (before ++ key_bytes e.key ∷ []) js))

-- the entries of a value, which is an array
all_small : (j : Json) → SmallEntries (weight j) (entries_of j)
unfolding weight
all_small (Json.array js) = go (entries_from [] js) (entries_small [] js)
  where
    go : (o : Outcome Entries) → SmallEntries (items_weight js) o → SmallEntries (1 + items_weight js) o
    go (ok es) h = (omega (arith, h.0), omega (arith, h.1))
    go (refused e) h = tt
all_small Json.null = tt
all_small (Json.bool b) = tt
all_small (Json.number s) = tt
all_small (Json.string s) = tt
all_small (Json.object ms) = tt

-- ---- the pack of a text

pack_small : (n : ℕ) (es : Entries) → SmallEntries n (ok es) → (length (cells_pack es).kinds ≤ n + 9) × (length (cells_pack es).texts ≤ 6 * n)
pack_small n es h =
    rw (append_entries_closed es (node record_kind (count_entries es) before_entities))
    (omega (arith, h.0), omega (arith, h.1))

whole_weight : (s : List ℕ) → IsSome (read_value s) → weight (value_in s) ≤ length s
whole_weight s h = go (read_value s) refl h
  where
    go : (o : Option (Json × List ℕ)) → read_value s ≡ o → IsSome o → weight (json_in o) ≤ length s
    go (Some p) e h = omega (arith, value_weight s p e)
    go None e h = absurd cc

entries_if_some : (j : Json) (o : Option Json) (es : Entries) → o ≡ Some j → entries_if_json o ≡ ok es → entries_of j ≡ ok es
entries_if_some j o es e h = sym (ap entries_if_json e) ∙ h

whole_small : (s : List ℕ) (es : Entries) (o : Option Json) → json s ≡ o → entries_if_json o ≡ ok es → SmallEntries (length s) (ok es)
whole_small s es None e h = absurd (never h)
whole_small s es (Some j) e h =
    let q = json_read s (rw e refl) in
    let k = rw (entries_if_some (value_in (ws s)) (Some j) es (sym e ∙ q.whole) h) at (all_small (value_in (ws s))) in
    (omega (arith, k.0, whole_weight (ws s) q.there, ws_shorter s), omega (arith, k.1, whole_weight (ws s) q.there, ws_shorter s))

unrefused : (b : Bool) (o : Outcome Entries) (e : Refusal) (es : Entries) → cond b o (refused e) ≡ ok es → o ≡ ok es
unrefused true o e es h = h
unrefused false o e es h = absurd (never h)

-- a text of n bytes gives at most n + 9 nodes and 6 n bytes of text
pub cells_small : (s : List ℕ) (es : Entries) → read_entities s ≡ ok es → (length (cells_pack es).kinds ≤ length s + 9) × (length (cells_pack es).texts ≤ 6 * length s)
unfolding read_entities
cells_small s es h =
    pack_small (length s) es
    (whole_small s es (json s) refl (unrefused (leb (length s) json_limit) _ _ es (unrefused (utf8 s) _ _ es (unrefused (leb (length s) text_limit) _ _ es h))))
