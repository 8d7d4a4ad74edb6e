-- What reading entities JSON gives: distinct stored keys and distinct names in every entry's record, or one of the rows of its refusals. Each reading
-- by its cases, from a uid up to the whole text.
-- Assumes nothing.
use mathlib.Core.Path.{◌≡◌, refl}
use mathlib.Core.Bool.{Bool, true, false}
use mathlib.Core.List.{List, [], ◌∷◌, ◌++◌}
use Prim.Native.Nat.{ℕ, zero, suc, ◌-◌}
use lib.Dec.{eqb, leb}
use lib.ListN.{length}
use Rattle.buffers.specs.Same.{same, among}
use Rattle.buffers.proofs.Choice.{by_cond, both_arms}
use Rattle.format.specs.Limits.{levels, text_limit, json_limit}
use Rattle.format.specs.Outcome.{Outcome, ok, refused, and_then, mapped}
use Rattle.format.specs.Refusals.{duplicate_key}
use Rattle.chars.specs.Utf8.{utf8}
use Rattle.chars.specs.White.{white_at}
use Rattle.numbers.specs.Integer.{i64_of}
use Rattle.json_text.specs.Json.{Json, Items, no_item, item, Members, no_member, member}
use Rattle.json_text.specs.Syntax.{json}
use Rattle.pack.specs.Value as Value
use Rattle.pack.specs.Value.{Value, Values, Fields, names}
use Rattle.values.specs.Parse.{unless_seen}
use Rattle.values.specs.declared.Names.TheVariants.{Decoded}
use Rattle.entities.specs.Entries.{Entries, stored_keys}
use Rattle.entities.specs.Parse.{Key, Entry, unless_stored, with_entry}
use Rattle.entities.specs.Read.{key_bytes}
use Rattle.sorting.specs.Order.{Distinct}
use Rattle.events.specs.Distinct.{DistinctNames, DistinctInItems, DistinctInFields, DistinctInEntries}
use Rattle.events.proofs.OutcomeLaws.{is_in, Gives, then_gives, mapped_gives, Fresh, fresh_none, fresh_more}
use Rattle.events.proofs.EntityOutcomes.{AnyRead, GroupDistinct, DistinctEntries}
use Rattle.json_entities.specs.Shape.{uid_word, attrs_word, parents_word, type_word, id_word, entity_word, both_of, text_of, first_named, uid_from, unless_white, uid_of, entity_of, reference_of, integer_of, items_by, is_reserved, fields_by, reference_alone, object_by, value_by, value_of, attributes_of, parents_of, parts_of, entry_from, entry_of, entries_from, entries_of}
use Rattle.json_entities.specs.Entry.{entries_if_json, read_entities}
use Rattle.guarantees.specs.RefusalTable.{read_entities_rows}
use Rattle.std.specs.Prelude.{None, Option, Some}

-- what was read has P, or a refusal is one of the rows
module _ {A : Type 0} (P : A → Type 0) where
  abbrev pub OrRow : Outcome A → Type 0
  OrRow o = Gives P read_entities_rows o

-- nothing is asked of what was read
abbrev pub InRows : {A : Type 0} → Outcome A → Type 0
InRows o = OrRow AnyRead o

module _ {A B : Type 0} (P : A → Type 0) (Q : B → Type 0) where
  then_in : (o : Outcome A) (f : A → Outcome B) → OrRow P o → ((a : A) → P a → OrRow Q (f a)) → OrRow Q (and_then o f)
  then_in o f h next = then_gives P Q read_entities_rows o f h next

  mapped_in : (o : Outcome A) (f : A → B) → OrRow P o → ((a : A) → P a → Q (f a)) → OrRow Q (mapped f o)
  mapped_in o f h made = mapped_gives P Q read_entities_rows f o h made

-- ---- a uid

text_in : (j : Json) → InRows (text_of j)
unfolding is_in
text_in (Json.string s) = tt
text_in Json.null = refl
text_in (Json.bool b) = refl
text_in (Json.number s) = refl
text_in (Json.array js) = refl
text_in (Json.object ms) = refl

both_in : (ty id : Option (List ℕ)) → InRows (both_of ty id)
unfolding is_in
both_in (Some ty) (Some id) = tt
both_in (Some ty) None = refl
both_in None id = refl

uid_from_in : (ty id : Option (List ℕ)) (ms : Members) → InRows (uid_from ty id ms)
unfolding uid_from is_in
uid_from_in ty id no_member = both_in ty id
uid_from_in ty id (member x j ms) =
    both_arms InRows (first_named type_word x ty) (then_in AnyRead AnyRead (text_of j) _ (text_in j) (λ s _. uid_from_in (Some s) id ms))
    (both_arms InRows (first_named id_word x id) (then_in AnyRead AnyRead (text_of j) _ (text_in j) (λ s _. uid_from_in ty (Some s) ms)) refl)

white_in : (k : Key) → InRows (unless_white k)
unfolding is_in
white_in k = both_arms InRows (eqb (white_at k.type) 0) {x = ok k} tt refl

uid_in : (j : Json) → InRows (uid_of j)
unfolding is_in
uid_in (Json.object ms) = then_in AnyRead AnyRead (uid_from None None ms) _ (uid_from_in None None ms) (λ k _. white_in k)
uid_in Json.null = refl
uid_in (Json.bool b) = refl
uid_in (Json.number s) = refl
uid_in (Json.string s) = refl
uid_in (Json.array js) = refl

reference_in : (j : Json) → OrRow DistinctNames (reference_of j)
unfolding DistinctNames
reference_in j = mapped_in AnyRead DistinctNames (uid_of j) entity_of (uid_in j) (λ _ _. tt)

-- ---- a value, by a reading p of one level less

-- fields behind those of the names `before`, and the value of one more
abbrev FieldsBehind : List (List ℕ) → Fields → Type 0
FieldsBehind before fs = Fresh before (names fs) × DistinctInFields fs

abbrev ValueBehind : List (List ℕ) → List ℕ → Value → Type 0
ValueBehind before x v = DistinctNames v × (among x before ≡ false)

module _ (p : Json → Outcome Value) (h : (j : Json) → OrRow DistinctNames (p j)) where
  items_in : (js : Items) → OrRow DistinctInItems (items_by p js)
  unfolding items_by DistinctInItems
  items_in no_item = tt
  items_in (item j js) = then_in DistinctNames DistinctInItems (p j) _ (h j) (λ v d. mapped_in DistinctInItems DistinctInItems (items_by p js) (Value.more v) (items_in js) (λ vs o. (d, o)))

  seen_in : (before : List (List ℕ)) (x : List ℕ) (b : Bool) → among x before ≡ b → (o : Outcome Value) → OrRow DistinctNames o → OrRow (ValueBehind before x) (unless_seen Decoded b o)
  unfolding unless_seen is_in
  seen_in before x b e (refused n) g = g
  seen_in before x true e (ok v) g = refl
  seen_in before x false e (ok v) g = (g, e)

  fields_in : (before : List (List ℕ)) (ms : Members) → OrRow (FieldsBehind before) (fields_by p before ms)
  unfolding fields_by names DistinctInFields is_in
  fields_in before no_member = (fresh_none before, tt)
  fields_in before (member x j ms) =
      both_arms (OrRow (FieldsBehind before)) (is_reserved x) refl
      (then_in (ValueBehind before x) (FieldsBehind before) (unless_seen Decoded (among x before) (p j)) _ (seen_in before x (among x before) refl (p j) (h j)) (λ v g.
      mapped_in (FieldsBehind (before ++ x ∷ [])) (FieldsBehind before) (fields_by p (before ++ x ∷ []) ms) (Value.field x v) (fields_in (before ++ x ∷ []) ms) (λ fs o.
      (fresh_more before x (names fs) g.1 o.0, (g.0, o.1)))))

  record_in : (ms : Members) → OrRow GroupDistinct (fields_by p [] ms)
  unfolding DistinctNames
  record_in ms = go (fields_by p [] ms) (fields_in [] ms)
    where
      go : (o : Outcome Fields) → OrRow (FieldsBehind []) o → OrRow GroupDistinct o
      go (ok fs) g = (g.0.distinct, g.1)
      go (refused n) g = g

  alone_in : (j : Json) (ms : Members) → OrRow DistinctNames (reference_alone j ms)
  unfolding is_in
  alone_in j no_member = reference_in j
  alone_in j (member x i ms) = refl

  object_in : (ms : Members) → OrRow DistinctNames (object_by p ms)
  unfolding object_by DistinctNames names Distinct
  object_in no_member = (tt, tt)
  object_in (member x j ms) =
      both_arms (OrRow DistinctNames) (same x entity_word) (alone_in j ms)
      (mapped_in GroupDistinct DistinctNames (fields_by p [] (member x j ms)) Value.fields (record_in (member x j ms)) (λ _ d. d))

  integer_in : (o : Option ℕ) → OrRow DistinctNames (integer_of o)
  unfolding is_in DistinctNames
  integer_in (Some n) = tt
  integer_in None = refl

  value_by_in : (j : Json) → OrRow DistinctNames (value_by p j)
  unfolding value_by DistinctNames
  value_by_in Json.null = tt
  value_by_in (Json.bool b) = tt
  value_by_in (Json.number s) = integer_in (i64_of s)
  value_by_in (Json.string s) = tt
  value_by_in (Json.array js) = mapped_in DistinctInItems DistinctNames (items_by p js) Value.array (items_in js) (λ _ d. d)
  value_by_in (Json.object ms) = object_in ms

value_in : (k : ℕ) (j : Json) → OrRow DistinctNames (value_of k j)
unfolding value_of is_in
value_in zero j = refl
value_in (suc k) j = value_by_in (value_of k) (value_in k) j

-- ---- an entry

attributes_in : (j : Json) → OrRow GroupDistinct (attributes_of j)
unfolding is_in
attributes_in (Json.object ms) = record_in (value_of (levels - 1)) (value_in (levels - 1)) ms
attributes_in Json.null = refl
attributes_in (Json.bool b) = refl
attributes_in (Json.number s) = refl
attributes_in (Json.string s) = refl
attributes_in (Json.array js) = refl

parents_in : (j : Json) → OrRow DistinctInItems (parents_of j)
unfolding is_in
parents_in (Json.array js) = items_in reference_of reference_in js
parents_in Json.null = refl
parents_in (Json.bool b) = refl
parents_in (Json.number s) = refl
parents_in (Json.string s) = refl
parents_in (Json.object ms) = refl

abbrev RecordDistinct : Entry → Type 0
RecordDistinct e = GroupDistinct e.attributes

abbrev IfDistinct : Option Fields → Type 0
IfDistinct (Some fs) = GroupDistinct fs
IfDistinct None = Unit

parts_in : (uid : Option Key) (attrs : Option Fields) (parents : Option Values) → IfDistinct attrs → OrRow RecordDistinct (parts_of uid attrs parents)
unfolding is_in
parts_in (Some k) (Some fs) (Some ps) d = d
parts_in (Some k) (Some fs) None d = refl
parts_in (Some k) None ps d = refl
parts_in None fs ps d = refl

entry_from_in : (uid : Option Key) (attrs : Option Fields) (parents : Option Values) (ms : Members) → IfDistinct attrs → OrRow RecordDistinct (entry_from uid attrs parents ms)
unfolding entry_from is_in
entry_from_in uid attrs parents no_member d = parts_in uid attrs parents d
entry_from_in uid attrs parents (member x j ms) d =
    both_arms (OrRow RecordDistinct) (first_named uid_word x uid) (then_in AnyRead RecordDistinct (uid_of j) _ (uid_in j) (λ k _. entry_from_in (Some k) attrs parents ms d))
    (both_arms (OrRow RecordDistinct) (first_named attrs_word x attrs) (then_in GroupDistinct RecordDistinct (attributes_of j) _ (attributes_in j) (λ fs g. entry_from_in uid (Some fs) parents ms g))
    (both_arms (OrRow RecordDistinct) (first_named parents_word x parents) (then_in DistinctInItems RecordDistinct (parents_of j) _ (parents_in j) (λ ps _. entry_from_in uid attrs (Some ps) ms d)) refl))

module _ (before : List (List ℕ)) where
  -- behind entries with the stored keys `before`
  abbrev EntryBehind : Entry → Type 0
  EntryBehind e = (among (key_bytes e.key) before ≡ false) × RecordDistinct e

  stored_in : (e : Entry) → RecordDistinct e → OrRow EntryBehind (unless_stored before e)
  unfolding is_in
  stored_in e d = by_cond (OrRow EntryBehind) (among (key_bytes e.key) before) (refused duplicate_key) (ok e) (λ _. refl) (λ n. (n, d))

  entry_in : (j : Json) → OrRow EntryBehind (entry_of before j)
  unfolding is_in
  entry_in (Json.object ms) = then_in RecordDistinct EntryBehind (entry_from None None None ms) _ (entry_from_in None None None ms tt) stored_in
  entry_in Json.null = refl
  entry_in (Json.bool b) = refl
  entry_in (Json.number s) = refl
  entry_in (Json.string s) = refl
  entry_in (Json.array js) = refl

-- ---- the text

abbrev EntriesBehind : List (List ℕ) → Entries → Type 0
EntriesBehind before es = Fresh before (stored_keys es) × DistinctInEntries es

entries_from_in : (before : List (List ℕ)) (js : Items) → OrRow (EntriesBehind before) (entries_from before js)
unfolding entries_from stored_keys DistinctInEntries
entries_from_in before no_item = (fresh_none before, tt)
entries_from_in before (item j js) =
    then_in (EntryBehind before) (EntriesBehind before) (entry_of before j) _ (entry_in before j) (λ e g.
    mapped_in (EntriesBehind (before ++ key_bytes e.key ∷ [])) (EntriesBehind before) (entries_from (before ++ key_bytes e.key ∷ []) js) (with_entry e) (entries_from_in (before ++ key_bytes e.key ∷ []) js) (λ es o.
    (fresh_more before (key_bytes e.key) (stored_keys es) g.0 o.0, (g.1, o.1))))

entries_in : (j : Json) → OrRow DistinctEntries (entries_of j)
unfolding is_in
entries_in (Json.array js) = go (entries_from [] js) (entries_from_in [] js)
  where
    go : (o : Outcome Entries) → OrRow (EntriesBehind []) o → OrRow DistinctEntries o
    go (ok es) g = (g.0.distinct, g.1)
    go (refused n) g = g
entries_in Json.null = refl
entries_in (Json.bool b) = refl
entries_in (Json.number s) = refl
entries_in (Json.string s) = refl
entries_in (Json.object ms) = refl

json_in : (o : Option Json) → OrRow DistinctEntries (entries_if_json o)
unfolding is_in
json_in (Some j) = entries_in j
json_in None = refl

pub read_entities_in : (s : List ℕ) → OrRow DistinctEntries (read_entities s)
unfolding read_entities is_in
read_entities_in s =
    both_arms (OrRow DistinctEntries) (leb (length s) text_limit) (both_arms (OrRow DistinctEntries) (utf8 s) (both_arms (OrRow DistinctEntries) (leb (length s) json_limit) (json_in (json s)) refl) refl) refl
