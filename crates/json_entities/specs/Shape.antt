-- Cells from entities JSON: document 02, A2. A JSON value read as the entries of an entities node, or the first refusal by place: the members of an
-- object and the items of an array are taken in written order, so that the first refusal met is the one that stands first in the text.
-- Assumes nothing.
use Rattle.std.specs.Prelude.{Bool, cond, ◌&&◌, ◌||◌, List, [], ◌∷◌, ◌++◌, ℕ, zero, suc, ◌-◌, eqb, is_none, None, Option, Some}
use Rattle.buffers.specs.Ascii.{ascii}
use Rattle.buffers.specs.Same.{same, among}
use Rattle.format.specs.Limits.{levels}
use Rattle.format.specs.Outcome.{Outcome, ok, refused, and_then, mapped}
use Rattle.format.specs.Refusals.{value_too_deep, not_entities}
use Rattle.chars.specs.White.{white_at}
use Rattle.numbers.specs.Integer.{i64_of}
use Rattle.json_text.specs.Json.{Json, Items, Members, no_item, item, no_member, member}
use Rattle.pack.specs.Value as Value
use Rattle.pack.specs.Value.{Value, Values, Fields}
use Rattle.values.specs.Parse.{unless_seen}
use Rattle.values.specs.declared.Names.TheVariants.{Decoded}
use Rattle.keys.specs.Escape.{pinned, entity_uid}
use Rattle.entities.specs.Entries.{Entries, no_entry}
use Rattle.entities.specs.Parse.{Key, Entry, unless_stored, with_entry}

-- ---- the names of members

abbrev pub uid_word : List ℕ
uid_word = ascii "uid"

abbrev pub attrs_word : List ℕ
attrs_word = ascii "attrs"

abbrev pub parents_word : List ℕ
parents_word = ascii "parents"

abbrev pub type_word : List ℕ
type_word = ascii "type"

abbrev pub id_word : List ℕ
id_word = ascii "id"

-- the reference member and the extension member
abbrev pub entity_word : List ℕ
entity_word = ascii "__entity"

abbrev pub extn_word : List ℕ
extn_word = ascii "__extn"

-- ---- a uid: type and id, in any order, each once, both strings

abbrev pub both_of : Option (List ℕ) → Option (List ℕ) → Outcome Key
both_of (Some ty) (Some id) = ok (record { type = ty; id = id })
both_of (Some ty) None = refused not_entities
both_of None id = refused not_entities

abbrev pub text_of : Json → Outcome (List ℕ)
text_of (Json.string s) = ok s
text_of Json.null = refused not_entities
text_of (Json.bool b) = refused not_entities
text_of (Json.number s) = refused not_entities
text_of (Json.array js) = refused not_entities
text_of (Json.object ms) = refused not_entities

-- a name that is the word, and was not met before; names are compared as they are decoded (RFC 8259, section 8.3)
abbrev pub first_named : {A : Type 0} → List ℕ → List ℕ → Option A → Bool
first_named word x found = same x word && is_none found

-- behind members that gave a type, an id, both or neither
unfoldable pub uid_from : Option (List ℕ) → Option (List ℕ) → Members → Outcome Key
uid_from ty id no_member = both_of ty id
uid_from ty id (member x j ms) =
    cond (first_named type_word x ty) (and_then (text_of j) (λ s. uid_from (Some s) id ms))
    (cond (first_named id_word x id) (and_then (text_of j) (λ s. uid_from ty (Some s) ms)) (refused not_entities))

-- no type begins with a White_Space character
abbrev pub unless_white : Key → Outcome Key
unless_white k = cond (eqb (white_at k.type) 0) (ok k) (refused not_entities)

abbrev pub uid_of : Json → Outcome Key
uid_of (Json.object ms) = and_then (uid_from None None ms) unless_white
uid_of Json.null = refused not_entities
uid_of (Json.bool b) = refused not_entities
uid_of (Json.number s) = refused not_entities
uid_of (Json.string s) = refused not_entities
uid_of (Json.array js) = refused not_entities

abbrev pub entity_of : Key → Value
entity_of k = Value.entity k.type k.id

abbrev pub reference_of : Json → Outcome Value
reference_of j = mapped entity_of (uid_of j)

-- ---- values

-- an integer within i64, without fraction or exponent
abbrev pub integer_of : Option ℕ → Outcome Value
integer_of (Some n) = ok (Value.integer n)
integer_of None = refused not_entities

-- items that are read by p
unfoldable pub items_by : (Json → Outcome Value) → Items → Outcome Values
items_by p no_item = ok Value.no_item
items_by p (item j js) = and_then (p j) (λ v. mapped (Value.more v) (items_by p js))

abbrev pub is_reserved : List ℕ → Bool
is_reserved x = same x entity_word || same x extn_word

-- a record's fields, their values read by p, behind those of the names `before`
unfoldable pub fields_by : (Json → Outcome Value) → List (List ℕ) → Members → Outcome Fields
fields_by p before no_member = ok Value.no_field
fields_by p before (member x j ms) =
    cond (is_reserved x) (refused not_entities)
    (and_then (unless_seen Decoded (among x before) (p j)) (λ v. mapped (Value.field x v) (fields_by p (before ++ x ∷ []) ms)))

-- behind the reference member's value no other member follows
abbrev pub reference_alone : Json → Members → Outcome Value
reference_alone j no_member = reference_of j
reference_alone j (member x i ms) = refused not_entities

-- a reference where the reference member comes first, else a record
unfoldable pub object_by : (Json → Outcome Value) → Members → Outcome Value
object_by p no_member = ok (Value.fields Value.no_field)
object_by p (member x j ms) = cond (same x entity_word) (reference_alone j ms) (mapped Value.fields (fields_by p [] (member x j ms)))

-- a value with the reading p of one level less
unfoldable pub value_by : (Json → Outcome Value) → Json → Outcome Value
value_by p Json.null = ok Value.null
value_by p (Json.bool b) = ok (Value.bool b)
value_by p (Json.number s) = integer_of (i64_of s)
value_by p (Json.string s) = ok (Value.string s)
value_by p (Json.array js) = mapped Value.array (items_by p js)
value_by p (Json.object ms) = object_by p ms

-- with so many levels left
unfoldable pub value_of : ℕ → Json → Outcome Value
value_of zero j = refused value_too_deep
value_of (suc k) j = value_by (value_of k) j

-- ---- an entry: uid, attrs and parents, in any order, each once

-- the record is at depth 0, its values at depth 1
abbrev pub attributes_of : Json → Outcome Fields
attributes_of (Json.object ms) = fields_by (value_of (levels - 1)) [] ms
attributes_of Json.null = refused not_entities
attributes_of (Json.bool b) = refused not_entities
attributes_of (Json.number s) = refused not_entities
attributes_of (Json.string s) = refused not_entities
attributes_of (Json.array js) = refused not_entities

abbrev pub parents_of : Json → Outcome Values
parents_of (Json.array js) = items_by reference_of js
parents_of Json.null = refused not_entities
parents_of (Json.bool b) = refused not_entities
parents_of (Json.number s) = refused not_entities
parents_of (Json.string s) = refused not_entities
parents_of (Json.object ms) = refused not_entities

abbrev pub parts_of : Option Key → Option Fields → Option Values → Outcome Entry
parts_of (Some k) (Some fs) (Some ps) = ok (record { key = k; attributes = fs; parents = ps })
parts_of (Some k) (Some fs) None = refused not_entities
parts_of (Some k) None ps = refused not_entities
parts_of None fs ps = refused not_entities

-- behind members that gave some of the three
unfoldable pub entry_from : Option Key → Option Fields → Option Values → Members → Outcome Entry
entry_from uid attrs parents no_member = parts_of uid attrs parents
entry_from uid attrs parents (member x j ms) =
    cond (first_named uid_word x uid) (and_then (uid_of j) (λ k. entry_from (Some k) attrs parents ms))
    (cond (first_named attrs_word x attrs) (and_then (attributes_of j) (λ fs. entry_from uid (Some fs) parents ms))
    (cond (first_named parents_word x parents) (and_then (parents_of j) (λ ps. entry_from uid attrs (Some ps) ms)) (refused not_entities)))

-- an entry's key is compared at its closing brace, behind what is missing
abbrev pub entry_of : List (List ℕ) → Json → Outcome Entry
entry_of before (Json.object ms) = and_then (entry_from None None None ms) (unless_stored before)
entry_of before Json.null = refused not_entities
entry_of before (Json.bool b) = refused not_entities
entry_of before (Json.number s) = refused not_entities
entry_of before (Json.string s) = refused not_entities
entry_of before (Json.array js) = refused not_entities

-- ---- the text: an array of entries, behind those with the stored keys `before`

unfoldable pub entries_from : List (List ℕ) → Items → Outcome Entries
entries_from before no_item = ok no_entry
entries_from before (item j js) =
    and_then (entry_of before j) (λ e. mapped (with_entry e) (entries_from (before ++ entity_uid pinned e.key.type e.key.id ∷ []) js))

abbrev pub entries_of : Json → Outcome Entries
entries_of (Json.array js) = entries_from [] js
entries_of Json.null = refused not_entities
entries_of (Json.bool b) = refused not_entities
entries_of (Json.number s) = refused not_entities
entries_of (Json.string s) = refused not_entities
entries_of (Json.object ms) = refused not_entities
