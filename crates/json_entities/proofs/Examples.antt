-- Traps of document 02's A2, by computation from the definition: short texts, and what each gives or is refused for. Those that need an escape or a
-- stored key are stored vectors.
-- Assumes nothing.
use mathlib.Core.Path.{◌≡◌, refl}
use mathlib.Core.List.{List, [], ◌∷◌, map}
use Prim.Native.Nat.{ℕ}
use Rattle.buffers.specs.Ascii.{ascii}
use Rattle.buffers.specs.Same.{same, among}
use Rattle.format.specs.Outcome.{ok, refused}
use Rattle.format.specs.Refusals.{value_too_deep, not_json, not_entities, duplicate_field}
use Rattle.format.specs.declared.Refusal.{Refusal}
use Rattle.chars.specs.Utf8.{char_of, utf8_from}
use Rattle.chars.specs.White.{wide_white, white, white_at}
use Rattle.numbers.specs.Digits as Digits
use Rattle.numbers.specs.Digits.{leading_digits}
use Rattle.numbers.specs.Grammar.{many}
use Rattle.numbers.specs.Integer.{i64_of}
use Rattle.json_text.specs.Json as Json
use Rattle.json_text.specs.Number as Number
use Rattle.json_text.specs.Text.{char, string_from}
use Rattle.json_text.specs.Syntax.{ws, scalar, member_name, value, json}
use Rattle.pack.specs.Value.{no_item, no_field, field, entity}
use Rattle.values.specs.Parse.{unless_seen}
use Rattle.entities.specs.Entries.{Entries, no_entry, entry, count_entries, append_entries}
use Rattle.json_entities.specs.Shape.{uid_from, items_by, fields_by, object_by, value_by, value_of, entry_from, entries_from}
use Rattle.json_entities.specs.Entry.{read_entities, cells_pack}

abbrev Gives : List ℕ → Entries → Type 0
Gives s es = read_entities s ≡ ok es

abbrev Refused : List (List ℕ) → Refusal → Type 0
Refused l e = map read_entities l ≡ map (λ _. refused e) l

-- the nodes before the entities, and their own
pub no_cells : cells_pack no_entry ≡ record { kinds = 0 ∷ 0 ∷ 0 ∷ 8 ∷ 10 ∷ 10 ∷ 9 ∷ 9 ∷ 9 ∷ []; numbers = 0 ∷ 0 ∷ 0 ∷ 0 ∷ 0 ∷ 0 ∷ 0 ∷ 0 ∷ 0 ∷ []; texts = [] }
unfolding append_entries count_entries
no_cells = refl

pub white_space : Gives (ascii " \t\r\n[ ] ") no_entry
unfolding read_entities utf8_from char_of json value ws scalar entries_from
white_space = refl

-- no JSON, whatever stands before
pub no_json : Refused (map ascii ("" ∷ "[]x" ∷ "[1,]" ∷ "[null,nul]" ∷ "[1" ∷ [])) not_json
unfolding read_entities utf8_from char_of json value ws scalar Number.number leading_digits same
no_json = refl

-- JSON, and no array of objects
pub other_values : Refused (map ascii ("{}" ∷ "null" ∷ "[null]" ∷ [])) not_entities
unfolding read_entities utf8_from char_of json value ws scalar same entries_from
other_values = refl

-- the members may come in any order
pub any_order : Gives (ascii "[{\"attrs\":{},\"uid\":{\"id\":\"1\",\"type\":\"A\"},\"parents\":[]}]") (entry (ascii "A") (ascii "1") no_field no_item no_entry)
unfolding read_entities utf8_from char_of json value ws scalar member_name string_from char same among uid_from items_by fields_by entry_from entries_from white wide_white white_at
any_order = refl

-- each comes once, and no other comes
pub each_once : Refused (map ascii ("[{\"uid\":{\"id\":\"1\",\"type\":\"A\"},\"attrs\":{}}]" ∷ "[{\"attrs\":{},\"attrs\":{}}]" ∷ "[{\"tags\":{}}]" ∷ [])) not_entities
unfolding read_entities utf8_from char_of json value ws scalar member_name string_from char same among uid_from items_by fields_by entry_from entries_from white wide_white white_at
each_once = refl

-- White_Space begins no type, and may end one or begin an id
pub white_types : Refused (ascii "[{\"uid\":{\"type\":\" A\",\"id\":\"1\"}}]" ∷ []) not_entities
    × Gives (ascii "[{\"uid\":{\"type\":\"A \",\"id\":\" 1\"},\"attrs\":{},\"parents\":[]}]") (entry (ascii "A ") (ascii " 1") no_field no_item no_entry)
unfolding read_entities utf8_from char_of json value ws scalar member_name string_from char same among uid_from items_by fields_by entry_from entries_from white wide_white white_at
white_types = (refl, refl)

-- a reference stands alone in its object, and not in attrs itself
pub references : Gives (ascii "[{\"uid\":{\"type\":\"A\",\"id\":\"1\"},\"attrs\":{\"a\":{\"__entity\":{\"type\":\"B\",\"id\":\"2\"}}},\"parents\":[]}]")
    (entry (ascii "A") (ascii "1") (field (ascii "a") (entity (ascii "B") (ascii "2")) no_field) no_item no_entry)
    × Refused (map ascii ("[{\"attrs\":{\"__entity\":{\"type\":\"B\",\"id\":\"2\"}}}]" ∷ "[{\"attrs\":{\"a\":{\"__entity\":5}}}]" ∷ "[{\"attrs\":{\"a\":{\"__entity\":{\"type\":\"B\",\"id\":\"2\"},\"x\":1}}}]" ∷ [])) not_entities
unfolding read_entities utf8_from char_of json value ws scalar member_name string_from char Number.number leading_digits i64_of many Digits.value same among uid_from items_by fields_by object_by value_by value_of unless_seen entry_from entries_from white wide_white white_at
references = (refl, refl)

-- a name that comes twice is seen once its value was read, and before what is missing
pub names_twice : Refused (ascii "[{\"attrs\":{\"a\":1,\"a\":2}}]" ∷ []) duplicate_field × Refused (ascii "[{\"attrs\":{\"a\":1,\"a\":1.5}}]" ∷ []) not_entities
unfolding read_entities utf8_from char_of json value ws scalar member_name string_from char Number.number leading_digits i64_of many Digits.value same among fields_by value_by value_of unless_seen entry_from entries_from
names_twice = (refl, refl)

-- with one level left, an array may stand there and no value in it
pub too_deep : value_of 1 (Json.array (Json.item (Json.array Json.no_item) Json.no_item)) ≡ refused value_too_deep
unfolding value_of value_by items_by
too_deep = refl

-- no record has a field with the name of the extension member, or with that of the reference member behind another
pub reserved_names :
    Refused (map ascii ("[{\"attrs\":{\"__extn\":1}}]" ∷ "[{\"attrs\":{\"a\":{\"__extn\":1}}}]" ∷ "[{\"attrs\":{\"a\":{\"x\":1,\"__entity\":{\"type\":\"B\",\"id\":\"2\"}}}}]" ∷ [])) not_entities
unfolding read_entities utf8_from char_of json value ws scalar member_name string_from char Number.number leading_digits i64_of many Digits.value same among fields_by object_by value_by value_of unless_seen entry_from entries_from
reserved_names = refl
