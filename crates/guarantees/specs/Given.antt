-- The words of "a JSON entry's type text and decoded id are the strings that JSON gives for `type` and `id`" (document 02, A2): the parts of a JSON
-- value, by place and by name. Total on all values: what is not there is null.
-- Assumes nothing.
use Rattle.std.specs.Prelude.{◌≡◌, cond, List, ℕ, zero, suc, ◌<◌}
use Rattle.buffers.specs.Ascii.{ascii}
use Rattle.buffers.specs.Same.{same}
use Rattle.json_text.specs.Json.{Json, null, bool, number, string, array, object, Items, no_item, item, Members, no_member, member}
use Rattle.entities.specs.Entries.{Entries, count_entries}
use Rattle.guarantees.specs.Keys.{entry_type, entry_id}

-- the value of the first member of a name
unfoldable pub member_named : List ℕ → Members → Json
member_named x no_member = null
member_named x (member y j ms) = cond (same y x) j (member_named x ms)

abbrev pub member_of : List ℕ → Json → Json
member_of x (object ms) = member_named x ms
member_of x (array js) = null
member_of x (string s) = null
member_of x (number s) = null
member_of x (bool b) = null
member_of x null = null

-- the item i, counted from zero
unfoldable pub item_numbered : ℕ → Items → Json
item_numbered i no_item = null
item_numbered zero (item j js) = j
item_numbered (suc i) (item j js) = item_numbered i js

unfoldable pub count_items : Items → ℕ
count_items no_item = 0
count_items (item j js) = suc (count_items js)

-- the uid of the item i of an array
abbrev pub uid_of_item : ℕ → Items → Json
uid_of_item i js = member_of (ascii "uid") (item_numbered i js)

-- what a JSON text with the entries es is: an array with an item for each entry, whose uid gives the entry's type text and decoded id
pub record EntriesGiven (j : Json) (es : Entries) : Type 0 where
  pub items : Items
  pub is : j ≡ array items
  pub count : count_items items ≡ count_entries es
  pub types : (i : ℕ) → i < count_entries es → member_of (ascii "type") (uid_of_item i items) ≡ string (entry_type i es)
  pub ids : (i : ℕ) → i < count_entries es → member_of (ascii "id") (uid_of_item i items) ≡ string (entry_id i es)
