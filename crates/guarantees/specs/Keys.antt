-- The words of "keys meet": the stored keys that tables hold, the entries that they are the keys of, and the texts of a line that entries are
-- read from. Total on all lists.
-- Assumes nothing.
use Rattle.std.specs.Prelude.{◌≡◌, cond, List, [], ◌++◌, ◌↔◌, ℕ, zero, suc, ◌+◌, ◌<◌, ◌^◌, length, get_or, take, drop}
use Prim.Native.Char.{code}
use Rattle.format.specs.Limits.{levels}
use Rattle.format.specs.Outcome.{Outcome, ok, refused}
use Rattle.chars.specs.White.{white_at}
use Rattle.cuts.specs.Scan.{top_level_char, matching_paren}
use Rattle.keys.specs.Escape.{pinned, entity_uid}
use Rattle.pack.specs.Value.{entity}
use Rattle.pack.specs.Pack.{Pack, empty_pack}
use Rattle.pack.specs.Walk.{keys_at}
use Rattle.pack.specs.EventParts.{entities_at}
use Rattle.values.specs.Text.{parts}
use Rattle.values.specs.Parse.{parse}
use Rattle.entities.specs.Entries.{Entries, no_entry, entry, count_entries, stored_keys}
use Rattle.entities.specs.Parse.{Key, before_record, key_text}
use Rattle.events.specs.Event.{Event, append_event}
use Rattle.events.specs.Line.{Behind, begins, entities_word, parse_time, parse_scope, parse_line}
use Rattle.std.specs.Prelude.{None, Option, Some}

-- ---- in the tables: document 01, "The pack"

-- tables that begin with a pack; `rest` is what lies behind it
abbrev pub followed_by : Pack → Pack → Pack
followed_by p rest = record { kinds = p.kinds ++ rest.kinds; numbers = p.numbers ++ rest.numbers; texts = p.texts ++ rest.texts }

abbrev pub entities_node : Pack → ℕ
entities_node p = entities_at p.kinds p.numbers

-- the stretches of the text table that are the stored keys of the entries, in written order
unfoldable pub keys_in : Pack → List (List ℕ)
keys_in p = keys_at (get_or p.numbers (entities_node p) 0) (entities_node p + 1) p.kinds p.numbers p.texts

-- that of the entry i
abbrev pub key_in : ℕ → Pack → List ℕ
key_in i q = get_or (keys_in q) i []

-- ---- entries, from whichever source

-- type text and decoded id of the entry i; where there is none, two empty texts
unfoldable pub entry_at : ℕ → Entries → Key
entry_at i no_entry = record { type = []; id = [] }
entry_at zero (entry ty id fs ps es) = record { type = ty; id = id }
entry_at (suc i) (entry ty id fs ps es) = entry_at i es

abbrev pub entry_type : ℕ → Entries → List ℕ
entry_type i es = (entry_at i es).type

abbrev pub entry_id : ℕ → Entries → List ℕ
entry_id i es = (entry_at i es).id

-- Tables that hold accepted entries, whichever call left them: walking over the tables finds the stored keys of these entries, in written
-- order. No type text begins with White_Space: of a line, since a text is trimmed before it is read as an entity; of JSON, where it is 37.
pub record Holds (q : Pack) (es : Entries) : Type 0 where
  pub keys : keys_in q ≡ stored_keys es
  pub types : (i : ℕ) → i < count_entries es → white_at (entry_type i es) ≡ 0

-- two stored keys are equal, byte for byte, exactly when the type texts and the decoded ids of their entries are
abbrev pub KeysMeet : Pack → Entries → Pack → Entries → Type 0
KeysMeet q es q' es' = (i j : ℕ) → i < count_entries es → j < count_entries es'
    → (key_in i q ≡ key_in j q') ↔ ((entry_type i es ≡ entry_type j es') × (entry_id i es ≡ entry_id j es'))

-- a stored key, its bytes alone read by the value rules, is the entity of exactly its entry's type text and decoded id
abbrev pub KeysReadBack : Pack → Entries → Type 0
KeysReadBack q es = (i : ℕ) → i < count_entries es → parse levels (key_in i q) ≡ ok (entity (entry_type i es) (entry_id i es))

-- whatever entity a stored key is read as is stored again as the same bytes
abbrev pub KeysStoredAgain : Pack → Entries → Type 0
KeysStoredAgain q es = (i : ℕ) → i < count_entries es → (ty id : List ℕ) → parse levels (key_in i q) ≡ ok (entity ty id) → entity_uid pinned ty id ≡ key_in i q

-- ---- in the event

-- a line that is read, of less than 2^29 bytes, which is far beyond the line limit
pub record AcceptedLine (s : List ℕ) (e : Event) : Type 0 where
  pub read : parse_line s ≡ ok e
  pub short : length s < 2 ^ 29

-- tables that hold the event of a line
abbrev pub tables_of : Event → Pack → Pack
tables_of e rest = followed_by (append_event e empty_pack) rest

-- ---- in the line

module _ {A : Type 0} where
  abbrev pub rest_behind : Outcome (Behind A) → List ℕ
  rest_behind (ok b) = b.rest
  rest_behind (refused e) = []

abbrev pub body_up_to : Option ℕ → List ℕ → List ℕ
body_up_to (Some e) s = take e s
body_up_to None s = []

-- the body of the entities envelope behind time and scope; where the envelope is absent, the empty text
unfoldable pub entities_body : List ℕ → List ℕ
entities_body s =
    let t = rest_behind (parse_scope (rest_behind (parse_time s))) in
    let body = drop (length entities_word) t in
    cond (begins entities_word t) (body_up_to (matching_paren body) body) []

-- a part's key text stands before the colon before the record
abbrev pub key_text_before : List ℕ → Option ℕ → List ℕ
key_text_before x (Some b) = key_text (before_record x b)
key_text_before x None = []

unfoldable pub key_text_of : List ℕ → List ℕ
key_text_of x = key_text_before x (top_level_char (code "{") x)

-- the key text of the entry i, as the line has it
abbrev pub written_key : ℕ → List ℕ → List ℕ
written_key i s = key_text_of (get_or (parts (entities_body s)) i [])
