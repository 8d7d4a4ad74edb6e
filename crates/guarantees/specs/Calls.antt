-- What a call of `read_line`, `list_line` or `read_entities` left, as the theorems on keys, nodes, refusals and listings speak of it.
-- Assumes nothing.
use Rattle.std.specs.Prelude.{◌≡◌, List, ℕ, length, take}
use Rattle.format.specs.Outcome.{Outcome, ok, refused}
use Rattle.pack.specs.Pack.{Pack}
use Rattle.entities.specs.Entries.{Entries, count_entries}
use Rattle.events.specs.Answer.{Answer, read_line}
use Rattle.lines.specs.Entry.{LineWhole}
use Rattle.json_entities.specs.Entry.{EntitiesWhole, read_entities}
use Rattle.listing.specs.Entry.{ListWhole}
use Rattle.guarantees.specs.Keys.{keys_in, Holds, KeysMeet, KeysReadBack, KeysStoredAgain}
use Rattle.std.specs.Prelude.{Err, None, Ok, Option, Result, Some}
use Rattle.format.specs.declared.Reach.{Reach}
use Rattle.format.specs.declared.Refusal.{Refusal}

-- What `read_line` ensures of a call, its whole contract: the line s, the three tables lent to it, its answer, and the tables as it left them.
abbrev pub ReadInto : List ℕ → Pack → Result (Option Reach) Refusal → Pack → Type 0
ReadInto s lent r left = LineWhole s lent.kinds lent.numbers lent.texts r left.kinds left.numbers left.texts

-- What `list_line` ensures of a call, its whole contract: besides, the event's number, and the output as it was lent and as it was left.
abbrev pub ListedInto : List ℕ → ℕ → Pack → List ℕ → Result (Option ℕ) Refusal → Pack → List ℕ → Type 0
ListedInto s number lent out r left out' = ListWhole s number lent.kinds lent.numbers lent.texts out r left.kinds left.numbers left.texts out'

-- What `read_entities` ensures of a call, its whole contract: the text s of entities JSON, and the others as for `read_line`.
abbrev pub EntitiesInto : List ℕ → Pack → Result Reach Refusal → Pack → Type 0
EntitiesInto s lent r left = EntitiesWhole s lent.kinds lent.numbers lent.texts r left.kinds left.numbers left.texts

-- ---- both sources

-- where entries come from: a line of a log, or a text of entities JSON
pub data Source : Type 0 where
  from_line : List ℕ → Source
  from_json : List ℕ → Source

abbrev pub entries_of_answer : Answer → Option Entries
entries_of_answer (Answer.event e) = Some e.entities
entries_of_answer Answer.blank = None
entries_of_answer (Answer.refused n) = None

abbrev pub entries_of_outcome : Outcome Entries → Option Entries
entries_of_outcome (ok es) = Some es
entries_of_outcome (refused n) = None

-- the entries of an accepted source: the line is read as an event, or the text without refusal
abbrev pub given_by : Source → Option Entries
given_by (from_line s) = entries_of_answer (read_line s)
given_by (from_json s) = entries_of_outcome (read_entities s)

abbrev pub GivesEntries : Source → Entries → Type 0
GivesEntries x es = given_by x ≡ Some es

-- what its entry point ensures of a call on it that answered with a pack of the sizes f
abbrev pub Ensured : Source → Pack → Reach → Pack → Type 0
Ensured (from_line s) lent f left = ReadInto s lent (Ok (Some f)) left
Ensured (from_json s) lent f left = EntitiesInto s lent (Ok f) left

-- A call of the entry point of the source x, with its whole contract, that was lent these tables, answered with a pack of the sizes f and left those;
-- a record, so that a theorem's arguments are inferred from it, which the definition by cases above would not allow.
pub record PackInto (x : Source) (lent : Pack) (f : Reach) (left : Pack) : Type 0 where
  pub call : Ensured x lent f left

-- that pack, as the tables q have it
abbrev pub pack_left : Reach → Pack → Pack
pack_left f q = record { kinds = take f.nodes q.kinds; numbers = take f.nodes q.numbers; texts = take f.texts q.texts }

-- ---- keys

-- *Keys meet*, of a call on the source x that left the tables q: they hold the entries that it gives, and each entry's stored key reads back, is
-- stored again the same, and meets those of any entries from any source, in whatever tables these are held.
pub record KeysLeft (x : Source) (q : Pack) : Type 0 where
  pub entries : Entries
  pub gives : GivesEntries x entries
  pub holds : Holds q entries
  pub each : length (keys_in q) ≡ count_entries entries
  pub meet : (q' : Pack) (es' : Entries) → Holds q' es' → KeysMeet q entries q' es'
  pub reads_back : KeysReadBack q entries
  pub stored_again : KeysStoredAgain q entries

-- where the answer is a pack
abbrev pub KeysAfter : List ℕ → Result (Option Reach) Refusal → Pack → Type 0
KeysAfter s (Ok (Some f)) q = KeysLeft (from_line s) q
KeysAfter s (Ok None) q = Unit {0}
KeysAfter s (Err n) q = Unit {0}

abbrev pub JsonKeysAfter : List ℕ → Result Reach Refusal → Pack → Type 0
JsonKeysAfter s (Ok f) q = KeysLeft (from_json s) q
JsonKeysAfter s (Err n) q = Unit {0}
