-- Names stand once: in every record of what is accepted, and among the stored keys of a line and of entities JSON.
-- Assumes nothing.
use mathlib.Core.Path.{◌≡◌}
use mathlib.Core.List.{List}
use Prim.Native.Nat.{ℕ}
use Rattle.format.specs.Limits.{levels}
use Rattle.format.specs.Outcome.{ok}
use Rattle.pack.specs.Value.{Value, Fields, fields}
use Rattle.values.specs.Parse.{parse}
use Rattle.entities.specs.Entries.{Entries, stored_keys}
use Rattle.events.specs.Event.{Event}
use Rattle.events.specs.Line.{parse_args}
use Rattle.events.specs.Answer.{event, read_line}
use Rattle.events.specs.Distinct.{DistinctTexts, DistinctNames, DistinctInEntries, DistinctEvent}
use Rattle.events.proofs.OutcomeLaws.{given_ok}
use Rattle.events.proofs.ValueOutcomes.{value_refusals, argument_refusals, value_gives, arguments_give}
use Rattle.events.proofs.EntityOutcomes.{DistinctEntries}
use Rattle.events.proofs.LineOutcomes.{read_distinct}
use Rattle.json_entities.specs.Entry.{read_entities}
use Rattle.guarantees.specs.RefusalTable.{read_entities_rows}
use Rattle.guarantees.proofs.JsonOutcomes.{read_entities_in}

-- 1. A text that is read as a value: every record in it, however deep, has distinct names.
pub value_distinct : (s : List ℕ) {v : Value} → parse levels s ≡ ok v → DistinctNames v
value_distinct s {v} h = given_ok DistinctNames value_refusals (parse levels s) v (value_gives levels s) h

-- 2. A text that is read as an argument group, scope among them: the same of the group itself and of all that it holds.
pub group_distinct : (s : List ℕ) {fs : Fields} → parse_args s ≡ ok fs → DistinctNames (fields fs)
group_distinct s {fs} h = given_ok (λ (gs : Fields). DistinctNames (fields gs)) argument_refusals (parse_args s) fs (arguments_give s) h

-- 3. A line that is read as an event: so have principal and resource, the groups logged and context and every record in them, and the
-- records of its entries; and its stored keys are distinct.
pub event_distinct : (s : List ℕ) {e : Event} → read_line s ≡ event e → DistinctEvent e
event_distinct s {e} h = read_distinct s e h

-- 4. A text of entities JSON that is read: so have the records of its entries and every record in them; and its stored keys are distinct.
pub json_distinct : (s : List ℕ) {es : Entries} → read_entities s ≡ ok es → DistinctTexts (stored_keys es) × DistinctInEntries es
json_distinct s {es} h = given_ok DistinctEntries read_entities_rows (read_entities s) es (read_entities_in s) h
