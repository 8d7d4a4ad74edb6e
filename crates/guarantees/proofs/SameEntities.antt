-- Equal entries give the same entities nodes, text starts counted from the first text under the entities node, whichever source they come from.
-- Assumes nothing.
use mathlib.Core.Path.{◌≡◌, sym, ◌∙◌}
use mathlib.Core.List.{List}
use Prim.Native.Nat.{ℕ}
use Rattle.format.specs.Outcome.{ok}
use Rattle.format.specs.declared.Reach.{Reach}
use Rattle.pack.specs.Pack.{Pack, empty_pack}
use Rattle.entities.specs.Entries.{Entries, append_entities}
use Rattle.events.specs.Event.{Event}
use Rattle.events.specs.Answer as Answer
use Rattle.events.specs.Answer.{event, read_line}
use Rattle.json_entities.specs.Entry as Json
use Rattle.json_entities.specs.Entry.{read_entities}
use Rattle.guarantees.specs.EntityNodes.{entities_nodes}
use Rattle.guarantees.specs.Calls.{Source, GivesEntries, PackInto, pack_left}
use Rattle.guarantees.proofs.Laying.{before_entities, parts_laid, json_parts_laid}
use Rattle.guarantees.proofs.Left.{line_short, json_short, call_stands}
use Rattle.guarantees.proofs.NodesCounted.{behind_alone, left_alone}

-- 1. The entities nodes of a line's pack are those that the entries of its event give by themselves, behind no other nodes,
pub line_nodes : (s : List ℕ) {e : Event} → read_line s ≡ event e → entities_nodes (Answer.pack_of (read_line s)) ≡ append_entities e.entities empty_pack
line_nodes s {e} h = rw h (behind_alone e.entities (before_entities e empty_pack) (parts_laid e empty_pack) (line_short s h))

-- and so are those of the pack of entities JSON.
pub json_nodes : (s : List ℕ) {es : Entries} → read_entities s ≡ ok es → entities_nodes (Json.pack_of (read_entities s)) ≡ append_entities es empty_pack
json_nodes s {es} h = rw h (behind_alone es Json.before_entities json_parts_laid (json_short s h))

-- 2. So a line and a text of entities JSON with equal type texts, decoded ids, records and parents, in the same written order, give the same entities
-- nodes.
pub same_entities : (s j : List ℕ) {e : Event} → read_line s ≡ event e → read_entities j ≡ ok e.entities
    → entities_nodes (Answer.pack_of (read_line s)) ≡ entities_nodes (Json.pack_of (read_entities j))
same_entities s j h g = line_nodes s h ∙ sym (json_nodes j g)

-- 3. The same of two calls, on any two sources and into any tables: the packs that they left there, as far as the sizes that they answered.
pub same_entities_left : (x x' : Source) {p q p' q' : Pack} {f f' : Reach} {es : Entries} → PackInto x p f q → PackInto x' p' f' q' → GivesEntries x es → GivesEntries x' es
    → entities_nodes (pack_left f q) ≡ entities_nodes (pack_left f' q')
same_entities_left x x' w w' g g' = left_alone (call_stands x w g) ∙ sym (left_alone (call_stands x' w' g'))
