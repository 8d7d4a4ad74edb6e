-- `json_entities::uid::read_reference` meets its contract: node, type and id one behind the other, and White_Space looked for in the type.
-- Assumes nothing.
use native.Mathlib.Omega.{arith}
use Rattle.format.proofs.Outcomes.{handed_on}
use Rattle.pack.proofs.Appended.{node_added}
use Rattle.json_entities.proofs.UidLaid.{reference_refused, reference_white, reference_done, text_written}
use Rattle.json_entities.proofs.uid.read_reference.Goals as goal

pub returns-in_err-uid-clause-reads : goal.returns-in_err-uid-clause-reads
returns-in_err-uid-clause-reads c = rw (handed_on _ c.from_residual.ensures.1) (reference_refused _ _ c.in_err-uid.field-0.0 c.in_err-uid.ensures)

pub appended_begins_white-requires : goal.appended_begins_white-requires
appended_begins_white-requires c =
    let n = c.append_node.ensures in
    let t = c.append_string.ensures in
    let r = c.requires.room in
    record { kinds = omega (arith, r.kinds, n.kept.kinds, t.kept.kinds, n.added.nodes, c.in_ok-uid.ensures.short); numbers = omega (arith, r.numbers, n.kept.numbers, t.kept.numbers, n.added.nodes, c.in_ok-uid.ensures.short); from = omega (arith, t.moved); texts = omega (arith, r.texts, n.added.texts, n.kept.texts, t.kept.texts, t.moved, c.in_ok-uid.ensures.short) }

pub returns-then-appended_begins_white-clause-reads : goal.returns-then-appended_begins_white-clause-reads
returns-then-appended_begins_white-clause-reads c =
    let n = c.append_node.ensures in
    let t = c.append_string.ensures in
    reference_white _ _ _ c.in_ok-uid.ensures.both (rw (text_written c.append_node.new.self c.append_string.new.tables _ _ (omega (arith, c.requires.room.texts, n.added.texts, n.kept.texts)) t.lays) at c.if-appended_begins_white.ensures)

pub returns-clause-reads : goal.returns-clause-reads
returns-clause-reads c =
    let n = c.append_node.ensures in
    let t = c.append_string.ensures in
    reference_done _ _ _ c.in_ok-uid.ensures.both (rw (text_written c.append_node.new.self c.append_string.new.tables _ _ (omega (arith, c.requires.room.texts, n.added.texts, n.kept.texts)) t.lays) at c.if-appended_begins_white.ensures)
    _ _ _ (node_added n.added) t.lays c.append_string-2.ensures.lays
