-- `value::read_number` meets its contract: an integer within i64, or 37. Assumes nothing.
use mathlib.Core.Path.{◌≡◌, refl, sym, ap, ◌∙◌}
use Prim.Native.Nat.{◌-◌}
use native.Mathlib.Omega.{arith}
use lib.ListN.{length}
use Rattle.format.specs.Outcome.{ok}
use Rattle.json_text.specs.Post.{texts_of}
use Rattle.json_text.specs.Syntax.{read_number}
use Rattle.pack.proofs.Appended.{node_added}
use Rattle.json_entities.specs.Post.{width}
use Rattle.json_entities.proofs.ValueScalars.{number_in, number_laid, number_wide}
use Rattle.json_entities.proofs.value.read_number.Goals as goal

pub overflow_sub-size : goal.overflow_sub-size
overflow_sub-size c = omega (arith, (number_in c.args.s.now c.in-Some.rest.now (sym c.number_behind.ensures ∙ ap texts_of c.in-Some.is)).fits)

pub returns-in_default-parse_i64-clause-reads : goal.returns-in_default-parse_i64-clause-reads
returns-in_default-parse_i64-clause-reads c =
    let n = number_in c.args.s.now c.in-Some.rest.now (sym c.number_behind.ensures ∙ ap texts_of c.in-Some.is) in
    rw n.whole (number_wide _ _ (sym c.parse_i64.ensures ∙ c.in_default-parse_i64.is))

pub append_node-requires : goal.append_node-requires
append_node-requires c =
    let n = number_in c.args.s.now c.in-Some.rest.now (sym c.number_behind.ensures ∙ ap texts_of c.in-Some.is) in
    let w : width (read_number c.args.s.now) c.args.s.now ≡ length c.args.s.now - length c.in-Some.rest.now = rw n.whole refl in
    omega (arith, c.requires.room, n.fits)

pub returns-clause-reads : goal.returns-clause-reads
returns-clause-reads c =
    let n = number_in c.args.s.now c.in-Some.rest.now (sym c.number_behind.ensures ∙ ap texts_of c.in-Some.is) in
    rw n.whole (ap ok (node_added c.append_node.ensures.added) ∙ number_laid _ _ _ (sym c.parse_i64.ensures ∙ c.in-Some-parse_i64.is))

pub returns-clause-within : goal.returns-clause-within
returns-clause-within c =
    let n = number_in c.args.s.now c.in-Some.rest.now (sym c.number_behind.ensures ∙ ap texts_of c.in-Some.is) in
    let w : width (read_number c.args.s.now) c.args.s.now ≡ length c.args.s.now - length c.in-Some.rest.now = rw n.whole refl in
    let added = c.append_node.ensures.added in
    omega (arith, added.nodes, added.texts, n.fits)
