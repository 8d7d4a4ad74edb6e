-- A part or an end behind a comma or a bracket, as `closes` takes them.
use Rattle.std.proofs.Common.{◌-◌, get_or}
use Rattle.json_text.proofs.Walking.{closing_positive, nothing_closes, close_steps}
use Rattle.json_text.proofs.close.Goals as goal

pub next_part-requires : goal.next_part-requires
next_part-requires c = rw c.closing.ensures (closing_positive (get_or c.args.nesting.now (c.args.depth - 1) 0))

pub returns-in_err-next-clause-steps : goal.returns-in_err-next-clause-steps
returns-in_err-next-clause-steps c =
    rw c.from_residual.ensures (nothing_closes c.args.nesting.now c.args.s.now c.args.depth c.requires.0 (rw c.closing.ensures at c.in_err-next.ensures))

pub returns-clause-steps : goal.returns-clause-steps
returns-clause-steps c = close_steps c.args.nesting.now c.args.s.now c.args.depth c.requires.0 c.enter.new.nesting c.enter.result _ (rw c.closing.ensures at c.in_ok-next.ensures) c.enter.ensures.steps
