-- A part's value goes on with a bracket more, where its rule calls the rule of a value.
use Rattle.std.proofs.Common.{arith}
use Rattle.json_text.proofs.Walking.{item_opens, member_opens, no_member_opens}
use Rattle.json_text.proofs.enter.Goals as goal
use Rattle.json_text.proofs.enter.Goals.{then-bracket-eq91, else-bracket-eq91+in_ok-rest-in-Part}

pub returns-in_err-rest-in-Part-clause-steps : goal.returns-in_err-rest-in-Part-clause-steps
returns-in_err-rest-in-Part-clause-steps c =
    rw (c.from_residual.ensures, c.in-Part.is)
    (no_member_opens c.args.nesting.now c.args.depth c.args.bracket c.requires c.in-Part.part.now c.if-bracket-eq91.false c.in_err-rest-in-Part.ensures)

pub returns-after-bracket-eq91-clause-steps : goal.returns-after-bracket-eq91-clause-steps
returns-after-bracket-eq91-clause-steps c =
    elim c.if-bracket-eq91.branch [
      | then-bracket-eq91 w ↦ rw (c.in-Part.is, w.rest-is) (item_opens c.args.nesting.now c.args.depth c.args.bracket c.requires c.in-Part.part.now w.if-bracket-eq91.true, omega arith, omega arith)
      | else-bracket-eq91+in_ok-rest-in-Part w ↦
          let m = w.in_ok-rest-in-Part.field-0 in
          let k = member_opens c.args.nesting.now c.args.depth c.args.bracket c.requires c.in-Part.part.now w.if-bracket-eq91.false (m.name.now, m.value.now) w.in_ok-rest-in-Part.ensures in
          rw (c.in-Part.is, w.rest-is) (k.0, omega (arith, k.1), omega (arith, k.1))
    ]
