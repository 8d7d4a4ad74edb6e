-- A bracket that opens, or a whole value, as the rule of a value takes them.
use Rattle.std.proofs.Common.{rules, arith, ◌≡◌, ◌<◌, length, false, true}
use Prim.Native.Char.{code}
use Rattle.json_text.specs.Parse.{starts}
use Rattle.json_text.proofs.Walking.{array_steps, object_steps, starts_none, no_scalar, scalar_steps}
use Rattle.json_text.proofs.open.Goals as goal
use Rattle.json_text.proofs.open.Goals.{In_default, in_default-via-then-s-lt1, in_default-via-else-s-lt1+in_default-1}

no_bracket : (c : In_default) → (starts (code "[") c.args.s.now ≡ false) × (starts (code "{") c.args.s.now ≡ false)
no_bracket c =
    elim c.in_default.branch [
      | in_default-via-then-s-lt1 w ↦
          let e : length c.args.s.now < 1 = search rules in
          (starts_none (code "[") c.args.s.now (omega arith) e, starts_none (code "{") c.args.s.now (omega arith) e)
      | in_default-via-else-s-lt1+in_default-1 w ↦ (search rules, search rules)
    ]

pub returns-in_err-rest-in_default-clause-steps : goal.returns-in_err-rest-in_default-clause-steps
returns-in_err-rest-in_default-clause-steps c =
    let n = no_bracket (goal.at.returns-in_err-rest-in_default-clause-steps c).In_default in
    rw c.from_residual.ensures (no_scalar c.args.nesting.now c.args.s.now c.args.depth n.0 n.1 c.in_err-rest-in_default.ensures)

pub returns-in-91-clause-steps : goal.returns-in-91-clause-steps
returns-in-91-clause-steps c =
    let a : starts (code "[") c.args.s.now ≡ true = search rules in
    array_steps c.args.nesting.now c.enter.new.nesting c.args.s.now c.args.depth c.enter.result _ a c.first_part.ensures c.enter.ensures.steps

pub returns-in-123-clause-steps : goal.returns-in-123-clause-steps
returns-in-123-clause-steps c =
    let o : starts (code "{") c.args.s.now ≡ true = search rules in
    object_steps c.args.nesting.now c.enter-in-123.new.nesting c.args.s.now c.args.depth c.enter-in-123.result _ o c.first_part-in-123.ensures c.enter-in-123.ensures.steps

pub returns-in_ok-rest-in_default-clause-steps : goal.returns-in_ok-rest-in_default-clause-steps
returns-in_ok-rest-in_default-clause-steps c =
    let n = no_bracket (goal.at.returns-in_ok-rest-in_default-clause-steps c).In_default in
    let t = scalar_steps c.args.nesting.now c.args.s.now c.args.depth n.0 n.1 c.in_ok-rest-in_default.rest.now c.in_ok-rest-in_default.ensures in (t.0, t.1, omega (arith, t.1))
