-- Each step goes on to a place from which the rest is right exactly where it was.
use Rattle.std.proofs.Common.{arith, sym, ◌∙◌, ap, List, ℕ, length, true}
use Rattle.json_text.specs.Walk.{right, StepsTo}
use Rattle.json_text.proofs.Lengths.{ws_shorter}
use Rattle.json_text.proofs.Walking.{json_right, json_ends}
use Rattle.json_text.proofs.is_json.Goals as goal
use Rattle.json_text.proofs.is_json.Goals.{Joined-step-2, then-step, else-step+then-step-gt0, then-step-2, else-step-2}

pub loop-step-init : goal.loop-step-init
loop-step-init c =
    let e = c.skip_white.ensures in record {
      same = json_right c.args.nesting.now c.args.s.now ∙ ap (λ (t : List ℕ). right true c.args.nesting.now 0 t) (sym e);
      room = omega (arith, ap length e, ws_shorter c.args.s.now);
    }

pub close-next-requires : goal.close-next-requires
close-next-requires c = elim c.if-step.branch [ then-step w ↦ cc (w.if-step.true, c.if-step-2.false) | else-step+then-step-gt0 w ↦ (w.if-step-gt0.true, c.loop-step.invariant.room) ]

-- what the step that was taken shows
stepped : (c : Joined-step-2) → StepsTo (right c.loop-step.step.value c.loop-step.nesting c.loop-step.step.depth c.loop-step.step.rest.now) c.loop-step.step.depth (length c.loop-step.step.rest.now)
    c.if-step-2.nesting c.if-step-2.next
stepped c =
    elim c.if-step-2.branch [
      | then-step-2 w ↦ rw (w.if-step-2.true, w.nesting-is, w.next-is) w.open-next.ensures.steps
      | else-step-2 w ↦ rw (w.if-step-2.false, w.nesting-is, w.next-is) w.close-next.ensures.steps
    ]

pub returns-in_default-clause-value : goal.returns-in_default-clause-value
returns-in_default-clause-value c = let t = rw c.in_default.is at (stepped (goal.at.returns-in_default-clause-value c).Joined-step-2) in sym (c.loop-step.invariant.same ∙ t)

pub loop-step-smaller : goal.loop-step-smaller
loop-step-smaller c = let t = rw c.in-Some.is at (stepped (goal.at.loop-step-smaller c).Joined-step-2) in t.1

pub loop-step-preserved : goal.loop-step-preserved
loop-step-preserved c =
    let t = rw c.in-Some.is at (stepped (goal.at.loop-step-preserved c).Joined-step-2) in record {
      same = c.loop-step.invariant.same ∙ t.0;
      room = omega (arith, t.2);
    }

pub returns-clause-value : goal.returns-clause-value
returns-clause-value c =
    json_ends c.loop-step.nesting c.loop-step.step.value c.loop-step.step.depth c.loop-step.step.rest.now c.skip_white-2.result.now c.if-step.false c.if-step-gt0.false c.skip_white-2.ensures
    ∙ sym c.loop-step.invariant.same
