-- The rest is right from where the walk stands exactly where the text is JSON.
use Rattle.std.proofs.Common.{◌≡◌, ◌+◌, ◌≤◌, length, is_some}
use Rattle.json_text.specs.Syntax.{json}
use Rattle.json_text.specs.Walk.{right}
use Rattle.json_text.proofs.is_json.Given as goal

abbrev pub invariant-loop-step : goal.invariant-loop-step
invariant-loop-step l = record {
  same : is_some (json l.s) ≡ right l.step.value l.nesting l.step.depth l.step.rest.now;
  room : l.step.depth + length l.step.rest.now ≤ length l.nesting;
}

abbrev pub decreases-loop-step : goal.decreases-loop-step
decreases-loop-step l = length l.step.rest.now
