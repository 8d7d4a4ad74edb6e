-- `lulzhemor::lulzhemor_judge` meets its contract: what `judge` ensures, its answer as a number. Assumes nothing.
use mathlib.Core.Path.{◌≡◌, sym, subst, ◌∙◌}
use mathlib.Core.List.{List}
use Prim.Native.Nat.{ℕ, ◌+◌, ◌≤◌}
use native.Mathlib.Omega.{arith}
use Rattle.format.specs.Limits.{text_limit}
use Rattle.format.proofs.Numbers.{number_small}
use Rattle.lulzhemor.specs.Answer.{judge_answer}
use Rattle.lulzhemor.proofs.Sizes.{SmallJudged, judge_small}
use Rattle.lulzhemor.proofs.lulzhemor_judge.Goals as goal
use Rattle.std.specs.Prelude.{Err, Result}
use Rattle.logs.specs.declared.LineRefusal.{LineRefusal}

-- the line of a refusal
small : (s k n t : List ℕ) {refusal : LineRefusal} {r : Result ℕ LineRefusal} → r ≡ judge_answer s k n t → r ≡ Err refusal → refusal.line ≤ text_limit + 1
small s k n t answer is = subst SmallJudged (sym answer ∙ is) (judge_small s k n t)

pub overflow_mul-result : goal.overflow_mul-result
overflow_mul-result c = let a = c.args in omega (arith, small a.log.now a.kinds.now a.numbers.now a.texts.now c.judge.ensures.answer c.in-Err.is)

pub overflow_add-result : goal.overflow_add-result
overflow_add-result c = let a = c.args in omega (arith, c.refused.ensures, number_small c.in-Err.r.refusal, small a.log.now a.kinds.now a.numbers.now a.texts.now c.judge.ensures.answer c.in-Err.is)
