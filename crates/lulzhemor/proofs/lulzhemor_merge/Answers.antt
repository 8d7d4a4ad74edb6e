-- `lulzhemor::lulzhemor_merge` meets its contract: what `merge` ensures, its answer as a number. Assumes nothing.
use mathlib.Core.Path.{◌≡◌, sym, ◌∙◌}
use mathlib.Core.List.{List}
use Prim.Native.Nat.{ℕ, ◌+◌, ◌≤◌}
use native.Mathlib.Omega.{arith}
use Rattle.format.specs.Limits.{text_limit}
use Rattle.format.proofs.Numbers.{number_small}
use Rattle.merging.specs.Merge.{merge_answer}
use Rattle.lulzhemor.proofs.MergeSizes.{merge_refusal_small}
use Rattle.lulzhemor.proofs.lulzhemor_merge.Goals as goal
use Rattle.std.specs.Prelude.{Err, Result}
use Rattle.merging.specs.declared.MergeRefusal.{MergeRefusal}

-- the log and the line of a refusal
small : (first second k n t out : List ℕ) {refusal : MergeRefusal} {r : Result ℕ MergeRefusal} → r ≡ merge_answer first second k n t out → r ≡ Err refusal → (refusal.log ≤ 2) × (refusal.line ≤ text_limit + 1)
small first second k n t out answer is = merge_refusal_small first second k n t out (sym answer ∙ is)

pub overflow_mul-result : goal.overflow_mul-result
overflow_mul-result c = let a = c.args in let s = small a.first.now a.second.now a.kinds.now a.numbers.now a.texts.now a.out.now c.merge.ensures.answer c.in-Err.is in omega (arith, s.0, s.1)

pub overflow_add-result-in-Err : goal.overflow_add-result-in-Err
overflow_add-result-in-Err c = let a = c.args in let s = small a.first.now a.second.now a.kinds.now a.numbers.now a.texts.now a.out.now c.merge.ensures.answer c.in-Err.is in omega (arith, c.refused.ensures, number_small c.in-Err.r.refusal, s.0, s.1)

pub overflow_add-result : goal.overflow_add-result
overflow_add-result c = let a = c.args in let s = small a.first.now a.second.now a.kinds.now a.numbers.now a.texts.now a.out.now c.merge.ensures.answer c.in-Err.is in omega (arith, c.refused.ensures, number_small c.in-Err.r.refusal, s.0, s.1)
