-- `json_text::behind_digits` meets its contract: the digits end in the text.
-- Assumes nothing.
use native.Mathlib.Omega.{arith}
use Rattle.json_text.proofs.Lengths.{digits_inside}
use Rattle.json_text.proofs.behind_digits.Goals as goal

pub slice_bounds-result-count : goal.slice_bounds-result-count
slice_bounds-result-count c = omega (arith, digits_inside c.args.s.now)

pub slice_bounds-result-start : goal.slice_bounds-result-start
slice_bounds-result-start c = omega (arith, digits_inside c.args.s.now)
