-- A number, part by part: `number` by what its parts give.
-- Assumes nothing.
use mathlib.Core.Path.{◌≡◌, sym, ap, ◌∙◌}
use mathlib.Core.List.{List}
use Prim.Native.Nat.{ℕ}
use Rattle.std.specs.Prelude.{None, Option, Some, option_and_then}
use Rattle.json_text.specs.Number.{behind_minus, behind_int, behind_frac, behind_exp, number}

module _ (s d : List ℕ) (minus : d ≡ behind_minus s) where
  by_int : (o : Option (List ℕ)) → behind_int d ≡ o → number s ≡ option_and_then (λ r. option_and_then behind_exp (behind_frac r)) o
  unfolding number
  by_int o e = ap (option_and_then (λ r. option_and_then behind_exp (behind_frac r))) (ap behind_int (sym minus) ∙ e)

  pub number_no_int : behind_int d ≡ None → number s ≡ None
  number_no_int e = by_int None e

  module _ (r : List ℕ) (int : behind_int d ≡ Some r) where
    pub number_no_frac : behind_frac r ≡ None → number s ≡ None
    number_no_frac e = by_int (Some r) int ∙ ap (option_and_then behind_exp) e

    pub number_to_exp : (t : List ℕ) → behind_frac r ≡ Some t → number s ≡ behind_exp t
    number_to_exp t e = by_int (Some r) int ∙ ap (option_and_then behind_exp) e
