-- Digits and signs as the documents of `i64::from_str` and `f64::from_str` have them, and what a run of digits says.
-- Assumes nothing.
use Rattle.std.specs.Prelude.{ℕ, suc, ◌+◌, ◌-◌, ◌*◌, Bool, cond, ◌&&◌, ◌||◌, List, [], ◌∷◌, eqb, leb}
use Prim.Native.Char.{code}

abbrev pub is_digit : ℕ → Bool
is_digit b = leb (code "0") b && leb b (code "9")

abbrev pub is_sign : ℕ → Bool
is_sign b = eqb b (code "+") || eqb b (code "-")

-- how many digits a text starts with
unfoldable pub leading_digits : List ℕ → ℕ
leading_digits [] = 0
leading_digits (b ∷ r) = cond (is_digit b) (suc (leading_digits r)) 0

-- 1 where a text starts with a sign, else 0
abbrev pub signs : List ℕ → ℕ
signs [] = 0
signs (b ∷ r) = cond (is_sign b) 1 0

-- the number that digits say in base ten, behind those that said n
unfoldable pub value : ℕ → List ℕ → ℕ
value n [] = n
value n (b ∷ r) = value (n * 10 + (b - code "0")) r
