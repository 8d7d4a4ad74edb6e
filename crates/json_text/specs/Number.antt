-- RFC 8259, section 6, "Numbers": where a number ends that a text starts with.
-- Assumes nothing.
use Rattle.std.specs.Prelude.{Bool, cond, ◌||◌, List, ℕ, eqb, drop, None, Option, Some, option_and_then}
use Prim.Native.Char.{code}
use Rattle.numbers.specs.Digits.{leading_digits, signs}
use Rattle.json_text.specs.Parse.{starts}

-- 1*DIGIT: the text behind all the digits, at least one
abbrev pub behind_digits : List ℕ → Option (List ℕ)
behind_digits s = cond (eqb (leading_digits s) 0) None (Some (drop (leading_digits s) s))

-- [ minus ]
abbrev pub behind_minus : List ℕ → List ℕ
behind_minus s = cond (starts (code "-") s) (drop 1 s) s

-- int = zero / ( digit1-9 *DIGIT )
abbrev pub behind_int : List ℕ → Option (List ℕ)
behind_int s = cond (starts (code "0") s) (Some (drop 1 s)) (behind_digits s)

-- [ frac ], frac = decimal-point 1*DIGIT
abbrev pub behind_frac : List ℕ → Option (List ℕ)
behind_frac s = cond (starts (code ".") s) (behind_digits (drop 1 s)) (Some s)

-- e = %x65 / %x45
abbrev pub starts_exp : List ℕ → Bool
starts_exp s = starts (code "e") s || starts (code "E") s

-- [ exp ], exp = e [ minus / plus ] 1*DIGIT
abbrev pub behind_exp : List ℕ → Option (List ℕ)
behind_exp s = cond (starts_exp s) (behind_digits (drop (signs (drop 1 s)) (drop 1 s))) (Some s)

-- number = [ minus ] int [ frac ] [ exp ]
unfoldable pub number : List ℕ → Option (List ℕ)
number s = option_and_then (λ r. option_and_then behind_exp (behind_frac r)) (behind_int (behind_minus s))
