-- An i64 in a text, from the document of Rust's `i64::from_str`: an optional + or - sign followed by only digits.
-- Empty text, a sign alone and a number out of range are no integer. Assumes nothing.
use Rattle.std.specs.Prelude.{ℕ, cond, ◌&&◌, List, drop, ℤ, pos, neg_ℤ, eqb, leb, get_or}
use Prim.Native.Char.{code}
use Rattle.numbers.specs.Grammar.{Rule, matches, one_byte, ◌then◌, opt, one_or_more}
use Rattle.numbers.specs.Digits.{is_digit, is_sign, signs, value}
use Rattle.numbers.specs.Twos.{in_range, twos}
use Rattle.std.specs.Prelude.{None, Option, Some}

-- Integer ::= Sign? Digit+
abbrev pub integer_rule : Rule
integer_rule = opt (one_byte is_sign) then one_or_more is_digit

-- what a text of that form says
abbrev pub magnitude : List ℕ → ℕ
magnitude s = value 0 (drop (signs s) s)

abbrev pub integer_of : List ℕ → ℤ
integer_of s = cond (eqb (get_or s 0 0) (code "-")) (neg_ℤ (pos (magnitude s))) (pos (magnitude s))

unfoldable pub i64_of : List ℕ → Option ℕ
i64_of s = cond (matches integer_rule s && in_range (integer_of s)) (Some (twos (integer_of s))) None

-- a number of at least one digit and nothing else, up to a limit
unfoldable pub up_to : ℕ → List ℕ → Option ℕ
up_to limit s = cond (matches (one_or_more is_digit) s && leb (value 0 s) limit) (Some (value 0 s)) None
