-- Texts of the documents, read by the definitions.
-- Assumes nothing.
use Rattle.std.proofs.Common.{◌≡◌, true, false, [], ◌∷◌, map, replicate, negsuc, refl}
use Rattle.buffers.specs.Ascii.{ascii}
use Rattle.numbers.specs.Grammar.{matches, many}
use Rattle.numbers.specs.Digits.{value}
use Rattle.numbers.specs.Twos.{twos, untwos}
use Rattle.numbers.specs.Integer.{i64_of}
use Rattle.numbers.specs.Decimal.{float, has_dot, is_decimal}
use Rattle.std.specs.Prelude.{None, Some}

decimals : map is_decimal (ascii "1." ∷ ascii "1.e1" ∷ ascii "+.5" ∷ ascii "-1.5E-3" ∷ ascii ".5" ∷ []) ≡ replicate 5 true
unfolding is_decimal has_dot many
decimals = refl

no_decimals : map is_decimal
    (ascii "." ∷ ascii ".e1" ∷ ascii "1e1" ∷ ascii "inf" ∷ ascii "1.5e" ∷ ascii "1.5e+" ∷ ascii "" ∷ ascii "+." ∷ ascii "1.2.3" ∷ ascii "1_0.0" ∷ [])
    ≡ replicate 10 false
unfolding is_decimal has_dot many
no_decimals = refl

-- taken by the grammar, with a dot or not
floats : map (matches float) (ascii "inf" ∷ ascii "-Infinity" ∷ ascii "NaN" ∷ ascii "7" ∷ ascii "2.5E10" ∷ ascii "1e1" ∷ []) ≡ replicate 6 true
unfolding many
floats = refl

integers : map i64_of
    (ascii "+5"
    ∷ ascii "-0"
    ∷ ascii "-1"
    ∷ ascii "0000000000000000000000000005"
    ∷ ascii "9223372036854775807"
    ∷ ascii "-9223372036854775808"
    ∷ [])
    ≡ Some 5 ∷ Some 0 ∷ Some 18446744073709551615 ∷ Some 5 ∷ Some 9223372036854775807 ∷ Some 9223372036854775808 ∷ []
unfolding i64_of many value
integers = refl

no_integers : map i64_of
    (ascii ""
    ∷ ascii "+"
    ∷ ascii "-"
    ∷ ascii "+-5"
    ∷ ascii "5 "
    ∷ ascii "1_0"
    ∷ ascii "9223372036854775808"
    ∷ ascii "-9223372036854775809"
    ∷ ascii "99999999999999999999999999"
    ∷ []) ≡ replicate 9 None
unfolding i64_of many value
no_integers = refl

-- -1 and the least i64
minus_one : untwos (twos (negsuc 0)) ≡ negsuc 0
minus_one = refl

least : twos (negsuc 9223372036854775807) ≡ 9223372036854775808
least = refl
