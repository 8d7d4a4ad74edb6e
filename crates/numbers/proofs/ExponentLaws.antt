-- What ends a number: nothing or an exponent, by the places at which the code reads it.
-- Assumes nothing.
use Rattle.std.proofs.Common.{◌≡◌, ℕ, ◌+◌, ◌<◌, ◌≤◌, Bool, true, false, ◌&&◌, ltb, leb, List, ◌∷◌, length, get_or, drop, refl, ap, ◌∙◌, arith, drop-drop, le-ltb, lt-ltb, ne_eqb}
use Prim.Native.Char.{code}
use Rattle.numbers.specs.Grammar.{at_end, matches, one_byte, opt, one_or_more}
use Rattle.numbers.specs.Digits.{is_digit, is_sign, leading_digits, signs}
use Rattle.numbers.specs.Decimal.{is_exponent_letter, exponent}
use Rattle.numbers.proofs.Scans.{byte_and_rest, digit_most}
use Rattle.numbers.proofs.Dotless.{Dotless, end_dotless, one_dotless, or_dotless, signed_dotless}
use Rattle.numbers.proofs.GrammarLaws.{Stops, one_or_more_run, opt_sign, no_sign_digits, at_end_is, or_none}

-- nothing, or an exponent, up to the end
abbrev pub tail : List ℕ → Bool
tail = matches (opt exponent)

pub digit_stops_tail : Stops is_digit tail
digit_stops_tail b r d =
    let l : b ≤ code "9" = digit_most b d in
    rw (ne_eqb b (code "e") (λ e. omega arith), ne_eqb b (code "E") (λ e. omega arith))

pub tail_dotless : Dotless tail
tail_dotless = or_dotless (exponent at_end) at_end (one_dotless _ refl _ signed_dotless) end_dotless

tail_exponent : (b : ℕ) (r : List ℕ)
    → tail (b ∷ r) ≡ (is_exponent_letter b && (ltb 0 (leading_digits (drop (signs r) r)) && at_end (drop (leading_digits (drop (signs r) r)) (drop (signs r) r))))
tail_exponent b r =
    or_none (is_exponent_letter b && opt (one_byte is_sign) (one_or_more is_digit at_end) r)
    ∙ ap (λ (t : Bool). is_exponent_letter b && t) (opt_sign (one_or_more is_digit at_end) no_sign_digits r ∙ one_or_more_run at_end (λ _ _ _. refl) (drop (signs r) r))

module _ (s : List ℕ) (from : ℕ) where
  module _ (inside : from < length s) where
    module _ (start end : ℕ) (isE : is_exponent_letter (get_or s from 0) ≡ true)
        (signed : start ≡ from + 1 + signs (drop (from + 1) s)) (ends : end ≡ start + leading_digits (drop start s)) where
      by_digits : tail (drop from s) ≡ (ltb 0 (leading_digits (drop start s)) && leb (length s) end)
      by_digits =
          ap tail (byte_and_rest s from inside)
          ∙ tail_exponent (get_or s from 0) (drop (from + 1) s)
          ∙ rw (isE, drop-drop (signs (drop (from + 1) s)) (from + 1) s, ← signed, drop-drop (leading_digits (drop start s)) start s, ← ends, at_end_is end s)

      pub tail_no_digits : end ≡ start → tail (drop from s) ≡ false
      tail_no_digits h = by_digits ∙ rw (le-ltb 0 (leading_digits (drop start s)) (omega arith))

      pub tail_digits : (end ≡ start → ⊥) → tail (drop from s) ≡ leb (length s) end
      tail_digits h =
          let p : 0 < leading_digits (drop start s) = omega arith in
          by_digits ∙ rw (lt-ltb 0 (leading_digits (drop start s)) p)
