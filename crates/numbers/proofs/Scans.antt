-- A run of digits and a sign at a place of a text, as the code scans them.
-- Assumes nothing.
use Rattle.std.proofs.Common.{◌≡◌, ℕ, ◌+◌, ◌<◌, ◌≤◌, true, false, leb, List, ◌∷◌, length, get_or, drop, sym, add-one, drop_of_length-le, drop-cons, leb-true}
use Prim.Native.Char.{code}
use Rattle.buffers.proofs.Choice.{and_left, and_right}
use Rattle.numbers.specs.Digits.{is_digit, leading_digits, signs}

-- the byte at a place and what follows it
pub byte_and_rest : (s : List ℕ) (i : ℕ) → i < length s → drop i s ≡ get_or s i 0 ∷ drop (i + 1) s
byte_and_rest s i h = rw add-one (drop-cons s i 0 h)

module _ (s : List ℕ) (i : ℕ) where
  pub run_on : i < length s → is_digit (get_or s i 0) ≡ true → leading_digits (drop i s) ≡ leading_digits (drop (i + 1) s) + 1
  unfolding leading_digits
  run_on h d = rw (byte_and_rest s i h, d) (sym (add-one (leading_digits (drop (i + 1) s))))

  pub run_off : i < length s → is_digit (get_or s i 0) ≡ false → leading_digits (drop i s) ≡ 0
  unfolding leading_digits
  run_off h d = rw (byte_and_rest s i h, d)

  pub run_end : length s ≤ i → leading_digits (drop i s) ≡ 0
  unfolding leading_digits
  run_end h = rw (drop_of_length-le s h)

  pub sign_end : length s ≤ i → signs (drop i s) ≡ 0
  sign_end h = rw (drop_of_length-le s h)

pub digit_least : (b : ℕ) → is_digit b ≡ true → code "0" ≤ b
digit_least b d = leb-true (code "0") b (and_left (leb (code "0") b) (leb b (code "9")) d)

pub digit_most : (b : ℕ) → is_digit b ≡ true → b ≤ code "9"
digit_most b d = leb-true b (code "9") (and_right (leb (code "0") b) (leb b (code "9")) d)
