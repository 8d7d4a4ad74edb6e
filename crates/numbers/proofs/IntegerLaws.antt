-- What the code's tests say of an integer's text; an integer is an i64 in a pack's form.
-- Assumes nothing.
use Rattle.std.proofs.Common.{◌≡◌, ℕ, zero, suc, ◌+◌, ◌-◌, ◌*◌, ◌%◌, ◌^◌, ◌<◌, ◌≤◌, Bool, true, false, cond, ◌&&◌, leb, List, [], ◌∷◌, length, get_or, drop, pos, neg_ℤ, sym, refl, ap, ◌∙◌, arith, drop_of_length-le, ne_eqb, le-leb, leb-true}
use Prim.Native.Char.{code}
use lib.Dec.{leb-suc-suc}
use borrow.Author.Tests.{lt-leb}
use Rattle.numbers.specs.Grammar.{at_end, matches, many, one_or_more}
use Rattle.numbers.specs.Digits.{is_digit, signs, value}
use Rattle.numbers.specs.Twos.{in_range, twos, untwos}
use Rattle.numbers.specs.Integer.{integer_rule, integer_of, i64_of, up_to}
use Rattle.buffers.proofs.Choice.{and_false}
use Rattle.numbers.proofs.Scans.{byte_and_rest}
use Rattle.numbers.proofs.GrammarLaws.{opt_sign, no_sign_digits}
use Rattle.numbers.proofs.TwosLaws.{twos_bound, untwos_twos, twos_negated}
use Rattle.std.specs.Prelude.{None, Option, Some}

-- what is left to read of a number, behind digits that say n
unfoldable pub up_to_from : ℕ → ℕ → List ℕ → Option ℕ
up_to_from limit n s = cond (many is_digit at_end s && leb (value n s) limit) (Some (value n s)) None

value_grows : (n : ℕ) (s : List ℕ) → n ≤ value n s
unfolding value
value_grows n [] = omega arith
value_grows n (b ∷ r) = omega (arith, value_grows (n * 10 + (b - code "0")) r)

module _ (limit : ℕ) (s : List ℕ) (i : ℕ) where
  pub up_to_none : length s ≤ i → None ≡ up_to limit (drop i s)
  unfolding up_to
  up_to_none h = rw (drop_of_length-le s h)

  pub up_to_start : i < length s → up_to limit (drop i s) ≡ up_to_from limit 0 (drop i s)
  unfolding up_to up_to_from many
  up_to_start h = rw (byte_and_rest s i h)

  pub up_to_on : (n : ℕ) → i < length s → is_digit (get_or s i 0) ≡ true
      → up_to_from limit n (drop i s) ≡ up_to_from limit (n * 10 + (get_or s i 0 - code "0")) (drop (i + 1) s)
  unfolding up_to_from many value
  up_to_on n h d = rw (byte_and_rest s i h, d)

  pub up_to_off : (n : ℕ) → i < length s → is_digit (get_or s i 0) ≡ false → up_to_from limit n (drop i s) ≡ None
  unfolding up_to_from many
  up_to_off n h d = rw (byte_and_rest s i h, d)

  pub up_to_past : (n : ℕ) → limit < n * 10 → i < length s → up_to_from limit n (drop i s) ≡ None
  unfolding up_to_from value
  up_to_past n l h =
      let g : limit < value n (get_or s i 0 ∷ drop (i + 1) s) = omega (arith, value_grows (n * 10 + (get_or s i 0 - code "0")) (drop (i + 1) s)) in
      rw (byte_and_rest s i h, lt-leb _ _ g, and_false (many is_digit at_end (get_or s i 0 ∷ drop (i + 1) s)))

  pub up_to_large : (n : ℕ) → length s ≤ i → limit < n → up_to_from limit n (drop i s) ≡ None
  unfolding up_to_from many value
  up_to_large n h l = rw (drop_of_length-le s h, lt-leb n limit l)

  pub up_to_is : (n : ℕ) → length s ≤ i → n ≤ limit → up_to_from limit n (drop i s) ≡ Some n
  unfolding up_to_from many value
  up_to_is n h l = rw (drop_of_length-le s h, le-leb n limit l)

-- an integer's text is digits behind its sign
pub integer_digits : (s : List ℕ) → matches integer_rule s ≡ matches (one_or_more is_digit) (drop (signs s) s)
integer_digits = opt_sign (one_or_more is_digit at_end) no_sign_digits

pub i64_empty : (s : List ℕ) → length s ≡ 0 → None ≡ i64_of s
unfolding i64_of
i64_empty [] h = refl
i64_empty (b ∷ r) h = absurd (omega arith)

-- without a minus: digits up to 2^63 - 1
pub i64_plain : (s : List ℕ) → (get_or s 0 0 ≡ code "-" → ⊥) → i64_of s ≡ up_to 9223372036854775807 (drop (signs s) s)
unfolding i64_of up_to
i64_plain s h = rw (integer_digits s, ne_eqb (get_or s 0 0) (code "-") h, leb-suc-suc (value 0 (drop (signs s) s)) 9223372036854775807)

abbrev negated : Option ℕ → Option ℕ
negated (Some n) = Some (twos (neg_ℤ (pos n)))
negated None = None

negated_cond : (t : Bool) (n : ℕ) → cond (t && in_range (neg_ℤ (pos n))) (Some (twos (neg_ℤ (pos n)))) None ≡ negated (cond (t && leb n (2 ^ 63)) (Some n) None)
negated_cond false n = refl
negated_cond true zero = refl
negated_cond true (suc m) = go (leb (suc m) (2 ^ 63))
  where
    go : (x : Bool) → cond x (Some (twos (neg_ℤ (pos (suc m))))) None ≡ negated (cond x (Some (suc m)) None)
    go true = refl
    go false = refl

i64_minus : (s : List ℕ) → 0 < length s → get_or s 0 0 ≡ code "-" → i64_of s ≡ negated (up_to (2 ^ 63) (drop 1 s))
unfolding i64_of up_to
i64_minus [] h e = absurd (omega arith)
i64_minus (b ∷ r) h e = rw (integer_digits (b ∷ r), e) (negated_cond (one_or_more is_digit at_end r) (value 0 r))

up_to_bound : (limit : ℕ) (s : List ℕ) (n : ℕ) → up_to limit s ≡ Some n → n ≤ limit
unfolding up_to
up_to_bound limit s n e = go (matches (one_or_more is_digit) s) (leb (value 0 s) limit) refl e
  where
    go : (t x : Bool) → leb (value 0 s) limit ≡ x → cond (t && x) (Some (value 0 s)) None ≡ Some n → n ≤ limit
    go true true l e = let v : value 0 s ≡ n = cc in omega (arith, leb-true (value 0 s) limit l)
    go true false l e = let z : ◌≡◌ {A = ℕ} 0 1 = cc in omega arith
    go false x l e = let z : ◌≡◌ {A = ℕ} 0 1 = cc in omega arith

-- behind a minus: digits up to 2^63, taken from 2^64
pub i64_minus_none : (s : List ℕ) → 0 < length s → get_or s 0 0 ≡ code "-" → up_to (2 ^ 63) (drop 1 s) ≡ None → None ≡ i64_of s
i64_minus_none s h e u = sym (i64_minus s h e ∙ ap negated u)

pub i64_minus_is : (s : List ℕ) (n m : ℕ) → 0 < length s → get_or s 0 0 ≡ code "-" → up_to (2 ^ 63) (drop 1 s) ≡ Some n → m < 2 ^ 64 → (m + n) % 2 ^ 64 ≡ 0
    → Some m ≡ i64_of s
i64_minus_is s n m h e u l w =
    sym (i64_minus s h e ∙ ap negated u ∙ ap {B = Option ℕ} (λ (x : ℕ). Some x) (twos_negated n m (up_to_bound (2 ^ 63) (drop 1 s) n u) l w))

-- a text that is an integer: what it says, which a pack holds
pub record Integral (s : List ℕ) (n : ℕ) : Type 0 where
  pub text : matches integer_rule s ≡ true
  pub range : in_range (integer_of s) ≡ true
  pub number : n ≡ twos (integer_of s)

pub integral : (s : List ℕ) (n : ℕ) → i64_of s ≡ Some n → Integral s n
unfolding i64_of
integral s n e = go (matches integer_rule s) (in_range (integer_of s)) refl refl e
  where
    go : (t x : Bool) → matches integer_rule s ≡ t → in_range (integer_of s) ≡ x → cond (t && x) (Some (twos (integer_of s))) None ≡ Some n → Integral s n
    go true true t x e = record { text = t; range = x; number = cc }
    go true false t x e = let z : ◌≡◌ {A = ℕ} 0 1 = cc in absurd (omega arith)
    go false x t _ e = let z : ◌≡◌ {A = ℕ} 0 1 = cc in absurd (omega arith)

pub i64_bound : (s : List ℕ) (n : ℕ) → i64_of s ≡ Some n → n < 2 ^ 64
i64_bound s n e = let i = integral s n e in omega (arith, i.number, twos_bound (integer_of s) i.range)

pub i64_untwos : (s : List ℕ) (n : ℕ) → i64_of s ≡ Some n → untwos n ≡ integer_of s
i64_untwos s n e = let i = integral s n e in ap untwos i.number ∙ untwos_twos (integer_of s) i.range
