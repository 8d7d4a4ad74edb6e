-- Tests that no text with a dot passes, by the operators of the grammar; an integer's text among them.
-- Assumes nothing.
use Rattle.std.proofs.Common.{◌≡◌, ℕ, Bool, true, false, ◌&&◌, ◌||◌, eqb, List, [], ◌∷◌, sym, refl, ap, ◌∙◌, ⊎_elim, true≢false, ne_eqb}
use Prim.Native.Char.{code}
use Rattle.buffers.proofs.Choice.{decide, and_left, and_right, and_false, or_cases, or_false}
use Rattle.numbers.specs.Grammar.{at_end, matches, one_byte, opt, many, one_or_more}
use Rattle.numbers.specs.Digits.{is_digit, is_sign}
use Rattle.numbers.specs.Integer.{integer_rule, i64_of}
use Rattle.numbers.specs.Decimal.{has_dot, is_decimal}
use Rattle.numbers.proofs.IntegerLaws.{integral}
use Rattle.std.specs.Prelude.{Some}

-- no text that passes has a dot
abbrev pub Dotless : (List ℕ → Bool) → Type 0
Dotless k = (s : List ℕ) → k s ≡ true → has_dot s ≡ false

pub end_dotless : Dotless at_end
unfolding has_dot
end_dotless [] e = refl
end_dotless (b ∷ r) e = absurd (true≢false (sym e))

-- a class without the dot
module _ (t : ℕ → Bool) (no : t (code ".") ≡ false) where
  pub not_dot : (b : ℕ) → t b ≡ true → eqb b (code ".") ≡ false
  not_dot b e = ne_eqb b (code ".") (λ p. true≢false (sym e ∙ ap t p ∙ no))

  pub one_dotless : (k : List ℕ → Bool) → Dotless k → Dotless (one_byte t k)
  unfolding has_dot
  one_dotless k h [] e = refl
  one_dotless k h (b ∷ r) e = or_false (eqb b (code ".")) (has_dot r) (not_dot b (and_left (t b) (k r) e)) (h r (and_right (t b) (k r) e))

  pub many_dotless : (k : List ℕ → Bool) → Dotless k → Dotless (many t k)
  unfolding many has_dot
  many_dotless k h [] e = refl
  many_dotless k h (b ∷ r) e =
      ⊎_elim (h (b ∷ r)) (λ f. or_false (eqb b (code ".")) (has_dot r) (not_dot b (and_left (t b) (many t k r) f)) (many_dotless k h r (and_right (t b) (many t k r) f)))
      (or_cases (k (b ∷ r)) (t b && many t k r) e)

pub or_dotless : (j k : List ℕ → Bool) → Dotless j → Dotless k → Dotless (λ s. j s || k s)
or_dotless j k f g s e = ⊎_elim (f s) (g s) (or_cases (j s) (k s) e)

-- so a text with a dot fails
pub dotless_fails : (k : List ℕ → Bool) → Dotless k → (s : List ℕ) → (has_dot s && k s) ≡ false
dotless_fails k h s = ⊎_elim (λ e. rw (h s e)) (λ e. rw e (and_false (has_dot s))) (decide (k s))

-- digits to the end, behind a sign or not
pub digits_dotless : Dotless (one_or_more is_digit at_end)
digits_dotless = one_dotless is_digit refl (many is_digit at_end) (many_dotless is_digit refl at_end end_dotless)

pub signed_dotless : Dotless (opt (one_byte is_sign) (one_or_more is_digit at_end))
signed_dotless = or_dotless (one_byte is_sign (one_or_more is_digit at_end)) (one_or_more is_digit at_end) (one_dotless is_sign refl (one_or_more is_digit at_end) digits_dotless) digits_dotless

-- an integer's text is no decimal
pub integer_no_decimal : (s : List ℕ) → matches integer_rule s ≡ true → is_decimal s ≡ false
unfolding is_decimal
integer_no_decimal s e = rw (signed_dotless s e)

pub i64_no_decimal : (s : List ℕ) (n : ℕ) → i64_of s ≡ Some n → is_decimal s ≡ false
i64_no_decimal s n e = integer_no_decimal s (integral s n e).text
