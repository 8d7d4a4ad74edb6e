-- A rule that reads digits or a sign has one way to part a text, where what follows starts with none: as far as they go.
-- Assumes nothing.
use Rattle.std.proofs.Common.{◌≡◌, ℕ, zero, suc, Bool, true, false, ◌&&◌, ◌||◌, eqb, ltb, leb, List, [], ◌∷◌, length, drop, sym, refl, ap, ◌∙◌, ⊎_elim, eqb-true}
use Prim.Native.Char.{code}
use lib.Dec.{leb-zero, leb-suc-suc, leb-suc-zero}
use Rattle.buffers.proofs.Choice.{decide, or_cases}
use Rattle.numbers.specs.Grammar.{at_end, one_byte, opt, many, one_or_more}
use Rattle.numbers.specs.Digits.{is_digit, is_sign, leading_digits, signs}

-- the test fails on a text that starts with such a byte
abbrev pub Stops : (ℕ → Bool) → (List ℕ → Bool) → Type 0
Stops t k = (b : ℕ) (r : List ℕ) → t b ≡ true → k (b ∷ r) ≡ false

pub or_none : (a : Bool) → (a || false) ≡ a
or_none true = refl
or_none false = refl

pub many_run : (k : List ℕ → Bool) → Stops is_digit k → (s : List ℕ) → many is_digit k s ≡ k (drop (leading_digits s) s)
unfolding many leading_digits
many_run k h [] = refl
many_run k h (b ∷ r) = ⊎_elim (λ d. rw (h b r d, d) (many_run k h r)) (λ d. rw d (or_none (k (b ∷ r)))) (decide (is_digit b))

positive : (n : ℕ) → ltb 0 (suc n) ≡ true
positive n = leb-suc-suc 0 n ∙ leb-zero n

pub one_or_more_run : (k : List ℕ → Bool) → Stops is_digit k → (s : List ℕ) → one_or_more is_digit k s ≡ (ltb 0 (leading_digits s) && k (drop (leading_digits s) s))
unfolding leading_digits
one_or_more_run k h [] = refl
one_or_more_run k h (b ∷ r) =
    ⊎_elim (λ d. rw d (many_run k h r ∙ sym (ap (λ (t : Bool). t && k (drop (leading_digits r) r)) (positive (leading_digits r))))) (λ d. rw d) (decide (is_digit b))

pub opt_sign : (k : List ℕ → Bool) → Stops is_sign k → (s : List ℕ) → opt (one_byte is_sign) k s ≡ k (drop (signs s) s)
opt_sign k h [] = refl
opt_sign k h (b ∷ r) = ⊎_elim (λ d. rw (h b r d, d) (or_none (k r))) (λ d. rw d) (decide (is_sign b))

-- what stops at the two signs stops at every sign
pub by_signs : (k : List ℕ → Bool) → ((r : List ℕ) → k (code "+" ∷ r) ≡ false) → ((r : List ℕ) → k (code "-" ∷ r) ≡ false) → Stops is_sign k
by_signs k p m b r d = ⊎_elim (λ e. rw (eqb-true b (code "+") e) (p r)) (λ e. rw (eqb-true b (code "-") e) (m r)) (or_cases (eqb b (code "+")) (eqb b (code "-")) d)

pub no_sign_digits : Stops is_sign (one_or_more is_digit at_end)
no_sign_digits = by_signs (one_or_more is_digit at_end) (λ _. refl) (λ _. refl)

pub at_end_is : (i : ℕ) (s : List ℕ) → at_end (drop i s) ≡ leb (length s) i
at_end_is zero [] = refl
at_end_is zero (b ∷ r) = sym (leb-suc-zero (length r))
at_end_is (suc i) [] = sym (leb-zero (suc i))
at_end_is (suc i) (b ∷ r) = at_end_is i r ∙ sym (leb-suc-suc (length r) i)
