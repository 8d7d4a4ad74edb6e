-- Where a decimal's dot stands, and what must stand around it; texts that the grammar takes without a dot are no decimals.
-- Assumes nothing.
use Rattle.std.proofs.Common.{◌≡◌, ℕ, ◌+◌, ◌-◌, ◌<◌, ◌≤◌, Bool, true, false, ◌&&◌, ◌||◌, ltb, ◌⊎◌, List, [], ◌∷◌, length, get_or, drop, sym, refl, ap, ◌∙◌, inl, inr, ⊎_elim, add-zero, arith, get_or-drop, drop-drop, ltb-false, le-ltb, lt-ltb, ne_eqb}
use Prim.Native.Char.{code}
use lib.ListN.{get_or-eq_default}
use Rattle.buffers.specs.Ascii.{ascii}
use Rattle.buffers.proofs.Choice.{decide, and_false}
use Rattle.numbers.specs.Grammar.{at_end, matches, ◌then◌, ◌or◌, opt, many, one_or_more}
use Rattle.numbers.specs.Digits.{is_digit, is_sign, leading_digits, signs}
use Rattle.numbers.specs.Decimal.{is_letter, letter, dot, word, exponent, number, float, has_dot, is_decimal}
use Rattle.numbers.proofs.Scans.{byte_and_rest, digit_least, digit_most}
use Rattle.numbers.proofs.Dotless.{Dotless, end_dotless, not_dot, one_dotless, many_dotless, or_dotless, dotless_fails}
use Rattle.numbers.proofs.ExponentLaws.{tail, digit_stops_tail, tail_dotless}
use Rattle.numbers.proofs.GrammarLaws.{Stops, many_run, one_or_more_run, opt_sign, by_signs, or_none}

digit_stops_dot : (k : List ℕ → Bool) → Stops is_digit (dot k)
digit_stops_dot k b r d = let l : code "0" ≤ b = digit_least b d in rw (ne_eqb b (code ".") (λ e. omega arith))

-- what follows a sign
abbrev body : List ℕ → Bool
body = (word (ascii "inf") or word (ascii "infinity") or word (ascii "nan") or number) at_end

-- the same without the forms that have a dot
abbrev plain : List ℕ → Bool
plain = (word (ascii "inf") or word (ascii "infinity") or word (ascii "nan") or (one_or_more is_digit then opt exponent)) at_end

letter_dotless : (c : ℕ) (k : List ℕ → Bool) → is_letter c (code ".") ≡ false → Dotless k → Dotless (letter c k)
letter_dotless c k f h = one_dotless (is_letter c) f k h

-- no letter of w is a dot
abbrev Letters : List ℕ → Type 0
Letters [] = Unit {0}
Letters (c ∷ w) = (is_letter c (code ".") ≡ false) × Letters w

word_dotless : (w : List ℕ) → Letters w → Dotless (word w at_end)
word_dotless [] h = end_dotless
word_dotless (c ∷ w) h = letter_dotless c (word w at_end) h.0 (word_dotless w h.1)

plain_dotless : Dotless plain
plain_dotless =
    or_dotless _ _ (word_dotless (ascii "inf") (refl, (refl, (refl, tt))))
    (or_dotless _ _ (word_dotless (ascii "infinity") (refl, (refl, (refl, (refl, (refl, (refl, (refl, (refl, tt)))))))))
    (or_dotless _ _ (word_dotless (ascii "nan") (refl, (refl, (refl, tt))))
    (one_dotless is_digit refl (many is_digit tail) (many_dotless is_digit refl tail tail_dotless))))

-- a sign and digits have no dot
dot_unsigned : (s : List ℕ) → has_dot s ≡ has_dot (drop (signs s) s)
unfolding has_dot
dot_unsigned [] = refl
dot_unsigned (b ∷ r) = ⊎_elim (λ d. rw (not_dot is_sign refl b d, d)) (λ d. rw d) (decide (is_sign b))

dot_run : (s : List ℕ) → has_dot s ≡ has_dot (drop (leading_digits s) s)
unfolding has_dot leading_digits
dot_run [] = refl
dot_run (b ∷ r) = ⊎_elim (λ d. rw (not_dot is_digit refl b d, d) (dot_run r)) (λ d. rw d) (decide (is_digit b))

decimal_unsigned : (s : List ℕ) → is_decimal s ≡ (has_dot (drop (signs s) s) && body (drop (signs s) s))
unfolding is_decimal many
decimal_unsigned s =
    let f : matches float s ≡ body (drop (signs s) s) = opt_sign body (by_signs body (λ _. refl) (λ _. refl)) s in
    rw (dot_unsigned s, f)

number_parted : (t : List ℕ)
    → number at_end t
    ≡ ((ltb 0 (leading_digits t) && tail (drop (leading_digits t) t)) || ((ltb 0 (leading_digits t) && dot (many is_digit tail) (drop (leading_digits t) t)) || dot (one_or_more is_digit tail) (drop (leading_digits t) t)))
number_parted t =
    let p = one_or_more_run tail digit_stops_tail t in
    let q = one_or_more_run (dot (many is_digit tail)) (digit_stops_dot (many is_digit tail)) t in
    let r = many_run (dot (one_or_more is_digit tail)) (digit_stops_dot (one_or_more is_digit tail)) t in
    cc

-- no dot behind the digits: no decimal
no_dot : (k : List ℕ → Bool) (s : List ℕ) → (get_or s 0 0 ≡ code "." → ⊥) → dot k s ≡ false
no_dot k [] h = refl
no_dot k (b ∷ r) h = rw (ne_eqb b (code ".") h)

plain_fails : (t : List ℕ) → (get_or (drop (leading_digits t) t) 0 0 ≡ code "." → ⊥) → (has_dot t && body t) ≡ false
plain_fails t h =
    rw (number_parted t, no_dot (many is_digit tail) (drop (leading_digits t) t) h, no_dot (one_or_more is_digit tail) (drop (leading_digits t) t) h, and_false (ltb 0 (leading_digits t)), or_none (ltb 0 (leading_digits t) && tail (drop (leading_digits t) t)), ← one_or_more_run tail digit_stops_tail t)
    (dotless_fails plain plain_dotless t)

-- a dot behind the digits: no letter stands first, and one side of the dot has a digit
first_low : (t v : List ℕ) → drop (leading_digits t) t ≡ code "." ∷ v → get_or t 0 0 ≤ code "9"
unfolding leading_digits
first_low [] v e = omega arith
first_low (b ∷ r) v e = ⊎_elim (digit_most b) (λ d. omega (arith, ap (λ (l : List ℕ). get_or l 0 0) (rw d at e))) (decide (is_digit b))

letter_high : (c : ℕ) (k : List ℕ → Bool) (t : List ℕ) → 90 ≤ c → get_or t 0 0 ≤ code "9" → letter c k t ≡ false
letter_high c k [] h l = refl
letter_high c k (b ∷ r) h l = rw (ne_eqb b c (λ e. omega arith), ne_eqb b (c - 32) (λ e. omega arith))

sides : (x y a : Bool) → ((x && false) || ((x && a) || (y && a))) ≡ ((x || y) && a)
sides true true true = refl
sides true true false = refl
sides true false true = refl
sides true false false = refl
sides false y a = refl

dotted : (t v : List ℕ) → drop (leading_digits t) t ≡ code "." ∷ v → (has_dot t && body t) ≡ ((ltb 0 (leading_digits t) || ltb 0 (leading_digits v)) && tail (drop (leading_digits v) v))
unfolding has_dot
dotted t v e =
    let l : get_or t 0 0 ≤ code "9" = first_low t v e in
    let i : word (ascii "inf") at_end t ≡ false = letter_high (code "i") _ t (omega arith) l in
    let j : word (ascii "infinity") at_end t ≡ false = letter_high (code "i") _ t (omega arith) l in
    let n : word (ascii "nan") at_end t ≡ false = letter_high (code "n") _ t (omega arith) l in
    rw (i, j, n, dot_run t, number_parted t, e, many_run tail digit_stops_tail v, one_or_more_run tail digit_stops_tail v)
    (sides (ltb 0 (leading_digits t)) (ltb 0 (leading_digits v)) (tail (drop (leading_digits v) v)))

-- by the places at which the code reads: behind the sign, at the dot, behind the digits that follow it
module _ (s : List ℕ) (start at : ℕ) (signed : start ≡ signs s) (here : at ≡ start + leading_digits (drop start s)) where
  at_dot : drop (leading_digits (drop start s)) (drop start s) ≡ drop at s
  at_dot = drop-drop (leading_digits (drop start s)) start s ∙ ap (λ (n : ℕ). drop n s) (sym here)

  from_start : is_decimal s ≡ (has_dot (drop start s) && body (drop start s))
  from_start = decimal_unsigned s ∙ ap (λ (n : ℕ). has_dot (drop n s) && body (drop n s)) (sym signed)

  pub decimal_without_dot : (get_or s at 0 ≡ code "." → ⊥) → is_decimal s ≡ false
  decimal_without_dot h = from_start ∙ plain_fails (drop start s) (λ e. h (sym first ∙ e))
    where
      first : get_or (drop (leading_digits (drop start s)) (drop start s)) 0 0 ≡ get_or s at 0
      first = ap (λ (l : List ℕ). get_or l 0 0) at_dot ∙ get_or-drop at s 0 0 ∙ ap (λ (n : ℕ). get_or s n 0) (add-zero at)

  pub decimal_too_short : length s ≤ at → is_decimal s ≡ false
  decimal_too_short h = decimal_without_dot (λ e. omega (arith, get_or-eq_default s 0 h))

  module _ (end : ℕ) (inside : at < length s) (isDot : get_or s at 0 ≡ code ".") (ends : end ≡ at + 1 + leading_digits (drop (at + 1) s)) where
    by_sides : is_decimal s ≡ ((ltb 0 (leading_digits (drop start s)) || ltb 0 (leading_digits (drop (at + 1) s))) && tail (drop end s))
    by_sides =
        from_start
        ∙ dotted (drop start s) (drop (at + 1) s) (at_dot ∙ byte_and_rest s at inside ∙ ap (λ (b : ℕ). b ∷ drop (at + 1) s) isDot)
        ∙ ap (λ (l : List ℕ). (ltb 0 (leading_digits (drop start s)) || ltb 0 (leading_digits (drop (at + 1) s))) && tail l) (drop-drop (leading_digits (drop (at + 1) s)) (at + 1) s ∙ ap (λ (n : ℕ). drop n s) (sym ends))

    pub decimal_dot_alone : end ≡ start + 1 → is_decimal s ≡ false
    decimal_dot_alone h = by_sides ∙ rw (le-ltb 0 (leading_digits (drop start s)) (omega arith), le-ltb 0 (leading_digits (drop (at + 1) s)) (omega arith))

    pub decimal_behind_digits : (end ≡ start + 1 → ⊥) → is_decimal s ≡ tail (drop end s)
    decimal_behind_digits h = by_sides ∙ ap (λ (t : Bool). t && tail (drop end s)) (some_side (decide (ltb 0 (leading_digits (drop start s)))))
      where
        some_side : (ltb 0 (leading_digits (drop start s)) ≡ true) ⊎ (ltb 0 (leading_digits (drop start s)) ≡ false) → (ltb 0 (leading_digits (drop start s)) || ltb 0 (leading_digits (drop (at + 1) s))) ≡ true
        some_side (inl e) = rw e
        some_side (inr e) = rw e (positive_after (ltb-false 0 (leading_digits (drop start s)) e))
          where
            positive_after : leading_digits (drop start s) ≤ 0 → ltb 0 (leading_digits (drop (at + 1) s)) ≡ true
            positive_after l = lt-ltb 0 (leading_digits (drop (at + 1) s)) (omega arith)
