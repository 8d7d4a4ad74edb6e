-- How much of a text is read: what lies behind a part is shorter than what it starts, and what a string stands for is no longer than what is
-- written.
-- Assumes nothing.
use mathlib.Core.Path.{◌≡◌, refl, ap}
use mathlib.Core.Bool.{true, false}
use mathlib.Core.List.{List, [], ◌∷◌}
use Prim.Native.Nat.{ℕ, zero, suc, ◌+◌, ◌≤◌, ◌<◌, zero-le}
use Prim.Native.Char.{code}
use native.Mathlib.Omega.{arith}
use lib.Dec.{eqb, ltb}
use lib.ListN.{length, get_or, take, drop, length-append, length-take, length-drop}
use borrow.Author.Tests.{eqb-true, eqb-false}
use Rattle.std.specs.Prelude.{None, Option, Some, IfSome, IsSome, option_map, option_and_then}
use Rattle.std.proofs.lemmas.Option.{IfSome_then}
use Rattle.buffers.specs.Ascii.{ascii}
use Rattle.buffers.proofs.Choice.{by_cond, both_arms}
use Rattle.buffers.proofs.Equal.{same_true}
use Rattle.chars.specs.Utf8.{encode}
use Rattle.chars.proofs.Reading.{byte_inside}
use Rattle.numbers.specs.Digits.{is_digit, leading_digits, signs}
use Rattle.escapes.proofs.Encoding.{encoded}
use Rattle.json_text.specs.Json.{Json, null, bool}
use Rattle.json_text.specs.Parse.{starts, begins}
use Rattle.json_text.specs.Number.{behind_digits, behind_minus, behind_int, behind_frac, starts_exp, behind_exp, number}
use Rattle.json_text.specs.Text.{Char, short, hex4, is_high, is_low, of_pair, low_half, unicode_of, unicode, escape, char, string_from, string}
use Rattle.json_text.specs.Syntax.{is_space, ws, literal_or, scalar, behind_colon, member_name}

-- ---- what holds of an answer

pub if_some : {A : Type 0} (P : A → Type 0) (o : Option A) → ((x : A) → o ≡ Some x → P x) → IfSome o P
if_some P (Some x) f = f x refl
if_some P None f = tt

module _ {A B : Type 0} where
  -- what is made of it
  pub of_map : (P : B → Type 0) (f : A → B) (o : Option A) → IfSome o (λ x. P (f x)) → IfSome (option_map f o) P
  of_map P f (Some x) h = h
  of_map P f None h = tt

  -- what is read behind it
  pub of_and_then : (P : B → Type 0) (f : A → Option B) (o : Option A) → IfSome o (λ x. IfSome (f x) P) → IfSome (option_and_then f o) P
  of_and_then P f (Some x) h = h
  of_and_then P f None h = tt

-- what has an image is there
pub of_mapped : {A B : Type 0} (f : A → B) (o : Option A) → IsSome (option_map f o) → IsSome o
of_mapped f (Some x) h = h
of_mapped f None h = h

pub of_some : {A : Type 0} (P : A → Type 0) {o : Option A} {x : A} → o ≡ Some x → IfSome o P → P x
of_some P e h = rw e at h

-- ---- white space and single bytes

pub ws_shorter : (s : List ℕ) → length (ws s) ≤ length s
unfolding ws
ws_shorter [] = zero-le
ws_shorter (b ∷ r) = both_arms (λ (t : List ℕ). length t ≤ suc (length r)) (is_space b) (omega (arith, ws_shorter r)) (omega arith)

-- a text that starts with a byte is not empty
pub starts_inside : (c : ℕ) (s : List ℕ) → 1 ≤ c → starts c s ≡ true → 1 ≤ length s
starts_inside c s h e = omega (arith, byte_inside s 0 (omega (arith, eqb-true (get_or s 0 0) c e)))

drop_shorter : (n : ℕ) (s : List ℕ) → length (drop n s) ≤ length s
drop_shorter n s = omega (arith, length-drop n s)

-- and the text behind that byte is shorter
drop_one_shorter : (s : List ℕ) → 1 ≤ length s → length (drop 1 s) < length s
drop_one_shorter s h = omega (arith, length-drop 1 s)

-- ---- numbers

pub digits_inside : (s : List ℕ) → leading_digits s ≤ length s
unfolding leading_digits
digits_inside [] = zero-le
digits_inside (b ∷ r) = both_arms (λ (n : ℕ). n ≤ suc (length r)) (is_digit b) (omega (arith, digits_inside r)) zero-le

-- an answer's text is shorter than n bytes
abbrev Below : ℕ → Option (List ℕ) → Type 0
Below n o = IfSome o (λ r. length r < n)

abbrev AtMost : ℕ → Option (List ℕ) → Type 0
AtMost n o = IfSome o (λ r. length r ≤ n)

digits_shorter : (s : List ℕ) → Below (length s) (behind_digits s)
digits_shorter s =
    by_cond (Below (length s)) (eqb (leading_digits s) 0) _ _ (λ _. tt) (λ e.
    let n : leading_digits s ≡ 0 → ⊥ = eqb-false (leading_digits s) 0 e in
    omega (arith, digits_inside s, length-drop (leading_digits s) s))

digits_at_most : (m : ℕ) (s : List ℕ) → length s ≤ m → AtMost m (behind_digits s)
digits_at_most m s h = IfSome_then (behind_digits s) (digits_shorter s) (λ r l. omega arith)

minus_shorter : (s : List ℕ) → length (behind_minus s) ≤ length s
minus_shorter s = both_arms (λ (t : List ℕ). length t ≤ length s) (starts (code "-") s) (drop_shorter 1 s) (omega arith)

int_shorter : (s : List ℕ) → Below (length s) (behind_int s)
int_shorter s =
    by_cond (Below (length s)) (starts (code "0") s) _ _ (λ e. drop_one_shorter s (starts_inside (code "0") s (omega arith) e)) (λ _. digits_shorter s)

frac_shorter : (s : List ℕ) → AtMost (length s) (behind_frac s)
frac_shorter s = both_arms (AtMost (length s)) (starts (code ".") s) (digits_at_most (length s) (drop 1 s) (drop_shorter 1 s)) (omega arith)

exp_shorter : (s : List ℕ) → AtMost (length s) (behind_exp s)
exp_shorter s =
    let t = drop 1 s in
    both_arms (AtMost (length s)) (starts_exp s)
    (digits_at_most (length s) (drop (signs t) t) (omega (arith, drop_shorter (signs t) t, drop_shorter 1 s))) (omega arith)

number_below : (s : List ℕ) → Below (length s) (number s)
unfolding number
number_below s =
    of_and_then _ _ (behind_int (behind_minus s)) (IfSome_then (behind_int (behind_minus s)) (int_shorter (behind_minus s)) (λ r l.
    of_and_then _ behind_exp (behind_frac r) (IfSome_then (behind_frac r) (frac_shorter r) (λ t m.
    IfSome_then (behind_exp t) (exp_shorter t) (λ u k. omega (arith, minus_shorter s))))))

pub number_shorter : (s r : List ℕ) → number s ≡ Some r → length r < length s
number_shorter s r e = of_some (λ (r : List ℕ). length r < length s) e (number_below s)

-- ---- strings

-- a char stands for no more bytes than it takes
abbrev Short : Option Char → Type 0
Short o = IfSome o (λ c. length c.text ≤ suc c.more)

unicode_short : (s : List ℕ) → Short (unicode s)
unfolding unicode
unicode_short s = of_and_then _ (unicode_of s) (hex4 s) (if_some _ (hex4 s) (λ v _. by_surrogate v))
  where
    few : (v n : ℕ) → 4 ≤ n → length (encode v) ≤ n
    few v n h = omega (arith, (encoded v).few)

    by_surrogate : (v : ℕ) → Short (unicode_of s v)
    by_surrogate v =
        both_arms Short (is_high v)
        (of_map _ _ (low_half (drop 4 s)) (if_some _ (low_half (drop 4 s)) (λ w _. few (of_pair v w) 12 (omega arith))))
        (both_arms Short (is_low v) tt (few v 6 (omega arith)))

char_short : (b : ℕ) (r : List ℕ) → Short (char b r)
unfolding char escape
char_short b r =
    both_arms Short (eqb b (code "\\"))
    (both_arms Short (starts (code "u") r) (unicode_short (drop 1 r)) (of_map _ _ (short (get_or r 0 0)) (if_some _ (short (get_or r 0 0)) (λ c _. omega arith))))
    (both_arms Short (ltb b 0x20) tt (omega arith))

-- behind the first k of n bytes: what the string stands for, its last quotation mark, and the rest
abbrev Fits : ℕ → ℕ → Option (List ℕ × List ℕ) → Type 0
Fits k n o = IfSome o (λ p. length p.0 + suc (length p.1) + k ≤ n)

string_fits : (k : ℕ) (s : List ℕ) → Fits k (length s) (string_from k s)
unfolding string_from
string_fits k [] = tt
string_fits (suc k) (b ∷ r) = IfSome_then (string_from k r) (string_fits k r) (λ p h. omega arith)
string_fits zero (b ∷ r) =
    both_arms (Fits zero (suc (length r))) (eqb b (code "\"")) (omega arith)
    (of_and_then _ _ (char b r) (IfSome_then (char b r) (char_short b r) (λ c h.
    of_map _ _ (string_from c.more r) (IfSome_then (string_from c.more r) (string_fits c.more r) (λ p l. omega (arith, length-append c.text p.0))))))

pub string_shorter : (s : List ℕ) (p : List ℕ × List ℕ) → string s ≡ Some p → length p.0 + suc (length p.1) ≤ length s
string_shorter s p e = of_some (λ (p : List ℕ × List ℕ). length p.0 + suc (length p.1) ≤ length s) e (IfSome_then (string s) (string_fits 0 s) (λ p h. omega arith))

-- ---- values that are no array and no object, and members' names

begins_inside : (w s : List ℕ) → begins w s ≡ true → length w ≤ length s
begins_inside w s e = omega (arith, ap length (same_true (take (length w) s) w e), length-take (length w) s)

abbrev Leaves : ℕ → Option (Json × List ℕ) → Type 0
Leaves n o = IfSome o (λ p. length p.1 < n)

literal_below : (w : List ℕ) (j : Json) (s : List ℕ) (other : Option (Json × List ℕ)) → 1 ≤ length w → Leaves (length s) other → Leaves (length s) (literal_or w j s other)
literal_below w j s other h l =
    by_cond (Leaves (length s)) (begins w s) _ _ (λ e. omega (arith, begins_inside w s e, length-drop (length w) s)) (λ _. l)

scalar_below : (s : List ℕ) → Leaves (length s) (scalar s)
unfolding scalar
scalar_below s =
    by_cond (Leaves (length s)) (starts (code "\"") s) _ _ (λ e.
    of_map _ _ (string (drop 1 s)) (IfSome_then (string (drop 1 s)) (string_fits 0 (drop 1 s)) (λ p h. omega (arith, length-drop 1 s)))) (λ _.
    literal_below (ascii "null") null s _ (omega arith)
    (literal_below (ascii "true") (bool true) s _ (omega arith)
    (literal_below (ascii "false") (bool false) s _ (omega arith)
    (of_map _ _ (number s) (number_below s)))))

pub scalar_shorter : (s : List ℕ) (p : Json × List ℕ) → scalar s ≡ Some p → length p.1 < length s
scalar_shorter s p e = of_some (λ (p : Json × List ℕ). length p.1 < length s) e (scalar_below s)

colon_shorter : (s : List ℕ) → AtMost (length s) (behind_colon s)
colon_shorter s =
    both_arms (AtMost (length s)) (starts (code ":") (ws s))
    (omega (arith, ws_shorter (drop 1 (ws s)), drop_shorter 1 (ws s), ws_shorter s)) tt

member_fits : (s : List ℕ) → Fits 0 (length s) (member_name s)
unfolding member_name
member_fits s =
    both_arms (Fits 0 (length s)) (starts (code "\"") s)
    (of_and_then _ _ (string (drop 1 s)) (IfSome_then (string (drop 1 s)) (string_fits 0 (drop 1 s)) (λ p h.
    of_map _ _ (behind_colon p.1) (IfSome_then (behind_colon p.1) (colon_shorter p.1) (λ t l. omega (arith, drop_shorter 1 s))))))
    tt

pub member_shorter : (s : List ℕ) (p : List ℕ × List ℕ) → member_name s ≡ Some p → length p.0 + suc (length p.1) ≤ length s
member_shorter s p e = of_some (λ (p : List ℕ × List ℕ). length p.0 + suc (length p.1) ≤ length s) e (IfSome_then (member_name s) (member_fits s) (λ p h. omega arith))
