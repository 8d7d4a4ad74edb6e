-- Where a value that is no array and no object ends, by its first byte; and where a member's name ends.
-- Assumes nothing.
use mathlib.Core.Path.{◌≡◌, refl, ap, ◌∙◌}
use mathlib.Core.Bool.{Bool, true, false, cond}
use mathlib.Core.List.{List, [], ◌∷◌}
use Prim.Native.Nat.{ℕ, ◌<◌}
use Prim.Native.Char.{code}
use native.Mathlib.Omega.{arith}
use lib.Dec.{leb}
use lib.ListN.{length, get_or, take, drop, length-take}
use borrow.Author.Tests.{ne_eqb, lt-leb}
use Rattle.std.specs.Prelude.{None, Option, Some, option_map, option_and_then}
use Rattle.buffers.specs.Ascii.{ascii}
use Rattle.buffers.specs.Same.{same}
use Rattle.buffers.proofs.Choice.{and_false}
use Rattle.buffers.proofs.Equal.{same_lengths}
use Rattle.numbers.specs.Digits.{leading_digits}
use Rattle.json_text.specs.Json.{Json, null, bool, number as number_json, string as string_json}
use Rattle.json_text.specs.Parse.{made, then_read, begins}
use Rattle.json_text.specs.Number.{number}
use Rattle.json_text.specs.Text.{string}
use Rattle.json_text.specs.Syntax.{number_text, literal_or, scalar, behind_colon, member_name}
use Rattle.json_text.specs.Post.{behind, behind_word, member_texts}

-- ---- what is made of what is read ends where that ends

behind_made : {A B : Type 0} (f : A → B) (o : Option (A × List ℕ)) → behind (made f o) ≡ behind o
behind_made f (Some p) = refl
behind_made f None = refl

behind_number : (s : List ℕ) (o : Option (List ℕ)) → behind (option_map (λ rest. (number_json (number_text s rest), rest)) o) ≡ o
behind_number s (Some r) = refl
behind_number s None = refl

behind_literal : (w : List ℕ) (j : Json) (s : List ℕ) → behind (literal_or w j s None) ≡ behind_word w s
behind_literal w j s = go (begins w s)
  where
    go : (t : Bool) → behind (cond t (Some (j, drop (length w) s)) None) ≡ cond t (Some (drop (length w) s)) None
    go true = refl
    go false = refl

-- ---- what a first byte rules out

pub begins_other : (a : ℕ) (w s : List ℕ) → (get_or s 0 0 ≡ a → ⊥) → begins (a ∷ w) s ≡ false
unfolding same
begins_other a w [] n = refl
begins_other a w (b ∷ r) n = rw (ne_eqb b a n)

pub begins_short : (w s : List ℕ) → length s < length w → begins w s ≡ false
begins_short w s h = same_lengths (take (length w) s) w (λ e. omega (arith, length-take (length w) s))

-- what begins with a letter is no number
pub number_letter : (s : List ℕ) → code "9" < get_or s 0 0 → number s ≡ None
unfolding number leading_digits
number_letter [] h = absurd (omega arith)
number_letter (b ∷ r) h =
    let m : b ≡ code "-" → ⊥ = λ e. omega arith in
    let z : b ≡ code "0" → ⊥ = λ e. omega arith in
    rw (ne_eqb b (code "-") m, ne_eqb b (code "0") z, lt-leb b (code "9") h, and_false (leb (code "0") b))

-- ---- by the first byte

module _ (s : List ℕ) where
  pub scalar_string : get_or s 0 0 ≡ code "\"" → behind (scalar s) ≡ behind (string (drop 1 s))
  unfolding scalar
  scalar_string e = rw e (behind_made string_json (string (drop 1 s)))

  pub scalar_null : get_or s 0 0 ≡ code "n" → behind (scalar s) ≡ behind_word (ascii "null") s
  unfolding scalar
  scalar_null e =
      let q : get_or s 0 0 ≡ code "\"" → ⊥ = omega arith in
      rw (ne_eqb (get_or s 0 0) (code "\"") q, begins_other (code "t") (ascii "rue") s (omega arith), begins_other (code "f") (ascii "alse") s (omega arith), number_letter s (omega arith))
      (behind_literal (ascii "null") null s)

  pub scalar_true : get_or s 0 0 ≡ code "t" → behind (scalar s) ≡ behind_word (ascii "true") s
  unfolding scalar
  scalar_true e =
      let q : get_or s 0 0 ≡ code "\"" → ⊥ = omega arith in
      rw (ne_eqb (get_or s 0 0) (code "\"") q, begins_other (code "n") (ascii "ull") s (omega arith), begins_other (code "f") (ascii "alse") s (omega arith), number_letter s (omega arith))
      (behind_literal (ascii "true") (bool true) s)

  pub scalar_false : get_or s 0 0 ≡ code "f" → behind (scalar s) ≡ behind_word (ascii "false") s
  unfolding scalar
  scalar_false e =
      let q : get_or s 0 0 ≡ code "\"" → ⊥ = omega arith in
      rw (ne_eqb (get_or s 0 0) (code "\"") q, begins_other (code "n") (ascii "ull") s (omega arith), begins_other (code "t") (ascii "rue") s (omega arith), number_letter s (omega arith))
      (behind_literal (ascii "false") (bool false) s)

  pub scalar_number : (get_or s 0 0 ≡ code "\"" → ⊥) → (get_or s 0 0 ≡ code "n" → ⊥) → (get_or s 0 0 ≡ code "t" → ⊥) → (get_or s 0 0 ≡ code "f" → ⊥)
      → behind (scalar s) ≡ number s
  unfolding scalar
  scalar_number q n t f =
      rw (ne_eqb (get_or s 0 0) (code "\"") q, begins_other (code "n") (ascii "ull") s n, begins_other (code "t") (ascii "rue") s t, begins_other (code "f") (ascii "alse") s f)
      (behind_number s (number s))

pub scalar_nothing : (s : List ℕ) → length s ≡ 0 → behind (scalar s) ≡ None
unfolding scalar number leading_digits same
scalar_nothing [] h = refl
scalar_nothing (b ∷ r) h = absurd (omega arith)

-- ---- a member's name, n behind its first quotation mark

abbrev pub with_name : List ℕ → Option (List ℕ) → Option (List ℕ × List ℕ)
with_name n o = option_map (λ t. (n, t)) o

-- with the name as it is written
abbrev as_written : List ℕ → Option (List ℕ × List ℕ) → Option (List ℕ × List ℕ)
as_written n o = option_map (λ p. (n, p.1)) o

module _ (s n : List ℕ) (name : n ≡ drop 1 s) (q : get_or s 0 0 ≡ code "\"") where
  by_name : (o : Option (List ℕ)) → behind (string n) ≡ o → member_texts s (member_name s) ≡ with_name n (option_and_then behind_colon o)
  unfolding member_name
  by_name o e = rw (q, ← name) (by_string (string n) e)
    where
      named : (x : List ℕ) (m : Option (List ℕ)) → as_written n (with_name x m) ≡ with_name n m
      named x (Some t) = refl
      named x None = refl

      by_string : (r : Option (List ℕ × List ℕ)) → behind r ≡ o → as_written n (then_read r (λ x t. with_name x (behind_colon t))) ≡ with_name n (option_and_then behind_colon o)
      by_string (Some p) e = named p.0 (behind_colon p.1) ∙ ap (λ (o : Option (List ℕ)). with_name n (option_and_then behind_colon o)) e
      by_string None e = ap (λ (o : Option (List ℕ)). with_name n (option_and_then behind_colon o)) e

  pub member_no_name : behind (string n) ≡ None → member_texts s (member_name s) ≡ None
  member_no_name e = by_name None e

  pub member_value : (r : List ℕ) → behind (string n) ≡ Some r → {o : Option (List ℕ)} → behind_colon r ≡ o → member_texts s (member_name s) ≡ with_name n o
  member_value r e f = by_name (Some r) e ∙ ap (with_name n) f
