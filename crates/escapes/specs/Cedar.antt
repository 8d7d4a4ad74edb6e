-- Cedar's string escapes, in our reading of Rust's string literals (the Rust Reference, "Character and string literals"): the seven short
-- ones; \x and exactly two hex digits, at most 7F; \u{..} with one to six hex digits that name a scalar value, each with any number of _
-- behind it. Anything else is an error, so also a raw ", which would end the literal, a raw carriage return, and a backslash before a
-- line's end. Every other byte stands for itself.
-- Assumes nothing.
use Rattle.std.specs.Prelude.{cond, ◌&&◌, ◌||◌, List, [], ◌∷◌, ◌++◌, ℕ, zero, suc, ◌+◌, ◌*◌, leb, eqb, get_or, drop}
use Prim.Native.Char.{code}
use Rattle.chars.specs.Utf8.{scalar, encode}
use Rattle.escapes.specs.Unescape.{hex_digit}
use Rattle.std.specs.Prelude.{None, Option, Some}

-- what a backslash begins: a character and how many bytes it takes behind the backslash, or an error
pub data Literal : Type 0 where
  char : ℕ → ℕ → Literal
  wrong : Literal

-- \x and two digits
abbrev pub ascii_of : Option ℕ → Option ℕ → Literal
ascii_of (Some v) (Some w) = cond (leb (v * 16 + w) 0x7F) (char (v * 16 + w) 3) wrong
ascii_of (Some v) None = wrong
ascii_of None second = wrong

abbrev pub next_digit : Option ℕ → (ℕ → Literal) → Literal
next_digit (Some d) go = go d
next_digit None go = wrong

-- \u{ and what follows, where `count` digits were read, which give v, and n bytes behind the backslash
unfoldable pub unicode_from : ℕ → ℕ → ℕ → List ℕ → Literal
unicode_from count v n [] = wrong
unicode_from count v n (b ∷ r) =
    cond (eqb b (code "}")) (cond (leb 1 count && (leb count 6 && scalar v)) (char v (n + 1)) wrong)
    (cond (eqb b (code "_")) (cond (leb 1 count) (unicode_from count v (n + 1) r) wrong)
    (next_digit (hex_digit b) (λ d. unicode_from (suc count) (v * 16 + d) (n + 1) r)))

-- what a backslash with the bytes r behind it begins
unfoldable pub literal_at : List ℕ → Literal
literal_at r =
    cond (eqb (get_or r 0 0) (code "0")) (char 0 1)
    (cond (eqb (get_or r 0 0) (code "t")) (char (code "\t") 1)
    (cond (eqb (get_or r 0 0) (code "n")) (char (code "\n") 1)
    (cond (eqb (get_or r 0 0) (code "r")) (char (code "\r") 1)
    (cond (eqb (get_or r 0 0) (code "\"")) (char (code "\"") 1)
    (cond (eqb (get_or r 0 0) (code "'")) (char (code "'") 1)
    (cond (eqb (get_or r 0 0) (code "\\")) (char (code "\\") 1)
    (cond (eqb (get_or r 0 0) (code "x")) (ascii_of (hex_digit (get_or r 1 0)) (hex_digit (get_or r 2 0)))
    (cond (eqb (get_or r 0 0) (code "u") && eqb (get_or r 1 0) (code "{")) (unicode_from 0 0 2 (drop 2 r)) wrong))))))))

abbrev pub before_rest : List ℕ → Option (List ℕ) → Option (List ℕ)
before_rest x (Some y) = Some (x ++ y)
before_rest x None = None

abbrev pub literally : Literal → (ℕ → Option (List ℕ)) → Option (List ℕ)
literally (char v n) rest = before_rest (encode v) (rest n)
literally wrong rest = None

-- what a literal's text stands for behind its first k bytes, which were read already; None where it is an error
unfoldable pub cedar_from : ℕ → List ℕ → Option (List ℕ)
cedar_from k [] = Some []
cedar_from (suc k) (a ∷ r) = cedar_from k r
cedar_from zero (a ∷ r) =
    cond (eqb a (code "\\")) (literally (literal_at r) (λ k. cedar_from k r))
    (cond (eqb a (code "\"") || eqb a (code "\r")) None (before_rest (a ∷ []) (cedar_from 0 r)))

abbrev pub cedar : List ℕ → Option (List ℕ)
cedar s = cedar_from 0 s
