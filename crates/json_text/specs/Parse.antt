-- Reading from the start of a text: what stands there and the text behind it, or none. It is not of RFC 8259: the definitions of its sections are written
-- in these words.
-- Assumes nothing.
use Rattle.std.specs.Prelude.{Bool, List, ℕ, eqb, length, get_or, take, Option, option_map, option_and_then}
use Rattle.buffers.specs.Same.{same}

abbrev pub Parse : Type 0 → Type 0
Parse A = List ℕ → Option (A × List ℕ)

module _ {A B : Type 0} where
  -- what is read behind it
  abbrev pub then_read : Option (A × List ℕ) → (A → List ℕ → Option B) → Option B
  then_read o f = option_and_then (λ p. f p.0 p.1) o

  -- what is made of it
  abbrev pub made : (A → B) → Option (A × List ℕ) → Option (B × List ℕ)
  made f o = option_map (λ p. (f p.0, p.1)) o

-- the text starts with the byte c, or with the word w
abbrev pub starts : ℕ → List ℕ → Bool
starts c s = eqb (get_or s 0 0) c

abbrev pub begins : List ℕ → List ℕ → Bool
begins w s = same (take (length w) s) w
