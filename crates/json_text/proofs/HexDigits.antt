-- Four hex digits at a place of a text.
-- Assumes nothing.
use mathlib.Core.Path.{◌≡◌, refl, sym, ◌∙◌}
use mathlib.Core.List.{List}
use Prim.Native.Nat.{ℕ, ◌+◌, ◌*◌, ◌≤◌}
use native.Mathlib.Nat.{add-zero}
use native.Mathlib.Omega.{arith}
use lib.ListN.{length, get_or, drop}
use lib.Seq.{get_or-drop}
use Rattle.std.specs.Prelude.{None, Option, Some, option_map, option_and_then}
use Rattle.std.proofs.lemmas.Option.{none-some}
use Rattle.chars.proofs.Reading.{byte_inside}
use Rattle.escapes.specs.Unescape.{hex_digit}
use Rattle.escapes.proofs.Escapes.{hex}
use Rattle.json_text.specs.Text.{hex4}

-- a digit behind a number
abbrev pub with_digit : Option ℕ → Option ℕ → Option ℕ
with_digit o n = option_and_then (λ n. option_map (λ d. n * 16 + d) o) n

module _ (s : List ℕ) (at : ℕ) where
  -- by its digits, from the first on
  pub hex4_at : {a b c d : Option ℕ} → hex_digit (get_or s at 0) ≡ a → hex_digit (get_or s (at + 1) 0) ≡ b → hex_digit (get_or s (at + 2) 0) ≡ c → hex_digit (get_or s (at + 3) 0) ≡ d
      → hex4 (drop at s) ≡ with_digit d (with_digit c (with_digit b (with_digit a (Some 0))))
  unfolding hex4
  hex4_at e f g h = rw (get_or-drop at s 0 0, get_or-drop at s 1 0, get_or-drop at s 2 0, get_or-drop at s 3 0, add-zero at, e, f, g, h)

  -- they stand in the text
  pub hex4_inside : (v : ℕ) → hex4 (drop at s) ≡ Some v → at + 4 ≤ length s
  hex4_inside v e = last (hex_digit (get_or s (at + 3) 0)) (λ d e. omega (arith, byte_inside s (at + 3) (hex (get_or s (at + 3) 0) d e).some_byte)) _ (sym (hex4_at refl refl refl refl) ∙ e)
    where
      last : (o : Option ℕ) → ((d : ℕ) → o ≡ Some d → at + 4 ≤ length s) → (n : Option ℕ) → with_digit o n ≡ Some v → at + 4 ≤ length s
      last (Some d) f n e = f d refl
      last None f (Some n) e = absurd (none-some v e)
      last None f None e = absurd (none-some v e)
