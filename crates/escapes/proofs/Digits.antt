-- A byte read as a hex digit: the three ranges of digits, and all else.
-- Assumes nothing.
use mathlib.Core.Path.{◌≡◌}
use mathlib.Core.Logic.{◌⊎◌, inl, inr}
use mathlib.Core.Bool.{false}
use Prim.Native.Nat.{ℕ, ◌-◌, ◌≤◌, ◌<◌}
use Prim.Native.Char.{code}
use native.Mathlib.Omega.{arith}
use lib.Dec.{leb}
use borrow.Author.Tests.{le-leb, lt-leb}
use Rattle.buffers.proofs.Choice.{and_false}
use Rattle.chars.specs.White.{within}
use Rattle.escapes.specs.Unescape.{hex_digit}
use Rattle.std.specs.Prelude.{None, Some}

pub zero_no_digit : {b : ℕ} → b ≡ 0 → hex_digit b ≡ None
unfolding hex_digit
zero_no_digit e = rw e

module _ (b : ℕ) where
  pub decimal_digit : code "0" ≤ b → b ≤ code "9" → hex_digit b ≡ Some (b - code "0")
  unfolding hex_digit
  decimal_digit h l = rw (le-leb (code "0") b h, le-leb b (code "9") l)

  pub upper : code "A" ≤ b → b ≤ code "F" → hex_digit b ≡ Some (b - (code "A" - 10))
  unfolding hex_digit
  upper h l =
      let a : code "0" ≤ b = omega arith in
      let c : code "9" < b = omega arith in
      let d : b < code "a" = omega arith in
      rw (le-leb (code "0") b a, lt-leb b (code "9") c, lt-leb (code "a") b d, le-leb (code "A") b h, le-leb b (code "F") l)

  pub lower : code "a" ≤ b → b ≤ code "f" → hex_digit b ≡ Some (b - (code "a" - 10))
  unfolding hex_digit
  lower h l =
      let a : code "0" ≤ b = omega arith in
      let c : code "9" < b = omega arith in
      rw (le-leb (code "0") b a, lt-leb b (code "9") c, le-leb (code "a") b h, le-leb b (code "f") l)

  pub no_digit : (b < code "0") ⊎ (code "9" < b) → (b < code "A") ⊎ (code "F" < b) → (b < code "a") ⊎ (code "f" < b) → hex_digit b ≡ None
  unfolding hex_digit
  no_digit p q s = rw (out (code "0") (code "9") p, out (code "a") (code "f") s, out (code "A") (code "F") q)
    where
      out : (lo hi : ℕ) → (b < lo) ⊎ (hi < b) → within lo hi b ≡ false
      out lo hi (inl l) = rw (lt-leb lo b l)
      out lo hi (inr l) = rw (lt-leb b hi l) (and_false (leb lo b))
