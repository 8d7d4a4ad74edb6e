-- How long the bytes of a character are.
-- Assumes nothing.
use mathlib.Core.List.{List}
use Prim.Native.Nat.{ℕ, ◌≤◌, ◌<◌}
use native.Mathlib.Omega.{arith}
use lib.Dec.{ltb}
use lib.ListN.{length}
use borrow.Author.Tests.{ltb-false}
use Rattle.buffers.proofs.Choice.{by_cond}
use Rattle.chars.specs.Utf8.{encode}

-- how many bytes a character takes
pub record Size (c n : ℕ) : Type 0 where
  pub nonempty : 1 ≤ n
  pub few : n ≤ 4
  pub two : c < 0x800 → n ≤ 2

pub encoded : (c : ℕ) → Size c (length (encode c))
unfolding encode
encoded c =
    by_cond S (ltb c 0x80) _ _ (λ t. size 1 (omega arith) (omega arith) (λ _. omega arith)) (λ t.
    by_cond S (ltb c 0x800) _ _ (λ u. size 2 (omega arith) (omega arith) (λ _. omega arith)) (λ u.
    let h = ltb-false c 0x800 u in
    by_cond S (ltb c 0x10000) _ _ (λ v. size 3 (omega arith) (omega arith) (λ l. omega arith)) (λ v. size 4 (omega arith) (omega arith) (λ l. omega arith))))
  where
    S : List ℕ → Type 0
    S l = Size c (length l)

    size : (n : ℕ) → 1 ≤ n → n ≤ 4 → (c < 0x800 → n ≤ 2) → Size c n
    size n h l f = record { nonempty = h; few = l; two = f }
