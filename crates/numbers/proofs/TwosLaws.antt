-- The pack's form of an i64 and the integer that it stands for are inverse to each other.
-- Assumes nothing.
use Rattle.std.proofs.Common.{◌≡◌, ℕ, zero, suc, ◌+◌, ◌-◌, ◌%◌, ◌^◌, ◌<◌, ◌≤◌, true, ltb, ℤ, pos, negsuc, neg_ℤ, refl, ap, arith, ltb-false, ltb-true, le-ltb, lt-ltb}
use Rattle.buffers.proofs.Choice.{by_cond}
use Rattle.numbers.specs.Twos.{in_range, twos, untwos}

-- an i64 fits a pack's number
pub twos_bound : (z : ℤ) → in_range z ≡ true → twos z < 2 ^ 64
twos_bound (pos n) h = omega (arith, ltb-true n (2 ^ 63) h)
twos_bound (negsuc n) h = omega arith

pub untwos_twos : (z : ℤ) → in_range z ≡ true → untwos (twos z) ≡ z
untwos_twos (pos n) h = rw h
untwos_twos (negsuc n) h =
    let l : n < 2 ^ 63 = ltb-true n (2 ^ 63) h in
    rw (le-ltb (2 ^ 64 - suc n) (2 ^ 63) (omega arith)) (ap negsuc back)
  where
    back : 2 ^ 64 - suc (2 ^ 64 - suc n) ≡ n
    back = omega (arith, ltb-true n (2 ^ 63) h)

pub twos_untwos : (n : ℕ) → n < 2 ^ 64 → twos (untwos n) ≡ n
twos_untwos n h = by_cond (λ z. twos z ≡ n) (ltb n (2 ^ 63)) (pos n) (negsuc (2 ^ 64 - suc n)) (λ _. refl) (λ t. omega arith)

pub untwos_range : (n : ℕ) → n < 2 ^ 64 → in_range (untwos n) ≡ true
untwos_range n h = by_cond (λ z. in_range z ≡ true) (ltb n (2 ^ 63)) (pos n) (negsuc (2 ^ 64 - suc n)) (λ t. t) (λ t. lt-ltb (2 ^ 64 - suc n) (2 ^ 63) (omega (arith, ltb-false n (2 ^ 63) t)))

-- the integer -n, by a difference that wraps
pub twos_negated : (n m : ℕ) → n ≤ 2 ^ 63 → m < 2 ^ 64 → (m + n) % 2 ^ 64 ≡ 0 → twos (neg_ℤ (pos n)) ≡ m
twos_negated zero m l b e = omega arith
twos_negated (suc n) m l b e = omega arith
