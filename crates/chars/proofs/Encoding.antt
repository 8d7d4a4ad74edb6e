-- A character that is read is a scalar value whose own bytes were read; and the bytes of a scalar value are read as it.
-- Assumes nothing.
use mathlib.Core.Path.{◌≡◌, refl, ap, ◌∙◌}
use mathlib.Core.Logic.{◌⊎◌, inl, inr}
use mathlib.Core.Bool.{Bool, true, false, cond, ◌&&◌}
use mathlib.Core.List.{List, [], ◌∷◌, ◌++◌}
use Prim.Native.Nat.{ℕ, zero, suc, ◌+◌, ◌-◌, ◌*◌, ◌/◌, ◌%◌, ◌≤◌, ◌<◌}
use native.Mathlib.Nat.{not-suc-le-zero, le_of_suc-le-suc}
use native.Mathlib.Decide.{dec_lt, ℕ_discrete}
use native.Mathlib.Omega.{arith}
use lib.Dec.{ltb, eqb}
use lib.ListN.{length, get_or, take}
use borrow.Author.Tests.{ltb-true, ltb-false, lt-ltb, le-ltb, eq-eqb, ne_eqb, eqb-true}
use Rattle.buffers.proofs.Choice.{by_cond, or_left, or_right, or_cases, and_both, and_left, and_right}
use Rattle.chars.specs.Utf8.{scalar, low, high, char_of, char_at, encode}
use Rattle.chars.proofs.Reading.{low_128, high_191, char_whole}
use Rattle.std.specs.Prelude.{None, Option, Some}

-- what the bounds on the second byte come to
low_e0 : (a : ℕ) → a ≡ 0xE0 → low a ≡ 0xA0
unfolding low
low_e0 a e = rw (eq-eqb a 0xE0 e)

low_f0 : (a : ℕ) → a ≡ 0xF0 → low a ≡ 0x90
unfolding low
low_f0 a e = let n : a ≡ 0xE0 → ⊥ = omega arith in rw (ne_eqb a 0xE0 n, eq-eqb a 0xF0 e)

high_ed : (a : ℕ) → a ≡ 0xED → high a ≡ 0x9F
unfolding high
high_ed a e = rw (eq-eqb a 0xED e)

high_f4 : (a : ℕ) → a ≡ 0xF4 → high a ≡ 0x8F
unfolding high
high_f4 a e = let n : a ≡ 0xED → ⊥ = omega arith in rw (ne_eqb a 0xED n, eq-eqb a 0xF4 e)

least_3 : (a b : ℕ) → 0xE0 ≤ a → low a ≤ b → 32 ≤ (a - 0xE0) * 64 + (b - 0x80)
least_3 a b h l = go (ℕ_discrete a 0xE0)
  where
    go : Dec (a ≡ 0xE0) → 32 ≤ (a - 0xE0) * 64 + (b - 0x80)
    go (yes e) = omega (arith, low_e0 a e)
    go (no n) = omega arith

least_4 : (a b : ℕ) → 0xF0 ≤ a → low a ≤ b → 16 ≤ (a - 0xF0) * 64 + (b - 0x80)
least_4 a b h l = go (ℕ_discrete a 0xF0)
  where
    go : Dec (a ≡ 0xF0) → 16 ≤ (a - 0xF0) * 64 + (b - 0x80)
    go (yes e) = omega (arith, low_f0 a e)
    go (no n) = omega arith

most_4 : (a b : ℕ) → 0xF0 ≤ a → a ≤ 0xF4 → b ≤ high a → (a - 0xF0) * 64 + (b - 0x80) < 272
most_4 a b g h l = go (ℕ_discrete a 0xF4)
  where
    go : Dec (a ≡ 0xF4) → (a - 0xF0) * 64 + (b - 0x80) < 272
    go (yes e) = omega (arith, high_f4 a e)
    go (no n) = omega (arith, high_191 a)

-- no surrogate
no_surrogate_between : (a b c : ℕ) → 0xE0 ≤ a → a < 0xF0 → 0x80 ≤ b → b ≤ high a → 0x80 ≤ c → c ≤ 0xBF
    → ((a - 0xE0) * 4096 + (b - 0x80) * 64 + (c - 0x80) < 0xD800) ⊎ (0xDFFF < (a - 0xE0) * 4096 + (b - 0x80) * 64 + (c - 0x80))
no_surrogate_between a b c h1 h2 h3 h4 h5 h6 = go (dec_lt a 0xED) (ℕ_discrete a 0xED)
  where
    go : Dec (a < 0xED) → Dec (a ≡ 0xED) → ((a - 0xE0) * 4096 + (b - 0x80) * 64 + (c - 0x80) < 0xD800) ⊎ (0xDFFF < (a - 0xE0) * 4096 + (b - 0x80) * 64 + (c - 0x80))
    go (yes l) d = inl (omega (arith, high_191 a))
    go (no l) (yes e) = inl (omega (arith, high_ed a e))
    go (no l) (no n) = inr (omega arith)

record Is (a b c d code n : ℕ) : Type 0 where
  split : (code < 0xD800) ⊎ (0xDFFF < code)
  small : code < 0x110000
  bytes : encode code ≡ take n (a ∷ b ∷ c ∷ d ∷ [])

abbrev IsStep : ℕ → ℕ → ℕ → ℕ → Option (ℕ × ℕ) → Type 0
IsStep a b c d (Some (code, n)) = Is a b c d code n
IsStep a b c d None = Unit {0}

one : (a b c d : ℕ) → a < 0x80 → Is a b c d a 1
unfolding encode
one a b c d h = record { split = inl (omega arith); small = omega arith; bytes = rw (lt-ltb a 0x80 h) }

two : (a b c d : ℕ) → 0xC2 ≤ a → a < 0xE0 → 0x80 ≤ b → b ≤ 0xBF → Is a b c d ((a - 0xC0) * 64 + (b - 0x80)) 2
unfolding encode
two a b c d h1 h2 h3 h4 = record { split = inl (omega arith); small = omega arith; bytes = eq ((a - 0xC0) * 64 + (b - 0x80)) refl }
  where
    eq : (x : ℕ) → x ≡ (a - 0xC0) * 64 + (b - 0x80) → encode x ≡ a ∷ b ∷ []
    eq x e =
        let g1 : 0x80 ≤ x = omega arith in
        let g2 : x < 0x800 = omega arith in
        let e1 : 0xC0 + x / 64 ≡ a = omega arith in
        let e2 : 0x80 + x % 64 ≡ b = omega arith in
        rw (le-ltb x 0x80 g1, lt-ltb x 0x800 g2, e1, e2)

three : (a b c d : ℕ) → 0xE0 ≤ a → a < 0xF0 → low a ≤ b → b ≤ high a → 0x80 ≤ c → c ≤ 0xBF
    → Is a b c d ((a - 0xE0) * 4096 + (b - 0x80) * 64 + (c - 0x80)) 3
unfolding encode
three a b c d h1 h2 h3 h4 h5 h6 =
    let k = low_128 a in
    let m = high_191 a in
    let b1 : 0x80 ≤ b = omega arith in
    let b2 : b ≤ 0xBF = omega arith in
    record { split = no_surrogate_between a b c h1 h2 b1 h4 h5 h6; small = omega arith; bytes = eq b1 b2 (least_3 a b h1 h3) ((a - 0xE0) * 4096 + (b - 0x80) * 64 + (c - 0x80)) refl }
  where
    eq : 0x80 ≤ b → b ≤ 0xBF → 32 ≤ (a - 0xE0) * 64 + (b - 0x80) → (x : ℕ) → x ≡ (a - 0xE0) * 4096 + (b - 0x80) * 64 + (c - 0x80) → encode x ≡ a ∷ b ∷ c ∷ []
    eq b1 b2 l x e =
        let g0 : 0x80 ≤ x = omega arith in
        let g1 : 0x800 ≤ x = omega arith in
        let g2 : x < 0x10000 = omega arith in
        let e1 : 0xE0 + x / 4096 ≡ a = omega arith in
        let e2 : 0x80 + x / 64 % 64 ≡ b = omega arith in
        let e3 : 0x80 + x % 64 ≡ c = omega arith in
        rw (le-ltb x 0x80 g0, le-ltb x 0x800 g1, lt-ltb x 0x10000 g2, e1, e2, e3)

four : (a b c d : ℕ) → 0xF0 ≤ a → a ≤ 0xF4 → low a ≤ b → b ≤ high a → 0x80 ≤ c → c ≤ 0xBF → 0x80 ≤ d → d ≤ 0xBF
    → Is a b c d ((a - 0xF0) * 262144 + (b - 0x80) * 4096 + (c - 0x80) * 64 + (d - 0x80)) 4
unfolding encode
four a b c d h1 h2 h3 h4 h5 h6 h7 h8 =
    let k = low_128 a in
    let m = high_191 a in
    let b1 : 0x80 ≤ b = omega arith in
    let b2 : b ≤ 0xBF = omega arith in
    let l = least_4 a b h1 h3 in
    let t = most_4 a b h1 h2 h4 in
    record { split = inr (omega arith); small = omega arith; bytes = eq b1 b2 l t ((a - 0xF0) * 262144 + (b - 0x80) * 4096 + (c - 0x80) * 64 + (d - 0x80)) refl }
  where
    eq : 0x80 ≤ b → b ≤ 0xBF → 16 ≤ (a - 0xF0) * 64 + (b - 0x80) → (a - 0xF0) * 64 + (b - 0x80) < 272
        → (x : ℕ) → x ≡ (a - 0xF0) * 262144 + (b - 0x80) * 4096 + (c - 0x80) * 64 + (d - 0x80) → encode x ≡ a ∷ b ∷ c ∷ d ∷ []
    eq b1 b2 l t x e =
        let g0 : 0x80 ≤ x = omega arith in
        let g1 : 0x800 ≤ x = omega arith in
        let g2 : 0x10000 ≤ x = omega arith in
        let e1 : 0xF0 + x / 262144 ≡ a = omega arith in
        let e2 : 0x80 + x / 4096 % 64 ≡ b = omega arith in
        let e3 : 0x80 + x / 64 % 64 ≡ c = omega arith in
        let e4 : 0x80 + x % 64 ≡ d = omega arith in
        rw (le-ltb x 0x80 g0, le-ltb x 0x800 g1, le-ltb x 0x10000 g2, e1, e2, e3, e4)

is : (a b c d : ℕ) → IsStep a b c d (char_of a b c d)
unfolding char_of
is a b c d =
    let P = IsStep a b c d in
    by_cond P (ltb a 0x80) _ _ (λ h1. one a b c d (ltb-true _ _ h1)) (λ h1.
    by_cond P (ltb a 0xC2) _ _ (λ h2. tt) (λ h2.
    by_cond P (ltb 0xF4 a) _ _ (λ h3. tt) (λ h3.
    by_cond P (ltb b (low a)) _ _ (λ h4. tt) (λ h4.
    by_cond P (ltb (high a) b) _ _ (λ h5. tt) (λ h5.
    by_cond P (ltb a 0xE0) _ _ (λ h6. two a b c d (ltb-false _ _ h2) (ltb-true _ _ h6) (omega (arith, low_128 a, ltb-false b (low a) h4)) (omega (arith, high_191 a, ltb-false (high a) b h5))) (λ h6.
    by_cond P (ltb c 0x80) _ _ (λ h7. tt) (λ h7.
    by_cond P (ltb 0xBF c) _ _ (λ h8. tt) (λ h8.
    by_cond P (ltb a 0xF0) _ _ (λ h9. three a b c d (ltb-false _ _ h6) (ltb-true _ _ h9) (ltb-false _ _ h4) (ltb-false _ _ h5) (ltb-false _ _ h7) (ltb-false _ _ h8)) (λ h9.
    by_cond P (ltb d 0x80) _ _ (λ h10. tt) (λ h10.
    by_cond P (ltb 0xBF d) _ _ (λ h11. tt) (λ h11.
    four a b c d (ltb-false _ _ h9) (ltb-false _ _ h3) (ltb-false _ _ h4) (ltb-false _ _ h5) (ltb-false _ _ h7) (ltb-false _ _ h8) (ltb-false _ _ h10) (ltb-false _ _ h11))))))))))))

decoded : (a b c d code n : ℕ) → char_of a b c d ≡ Some (code, n) → Is a b c d code n
decoded a b c d code n e = rw e at (is a b c d)

-- the other way: each form of a scalar value
pub low_le : (a b : ℕ) → (a ≡ 0xE0 → 0xA0 ≤ b) → (a ≡ 0xF0 → 0x90 ≤ b) → 0x80 ≤ b → low a ≤ b
unfolding low
low_le a b f g h = by (eqb a 0xE0) _ _ (λ e. f (eqb-true a 0xE0 e)) (by (eqb a 0xF0) _ _ (λ e. g (eqb-true a 0xF0 e)) h)
  where
    by : (t : Bool) (x y : ℕ) → (t ≡ true → x ≤ b) → y ≤ b → cond t x y ≤ b
    by true x y p q = p refl
    by false x y p q = q

pub le_high : (a b : ℕ) → (a ≡ 0xED → b ≤ 0x9F) → (a ≡ 0xF4 → b ≤ 0x8F) → b ≤ 0xBF → b ≤ high a
unfolding high
le_high a b f g h = by (eqb a 0xED) _ _ (λ e. f (eqb-true a 0xED e)) (by (eqb a 0xF4) _ _ (λ e. g (eqb-true a 0xF4 e)) h)
  where
    by : (t : Bool) (x y : ℕ) → (t ≡ true → b ≤ x) → b ≤ y → b ≤ cond t x y
    by true x y p q = p refl
    by false x y p q = q

step_1 : (a b c d : ℕ) → a < 0x80 → char_of a b c d ≡ Some (a, 1)
unfolding char_of
step_1 a b c d h = rw (lt-ltb a 0x80 h)

pub step_2 : (a b c d : ℕ) → 0xC2 ≤ a → a < 0xE0 → low a ≤ b → b ≤ high a → char_of a b c d ≡ Some (((a - 0xC0) * 64 + (b - 0x80)), 2)
unfolding char_of
step_2 a b c d h1 h2 h3 h4 =
    let g1 : 0x80 ≤ a = omega arith in
    let g2 : a ≤ 0xF4 = omega arith in
    rw (le-ltb a 0x80 g1, le-ltb a 0xC2 h1, le-ltb 0xF4 a g2, le-ltb b (low a) h3, le-ltb (high a) b h4, lt-ltb a 0xE0 h2)

step_3 : (a b c d : ℕ) → 0xE0 ≤ a → a < 0xF0 → low a ≤ b → b ≤ high a → 0x80 ≤ c → c ≤ 0xBF
    → char_of a b c d ≡ Some (((a - 0xE0) * 4096 + (b - 0x80) * 64 + (c - 0x80)), 3)
unfolding char_of
step_3 a b c d h1 h2 h3 h4 h5 h6 =
    let g1 : 0x80 ≤ a = omega arith in
    let g2 : 0xC2 ≤ a = omega arith in
    let g3 : a ≤ 0xF4 = omega arith in
    rw (le-ltb a 0x80 g1, le-ltb a 0xC2 g2, le-ltb 0xF4 a g3, le-ltb b (low a) h3, le-ltb (high a) b h4, le-ltb a 0xE0 h1, le-ltb c 0x80 h5, le-ltb 0xBF c h6, lt-ltb a 0xF0 h2)

step_4 : (a b c d : ℕ) → 0xF0 ≤ a → a ≤ 0xF4 → low a ≤ b → b ≤ high a → 0x80 ≤ c → c ≤ 0xBF → 0x80 ≤ d → d ≤ 0xBF
    → char_of a b c d ≡ Some (((a - 0xF0) * 262144 + (b - 0x80) * 4096 + (c - 0x80) * 64 + (d - 0x80)), 4)
unfolding char_of
step_4 a b c d h1 h2 h3 h4 h5 h6 h7 h8 =
    let g1 : 0x80 ≤ a = omega arith in
    let g2 : 0xC2 ≤ a = omega arith in
    let g3 : 0xE0 ≤ a = omega arith in
    rw (le-ltb a 0x80 g1, le-ltb a 0xC2 g2, le-ltb 0xF4 a h2, le-ltb b (low a) h3, le-ltb (high a) b h4, le-ltb a 0xE0 g3, le-ltb c 0x80 h5, le-ltb 0xBF c h6, le-ltb a 0xF0 h1, le-ltb d 0x80 h7, le-ltb 0xBF d h8)

decode_2 : (c x y : ℕ) → 0x80 ≤ c → c < 0x800 → char_of (0xC0 + c / 64) (0x80 + c % 64) x y ≡ Some (c, 2)
decode_2 c x y h1 h2 =
    step_2 (0xC0 + c / 64) (0x80 + c % 64) x y (omega arith) (omega arith)
    (low_le (0xC0 + c / 64) (0x80 + c % 64) (λ e. omega arith) (λ e. omega arith) (omega arith))
    (le_high (0xC0 + c / 64) (0x80 + c % 64) (λ e. omega arith) (λ e. omega arith) (omega arith))
    ∙ ap (λ (v : ℕ). Some (v, 2)) (same c)
  where
    same : (c : ℕ) → (0xC0 + c / 64 - 0xC0) * 64 + (0x80 + c % 64 - 0x80) ≡ c
    same c = omega arith

decode_3 : (c x : ℕ) → 0x800 ≤ c → c < 0x10000 → (c < 0xD800) ⊎ (0xDFFF < c)
    → char_of (0xE0 + c / 4096) (0x80 + c / 64 % 64) (0x80 + c % 64) x ≡ Some (c, 3)
decode_3 c x h1 h2 s =
    step_3 (0xE0 + c / 4096) (0x80 + c / 64 % 64) (0x80 + c % 64) x (omega arith) (omega arith)
    (low_le (0xE0 + c / 4096) (0x80 + c / 64 % 64) (λ e. omega arith) (λ e. omega arith) (omega arith))
    (le_high (0xE0 + c / 4096) (0x80 + c / 64 % 64) (no_surrogate s) (λ e. omega arith) (omega arith))
    (omega arith) (omega arith)
    ∙ ap (λ (v : ℕ). Some (v, 3)) (same c)
  where
    same : (c : ℕ) → (0xE0 + c / 4096 - 0xE0) * 4096 + (0x80 + c / 64 % 64 - 0x80) * 64 + (0x80 + c % 64 - 0x80) ≡ c
    same c = omega arith

    no_surrogate : (c < 0xD800) ⊎ (0xDFFF < c) → 0xE0 + c / 4096 ≡ 0xED → 0x80 + c / 64 % 64 ≤ 0x9F
    no_surrogate (inl l) e = omega arith
    no_surrogate (inr l) e = omega arith

decode_4 : (c : ℕ) → 0x10000 ≤ c → c < 0x110000
    → char_of (0xF0 + c / 262144) (0x80 + c / 4096 % 64) (0x80 + c / 64 % 64) (0x80 + c % 64) ≡ Some (c, 4)
decode_4 c h1 h2 =
    step_4 (0xF0 + c / 262144) (0x80 + c / 4096 % 64) (0x80 + c / 64 % 64) (0x80 + c % 64) (omega arith) (omega arith)
    (low_le (0xF0 + c / 262144) (0x80 + c / 4096 % 64) (λ e. omega arith) (λ e. omega arith) (omega arith))
    (le_high (0xF0 + c / 262144) (0x80 + c / 4096 % 64) (λ e. omega arith) (λ e. omega arith) (omega arith))
    (omega arith) (omega arith) (omega arith) (omega arith)
    ∙ ap (λ (v : ℕ). Some (v, 4)) (same c)
  where
    same : (c : ℕ) → (0xF0 + c / 262144 - 0xF0) * 262144 + (0x80 + c / 4096 % 64 - 0x80) * 4096 + (0x80 + c / 64 % 64 - 0x80) * 64 + (0x80 + c % 64 - 0x80) ≡ c
    same c = plain (c / 262144) (c / 4096 % 64) (c / 64 % 64) (c % 64) ∙ sum c
      where
        plain : (x y z w : ℕ) → (0xF0 + x - 0xF0) * 262144 + (0x80 + y - 0x80) * 4096 + (0x80 + z - 0x80) * 64 + (0x80 + w - 0x80) ≡ x * 262144 + y * 4096 + z * 64 + w
        plain x y z w = omega arith

        sum : (c : ℕ) → c / 262144 * 262144 + c / 4096 % 64 * 4096 + c / 64 % 64 * 64 + c % 64 ≡ c
        sum c =
            let e1 : c / 64 * 64 + c % 64 ≡ c = omega arith in
            let e2 : c / 64 ≡ c / 4096 * 64 + c / 64 % 64 = omega arith in
            let e3 : c / 4096 ≡ c / 262144 * 64 + c / 4096 % 64 = omega arith in
            omega arith

-- a scalar value, by its bounds
pub record Scalar (c : ℕ) : Type 0 where
  pub small : c < 0x110000
  pub split : (c < 0xD800) ⊎ (0xDFFF < c)

pub is_scalar : (c : ℕ) → scalar c ≡ true → Scalar c
unfolding scalar
is_scalar c e = go (or_cases (ltb c 0xD800) (ltb 0xDFFF c && ltb c 0x110000) e)
  where
    go : (ltb c 0xD800 ≡ true) ⊎ ((ltb 0xDFFF c && ltb c 0x110000) ≡ true) → Scalar c
    go (inl p) = let l = ltb-true c 0xD800 p in record { small = omega arith; split = inl l }
    go (inr p) = record {
      small = ltb-true c 0x110000 (and_right (ltb 0xDFFF c) (ltb c 0x110000) p);
      split = inr (ltb-true 0xDFFF c (and_left (ltb 0xDFFF c) (ltb c 0x110000) p));
    }

pub scalar_true : (c : ℕ) → c < 0x110000 → (c < 0xD800) ⊎ (0xDFFF < c) → scalar c ≡ true
unfolding scalar
scalar_true c h (inl l) = or_left (ltb c 0xD800) (ltb 0xDFFF c && ltb c 0x110000) (lt-ltb c 0xD800 l)
scalar_true c h (inr l) =
    or_right (ltb c 0xD800) (ltb 0xDFFF c && ltb c 0x110000) (and_both (ltb 0xDFFF c) (ltb c 0x110000) (lt-ltb 0xDFFF c l) (lt-ltb c 0x110000 h))

-- the first n bytes, by position, are the first n bytes of the text
firsts : (n a : ℕ) (r : List ℕ) → n ≤ 4 → n ≤ suc (length r) → take n (a ∷ get_or r 0 0 ∷ get_or r 1 0 ∷ get_or r 2 0 ∷ []) ≡ take n (a ∷ r)
firsts zero a r h l = refl
firsts (suc zero) a r h l = refl
firsts (suc (suc zero)) a [] h l = absurd (not-suc-le-zero (le_of_suc-le-suc l))
firsts (suc (suc zero)) a (x ∷ r) h l = refl
firsts (suc (suc (suc zero))) a [] h l = absurd (not-suc-le-zero (le_of_suc-le-suc l))
firsts (suc (suc (suc zero))) a (x ∷ []) h l = absurd (not-suc-le-zero (le_of_suc-le-suc (le_of_suc-le-suc l)))
firsts (suc (suc (suc zero))) a (x ∷ y ∷ r) h l = refl
firsts (suc (suc (suc (suc zero)))) a [] h l = absurd (not-suc-le-zero (le_of_suc-le-suc l))
firsts (suc (suc (suc (suc zero)))) a (x ∷ []) h l = absurd (not-suc-le-zero (le_of_suc-le-suc (le_of_suc-le-suc l)))
firsts (suc (suc (suc (suc zero)))) a (x ∷ y ∷ []) h l = absurd (not-suc-le-zero (le_of_suc-le-suc (le_of_suc-le-suc (le_of_suc-le-suc l))))
firsts (suc (suc (suc (suc zero)))) a (x ∷ y ∷ z ∷ r) h l = refl
firsts (suc (suc (suc (suc (suc n))))) a r h l = absurd (omega arith)

-- decoding then encoding gives the bytes back
pub decode_encode : (s : List ℕ) (c n : ℕ) → char_at s ≡ Some (c, n) → encode c ≡ take n s
decode_encode [] c n e = let z : ◌≡◌ {A = ℕ} 0 1 = cc in absurd (omega arith)
decode_encode (a ∷ r) c n e =
    (decoded a (get_or r 0 0) (get_or r 1 0) (get_or r 2 0) c n e).bytes
    ∙ firsts n a r (Rattle.chars.proofs.Reading.read _ _ _ _ c n e).few (char_whole (a ∷ r) c n e)

-- what is read is a scalar value
pub decode_scalar : (s : List ℕ) (c n : ℕ) → char_at s ≡ Some (c, n) → scalar c ≡ true
decode_scalar [] c n e = let z : ◌≡◌ {A = ℕ} 0 1 = cc in absurd (omega arith)
decode_scalar (a ∷ r) c n e =
    let i = decoded a (get_or r 0 0) (get_or r 1 0) (get_or r 2 0) c n e in
    scalar_true c i.small i.split

-- encoding then decoding gives the character back
pub encode_decode : (c : ℕ) (r : List ℕ) → scalar c ≡ true → char_at (encode c ++ r) ≡ Some (c, (length (encode c)))
unfolding encode
encode_decode c r w =
    let s = is_scalar c w in
    by_cond Q (ltb c 0x80) _ _ (λ t. step_1 c (get_or r 0 0) (get_or r 1 0) (get_or r 2 0) (ltb-true c 0x80 t)) (λ t.
    by_cond Q (ltb c 0x800) _ _ (λ u. decode_2 c (get_or r 0 0) (get_or r 1 0) (ltb-false c 0x80 t) (ltb-true c 0x800 u)) (λ u.
    by_cond Q (ltb c 0x10000) _ _ (λ v. decode_3 c (get_or r 0 0) (ltb-false c 0x800 u) (ltb-true c 0x10000 v) s.split) (λ v.
    decode_4 c (ltb-false c 0x10000 v) s.small)))
  where
    Q : List ℕ → Type 0
    Q l = char_at (l ++ r) ≡ Some (c, (length l))
