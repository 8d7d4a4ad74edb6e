-- A run of bytes that stand for themselves: no quotation mark, no backslash, no control character.
-- Assumes nothing.
use mathlib.Core.Path.{◌≡◌, refl, sym, ap, ◌∙◌}
use mathlib.Core.Logic.{◌⊎◌, inl, inr}
use mathlib.Core.Bool.{Bool, true, false, ◌||◌}
use mathlib.Core.List.{List, [], ◌∷◌}
use Prim.Native.Nat.{ℕ, suc, ◌+◌, ◌≤◌, ◌<◌, zero-le}
use Prim.Native.Char.{code}
use native.Mathlib.Decide.{dec_lt}
use native.Mathlib.Omega.{arith}
use lib.Dec.{eqb, ltb}
use lib.ListN.{length, get_or, drop, length-drop, drop_of_length-le}
use lib.Seq.{drop-drop}
use borrow.Author.Tests.{lt-ltb, le-ltb, ne_eqb}
use Rattle.buffers.proofs.Choice.{by_cond, both_arms}
use Rattle.numbers.proofs.Scans.{byte_and_rest}
use Rattle.json_text.specs.Text.{plain_run}

-- the byte ends a run
abbrev pub ends_run : ℕ → Bool
ends_run b = ltb b 0x20 || (eqb b (code "\"") || eqb b (code "\\"))

pub run_goes_on : (b : ℕ) → 0x20 ≤ b → (b ≡ code "\"" → ⊥) → (b ≡ code "\\" → ⊥) → ends_run b ≡ false
run_goes_on b h q e = rw (le-ltb b 0x20 h, ne_eqb b (code "\"") q, ne_eqb b (code "\\") e)

pub run_goes_on_above : (b : ℕ) → code "\\" < b → ends_run b ≡ false
run_goes_on_above b h = run_goes_on b (omega (arith, h)) (λ e. omega (arith, h, e)) (λ e. omega (arith, h, e))

pub run_ended : (b : ℕ) → (b < 0x20) ⊎ (((0x20 ≤ b) × (b ≡ code "\"")) ⊎ ((0x20 ≤ b) × (b ≡ code "\"" → ⊥) × (b ≡ code "\\"))) → ends_run b ≡ true
run_ended b (inl h) = rw (lt-ltb b 0x20 h)
run_ended b (inr (inl (h, e))) = rw e
run_ended b (inr (inr (h, n, e))) = rw e

pub run_inside : (s : List ℕ) → plain_run s ≤ length s
unfolding plain_run
run_inside [] = zero-le
run_inside (b ∷ r) = both_arms (λ (n : ℕ). n ≤ suc (length r)) (ends_run b) zero-le (omega (arith, run_inside r))

-- behind a run there is none
pub run_once : (s : List ℕ) → plain_run (drop (plain_run s) s) ≡ 0
unfolding plain_run
run_once [] = refl
run_once (b ∷ r) = by_cond (λ (n : ℕ). plain_run (drop n (b ∷ r)) ≡ 0) (ends_run b) 0 (suc (plain_run r)) (λ e. rw e) (λ _. run_once r)

-- the same at a place of the text
module _ (s : List ℕ) (i : ℕ) where
  pub run_passes : i < length s → ends_run (get_or s i 0) ≡ false → plain_run (drop i s) ≡ suc (plain_run (drop (i + 1) s))
  unfolding plain_run
  run_passes h e = rw (byte_and_rest s i h, e)

  pub run_stops : i < length s → ends_run (get_or s i 0) ≡ true → plain_run (drop i s) ≡ 0
  unfolding plain_run
  run_stops h e = rw (byte_and_rest s i h, e)

  pub run_ends : length s ≤ i → plain_run (drop i s) ≡ 0
  unfolding plain_run
  run_ends h = rw (drop_of_length-le s h)

  module _ (stop : ℕ) (e : stop ≡ i + plain_run (drop i s)) where
    pub run_stays_inside : i ≤ length s → stop ≤ length s
    run_stays_inside h = omega (arith, run_inside (drop i s), length-drop i s)

    pub none_behind_run : plain_run (drop stop s) ≡ 0
    none_behind_run = ap (λ (n : ℕ). plain_run (drop n s)) e ∙ ap plain_run (sym (drop-drop (plain_run (drop i s)) i s)) ∙ run_once (drop i s)

  -- a run that is empty ends at a quotation mark, a backslash or a control character
  pub control_here : i < length s → plain_run (drop i s) ≡ 0 → (get_or s i 0 ≡ code "\"" → ⊥) → (get_or s i 0 ≡ code "\\" → ⊥) → get_or s i 0 < 0x20
  control_here h z q b = go (dec_lt (get_or s i 0) 0x20)
    where
      go : Dec (get_or s i 0 < 0x20) → get_or s i 0 < 0x20
      go (yes l) = l
      go (no n) = absurd (omega (arith, run_passes h (run_goes_on (get_or s i 0) (omega arith) q b)))
