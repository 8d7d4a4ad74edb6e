-- What holds of each byte of a part holds of each byte where the part stands.
-- Assumes nothing.
use mathlib.Core.Path.{◌≡◌, sym, ap, subst, ◌∙◌}
use mathlib.Core.List.{List, ◌++◌}
use Prim.Native.Nat.{ℕ, ◌+◌, ◌-◌, ◌≤◌, ◌<◌}
use native.Mathlib.Omega.{arith}
use lib.ListN.{length, get_or, take, drop, length-append, length-drop}
use lib.Seq.{get_or-take, get_or-drop, drop-drop, take_at, drop_at}

-- of the first m of the n that stand at a place
pub part_holds : (P : ℕ → Type 0) (s : List ℕ) (at n m : ℕ) → m ≤ n → ((k : ℕ) → k < m → P (get_or (take n (drop at s)) k 0))
    → (i : ℕ) → at ≤ i → i < at + m → P (get_or s i 0)
part_holds P s at n m h f = λ i g l.
    let k : ℕ = i - at in
    let e : at + k ≡ i = omega arith in
    subst P (get_or-take n (drop at s) k 0 (omega arith) ∙ get_or-drop at s k 0 ∙ ap (λ (j : ℕ). get_or s j 0) e) (f k (omega arith))

-- a block of n bytes comes off the front of what stands behind i
module _ (s x r : List ℕ) (i n : ℕ) (cut : drop i s ≡ x ++ r) (long : length x ≡ n) where
  pub block_is : x ≡ take n (drop i s)
  block_is = sym (ap (take n) cut ∙ take_at x r n long)

  pub behind_block : r ≡ drop (i + n) s
  behind_block = sym (sym (drop-drop n i s) ∙ ap (drop n) cut ∙ drop_at x r n long)

  pub block_inside : i ≤ length s → i + n ≤ length s
  block_inside h = omega (arith, ap length cut, length-append x r, length-drop i s)
