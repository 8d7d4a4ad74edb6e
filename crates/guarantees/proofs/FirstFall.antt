-- The line that is named where a log's times fall is the first with which they do not rise.
-- Assumes nothing.
use mathlib.Core.Path.{◌≡◌, refl}
use mathlib.Core.List.{List, [], ◌∷◌}
use Prim.Native.Nat.{ℕ, suc, ◌+◌}
use native.Mathlib.Omega.{arith}
use lib.Dec.{ltb}
use lib.ListN.{take}
use Rattle.std.specs.Prelude.{None, Option, Some}
use Rattle.buffers.proofs.Choice.{by_cond}
use Rattle.events.specs.Answer.{Answer, event, blank, refused, line_answer}
use Rattle.logs.specs.Events.{gather}
use Rattle.event_lines.specs.Time.{rank, fall_at, fall_from, fall_in}
use Rattle.guarantees.specs.Lines.{log_lines}
use Rattle.guarantees.specs.Merging.{Rises}
use Rattle.guarantees.proofs.MergeOrder.{lines_rise}

-- the line n is one of these: the lines before it name none, and with it they name it
abbrev FirstAt : ℕ → ℕ → ℕ → List (List ℕ) → Type 0
FirstAt line last n xs = (k : ℕ) × (n ≡ line + k) × (fall_from line last (take k xs) ≡ None) × (fall_from line last (take (suc k) xs) ≡ Some n)

first_at : (line last n : ℕ) (xs : List (List ℕ)) → fall_from line last xs ≡ Some n → FirstAt line last n xs
unfolding fall_from
first_at line last n [] h = let z : ◌≡◌ {A = ℕ} 0 1 = cc in absurd (omega arith)
first_at line last n (x ∷ xs) h = go (line_answer x) refl h (λ r. first_at (suc line) r n xs)
  where
    go : (a : Answer) → line_answer x ≡ a → fall_at line last a (λ r. fall_from (suc line) r xs) ≡ Some n → ((r : ℕ) → fall_from (suc line) r xs ≡ Some n → FirstAt (suc line) r n xs)
        → FirstAt line last n (x ∷ xs)
    go (event e) q h next =
        by_cond (λ (f : Option ℕ). f ≡ Some n → FirstAt line last n (x ∷ xs)) (ltb (rank e.time) last) (Some line) (fall_from (suc line) (rank e.time) xs)
        (λ t z. let m : line ≡ n = cc in (0, omega (arith, m), refl, rw (q, t) z))
        (λ t z. let o = next (rank e.time) z in (suc o.0, omega (arith, o.1), rw (q, t) o.2, rw (q, t) o.3))
        h
    go blank q h next = let o = next last h in (suc o.0, omega (arith, o.1), rw q o.2, rw q o.3)
    go (refused y) q h next = let o = next last h in (suc o.0, omega (arith, o.1), rw q o.2, rw q o.3)

pub first_fall : (s : List ℕ) (line : ℕ) → fall_in s ≡ Some line
    → (k : ℕ) × (line ≡ suc k) × Rises (gather line_answer (take k (log_lines s))) × (Rises (gather line_answer (take (suc k) (log_lines s))) → ⊥)
first_fall s line h =
    let o = first_at 1 0 line (log_lines s) h in (
      o.0,
      omega (arith, o.1),
      (lines_rise (take o.0 (log_lines s))).0 o.2,
      λ r. let z = (lines_rise (take (suc o.0) (log_lines s))).1 r in let w = o.3 in let n : ◌≡◌ {A = ℕ} 0 1 = cc in absurd (omega arith),
    )
