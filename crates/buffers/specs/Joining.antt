-- How texts that are appended one after the other join. The laws of a lent buffer as a sink need it here.
-- Assumes nothing.
use mathlib.Core.Path.{◌≡◌, refl, sym, ap, ◌∙◌}
use mathlib.Core.List.{List, [], ◌++◌, append_assoc, append-nil}
use Prim.Native.Nat.{ℕ, ◌+◌}
use native.Mathlib.Nat.{add-zero}
use native.Mathlib.Omega.{arith}
use lib.ListN.{length, take, drop, length-append}
use lib.Seq.{drop-drop}
use Rattle.buffers.specs.Wrote.{Wrote}

-- two lists that agree from a place on agree from any later one on
pub drop_later : (a b : List ℕ) (m k : ℕ) → drop m a ≡ drop m b → drop (m + k) a ≡ drop (m + k) b
drop_later a b m k e = sym (drop-drop k m a) ∙ ap (drop k) e ∙ drop-drop k m b

-- nothing is appended
pub nothing : (l : List ℕ) (i : ℕ) → Wrote l i l i []
nothing l i = record { stands = sym (append-nil (take i l)); ends = sym (add-zero i); kept = refl }

-- what stands behind is still what it was at first
pub kept_on : {a b : List ℕ} {i n : ℕ} {x : List ℕ} (z : List ℕ) → Wrote a i b n x → drop i a ≡ drop i z → drop n b ≡ drop n z
kept_on {a} {b} {i} {n} {x} z w e = w.kept ∙ rw w.ends (drop_later a z i (length x) e)

-- one text, and then another
pub then : {a b c : List ℕ} {i m n : ℕ} {x y : List ℕ} → Wrote a i b m x → Wrote b m c n y → Wrote a i c n (x ++ y)
then {a} {b} {c} {i} {m} {n} {x} {y} p q = record {
  stands = q.stands ∙ ap (λ (l : List ℕ). l ++ y) p.stands ∙ append_assoc (take i a) x y;
  ends = omega (arith, length-append x y, p.ends, q.ends);
  kept = kept_on a q p.kept;
}
