-- How texts that are appended one after the other join, and how a copy grows byte by byte.
-- Assumes nothing.
use mathlib.Core.Path.{◌≡◌, refl, sym, ap, ◌∙◌}
use mathlib.Core.List.{List, [], ◌∷◌, ◌++◌, append_assoc, append-nil}
use Prim.Native.Nat.{ℕ, ◌+◌, ◌-◌, ◌≤◌, ◌<◌}
use native.Mathlib.Nat.{add-zero, add-suc}
use native.Mathlib.Numerals.{add-one}
use native.Mathlib.Omega.{arith}
use lib.ListN.{length, take, drop, set, get_or, length-append, length-drop, take-append-drop}
use lib.Seq.{drop-set-lt, take-suc, take-suc-set, take_all, length-take-le}
use Rattle.buffers.specs.Wrote.{Wrote}
pub use Rattle.buffers.specs.Joining.{drop_later, nothing, kept_on, then}

-- ---- texts one after the other

-- a byte is stored behind the text
pub one : (l : List ℕ) (i b : ℕ) → i < length l → Wrote l i (set l i b) (i + 1) (b ∷ [])
one l i b h = record { stands = rw (add-one i) (take-suc-set l i b h); ends = refl; kept = drop-set-lt (i + 1) l i b (omega arith) }

-- the whole buffer
pub wrote_all : {a b : List ℕ} {i n : ℕ} {x : List ℕ} → Wrote a i b n x → b ≡ take i a ++ (x ++ drop n a)
wrote_all {a} {b} {i} {n} {x} w =
    sym (take-append-drop n b)
    ∙ ap (λ (l : List ℕ). l ++ drop n b) w.stands
    ∙ ap (λ (l : List ℕ). (take i a ++ x) ++ l) w.kept
    ∙ append_assoc (take i a) x (drop n a)

-- ---- a text that is appended piece by piece: what was written and what is left make up the whole

pub record Going (old : List ℕ) (at : ℕ) (new : List ℕ) (end : ℕ) (left whole : List ℕ) : Type 0 where
  pub stands : take end new ++ left ≡ take at old ++ whole
  pub ends : end + length left ≡ at + length whole
  pub kept : drop end new ≡ drop end old

pub going_start : (old : List ℕ) (at : ℕ) (whole : List ℕ) → Going old at old at whole whole
going_start old at whole = record { stands = refl; ends = refl; kept = refl }

module _ {old : List ℕ} {at : ℕ} {a : List ℕ} {i : ℕ} {left whole : List ℕ} (g : Going old at a i left whole) where
  -- a piece goes off the front of what is left
  pub going_by : {b : List ℕ} {j : ℕ} {x rest : List ℕ} → left ≡ x ++ rest → Wrote a i b j x → Going old at b j rest whole
  going_by {b} {j} {x} {rest} e w = record {
    stands =
        ap (λ (l : List ℕ). l ++ rest) w.stands
        ∙ append_assoc (take i a) x rest
        ∙ ap (λ (l : List ℕ). take i a ++ l) (sym e)
        ∙ g.stands;
    ends = omega (arith, g.ends, w.ends, ap length e, length-append x rest);
    kept = kept_on old w g.kept;
  }

  -- nothing is left
  pub going_done : left ≡ [] → Wrote old at a i whole
  going_done e = record {
    stands = sym (append-nil (take i a)) ∙ sym (ap (λ (l : List ℕ). take i a ++ l) e) ∙ g.stands;
    ends = omega (arith, g.ends, ap length e);
    kept = g.kept;
  }

pub going_on : {old : List ℕ} {at : ℕ} {a b : List ℕ} {i j : ℕ} {x rest whole : List ℕ} → Going old at a i (x ++ rest) whole → Wrote a i b j x → Going old at b j rest whole
going_on g w = going_by g refl w

-- ---- a copy: t's first `at`, the first i of s, and then what t had

pub record Copied (at i : ℕ) (s t t₀ : List ℕ) : Type 0 where
  pub front : take (at + i) t ≡ take at t₀ ++ take i s
  pub kept : drop (at + i) t ≡ drop (at + i) t₀

pub copy_none : (at : ℕ) (s t : List ℕ) → Copied at 0 s t t
copy_none at s t = record { front = rw (add-zero, append-nil); kept = refl }

pub copy_more : (at i : ℕ) (s t t₀ : List ℕ) → at + i < length t → i < length s → Copied at i s t t₀ → Copied at (i + 1) s (set t (at + i) (get_or s i 0)) t₀
copy_more at i s t t₀ h hs c = record {
  front = rw (add-one, add-suc, take-suc-set t (at + i) (get_or s i 0), take-suc s i 0, c.front) (append_assoc (take at t₀) (take i s) _);
  kept = drop-set-lt (at + (i + 1)) t (at + i) (get_or s i 0) (omega arith) ∙ rw (further at i) (drop_later t t₀ (at + i) 1 c.kept);
}
  where
    further : (at i : ℕ) → at + (i + 1) ≡ at + i + 1
    further at i = omega arith

pub copy_all : (at i : ℕ) (s t t₀ : List ℕ) → i ≡ length s → Copied at i s t t₀ → Wrote t₀ at t (at + i) s
copy_all at i s t t₀ h c = record {
  stands = c.front ∙ ap (λ (r : List ℕ). take at t₀ ++ r) (take_all i s (omega arith));
  ends = omega arith;
  kept = c.kept;
}

-- the element behind the first i
pub snoc : (i : ℕ) (t : List ℕ) (a : ℕ) → i < length t → take (i + 1) (set t i a) ≡ take i t ++ (a ∷ [])
snoc i t a h = rw add-one (take-suc-set t i a h)

-- a part that starts anywhere
pub length_part : (n m : ℕ) (l : List ℕ) → n + m ≤ length l → length (take m (drop n l)) ≡ m
length_part n m l h = length-take-le m (drop n l) (omega (arith, length-drop n l))

-- the rest, as a part
pub take_rest : (n : ℕ) (l : List ℕ) → take (length l - n) (drop n l) ≡ drop n l
take_rest n l = take_all (length l - n) (drop n l) (omega (arith, length-drop n l))
