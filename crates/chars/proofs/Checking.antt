-- What follows where a whole text passes the limits, and where it does not.
-- Assumes nothing.
use mathlib.Core.Logic.{◌⊎◌, inl, inr}
use mathlib.Core.Path.{◌≡◌, refl}
use mathlib.Core.Bool.{Bool, true, false, cond}
use mathlib.Core.List.{List}
use Prim.Native.Nat.{ℕ}
use lib.Dec.{leb}
use lib.ListN.{length}
use Rattle.std.specs.Prelude.{Ok, Err, Result, ⊤}
use Rattle.format.specs.Limits.{text_limit}
use Rattle.format.specs.Refusals.{text_too_long, not_utf8}
use Rattle.format.specs.declared.Refusal.{Refusal}
use Rattle.chars.specs.Utf8.{utf8}
use Rattle.chars.specs.Checked.{text_checked}

module _ (s : List ℕ) where
  pub passed : {t : ⊤} → Ok t ≡ text_checked s → (leb (length s) text_limit ≡ true) × (utf8 s ≡ true)
  passed {t} e = go (leb (length s) text_limit) refl (utf8 s) refl e
    where
      go : (a : Bool) → leb (length s) text_limit ≡ a → (b : Bool) → utf8 s ≡ b → Ok t ≡ cond a (cond b (Ok t) (Err not_utf8)) (Err text_too_long)
          → (leb (length s) text_limit ≡ true) × (utf8 s ≡ true)
      go true x true y e = (x, y)
      go true x false y e = absurd (cc)
      go false x b y e = absurd (cc)

  -- what is refused so where a text does not pass, and is x where it does
  pub stopped : {A : Type 0} (by : Refusal → A) (x : A) {e : Refusal} → Err e ≡ text_checked s
      → by e ≡ cond (leb (length s) text_limit) (cond (utf8 s) x (by not_utf8)) (by text_too_long)
  stopped {A} by x {e} h = go (leb (length s) text_limit) (utf8 s) h
    where
      go : (a b : Bool) → ◌≡◌ {A = Result ⊤ Refusal} (Err e) (cond a (cond b (Ok tt) (Err not_utf8)) (Err text_too_long)) → by e ≡ cond a (cond b x (by not_utf8)) (by text_too_long)
      go true true h = absurd (cc)
      go true false h = cc
      go false b h = cc

  -- which of the two it was
  pub reason : {e : Refusal} → Err e ≡ text_checked s
      → ((leb (length s) text_limit ≡ false) × (e ≡ text_too_long)) ⊎ ((leb (length s) text_limit ≡ true) × (utf8 s ≡ false) × (e ≡ not_utf8))
  reason {e} h = go (leb (length s) text_limit) refl (utf8 s) refl h
    where
      go : (a : Bool) → leb (length s) text_limit ≡ a → (b : Bool) → utf8 s ≡ b → ◌≡◌ {A = Result ⊤ Refusal} (Err e) (cond a (cond b (Ok tt) (Err not_utf8)) (Err text_too_long))
          → ((leb (length s) text_limit ≡ false) × (e ≡ text_too_long)) ⊎ ((leb (length s) text_limit ≡ true) × (utf8 s ≡ false) × (e ≡ not_utf8))
      go true x true y h = absurd (cc)
      go true x false y h = inr (x, y, cc)
      go false x b y h = inl (x, cc)
