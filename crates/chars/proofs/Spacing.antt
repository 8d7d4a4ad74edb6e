-- Texts that begin or end with a byte past the space, and spaces at the start.
-- Assumes nothing.
use mathlib.Core.Path.{◌≡◌, refl, sym, ap, ◌∙◌}
use mathlib.Core.Bool.{Bool, false, cond}
use mathlib.Core.List.{List, [], ◌∷◌}
use Prim.Native.Nat.{ℕ, zero, suc, ◌+◌, ◌-◌, ◌≤◌, ◌<◌}
use Prim.Native.Char.{code}
use native.Mathlib.Decide.{dec_lt}
use native.Mathlib.Numerals.{add-one}
use native.Mathlib.Omega.{arith}
use lib.Dec.{eqb}
use borrow.Author.Tests.{eqb-true}
use lib.ListN.{length, get_or, drop, length-drop}
use lib.Seq.{drop-drop, get_or-drop}
use Rattle.chars.specs.White.{white, wide_white, white_at, trim_start, empty, trim_end, trim, blank}
use Rattle.chars.specs.Post.{AllBytes, EndsIn, Spaces}
use Rattle.chars.proofs.Trimming.{trim_start_stays, trim_start_white, start_clean, trim_end_stays, trim_stays}
use Rattle.std.specs.Prelude.{None, Option, Some, MatchOption, slice_get}
use Rattle.std.proofs.lemmas.Option.{slice_get_within, get_or_from_slice_get}
use Rattle.chars.proofs.Ending.{not_white, white_first, white_ascii, last_one, ends_ascii, ends_wide}

-- what comes behind the space in ASCII is no White_Space
past_space : (a : ℕ) → code " " < a → a < 128 → white a ≡ false
past_space a h l = not_white a h (λ g k. omega arith)

module _ (s : List ℕ) (nonempty : 0 < length s) where
  pub begins_past : code " " < get_or s 0 0 → get_or s 0 0 < 128 → white_at s ≡ 0
  begins_past h l = white_first s nonempty l ∙ ap (λ (t : Bool). cond t 1 0) (past_space (get_or s 0 0) h l)

  pub ends_past : code " " < get_or s (length s - 1) 0 → get_or s (length s - 1) 0 < 128 → EndsIn s 0
  ends_past h l = ends_ascii s nonempty l (past_space (get_or s (length s - 1) 0) h l)

  pub ends_space : get_or s (length s - 1) 0 ≡ code " " → EndsIn s 1
  unfolding white wide_white
  ends_space e =
      ends_wide s nonempty 1 (omega arith) (omega arith)
      (ap white_at (last_one s nonempty) ∙ white_ascii (get_or s (length s - 1) 0) [] (omega arith) ∙ ap (λ (a : ℕ). cond (white a) 1 0) e)

  pub begins_space : get_or s 0 0 ≡ code " " → white_at s ≡ 1
  unfolding white wide_white
  begins_space e = white_first s nonempty (omega arith) ∙ ap (λ (a : ℕ). cond (white a) 1 0) e

-- a byte that is there, in ASCII and past the space
abbrev pub PastSpace : Option ℕ → Type 0
PastSpace b = MatchOption b ⊥ (λ a. (code " " < a) × (a < 128))

-- the first byte, or the last one, as it was looked up
pub begins_at : (s : List ℕ) (b : Option ℕ) → b ≡ slice_get s 0 → PastSpace b → white_at s ≡ 0
begins_at s None e p = absurd p
begins_at s (Some a) e p =
    let g = get_or_from_slice_get s 0 a 0 (sym e) in begins_past s (slice_get_within s 0 a (sym e)) (omega (arith, g, p.0)) (omega (arith, g, p.1))

pub ends_at : (s : List ℕ) (b : Option ℕ) → b ≡ slice_get s (length s - 1) → PastSpace b → EndsIn s 0
ends_at s None e p = absurd p
ends_at s (Some a) e p =
    let i : ℕ = length s - 1 in
    let l = slice_get_within s i a (sym e) in
    let g = get_or_from_slice_get s i a 0 (sym e) in
    ends_past s (omega arith) (omega (arith, g, p.0)) (omega (arith, g, p.1))

-- a text that ends with such a byte, or begins with one too, stays
pub trim_end_past : (s : List ℕ) (b : Option ℕ) → b ≡ slice_get s (length s - 1) → PastSpace b → trim_end s ≡ s
trim_end_past s b e p = trim_end_stays s ((ends_at s b e p).nothing refl)

pub trim_past : (s : List ℕ) (a b : Option ℕ) → a ≡ slice_get s 0 → PastSpace a → b ≡ slice_get s (length s - 1) → PastSpace b → trim s ≡ s
trim_past s a b e p f q = trim_stays s (begins_at s a e p) ((ends_at s b f q).nothing refl)

-- one space and what is no White_Space
pub one_space : (s : List ℕ) → 2 ≤ length s → get_or s 0 0 ≡ code " " → code " " < get_or s 1 0 → get_or s 1 0 < 128 → trim_start s ≡ drop 1 s
one_space s h e g l =
    trim_start_white s 0 (begins_space s (omega arith) e)
    ∙ trim_start_stays (drop 1 s)
    (begins_past (drop 1 s) (omega (arith, length-drop 1 s)) (omega (arith, get_or-drop 1 s 0 0)) (omega (arith, get_or-drop 1 s 0 0)))

-- a text of a byte past the space is not blank
pub past_not_blank : (s : List ℕ) → 0 < length s → white_at s ≡ 0 → blank s ≡ false
past_not_blank [] h e = absurd (omega arith)
past_not_blank (a ∷ r) h e = ap empty (trim_start_stays (a ∷ r) e)

-- nothing is left of a text just where nothing is left of its start
pub trim_blank : (s : List ℕ) → empty (trim s) ≡ blank s
unfolding trim_end
trim_blank s = go (trim_start s) (start_clean s)
  where
    go : (t : List ℕ) → white_at t ≡ 0 → empty (trim_end t) ≡ empty t
    go [] e = refl
    go (a ∷ r) e = ap (λ (l : List ℕ). empty (cond (empty l) [] (a ∷ trim_end r))) (trim_start_stays (a ∷ r) e)

-- ---- spaces at the start

module _ (s : List ℕ) where
  pub spaces_all : (n : ℕ) → AllBytes (λ b. eqb b (code " ")) s 0 n → Spaces s n
  spaces_all n f = λ i l. eqb-true (get_or s i 0) (code " ") (f i (omega arith) l)

  pub spaces_more : (n : ℕ) → Spaces s n → get_or s n 0 ≡ code " " → Spaces s (n + 1)
  spaces_more n h e = λ i l. go i l (dec_lt i n)
    where
      go : (i : ℕ) → i < n + 1 → Dec (i < n) → get_or s i 0 ≡ code " "
      go i l (yes m) = h i m
      go i l (no m) = let f : i ≡ n = omega arith in ap (λ (j : ℕ). get_or s j 0) f ∙ e

  -- a run of spaces behind others
  pub spaces_join : (m n : ℕ) → Spaces s m → ((i : ℕ) → m ≤ i → i < n → get_or s i 0 ≡ code " ") → Spaces s n
  spaces_join m n f g = λ i l. go i l (dec_lt i m)
    where
      go : (i : ℕ) → i < n → Dec (i < m) → get_or s i 0 ≡ code " "
      go i l (yes p) = f i p
      go i l (no p) = g i (omega arith) l

  -- they are taken off
  pub spaces_trimmed : (n : ℕ) → n ≤ length s → Spaces s n → trim_start s ≡ trim_start (drop n s)
  spaces_trimmed zero l h = refl
  spaces_trimmed (suc n) l h =
      spaces_trimmed n (omega arith) (λ i m. h i (omega arith))
      ∙ trim_start_white (drop n s) 0 (begins_space (drop n s) (omega (arith, length-drop n s)) (get_or-drop n s 0 0 ∙ h (n + 0) (omega arith)))
      ∙ ap trim_start (drop-drop 1 n s ∙ ap (λ (k : ℕ). drop k s) (add-one n))
