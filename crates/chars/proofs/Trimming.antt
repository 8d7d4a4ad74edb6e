-- Laws of trim. A White_Space character begins with a byte that continues nothing, so nothing that follows or precedes it
-- changes what is taken off: the end is trimmed by its last character, again and again.
-- Assumes nothing.
use mathlib.Core.Path.{◌≡◌, refl, sym, ap, ◌∙◌}
use mathlib.Core.Logic.{◌⊎◌, inl, inr}
use mathlib.Core.Bool.{true, false, cond}
use mathlib.Core.List.{List, [], ◌∷◌, ◌++◌}
use Prim.Native.Nat.{ℕ, zero, suc, ◌-◌, ◌≤◌, ◌<◌}
use native.Mathlib.Decide.{dec_lt}
use native.Mathlib.Omega.{arith}
use lib.ListN.{length, get_or, take, drop, length-append}
use lib.Seq.{drop_at, take_at}
use Rattle.buffers.proofs.Choice.{by_cond}
use Rattle.buffers.proofs.Skipping.{skipped}
use Rattle.chars.specs.Utf8.{char_at, starts}
use Rattle.chars.specs.White.{white, width_of, white_at, or_past, trim_from, trim_start, empty, trim_end, trim}
use Rattle.chars.specs.Post.{EndsAt}
use Rattle.chars.proofs.Reading.{read, char_whole}
use Rattle.chars.proofs.Boundary.{starts_low, starts_high, char_cut}
use Rattle.std.specs.Prelude.{None, Option, Some}

-- ---- an empty text by its length

pub empty_none : (l : List ℕ) → length l ≡ 0 → empty l ≡ true
empty_none [] h = refl
empty_none (a ∷ r) h = absurd (omega arith)

pub empty_some : (l : List ℕ) → 0 < length l → empty l ≡ false
empty_some [] h = absurd (omega arith)
empty_some (a ∷ r) h = refl

-- ---- the White_Space character at the start

width_le : (t : Option (ℕ × ℕ)) (m : ℕ) → ((c n : ℕ) → t ≡ Some (c, n) → n ≤ m) → width_of t ≤ m
width_le (Some (c, n)) m f = by_cond (λ (w : ℕ). w ≤ m) (white c) n 0 (λ _. f c n refl) (λ _. omega arith)
width_le None m f = omega arith

-- it stands in the text
pub white_inside : (s : List ℕ) → white_at s ≤ length s
unfolding white_at
white_inside s = width_le (char_at s) (length s) (λ c n e. char_whole s c n e)

pub white_cut : (x w : List ℕ) → 0 < length x → starts (get_or w 0 0) ≡ true → white_at (x ++ w) ≡ white_at x
unfolding white_at
white_cut x w l h = ap width_of (char_cut x w l h)

starts_char : (a : ℕ) (r : List ℕ) (c n : ℕ) → char_at (a ∷ r) ≡ Some (c, n) → starts a ≡ true
starts_char a r c n e = go (read _ _ _ _ c n e).first
  where
    go : (a < 0x80) ⊎ (0xC2 ≤ a) → starts a ≡ true
    go (inl h) = starts_low a h
    go (inr h) = starts_high a (omega arith)

-- its first byte continues nothing
pub white_starts : (s : List ℕ) → 0 < white_at s → starts (get_or s 0 0) ≡ true
unfolding white_at
white_starts [] h = absurd (omega arith)
white_starts (a ∷ r) h = go (char_at (a ∷ r)) refl h
  where
    go : (t : Option (ℕ × ℕ)) → char_at (a ∷ r) ≡ t → 0 < width_of t → starts a ≡ true
    go (Some (c, n)) e h = starts_char a r c n e
    go None e h = absurd (omega arith)

-- ---- trimming at the start

pub trim_from_all : (r : List ℕ) → trim_from (length r) r ≡ []
unfolding trim_from
trim_from_all [] = refl
trim_from_all (a ∷ r) = trim_from_all r

pub trim_start_stays : (s : List ℕ) → white_at s ≡ 0 → trim_start s ≡ s
unfolding trim_from
trim_start_stays [] e = refl
trim_start_stays (a ∷ r) e = ap (λ (w : ℕ). or_past w (a ∷ r) (λ n. trim_from n r)) e

-- a White_Space character is taken off
pub trim_start_white : (s : List ℕ) (n : ℕ) → white_at s ≡ suc n → trim_start s ≡ trim_start (drop (suc n) s)
unfolding trim_from
trim_start_white [] n e = refl
trim_start_white (a ∷ r) n e = ap (λ (w : ℕ). or_past w (a ∷ r) (λ n. trim_from n r)) e ∙ skipped trim_from (λ k. refl) (λ k a r. refl) n r

start_clean_from : (k : ℕ) (s : List ℕ) → white_at (trim_from k s) ≡ 0
unfolding trim_from white_at
start_clean_from k [] = refl
start_clean_from (suc k) (a ∷ r) = start_clean_from k r
start_clean_from zero (a ∷ r) = go (white_at (a ∷ r)) refl (λ k. start_clean_from k r)
  where
    go : (w : ℕ) → white_at (a ∷ r) ≡ w → ((k : ℕ) → white_at (trim_from k r) ≡ 0) → white_at (or_past w (a ∷ r) (λ n. trim_from n r)) ≡ 0
    go zero e ih = e
    go (suc n) e ih = ih n

-- what is left begins with no White_Space character
pub start_clean : (s : List ℕ) → white_at (trim_start s) ≡ 0
start_clean s = start_clean_from 0 s

suffix_from : (k : ℕ) (s : List ℕ) → (p : List ℕ) × (s ≡ p ++ trim_from k s)
unfolding trim_from
suffix_from k [] = ([], refl)
suffix_from (suc k) (a ∷ r) = let h = suffix_from k r in (a ∷ h.0, ap (λ (l : List ℕ). a ∷ l) h.1)
suffix_from zero (a ∷ r) = go (white_at (a ∷ r)) (λ k. suffix_from k r)
  where
    go : (w : ℕ) → ((k : ℕ) → (p : List ℕ) × (r ≡ p ++ trim_from k r)) → (p : List ℕ) × (a ∷ r ≡ p ++ or_past w (a ∷ r) (λ n. trim_from n r))
    go zero ih = ([], refl)
    go (suc n) ih = let h = ih n in (a ∷ h.0, ap (λ (l : List ℕ). a ∷ l) h.1)

-- what is left is the end of the text
pub trim_start_suffix : (s : List ℕ) → trim_start s ≡ drop (length s - length (trim_start s)) s
trim_start_suffix s = go (suffix_from 0 s)
  where
    go : (p : List ℕ) × (s ≡ p ++ trim_start s) → trim_start s ≡ drop (length s - length (trim_start s)) s
    go h =
        let n : length h.0 ≡ length s - length (trim_start s) = omega (arith, length-append h.0 (trim_start s), ap length h.1) in
        sym (drop_at h.0 (trim_start s) (length s - length (trim_start s)) n) ∙ sym (ap (drop (length s - length (trim_start s))) h.1)

pub trim_start_length : (s : List ℕ) → length (trim_start s) ≤ length s
trim_start_length s = go (suffix_from 0 s)
  where
    go : (p : List ℕ) × (s ≡ p ++ trim_start s) → length (trim_start s) ≤ length s
    go h = omega (arith, length-append h.0 (trim_start s), ap length h.1)

-- ---- trimming at the end

-- one White_Space character behind x changes what is left of x at the start only where nothing was left
trim_from_append : (k : ℕ) (x w : List ℕ) → k ≤ length x → white_at w ≡ length w → 0 < length w
    → trim_from k (x ++ w) ≡ cond (empty (trim_from k x)) [] (trim_from k x ++ w)
unfolding trim_from
trim_from_append zero [] [] l e p = refl
trim_from_append zero [] (b ∷ v) l e p = ap (λ (n : ℕ). or_past n (b ∷ v) (λ n. trim_from n v)) e ∙ trim_from_all v
trim_from_append (suc k) [] w l e p = absurd (omega arith)
trim_from_append (suc k) (a ∷ r) w l e p = trim_from_append k r w (omega arith) e p
trim_from_append zero (a ∷ r) w l e p =
    ap (λ (n : ℕ). or_past n (a ∷ (r ++ w)) (λ n. trim_from n (r ++ w))) (white_cut (a ∷ r) w (omega arith) (white_starts w (omega arith)))
    ∙ go (white_at (a ∷ r)) refl (λ k m. trim_from_append k r w m e p)
  where
    go : (n : ℕ) → white_at (a ∷ r) ≡ n → ((k : ℕ) → k ≤ length r → trim_from k (r ++ w) ≡ cond (empty (trim_from k r)) [] (trim_from k r ++ w))
        → or_past n (a ∷ (r ++ w)) (λ n. trim_from n (r ++ w))
        ≡ cond (empty (or_past n (a ∷ r) (λ n. trim_from n r))) [] (or_past n (a ∷ r) (λ n. trim_from n r) ++ w)
    go zero f ih = refl
    go (suc n) f ih = ih n (omega (arith, white_inside (a ∷ r)))

-- a White_Space character at the end is taken off
pub trim_end_white : (x w : List ℕ) → white_at w ≡ length w → 0 < length w → trim_end (x ++ w) ≡ trim_end x
unfolding trim_end trim_from
trim_end_white [] [] e p = refl
trim_end_white [] (b ∷ v) e p = ap (λ (l : List ℕ). cond (empty l) [] (b ∷ trim_end v)) (trim_from_append 0 [] (b ∷ v) (omega arith) e p)
trim_end_white (a ∷ r) w e p =
    ap (λ (l : List ℕ). cond (empty l) [] (a ∷ trim_end (r ++ w))) (trim_from_append 0 (a ∷ r) w (omega arith) e p)
    ∙ go (trim_start (a ∷ r)) (trim_end_white r w e p)
  where
    go : (t : List ℕ) → trim_end (r ++ w) ≡ trim_end r → cond (empty (cond (empty t) [] (t ++ w))) [] (a ∷ trim_end (r ++ w)) ≡ cond (empty t) [] (a ∷ trim_end r)
    go [] ih = refl
    go (b ∷ t) ih = ap (λ (l : List ℕ). a ∷ l) ih

suc_sub : (m n : ℕ) → n ≤ m → suc m - n ≡ suc (m - n)
suc_sub m n h = omega arith

-- what ends r ends a ∷ r
ends_later : (a : ℕ) (r : List ℕ) (n : ℕ) → EndsAt r n → EndsAt (a ∷ r) n
ends_later a r n h = (h.0, omega (arith, h.1), rw (suc_sub (length r) n h.1) h.2)

-- and the other way, unless it is all of a ∷ r
ends_sooner : (a : ℕ) (r : List ℕ) (n : ℕ) → n ≤ length r → EndsAt (a ∷ r) n → EndsAt r n
ends_sooner a r n l h = (h.0, l, rw (suc_sub (length r) n l) at h.2)

-- a text of which nothing is left ends in a White_Space character
blank_ends : (k : ℕ) (s : List ℕ) → trim_from k s ≡ [] → k < length s → (n : ℕ) × EndsAt s n
unfolding trim_from
blank_ends k [] e l = absurd (omega arith)
blank_ends (suc k) (a ∷ r) e l = let h = blank_ends k r e (omega arith) in (h.0, ends_later a r h.0 h.1)
blank_ends zero (a ∷ r) e l = go (white_at (a ∷ r)) refl e (λ k f m. blank_ends k r f m)
  where
    here : (n : ℕ) → white_at (a ∷ r) ≡ suc n → length r ≤ n → (n : ℕ) × EndsAt (a ∷ r) n
    here n f m =
        let q : suc n ≡ suc (length r) = omega (arith, white_inside (a ∷ r)) in
        let z : suc (length r) - suc n ≡ 0 = omega arith in
        (suc n, (omega arith, omega arith, rw z f))

    go : (w : ℕ) → white_at (a ∷ r) ≡ w → or_past w (a ∷ r) (λ n. trim_from n r) ≡ [] → ((k : ℕ) → trim_from k r ≡ [] → k < length r → (n : ℕ) × EndsAt r n)
        → (n : ℕ) × EndsAt (a ∷ r) n
    go zero f e ih = let z : ◌≡◌ {A = ℕ} 0 1 = cc in absurd (omega arith)
    go (suc n) f e ih = by (dec_lt n (length r))
      where
        by : Dec (n < length r) → (n : ℕ) × EndsAt (a ∷ r) n
        by (yes m) = let h = ih n e m in (h.0, ends_later a r h.0 h.1)
        by (no m) = here n f (omega arith)

-- a text that ends in no White_Space character stays
pub trim_end_stays : (s : List ℕ) → ((m : ℕ) → EndsAt s m → ⊥) → trim_end s ≡ s
unfolding trim_end
trim_end_stays [] h = refl
trim_end_stays (a ∷ r) h = go (trim_start (a ∷ r)) refl (trim_end_stays r (λ m f. h m (ends_later a r m f)))
  where
    go : (t : List ℕ) → trim_start (a ∷ r) ≡ t → trim_end r ≡ r → cond (empty t) [] (a ∷ trim_end r) ≡ a ∷ r
    go [] e ih = let f = blank_ends 0 (a ∷ r) e (omega arith) in absurd (h f.0 f.1)
    go (b ∷ t) e ih = ap (λ (l : List ℕ). a ∷ l) ih

-- ---- what trimming leaves

-- nothing but White_Space is taken off at the end
pub trim_end_split : (s : List ℕ) → (w : List ℕ) × (s ≡ trim_end s ++ w) × (trim_start w ≡ [])
unfolding trim_end trim_from
trim_end_split [] = ([], refl, refl)
trim_end_split (a ∷ r) = go (trim_start (a ∷ r)) refl (trim_end_split r)
  where
    go : (t : List ℕ) → trim_start (a ∷ r) ≡ t → (w : List ℕ) × (r ≡ trim_end r ++ w) × (trim_start w ≡ [])
        → (w : List ℕ) × (a ∷ r ≡ cond (empty t) [] (a ∷ trim_end r) ++ w) × (trim_start w ≡ [])
    go [] e ih = (a ∷ r, refl, e)
    go (b ∷ t) e ih = (ih.0, ap (λ (l : List ℕ). a ∷ l) ih.1, ih.2)

-- what is left is the start of the text
pub trim_end_prefix : (s : List ℕ) → trim_end s ≡ take (length (trim_end s)) s
trim_end_prefix s =
    let h = trim_end_split s in
    sym (take_at (trim_end s) h.0 (length (trim_end s)) refl) ∙ sym (ap (take (length (trim_end s))) h.1)

pub trim_end_length : (s : List ℕ) → length (trim_end s) ≤ length s
trim_end_length s = let h = trim_end_split s in omega (arith, length-append (trim_end s) h.0, ap length h.1)

-- a blank text begins with a byte that continues nothing
pub blank_starts : (w : List ℕ) → trim_start w ≡ [] → starts (get_or w 0 0) ≡ true
unfolding trim_from
blank_starts [] e = starts_low 0 (omega arith)
blank_starts (a ∷ r) e = white_starts (a ∷ r) (go (white_at (a ∷ r)) refl e)
  where
    go : (n : ℕ) → white_at (a ∷ r) ≡ n → or_past n (a ∷ r) (λ n. trim_from n r) ≡ [] → 0 < white_at (a ∷ r)
    go zero f e = let z : ◌≡◌ {A = ℕ} 0 1 = cc in absurd (omega arith)
    go (suc n) f e = omega arith

-- a text that begins with no White_Space character still does so without its end
pub start_kept : (s : List ℕ) → white_at s ≡ 0 → white_at (trim_end s) ≡ 0
unfolding white_at
start_kept s e = go (trim_end s) (trim_end_split s)
  where
    go : (t : List ℕ) → (w : List ℕ) × (s ≡ t ++ w) × (trim_start w ≡ []) → white_at t ≡ 0
    go [] h = refl
    go (a ∷ r) h = sym (white_cut (a ∷ r) h.0 (omega arith) (blank_starts h.0 h.2)) ∙ sym (ap white_at h.1) ∙ e

-- what is left ends in no White_Space character
pub end_clean : (s : List ℕ) (m : ℕ) → EndsAt (trim_end s) m → ⊥
unfolding trim_end
end_clean [] m h = let p = h.0 in let q = h.1 in omega arith
end_clean (a ∷ r) m h = go (trim_start (a ∷ r)) refl h (end_clean r)
  where
    -- all of a ∷ trim_end r would be one White_Space character, and then a ∷ r would be blank
    all : length (trim_end r) < m → EndsAt (a ∷ trim_end r) m → trim_start (a ∷ r) ≡ []
    all l f =
        let k = trim_end_split r in
        let n : m ≡ suc (length (trim_end r)) = omega (arith, f.1) in
        let z : suc (length (trim_end r)) - m ≡ 0 = omega arith in
        let w : white_at (a ∷ trim_end r) ≡ suc (length (trim_end r)) = (rw z at f.2) ∙ n in
        let v : white_at (a ∷ r) ≡ suc (length (trim_end r)) =
        ap (λ (l : List ℕ). white_at (a ∷ l)) k.1 ∙ white_cut (a ∷ trim_end r) k.0 (omega arith) (blank_starts k.0 k.2) ∙ w in
        trim_start_white (a ∷ r) (length (trim_end r)) v
        ∙ ap (λ (l : List ℕ). trim_start (drop (length (trim_end r)) l)) k.1
        ∙ ap trim_start (drop_at (trim_end r) k.0 (length (trim_end r)) refl)
        ∙ k.2

    go : (t : List ℕ) → trim_start (a ∷ r) ≡ t → EndsAt (cond (empty t) [] (a ∷ trim_end r)) m → ((m : ℕ) → EndsAt (trim_end r) m → ⊥) → ⊥
    go [] e f ih = let p = f.0 in let q = f.1 in omega arith
    go (b ∷ t) e f ih = by (dec_lt (length (trim_end r)) m)
      where
        by : Dec (length (trim_end r) < m) → ⊥
        by (yes l) = let z : ◌≡◌ {A = List ℕ} (b ∷ t) [] = sym e ∙ all l f in let y : ◌≡◌ {A = ℕ} 0 1 = cc in omega arith
        by (no l) = ih m (ends_sooner a (trim_end r) m (omega arith) f)

-- a text with no White_Space character at its ends stays
pub trim_stays : (s : List ℕ) → white_at s ≡ 0 → ((m : ℕ) → EndsAt s m → ⊥) → trim s ≡ s
trim_stays s e h = ap trim_end (trim_start_stays s e) ∙ trim_end_stays s h

-- a trimmed text begins and ends with no White_Space character
pub trim_clean_start : (s : List ℕ) → white_at (trim s) ≡ 0
trim_clean_start s = start_kept (trim_start s) (start_clean s)

pub trim_clean_end : (s : List ℕ) (m : ℕ) → EndsAt (trim s) m → ⊥
trim_clean_end s = end_clean (trim_start s)

pub trim_idempotent : (s : List ℕ) → trim (trim s) ≡ trim s
trim_idempotent s = trim_stays (trim s) (trim_clean_start s) (trim_clean_end s)

-- a trimmed text is a part of the text
pub trim_part : (s : List ℕ) → trim s ≡ take (length (trim s)) (drop (length s - length (trim_start s)) s)
trim_part s = trim_end_prefix (trim_start s) ∙ ap (take (length (trim s))) (trim_start_suffix s)

pub trim_length : (s : List ℕ) → length (trim s) ≤ length s
trim_length s = omega (arith, trim_end_length (trim_start s), trim_start_length s)
