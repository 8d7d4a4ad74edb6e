-- The White_Space character that a text ends in is found by its last one, two or three bytes.
-- Assumes nothing.
use mathlib.Core.Path.{◌≡◌, refl, sym, ap, subst, ◌∙◌}
use mathlib.Core.Bool.{Bool, true, false, cond, ◌||◌}
use mathlib.Core.List.{List, [], ◌∷◌}
use Prim.Native.Nat.{ℕ, zero, suc, ◌+◌, ◌-◌, ◌≤◌, ◌<◌}
use mathlib.Core.Logic.{⊎_elim}
use native.Mathlib.Decide.{dec_lt}
use native.Mathlib.Omega.{arith}
use lib.Dec.{ltb, leb, eqb}
use lib.ListN.{length, get_or, drop, length-drop}
use lib.Seq.{length-take-le, drop-cons, drop-length}
use borrow.Author.Tests.{lt-ltb, le-leb, lt-leb, ne_eqb, leb-true, eqb-true}
use Rattle.buffers.proofs.Choice.{by_cond, both_arms, decide, and_left, and_right, or_cases}
use Rattle.chars.specs.Utf8.{char_at, encode}
use Rattle.chars.specs.White.{within, white, wide_white, width_of, white_at}
use Rattle.chars.specs.Post.{EndsAt, EndsIn}
use Rattle.chars.proofs.Reading.{read, char_whole, ascii_char}
use Rattle.chars.proofs.Encoding.{decode_encode}
use Rattle.chars.proofs.Trimming.{white_inside}
use Rattle.std.specs.Prelude.{None, Option, Some}

-- ---- where no White_Space character is

-- those behind ASCII are from U+0085 to U+3000
wide_range : (c : ℕ) → wide_white c ≡ true → (0x85 ≤ c) × (c ≤ 0x3000)
unfolding wide_white
wide_range c =
    either (is 0x85 (omega arith) (omega arith)) (either (is 0xA0 (omega arith) (omega arith)) (either (is 0x1680 (omega arith) (omega arith))
    (either ranged
    (either (is 0x2028 (omega arith) (omega arith)) (either (is 0x2029 (omega arith) (omega arith)) (either (is 0x202F (omega arith) (omega arith))
    (either (is 0x205F (omega arith) (omega arith)) (is 0x3000 (omega arith) (omega arith)))))))))
  where
    is : (n : ℕ) → 0x85 ≤ n → n ≤ 0x3000 → eqb c n ≡ true → (0x85 ≤ c) × (c ≤ 0x3000)
    is n l h e = let q = eqb-true c n e in (omega arith, omega arith)

    ranged : within 0x2000 0x200A c ≡ true → (0x85 ≤ c) × (c ≤ 0x3000)
    ranged e =
        let l = leb-true 0x2000 c (and_left (leb 0x2000 c) (leb c 0x200A) e) in
        let h = leb-true c 0x200A (and_right (leb 0x2000 c) (leb c 0x200A) e) in
        (omega arith, omega arith)

    either : {a b : Bool} {P : Type 0} → (a ≡ true → P) → (b ≡ true → P) → (a || b) ≡ true → P
    either {a} {b} f g e = ⊎_elim f g (or_cases a b e)

pub not_wide : (c : ℕ) → (0x85 ≤ c → c ≤ 0x3000 → ⊥) → wide_white c ≡ false
not_wide c n = ⊎_elim (λ e. let r = wide_range c e in absurd (n r.0 r.1)) (λ e. e) (decide (wide_white c))

pub not_white : (c : ℕ) → 0x20 < c → (0x85 ≤ c → c ≤ 0x3000 → ⊥) → white c ≡ false
unfolding white
not_white c h n =
    let a : 0x9 ≤ c = omega arith in
    let b : 0xD < c = omega arith in
    let d : c ≡ 0x20 → ⊥ = omega arith in
    rw (le-leb 0x9 c a, lt-leb c 0xD b, ne_eqb c 0x20 d, not_wide c n)

-- ---- no White_Space character takes four bytes

no_white : (c : ℕ) → 0x10000 ≤ c → white c ≡ false
no_white c h = not_white c (omega arith) (λ l g. omega arith)

encode_3 : (c : ℕ) → c < 0x10000 → length (encode c) ≤ 3
unfolding encode
encode_3 c h =
    rw (lt-ltb c 0x10000 h)
    (both_arms (λ (l : List ℕ). length l ≤ 3) (ltb c 0x80) (omega arith)
    (both_arms (λ (l : List ℕ). length l ≤ 3) (ltb c 0x800) (omega arith) (omega arith)))

pub white_few : (s : List ℕ) → white_at s ≤ 3
unfolding white_at
white_few s = go (char_at s) refl
  where
    wide : (c n : ℕ) → char_at s ≡ Some (c, n) → white c ≡ true → n ≤ 3
    wide c n e w = by (dec_lt c 0x10000)
      where
        by : Dec (c < 0x10000) → n ≤ 3
        by (yes h) = omega (arith, encode_3 c h, ap length (decode_encode s c n e), length-take-le n s (char_whole s c n e))
        by (no h) = let f : white c ≡ false = no_white c (omega arith) in let z : ◌≡◌ {A = ℕ} 0 1 = cc in absurd (omega arith)

    go : (t : Option (ℕ × ℕ)) → char_at s ≡ t → width_of t ≤ 3
    go (Some (c, n)) e = by_cond (λ (w : ℕ). w ≤ 3) (white c) n 0 (λ w. wide c n e w) (λ _. omega arith)
    go None e = omega arith

-- ---- the last byte

pub white_ascii : (a : ℕ) (r : List ℕ) → a < 0x80 → white_at (a ∷ r) ≡ cond (white a) 1 0
unfolding white_at
white_ascii a r h = ap width_of (ascii_char a r h)

-- a width that is right is inside
pub right : (s : List ℕ) (r : ℕ) → r ≡ white_at s → (r ≡ white_at s) × (r ≤ length s)
right s r e = (e, subst (λ (n : ℕ). n ≤ length s) (sym e) (white_inside s))

-- a text of nothing begins with none
pub white_empty : (s : List ℕ) → length s ≡ 0 → white_at s ≡ 0
unfolding white_at
white_empty [] h = refl
white_empty (a ∷ r) h = absurd (omega arith)

pub white_first : (s : List ℕ) → 0 < length s → get_or s 0 0 < 0x80 → white_at s ≡ cond (white (get_or s 0 0)) 1 0
white_first [] h i = absurd (omega arith)
white_first (a ∷ r) h i = white_ascii a r i

-- the last byte, as a list
pub last_one : (s : List ℕ) → 0 < length s → drop (length s - 1) s ≡ get_or s (length s - 1) 0 ∷ []
last_one s h =
    let n : suc (length s - 1) ≡ length s = omega arith in
    drop-cons s (length s - 1) 0 (omega arith) ∙ ap (λ (k : ℕ). get_or s (length s - 1) 0 ∷ drop k s) n ∙ ap (λ (l : List ℕ). get_or s (length s - 1) 0 ∷ l) (drop-length s)

-- bytes behind the first of a White_Space character are past ASCII
wide_last : (t : List ℕ) (m : ℕ) → length t ≡ m → white_at t ≡ m → 2 ≤ m → 0x80 ≤ get_or t (m - 1) 0
unfolding white_at
wide_last [] m e w h = absurd (omega arith)
wide_last (a ∷ r) m e w h = go (char_at (a ∷ r)) refl w
  where
    by : (c n : ℕ) → char_at (a ∷ r) ≡ Some (c, n) → (k : ℕ) → k ≤ n → 2 ≤ k → k ≤ 4 → 0x80 ≤ get_or (a ∷ r) (k - 1) 0
    by c n f zero l g q = absurd (omega arith)
    by c n f (suc zero) l g q = absurd (omega arith)
    by c n f (suc (suc zero)) l g q = ((read _ _ _ _ c n f).second l).0
    by c n f (suc (suc (suc zero))) l g q = ((read _ _ _ _ c n f).third l).0
    by c n f (suc (suc (suc (suc zero)))) l g q = ((read _ _ _ _ c n f).fourth l).0
    by c n f (suc (suc (suc (suc (suc k))))) l g q = absurd (omega arith)

    go : (t : Option (ℕ × ℕ)) → char_at (a ∷ r) ≡ t → width_of t ≡ m → 0x80 ≤ get_or (a ∷ r) (m - 1) 0
    go (Some (c, n)) f w = by c n f m (omega (arith, le)) h (omega (arith, le, (read _ _ _ _ c n f).few))
      where
        le : m ≤ n
        le = rw (← w) (by_cond (λ (x : ℕ). x ≤ n) (white c) n 0 (λ _. omega arith) (λ _. omega arith))
    go None f w = absurd (omega arith)

module _ (s : List ℕ) (nonempty : 0 < length s) where
  pub ends_ascii : get_or s (length s - 1) 0 < 0x80 → white (get_or s (length s - 1) 0) ≡ false → EndsIn s 0
  ends_ascii h w = record { nonempty = λ l. absurd (omega arith); nothing = λ _ m e. never m e }
    where
      one : white_at (drop (length s - 1) s) ≡ 0
      one = ap white_at (last_one s nonempty) ∙ white_ascii (get_or s (length s - 1) 0) [] h ∙ ap (λ (t : Bool). cond t 1 0) w

      never : (m : ℕ) → EndsAt s m → ⊥
      never zero e = let p = e.0 in omega arith
      never (suc zero) e = let p = e.2 in omega (arith, one)
      never (suc (suc m)) e =
          let l = e.1 in
          let q : length s - suc (suc m) + (suc (suc m) - 1) ≡ length s - 1 = omega arith in
          let n : length (drop (length s - suc (suc m)) s) ≡ suc (suc m) = omega (arith, length-drop (length s - suc (suc m)) s) in
          omega (
            arith,
            wide_last (drop (length s - suc (suc m)) s) (suc (suc m)) n e.2 (omega arith),
            lib.Seq.get_or-drop (length s - suc (suc m)) s (suc (suc m) - 1) 0,
            ap (λ (k : ℕ). get_or s k 0) q,
          )

  pub ends_wide : (m : ℕ) → 0 < m → m ≤ length s → white_at (drop (length s - m) s) ≡ m → EndsIn s m
  ends_wide m p l e = record { nonempty = λ _. (p, l, e); nothing = λ z. absurd (omega arith) }

  pub ends_none : (white_at (drop (length s - 1) s) ≡ 1 → ⊥)
      → (2 ≤ length s → white_at (drop (length s - 2) s) ≡ 2 → ⊥)
      → (3 ≤ length s → white_at (drop (length s - 3) s) ≡ 3 → ⊥) → EndsIn s 0
  ends_none one two three = record { nonempty = λ l. absurd (omega arith); nothing = λ _ m e. never m e }
    where
      never : (m : ℕ) → EndsAt s m → ⊥
      never zero e = let p = e.0 in omega arith
      never (suc zero) e = one e.2
      never (suc (suc zero)) e = two e.1 e.2
      never (suc (suc (suc zero))) e = three e.1 e.2
      never (suc (suc (suc (suc m)))) e = let p = e.2 in omega (arith, white_few (drop (length s - suc (suc (suc (suc m)))) s))
