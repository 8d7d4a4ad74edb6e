-- What a character that was read says of its bytes, and how a text is walked character by character.
-- Assumes nothing.
use mathlib.Core.Path.{◌≡◌, refl, sym, ap, ◌∙◌}
use mathlib.Core.Logic.{◌⊎◌, inl, inr}
use mathlib.Core.Bool.{Bool, true, false, cond}
use mathlib.Core.List.{List, [], ◌∷◌}
use Prim.Native.Nat.{ℕ, zero, suc, ◌+◌, ◌-◌, ◌≤◌, ◌<◌}
use native.Mathlib.Nat.{add-zero}
use native.Mathlib.Decide.{dec_lt}
use native.Mathlib.Omega.{arith}
use lib.Dec.{ltb, eqb}
use lib.ListN.{length, get_or, drop, length-drop, get_or-eq_default}
use lib.Seq.{drop-cons, drop-drop, get_or-drop}
use borrow.Author.Tests.{ltb-true, ltb-false, lt-ltb}
use Rattle.buffers.proofs.Choice.{by_cond}
use Rattle.buffers.proofs.Skipping.{skipped}
use Rattle.chars.specs.Utf8.{low, high, char_of, char_at, behind_char, utf8_from, utf8}
use Rattle.chars.specs.Post.{Advances}
use Rattle.std.specs.Prelude.{None, Option, Some}

-- a byte that continues a character
abbrev pub Continues : ℕ → Type 0
Continues b = (0x80 ≤ b) × (b ≤ 0xBF)

-- what is known of the bytes of a character that was read
pub record CharRead (a b c d n : ℕ) : Type 0 where
  pub nonempty : 1 ≤ n
  pub few : n ≤ 4
  pub first : (a < 0x80) ⊎ (0xC2 ≤ a)
  pub second : 2 ≤ n → Continues b
  pub third : 3 ≤ n → Continues c
  pub fourth : 4 ≤ n → Continues d

abbrev CharReads : ℕ → ℕ → ℕ → ℕ → Option (ℕ × ℕ) → Type 0
CharReads a b c d (Some (code, n)) = CharRead a b c d n
CharReads a b c d None = Unit {0}

pub low_128 : (a : ℕ) → 128 ≤ low a
unfolding low
low_128 a = go (eqb a 0xE0) (eqb a 0xF0)
  where
    go : (s t : Bool) → 128 ≤ cond s 0xA0 (cond t 0x90 0x80)
    go true t = omega arith
    go false true = omega arith
    go false false = omega arith

pub high_191 : (a : ℕ) → high a ≤ 191
unfolding high
high_191 a = go (eqb a 0xED) (eqb a 0xF4)
  where
    go : (s t : Bool) → cond s 0x9F (cond t 0x8F 0xBF) ≤ 191
    go true t = omega arith
    go false true = omega arith
    go false false = omega arith

reads : (a b c d : ℕ) → CharReads a b c d (char_of a b c d)
unfolding char_of
reads a b c d =
    let P = CharReads a b c d in
    by_cond P (ltb a 0x80) _ _ (λ h1. one (ltb-true _ _ h1)) (λ h1.
    by_cond P (ltb a 0xC2) _ _ (λ h2. tt) (λ h2.
    by_cond P (ltb 0xF4 a) _ _ (λ h3. tt) (λ h3.
    by_cond P (ltb b (low a)) _ _ (λ h4. tt) (λ h4.
    by_cond P (ltb (high a) b) _ _ (λ h5. tt) (λ h5.
    by_cond P (ltb a 0xE0) _ _ (λ h6. more 2 (omega arith) (omega arith) h2 (second h4 h5) (λ l. absurd (omega arith)) (λ l. absurd (omega arith))) (λ h6.
    by_cond P (ltb c 0x80) _ _ (λ h7. tt) (λ h7.
    by_cond P (ltb 0xBF c) _ _ (λ h8. tt) (λ h8.
    by_cond P (ltb a 0xF0) _ _ (λ h9. more 3 (omega arith) (omega arith) h2 (second h4 h5) (λ l. within c h7 h8) (λ l. absurd (omega arith))) (λ h9.
    by_cond P (ltb d 0x80) _ _ (λ h10. tt) (λ h10.
    by_cond P (ltb 0xBF d) _ _ (λ h11. tt) (λ h11.
    more 4 (omega arith) (omega arith) h2 (second h4 h5) (λ l. within c h7 h8) (λ l. within d h10 h11))))))))))))
  where
    within : (x : ℕ) → ltb x 0x80 ≡ false → ltb 0xBF x ≡ false → Continues x
    within x p q = (ltb-false _ _ p, ltb-false _ _ q)

    second : ltb b (low a) ≡ false → ltb (high a) b ≡ false → Continues b
    second p q = (omega (arith, low_128 a, ltb-false b (low a) p), omega (arith, high_191 a, ltb-false (high a) b q))

    one : a < 0x80 → CharRead a b c d 1
    one h = record {
      nonempty = omega arith;
      few = omega arith;
      first = inl h;
      second = λ l. absurd (omega arith);
      third = λ l. absurd (omega arith);
      fourth = λ l. absurd (omega arith);
    }

    more : (n : ℕ) → 1 ≤ n → n ≤ 4 → ltb a 0xC2 ≡ false → Continues b → (3 ≤ n → Continues c) → (4 ≤ n → Continues d) → CharRead a b c d n
    more n h l f s t u = record { nonempty = h; few = l; first = inr (ltb-false _ _ f); second = λ _. s; third = t; fourth = u }

pub read : (a b c d code n : ℕ) → char_of a b c d ≡ Some (code, n) → CharRead a b c d n
read a b c d code n e = rw e at (reads a b c d)

-- a byte that is not 0 stands in the list
pub byte_inside : (s : List ℕ) (i : ℕ) → 1 ≤ get_or s i 0 → i < length s
byte_inside s i h = go (dec_lt i (length s))
  where
    out : get_or s i 0 ≡ 0 → ⊥
    out z = omega arith

    go : Dec (i < length s) → i < length s
    go (yes l) = l
    go (no l) = absurd (out (get_or-eq_default s 0 (omega arith)))

-- the whole character stands in the text
pub char_whole : (s : List ℕ) (code n : ℕ) → char_at s ≡ Some (code, n) → n ≤ length s
char_whole [] code n e = let z : ◌≡◌ {A = ℕ} 0 1 = cc in absurd (omega arith)
char_whole (a ∷ r) code n e = go n (read _ _ _ _ code n e)
  where
    go : (n : ℕ) → CharRead a (get_or r 0 0) (get_or r 1 0) (get_or r 2 0) n → n ≤ suc (length r)
    go zero k = omega arith
    go (suc zero) k = omega arith
    go (suc (suc zero)) k = let h = (k.second (omega arith)).0 in omega (arith, byte_inside r 0 (omega arith))
    go (suc (suc (suc zero))) k = let h = (k.third (omega arith)).0 in omega (arith, byte_inside r 1 (omega arith))
    go (suc (suc (suc (suc zero)))) k = let h = (k.fourth (omega arith)).0 in omega (arith, byte_inside r 2 (omega arith))
    go (suc (suc (suc (suc (suc n))))) k = let h = k.few in absurd (omega arith)

-- a character takes one to four bytes
pub nonempty : (s : List ℕ) (code n : ℕ) → char_at s ≡ Some (code, n) → 1 ≤ n
nonempty [] code n e = let z : ◌≡◌ {A = ℕ} 0 1 = cc in absurd (omega arith)
nonempty (a ∷ r) code n e = (read _ _ _ _ code n e).nonempty

-- the character at a place, by the four bytes there
pub char_here : (s : List ℕ) (at : ℕ) → at < length s
    → char_at (drop at s) ≡ char_of (get_or s at 0) (get_or s (at + 1) 0) (get_or s (at + 2) 0) (get_or s (at + 3) 0)
char_here s at h = rw (drop-cons s at 0 h) (simp get_or-drop (same (suc_add at 0) (suc_add at 1) (suc_add at 2)))
  where
    suc_add : (n k : ℕ) → suc n + k ≡ n + suc k
    suc_add n k = omega arith

    same : {x y z : ℕ} → suc at + 0 ≡ x → suc at + 1 ≡ y → suc at + 2 ≡ z
        → char_of (get_or s at 0) (get_or s (suc at + 0) 0) (get_or s (suc at + 1) 0) (get_or s (suc at + 2) 0) ≡ char_of (get_or s at 0) (get_or s x 0) (get_or s y 0) (get_or s z 0)
    same p q r = rw (p, q, r)

pub utf8_skip : (k : ℕ) (s : List ℕ) → utf8_from k s ≡ utf8 (drop k s)
unfolding utf8_from
utf8_skip k s = skipped utf8_from (λ k. refl) (λ k a r. refl) k s

-- behind a character the rest decides
pub char_onward : (s : List ℕ) (code n : ℕ) → char_at s ≡ Some (code, n) → utf8 s ≡ utf8 (drop n s)
unfolding utf8_from
char_onward [] code n e = let z : ◌≡◌ {A = ℕ} 0 1 = cc in absurd (omega arith)
char_onward (a ∷ r) code n e =
    ap (λ (t : Option (ℕ × ℕ)). behind_char t (λ k. utf8_from k r)) e
    ∙ utf8_skip (n - 1) r
    ∙ go n (read _ _ _ _ code n e).nonempty
  where
    go : (n : ℕ) → 1 ≤ n → utf8 (drop (n - 1) r) ≡ utf8 (drop n (a ∷ r))
    go zero h = absurd (omega arith)
    go (suc m) h = rw (native.Mathlib.Numerals.sub-one (suc m))

-- where no character stands the text is not UTF-8
pub char_stuck : (s : List ℕ) → 0 < length s → char_at s ≡ None → utf8 s ≡ false
unfolding utf8_from
char_stuck [] h e = absurd (omega arith)
char_stuck (a ∷ r) h e = ap (λ (t : Option (ℕ × ℕ)). behind_char t (λ k. utf8_from k r)) e

pub ascii_char : (a : ℕ) (r : List ℕ) → a < 0x80 → char_at (a ∷ r) ≡ Some (a, 1)
unfolding char_of
ascii_char a r h = rw (lt-ltb a 0x80 h)

-- ASCII bytes are characters, each by itself
pub ascii_onward : (n : ℕ) (s : List ℕ) → n ≤ length s → ((i : ℕ) → i < n → get_or s i 0 < 0x80) → utf8 s ≡ utf8 (drop n s)
ascii_onward zero s h f = refl
ascii_onward (suc n) [] h f = absurd (omega arith)
ascii_onward (suc n) (a ∷ r) h f =
    char_onward (a ∷ r) a 1 (ascii_char a r (f 0 (omega arith)))
    ∙ ascii_onward n r (omega arith) (λ i l. f (suc i) (omega arith))

-- ---- a step of the walk

module _ (s : List ℕ) (at : ℕ) (h : at < length s) where
  pub advance_char : (c n : ℕ) → char_at (drop at s) ≡ Some (c, n) → Advances s at n
  advance_char c n e = record {
    inside = omega (arith, char_whole (drop at s) c n e, length-drop at s);
    onward = char_onward (drop at s) c n e ∙ ap utf8 (drop-drop n at s);
    stuck = λ z. absurd (omega (arith, nonempty (drop at s) c n e));
  }

  pub advance_ascii : (n : ℕ) → 1 ≤ n → at + n ≤ length s → ((i : ℕ) → i < n → get_or s (at + i) 0 < 0x80) → Advances s at n
  advance_ascii n p l f = record {
    inside = l;
    onward = ascii_onward n (drop at s) (omega (arith, length-drop at s)) (λ i m. let g = f i m in omega (arith, get_or-drop at s i 0)) ∙ ap utf8 (drop-drop n at s);
    stuck = λ z. absurd (omega arith);
  }

  pub advance_one : get_or s at 0 < 0x80 → Advances s at 1
  advance_one l = advance_ascii 1 (omega arith) (omega arith) (λ i m. let e : at + i ≡ at = omega arith in omega (arith, ap (λ (k : ℕ). get_or s k 0) e))

  pub advance_stuck : char_at (drop at s) ≡ None → Advances s at 0
  advance_stuck e = record { inside = omega arith; onward = ap (λ (k : ℕ). utf8 (drop k s)) (sym (add-zero at)); stuck = λ _. e }
