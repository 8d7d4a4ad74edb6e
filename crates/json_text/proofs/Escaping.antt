-- What a backslash begins at a place of a text, and that it ends in it.
-- Assumes nothing.
use mathlib.Core.Path.{◌≡◌, ap, ◌∙◌}
use mathlib.Core.Bool.{true, false, ◌&&◌}
use mathlib.Core.List.{List, [], ◌∷◌}
use Prim.Native.Nat.{ℕ, suc, ◌+◌, ◌≤◌, ◌<◌}
use Prim.Native.Char.{code}
use native.Mathlib.Nat.{add-zero}
use native.Mathlib.Omega.{arith}
use lib.Dec.{leb}
use lib.ListN.{length, get_or, drop, length-drop, drop_of_length-le}
use lib.Seq.{get_or-drop, drop-drop}
use borrow.Author.Tests.{ne_eqb, le-leb, lt-leb}
use Rattle.std.specs.Prelude.{None, Option, Some, IfSome, option_map, option_and_then}
use Rattle.std.proofs.lemmas.Option.{IfSome_then}
use Rattle.buffers.proofs.Choice.{both_arms, and_false}
use Rattle.chars.specs.Utf8.{encode}
use Rattle.chars.proofs.Reading.{byte_inside}
use Rattle.chars.proofs.Writing.{encode_1}
use Rattle.chars.specs.White.{within}
use Rattle.json_text.specs.Parse.{starts}
use Rattle.json_text.specs.Text.{Char, short, hex4, is_high, is_low, of_pair, low_half, unicode_of, unicode, escape}
use Rattle.json_text.proofs.Lengths.{if_some, of_map, of_and_then, of_some}
use Rattle.json_text.proofs.HexDigits.{hex4_inside}

-- the letter of a short escape stands there, and it stands for an ASCII character
pub short_ascii : (b c : ℕ) → short b ≡ Some c → c < 0x80
unfolding short
short_ascii b c e = grind arith

short_letter : (b c : ℕ) → short b ≡ Some c → 1 ≤ b
unfolding short
short_letter b c e = grind arith

-- ---- a surrogate, by its bounds

module _ (lo hi v : ℕ) where
  pub within_is : lo ≤ v → v ≤ hi → within lo hi v ≡ true
  within_is h l = rw (le-leb lo v h, le-leb v hi l)

  pub within_below : v < lo → within lo hi v ≡ false
  within_below h = rw (lt-leb lo v h)

  pub within_above : hi < v → within lo hi v ≡ false
  within_above h = rw (lt-leb v hi h) (and_false (leb lo v))

-- ---- \u, whose digits stand at a place

module _ (s : List ℕ) (at : ℕ) where
  by_digits : {o : Option ℕ} → hex4 (drop at s) ≡ o → unicode (drop at s) ≡ option_and_then (unicode_of (drop at s)) o
  unfolding unicode
  by_digits e = ap (option_and_then (unicode_of (drop at s))) e

  pub unicode_none : hex4 (drop at s) ≡ None → unicode (drop at s) ≡ None
  unicode_none e = by_digits e

  module _ (v : ℕ) (digits : hex4 (drop at s) ≡ Some v) where
    pub unicode_pair : is_high v ≡ true → {o : Option ℕ} → low_half (drop (at + 4) s) ≡ o → unicode (drop at s) ≡ option_map (λ w. record { text = encode (of_pair v w); more = 11 }) o
    unicode_pair h e = by_digits digits ∙ rw (h, drop-drop 4 at s) (ap (option_map (λ w. record { text = encode (of_pair v w); more = 11 })) e)

    pub unicode_lone : is_high v ≡ false → is_low v ≡ true → unicode (drop at s) ≡ None
    unicode_lone h l = by_digits digits ∙ rw (h, l)

    pub unicode_single : is_high v ≡ false → is_low v ≡ false → unicode (drop at s) ≡ Some (record { text = encode v; more = 5 })
    unicode_single h l = by_digits digits ∙ rw (h, l)

-- ---- the escape whose letter stands at a place

module _ (s : List ℕ) (at : ℕ) where
  letter : get_or (drop at s) 0 0 ≡ get_or s at 0
  letter = get_or-drop at s 0 0 ∙ ap (λ (k : ℕ). get_or s k 0) (add-zero at)

  pub escape_unicode : get_or s at 0 ≡ code "u" → escape (drop at s) ≡ unicode (drop (at + 1) s)
  unfolding escape
  escape_unicode e = rw (letter, e) (ap unicode (drop-drop 1 at s))

  pub escape_short : (get_or s at 0 ≡ code "u" → ⊥) → {o : Option ℕ} → short (get_or s at 0) ≡ o → escape (drop at s) ≡ option_map (λ c. record { text = c ∷ []; more = 1 }) o
  unfolding escape
  escape_short n e = rw (letter, ne_eqb (get_or s at 0) (code "u") n) (ap (option_map (λ c. record { text = c ∷ []; more = 1 })) e)

  pub escape_ascii : (get_or s at 0 ≡ code "u" → ⊥) → (c : ℕ) → short (get_or s at 0) ≡ Some c → escape (drop at s) ≡ Some (record { text = encode c; more = 1 })
  escape_ascii n c e = rw (encode_1 c (short_ascii (get_or s at 0) c e)) (escape_short n e)

  pub escape_past : length s ≤ at → escape (drop at s) ≡ None
  unfolding escape short
  escape_past h = rw (drop_of_length-le s h)

-- ---- an escape ends in the text

-- behind the place k of a text of n bytes
abbrev Ends : ℕ → ℕ → Option Char → Type 0
Ends k n o = IfSome o (λ c. k + c.more ≤ n)

low_half_ends : (s : List ℕ) (at : ℕ) → IfSome (low_half (drop at s)) (λ _. at + 6 ≤ length s)
low_half_ends s at =
    let P : Option ℕ → Type 0 = λ o. IfSome o (λ _. at + 6 ≤ length s) in
    let digits : Option ℕ = hex4 (drop 2 (drop at s)) in
    both_arms P (starts (code "\\") (drop at s) && starts (code "u") (drop 1 (drop at s)))
    (of_and_then _ _ digits (if_some _ digits (λ v e. both_arms P (is_low v) (omega (arith, hex4_inside s (at + 2) v (rw drop-drop at e))) tt))) tt

unicode_ends : (s : List ℕ) (at : ℕ) → Ends at (suc (length s)) (unicode (drop at s))
unfolding unicode
unicode_ends s at = of_and_then _ _ (hex4 (drop at s)) (if_some _ (hex4 (drop at s)) (λ v e. by_surrogate v (hex4_inside s at v e)))
  where
    by_surrogate : (v : ℕ) → at + 4 ≤ length s → Ends at (suc (length s)) (unicode_of (drop at s) v)
    by_surrogate v h =
        let low : Option ℕ = low_half (drop 4 (drop at s)) in
        let l : IfSome low (λ _. at + 4 + 6 ≤ length s) = rw (drop-drop 4 at s) (low_half_ends s (at + 4)) in
        both_arms (Ends at (suc (length s))) (is_high v) (of_map _ _ low (IfSome_then low l (λ w m. omega arith)))
        (both_arms (Ends at (suc (length s))) (is_low v) tt (omega arith))

by_letter_ends : (s : List ℕ) (at : ℕ) → Ends at (length s) (escape (drop at s))
unfolding escape
by_letter_ends s at =
    let letter : ℕ = get_or (drop at s) 0 0 in
    let l : Ends (at + 1) (suc (length s)) (unicode (drop 1 (drop at s))) = rw (drop-drop 1 at s) (unicode_ends s (at + 1)) in
    both_arms (Ends at (length s)) (starts (code "u") (drop at s)) (IfSome_then (unicode (drop 1 (drop at s))) l (λ c m. omega arith))
    (of_map _ _ (short letter) (if_some _ (short letter) (λ c e. omega (arith, byte_inside (drop at s) 0 (short_letter letter c e), length-drop at s))))

pub escape_ends : (s : List ℕ) (at : ℕ) (c : Char) → escape (drop at s) ≡ Some c → at + c.more ≤ length s
escape_ends s at c e = of_some (λ (c : Char). at + c.more ≤ length s) e (by_letter_ends s at)
