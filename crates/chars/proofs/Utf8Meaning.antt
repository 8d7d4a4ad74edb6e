-- UTF-8 as RFC 3629 defines it: a text is UTF-8 exactly where it is the bytes of scalar values, one behind the other.
-- Assumes nothing.
use mathlib.Core.Path.{◌≡◌, refl, ap, ◌∙◌}
use mathlib.Core.Logic.{◌↔◌}
use mathlib.Core.Bool.{true, false≢true}
use mathlib.Core.List.{List, [], ◌∷◌, ◌++◌}
use Prim.Native.Nat.{ℕ, zero, suc, ◌-◌}
use native.Mathlib.Omega.{arith}
use lib.ListN.{length, drop, take-append-drop}
use lib.Seq.{drop-append_seam}
use Rattle.chars.specs.Utf8.{encode, char_at, behind_char, utf8_from, utf8}
use Rattle.chars.specs.Scalars.{Encoded, end, char}
use Rattle.chars.proofs.Reading.{nonempty, char_onward}
use Rattle.chars.proofs.Encoding.{decode_encode, decode_scalar, encode_decode}
use Rattle.std.specs.Prelude.{None, Option, Some}

encoded_valid : {s : List ℕ} → Encoded s → utf8 s ≡ true
unfolding utf8_from
encoded_valid end = refl
encoded_valid (char c {r} h e) =
    char_onward (encode c ++ r) c (length (encode c)) (encode_decode c r h) ∙ ap utf8 (drop-append_seam (encode c) r) ∙ encoded_valid e

valid_encoded : (k : ℕ) (s : List ℕ) → utf8_from k s ≡ true → Encoded (drop k s)
unfolding utf8_from
valid_encoded zero [] h = end
valid_encoded (suc k) [] h = end
valid_encoded (suc k) (a ∷ r) h = valid_encoded k r h
valid_encoded zero (a ∷ r) h = go (char_at (a ∷ r)) refl h (λ k. valid_encoded k r)
  where
    go : (t : Option (ℕ × ℕ)) → char_at (a ∷ r) ≡ t → behind_char t (λ k. utf8_from k r) ≡ true → ((k : ℕ) → utf8_from k r ≡ true → Encoded (drop k r)) → Encoded (a ∷ r)
    go None e h rest = absurd (false≢true h)
    go (Some (c, zero)) e h rest = absurd (omega (arith, nonempty (a ∷ r) c zero e))
    go (Some (c, (suc n))) e h rest =
        let whole : encode c ++ drop n r ≡ a ∷ r = ap (λ (x : List ℕ). x ++ drop n r) (decode_encode (a ∷ r) c (suc n) e) ∙ take-append-drop (suc n) (a ∷ r) in
        let tail : Encoded (drop n r) = rw⁻¹ (native.Mathlib.Numerals.sub-one (suc n)) (rest (suc n - 1) h) in
        rw (← whole) (char c (decode_scalar (a ∷ r) c (suc n) e) tail)

pub utf8_iff : (s : List ℕ) → (utf8 s ≡ true) ↔ Encoded s
utf8_iff s = (valid_encoded 0 s, encoded_valid)
