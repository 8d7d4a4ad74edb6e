-- The definitions at work: the examples of RFC 3629, section 7, what Table 3-7 of the Unicode Standard excludes, and trim.
-- Assumes nothing.
use mathlib.Core.Path.{◌≡◌, refl}
use mathlib.Core.Bool.{true, false, false≢true}
use mathlib.Core.List.{[], ◌∷◌}
use Prim.Native.Char.{code}
use Rattle.buffers.specs.Ascii.{ascii}
use Rattle.chars.specs.Utf8.{scalar, low, high, char_of, char_at, utf8_from, utf8, encode}
use Rattle.chars.specs.Scalars.{Encoded, end, char}
use Rattle.chars.specs.White.{white, wide_white, white_at, trim_from, trim_end, trim, blank}
use Rattle.chars.proofs.Utf8Meaning.{utf8_iff}
use Rattle.std.specs.Prelude.{None, Some}

-- A, U+2262, U+0391, a full stop
not_identical : utf8 (code "A" ∷ 0xE2 ∷ 0x89 ∷ 0xA2 ∷ 0xCE ∷ 0x91 ∷ code "." ∷ []) ≡ true
unfolding utf8_from char_of low high
not_identical = refl

-- U+FEFF, U+233B4
stump_of_tree : utf8 (0xEF ∷ 0xBB ∷ 0xBF ∷ 0xF0 ∷ 0xA3 ∷ 0x8E ∷ 0xB4 ∷ []) ≡ true
unfolding utf8_from char_of low high
stump_of_tree = refl

tree : char_at (0xF0 ∷ 0xA3 ∷ 0x8E ∷ 0xB4 ∷ []) ≡ Some (0x233B4, 4)
unfolding char_of low high
tree = refl

tree_again : encode 0x233B4 ≡ 0xF0 ∷ 0xA3 ∷ 0x8E ∷ 0xB4 ∷ []
unfolding encode
tree_again = refl

-- U+2262 and a full stop are the bytes of two scalar values, the overlong form of U+0000 is those of none
two_scalars : Encoded (0xE2 ∷ 0x89 ∷ 0xA2 ∷ code "." ∷ [])
unfolding encode scalar
two_scalars = char 0x2262 refl (char (code ".") refl end)

no_scalar : Encoded (0xC0 ∷ 0x80 ∷ []) → ⊥
unfolding utf8_from char_of low high
no_scalar e = false≢true ((utf8_iff (0xC0 ∷ 0x80 ∷ [])).1 e)

-- an overlong form, a surrogate, a code point past U+10FFFF, a character cut short
overlong : char_at (0xC0 ∷ 0x80 ∷ []) ≡ None
unfolding char_of
overlong = refl

surrogate : char_at (0xED ∷ 0xA0 ∷ 0x80 ∷ []) ≡ None
unfolding char_of low high
surrogate = refl

too_large : char_at (0xF4 ∷ 0x90 ∷ 0x80 ∷ 0x80 ∷ []) ≡ None
unfolding char_of low high
too_large = refl

cut_short : utf8 (0xE2 ∷ 0x82 ∷ []) ≡ false
unfolding utf8_from char_of low high
cut_short = refl

-- U+3000, a, U+0085 is trimmed to a
ideographic_space : trim (0xE3 ∷ 0x80 ∷ 0x80 ∷ code "a" ∷ 0xC2 ∷ 0x85 ∷ []) ≡ ascii "a"
unfolding trim_from trim_end white_at white wide_white char_of low high
ideographic_space = refl

-- U+FEFF and U+200B are no White_Space
byte_order_mark : trim (0xEF ∷ 0xBB ∷ 0xBF ∷ []) ≡ 0xEF ∷ 0xBB ∷ 0xBF ∷ []
unfolding trim_from trim_end white_at white wide_white char_of low high
byte_order_mark = refl

zero_width_space : blank (0xE2 ∷ 0x80 ∷ 0x8B ∷ []) ≡ false
unfolding trim_from white_at white wide_white char_of low high
zero_width_space = refl

spaces : blank (ascii " \t\r") ≡ true
unfolding trim_from white_at white char_of
spaces = refl
