-- UTF-8, after Table 3-7 of the Unicode Standard and section 4 of RFC 3629.
-- Assumes nothing.
use Rattle.std.specs.Prelude.{Bool, true, false, cond, ◌&&◌, ◌||◌, List, [], ◌∷◌, ℕ, zero, suc, ◌+◌, ◌-◌, ◌*◌, ◌/◌, ◌%◌, ltb, eqb, get_or}
use Rattle.std.specs.Prelude.{None, Option, Some}

-- a code point that is no surrogate: a scalar value
unfoldable pub scalar : ℕ → Bool
scalar c = ltb c 0xD800 || (ltb 0xDFFF c && ltb c 0x110000)

-- the least and the greatest second byte behind the first byte a
unfoldable pub low : ℕ → ℕ
low a = cond (eqb a 0xE0) 0xA0 (cond (eqb a 0xF0) 0x90 0x80)

unfoldable pub high : ℕ → ℕ
high a = cond (eqb a 0xED) 0x9F (cond (eqb a 0xF4) 0x8F 0xBF)

-- the character of two to four bytes whose first two are right, and how many bytes it takes
abbrev pub long_of : ℕ → ℕ → ℕ → ℕ → Option (ℕ × ℕ)
long_of a b c d =
    cond (ltb a 0xE0) (Some (((a - 0xC0) * 64 + (b - 0x80)), 2))
    (cond (ltb c 0x80) None
    (cond (ltb 0xBF c) None
    (cond (ltb a 0xF0) (Some (((a - 0xE0) * 4096 + (b - 0x80) * 64 + (c - 0x80)), 3))
    (cond (ltb d 0x80) None
    (cond (ltb 0xBF d) None
    (Some (((a - 0xF0) * 262144 + (b - 0x80) * 4096 + (c - 0x80) * 64 + (d - 0x80)), 4)))))))

-- the character that the bytes a b c d begin with
unfoldable pub char_of : ℕ → ℕ → ℕ → ℕ → Option (ℕ × ℕ)
char_of a b c d =
    cond (ltb a 0x80) (Some (a, 1))
    (cond (ltb a 0xC2) None
    (cond (ltb 0xF4 a) None
    (cond (ltb b (low a)) None
    (cond (ltb (high a) b) None (long_of a b c d)))))

-- the character that a text begins with; past its end stand zeros, which continue nothing
abbrev pub char_at : List ℕ → Option (ℕ × ℕ)
char_at [] = None
char_at (a ∷ r) = char_of a (get_or r 0 0) (get_or r 1 0) (get_or r 2 0)

-- go on behind the character that was read, past so many bytes more
abbrev pub behind_char : Option (ℕ × ℕ) → (ℕ → Bool) → Bool
behind_char (Some (c, n)) f = f (n - 1)
behind_char None f = false

-- the text is UTF-8 behind its first k bytes, which are the rest of a character
unfoldable pub utf8_from : ℕ → List ℕ → Bool
utf8_from k [] = true
utf8_from (suc k) (a ∷ r) = utf8_from k r
utf8_from zero (a ∷ r) = behind_char (char_at (a ∷ r)) (λ k. utf8_from k r)

abbrev pub utf8 : List ℕ → Bool
utf8 s = utf8_from 0 s

-- the bytes of the character c
unfoldable pub encode : ℕ → List ℕ
encode c =
    cond (ltb c 0x80) (c ∷ [])
    (cond (ltb c 0x800) ((0xC0 + c / 64) ∷ (0x80 + c % 64) ∷ [])
    (cond (ltb c 0x10000) ((0xE0 + c / 4096) ∷ (0x80 + c / 64 % 64) ∷ (0x80 + c % 64) ∷ [])
    ((0xF0 + c / 262144) ∷ (0x80 + c / 4096 % 64) ∷ (0x80 + c / 64 % 64) ∷ (0x80 + c % 64) ∷ [])))

-- the byte a continues no character: a text may be cut before it
unfoldable pub starts : ℕ → Bool
starts a = ltb a 0x80 || ltb 0xBF a
