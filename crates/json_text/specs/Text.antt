-- RFC 8259, section 7, "Strings": what a string stands for, and where it ends. A \uXXXX escape of a surrogate stands for a character only in a
-- pair, high and then low; a lone one is no JSON here (section 8.2 leaves open what is done with it; document 02, A2, refuses it).
-- Assumes nothing.
use Rattle.std.specs.Prelude.{Bool, cond, ◌&&◌, ◌||◌, List, [], ◌∷◌, ◌++◌, ℕ, zero, suc, ◌+◌, ◌-◌, ◌*◌, eqb, ltb, get_or, drop, None, Option, Some, option_map, option_and_then}
use Prim.Native.Char.{code}
use Rattle.chars.specs.Utf8.{encode}
use Rattle.chars.specs.White.{within}
use Rattle.escapes.specs.Unescape.{hex_digit}
use Rattle.json_text.specs.Parse.{Parse, starts}

-- a char of a string: the bytes that it stands for, and how many bytes it takes behind its first
pub record Char : Type 0 where
  pub text : List ℕ
  pub more : ℕ

-- the letter of a two-character escape, and what it stands for: %x22 / %x5C / %x2F / %x62 / %x66 / %x6E / %x72 / %x74
unfoldable pub short : ℕ → Option ℕ
short b =
    cond (eqb b (code "\"")) (Some (code "\""))
    (cond (eqb b (code "\\")) (Some (code "\\"))
    (cond (eqb b (code "/")) (Some (code "/"))
    (cond (eqb b (code "b")) (Some 0x08)
    (cond (eqb b (code "f")) (Some 0x0C)
    (cond (eqb b (code "n")) (Some 0x0A)
    (cond (eqb b (code "r")) (Some 0x0D)
    (cond (eqb b (code "t")) (Some 0x09) None)))))))

-- a hex digit of either case behind the number n
abbrev pub onto_hex : List ℕ → ℕ → Option ℕ → Option ℕ
onto_hex s i o = option_and_then (λ n. option_map (λ d. n * 16 + d) (hex_digit (get_or s i 0))) o

-- 4HEXDIG at the start of a text
unfoldable pub hex4 : List ℕ → Option ℕ
hex4 s = onto_hex s 3 (onto_hex s 2 (onto_hex s 1 (onto_hex s 0 (Some 0))))

abbrev pub is_high : ℕ → Bool
is_high v = within 0xD800 0xDBFF v

abbrev pub is_low : ℕ → Bool
is_low v = within 0xDC00 0xDFFF v

-- the character that a pair of surrogates stands for
abbrev pub of_pair : ℕ → ℕ → ℕ
of_pair high low = 0x10000 + (high - 0xD800) * 0x400 + (low - 0xDC00)

-- \u and 4HEXDIG, behind a high surrogate
abbrev pub low_half : List ℕ → Option ℕ
low_half s = cond (starts (code "\\") s && starts (code "u") (drop 1 s)) (option_and_then (λ w. cond (is_low w) (Some w) None) (hex4 (drop 2 s))) None

-- behind \u: 4HEXDIG, and a second escape behind a high surrogate
abbrev pub unicode_of : List ℕ → ℕ → Option Char
unicode_of s v =
    cond (is_high v) (option_map (λ w. record { text = encode (of_pair v w); more = 11 }) (low_half (drop 4 s)))
    (cond (is_low v) None (Some (record { text = encode v; more = 5 })))

unfoldable pub unicode : List ℕ → Option Char
unicode s = option_and_then (unicode_of s) (hex4 s)

-- behind a backslash
unfoldable pub escape : List ℕ → Option Char
escape s =
    cond (starts (code "u") s) (unicode (drop 1 s)) (option_map (λ c. record { text = c ∷ []; more = 1 }) (short (get_or s 0 0)))

-- char = unescaped / escape ( .. ), the byte b and r behind it: no control character below %x20 stands for itself
unfoldable pub char : ℕ → List ℕ → Option Char
char b r = cond (eqb b (code "\\")) (escape r) (cond (ltb b 0x20) None (Some (record { text = b ∷ []; more = 0 })))

abbrev pub onto : List ℕ → Option (List ℕ × List ℕ) → Option (List ℕ × List ℕ)
onto t o = option_map (λ p. (t ++ p.0, p.1)) o

-- *char quotation-mark, behind the first k bytes, which were read already
unfoldable pub string_from : ℕ → Parse (List ℕ)
string_from k [] = None
string_from (suc k) (b ∷ r) = string_from k r
string_from zero (b ∷ r) =
    cond (eqb b (code "\"")) (Some ([], r)) (option_and_then (λ c. onto c.text (string_from c.more r)) (char b r))

-- string = quotation-mark *char quotation-mark, behind its first quotation mark
abbrev pub string : Parse (List ℕ)
string s = string_from 0 s

-- ---- of inner functions: how many bytes stand before the first quotation mark, backslash or control character

unfoldable pub plain_run : List ℕ → ℕ
plain_run [] = 0
plain_run (b ∷ r) = cond (ltb b 0x20 || (eqb b (code "\"") || eqb b (code "\\"))) 0 (suc (plain_run r))
