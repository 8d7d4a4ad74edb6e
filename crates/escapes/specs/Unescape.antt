-- What a text with escapes stands for: document 01's rule "Decoding", and the documentation comment of the Rust's `unescape`.
-- What is no escape stands for itself.
-- Assumes nothing.
use Rattle.std.specs.Prelude.{cond, ◌&&◌, List, [], ◌∷◌, ◌++◌, ℕ, zero, suc, ◌+◌, ◌-◌, ◌*◌, eqb, length, get_or, take, drop}
use Prim.Native.Char.{code}
use Rattle.chars.specs.Utf8.{scalar, encode}
pub use Rattle.chars.specs.White.{within}
use Rattle.escapes.specs.declared.Escape.{Escape}
use Rattle.escapes.specs.declared.Escape.TheVariants.{Char, Verbatim}
use Rattle.std.specs.Prelude.{None, Option, Some}

-- the value of a hex digit, of either case
unfoldable pub hex_digit : ℕ → Option ℕ
hex_digit b =
    cond (within (code "0") (code "9") b) (Some (b - code "0"))
    (cond (within (code "a") (code "f") b) (Some (b - (code "a" - 10)))
    (cond (within (code "A") (code "F") b) (Some (b - (code "A" - 10))) None))

-- go on with a value, where there is one
abbrev pub digit_then : Option ℕ → (ℕ → Option ℕ) → Option ℕ
digit_then (Some v) f = f v
digit_then None f = None

-- the number of hex digits, behind a number that was read
unfoldable pub digits_from : ℕ → List ℕ → Option ℕ
digits_from n [] = Some n
digits_from n (b ∷ r) = digit_then (hex_digit b) (λ v. digits_from (n * 16 + v) r)

-- one hex digit or more
abbrev pub hex_number : List ℕ → Option ℕ
hex_number [] = None
hex_number (b ∷ r) = digits_from 0 (b ∷ r)

-- as Rust's `u32::from_str_radix` of base 16 reads: an optional +, then hex digits
abbrev pub radix16 : List ℕ → Option ℕ
radix16 [] = None
radix16 (b ∷ r) = cond (eqb b (code "+")) (hex_number r) (hex_number (b ∷ r))

-- without _
unfoldable pub without_underscore : List ℕ → List ℕ
without_underscore [] = []
without_underscore (b ∷ r) = cond (eqb b (code "_")) (without_underscore r) (b ∷ without_underscore r)

-- a surrogate, or a number past the last code point, names nothing
abbrev pub if_scalar : Option ℕ → Option ℕ
if_scalar (Some v) = cond (scalar v) (Some v) None
if_scalar None = None

-- the scalar value that stands between the braces of \u{..}: no _ first
unfoldable pub named : List ℕ → Option ℕ
named [] = None
named (b ∷ r) = cond (eqb b (code "_")) None (if_scalar (radix16 (without_underscore (b ∷ r))))

-- b before the bytes, where there are any
abbrev pub onto_body : ℕ → Option (List ℕ) → Option (List ℕ)
onto_body b (Some body) = Some (b ∷ body)
onto_body b None = None

-- the bytes before the first }, or none where it stands nowhere
unfoldable pub braced : List ℕ → Option (List ℕ)
braced [] = None
braced (b ∷ r) = cond (eqb b (code "}")) (Some []) (onto_body b (braced r))

-- the character that was named, or what is written
abbrev pub char_or : Option ℕ → ℕ → Escape
char_or (Some v) n = Char v n
char_or None n = Verbatim n

-- \u{..} with r behind its {: closed, it is its character or stands whole; unclosed, all behind it stands
abbrev pub unicode_of : List ℕ → Option (List ℕ) → Escape
unicode_of r (Some body) = char_or (named body) (2 + suc (length body))
unicode_of r None = Verbatim (2 + length r)

-- \x behind its first digit v: a second one or none
abbrev pub second_digit : ℕ → Option ℕ → Escape
second_digit v (Some w) = Char (v * 16 + w) 3
second_digit v None = Char v 2

-- \x with one hex digit or two; without one it is no escape
abbrev pub byte_of : Option ℕ → Option ℕ → Escape
byte_of (Some v) second = second_digit v second
byte_of None second = Verbatim 0

-- the short escapes \0 \t \n \r \" \' \\
unfoldable pub short_or : ℕ → Escape → Escape
short_or b other =
    cond (eqb b (code "0")) (Char 0 1)
    (cond (eqb b (code "t")) (Char (code "\t") 1)
    (cond (eqb b (code "n")) (Char (code "\n") 1)
    (cond (eqb b (code "r")) (Char (code "\r") 1)
    (cond (eqb b (code "\"")) (Char (code "\"") 1)
    (cond (eqb b (code "'")) (Char (code "'") 1)
    (cond (eqb b (code "\\")) (Char (code "\\") 1) other))))))

-- what a backslash with the bytes r behind it begins
unfoldable pub escape_at : List ℕ → Escape
escape_at r =
    short_or (get_or r 0 0)
    (cond (eqb (get_or r 0 0) (code "x")) (byte_of (hex_digit (get_or r 1 0)) (hex_digit (get_or r 2 0)))
    (cond (eqb (get_or r 0 0) (code "u") && eqb (get_or r 1 0) (code "{")) (unicode_of (drop 2 r) (braced (drop 2 r)))
    (Verbatim 0)))

-- what a byte with the bytes r behind it begins: only a backslash begins an escape
abbrev pub piece_at : ℕ → List ℕ → Escape
piece_at a r = cond (eqb a (code "\\")) (escape_at r) (Verbatim 0)

-- what it stands for, at the start of s
abbrev pub stands_for : List ℕ → Escape → List ℕ
stands_for s (Char v n) = encode v
stands_for s (Verbatim n) = take (suc n) s

-- how many bytes behind the first it takes
abbrev pub bytes_taken : Escape → ℕ
bytes_taken (Char v n) = n
bytes_taken (Verbatim n) = n

-- the text behind its first k bytes, which were read already
unfoldable pub unescape_from : ℕ → List ℕ → List ℕ
unescape_from k [] = []
unescape_from (suc k) (a ∷ r) = unescape_from k r
unescape_from zero (a ∷ r) = stands_for (a ∷ r) (piece_at a r) ++ unescape_from (bytes_taken (piece_at a r)) r

abbrev pub unescape : List ℕ → List ℕ
unescape s = unescape_from 0 s
