-- Worked examples: document 01's facts on decoding (its proof set, 1 to 4), the definitions that the code walks by, the entry point's
-- answers, and the kinds of text at which Cedar and decoding part, each with a smallest input (docs/DIFFERENCES.md).
-- Assumes nothing.
use mathlib.Core.Path.{◌≡◌, refl}
use mathlib.Core.List.{List, [], ◌∷◌}
use Prim.Native.Nat.{ℕ}
use Prim.Native.Char.{code}
use Rattle.buffers.specs.Ascii.{ascii}
use Rattle.chars.specs.Utf8.{scalar, encode, char_of, utf8_from}
use Rattle.escapes.specs.Unescape.{hex_digit, digits_from, without_underscore, named, braced, short_or, escape_at, unescape_from, unescape}
use Rattle.escapes.specs.Walk.{plain_run, short_of}
use Rattle.escapes.specs.Entry.{decoded, output_after}
use Rattle.escapes.specs.Cedar.{unicode_from, literal_at, cedar_from, cedar}
use Rattle.format.specs.Refusals.{not_utf8, output_too_short}
use Rattle.std.specs.Prelude.{Err, None, Ok, Some}

-- 01, fact 1: `\u{4_1}` decodes to A
pub fact_1 : unescape (ascii "\\u{4_1}") ≡ ascii "A"
unfolding unescape_from escape_at short_or braced named without_underscore digits_from hex_digit scalar encode
fact_1 = refl

-- 01, fact 2: `\u{_41}` stays
pub fact_2 : unescape (ascii "\\u{_41}") ≡ ascii "\\u{_41}"
unfolding unescape_from escape_at short_or braced named without_underscore digits_from hex_digit scalar encode
fact_2 = refl

-- 01, fact 3: `\u{+41}` decodes to A
pub fact_3 : unescape (ascii "\\u{+41}") ≡ ascii "A"
unfolding unescape_from escape_at short_or braced named without_underscore digits_from hex_digit scalar encode
fact_3 = refl

-- 01, fact 4: `\x4` gives U+0004
pub fact_4 : unescape (ascii "\\x4") ≡ 4 ∷ []
unfolding unescape_from escape_at short_or braced named without_underscore digits_from hex_digit scalar encode
fact_4 = refl

-- the run before a backslash, and the letters of short escapes
pub run_before : (plain_run (ascii "ab\\n") ≡ 2) × (short_of (code "n") ≡ Some (code "\n")) × (short_of (code "q") ≡ None)
unfolding plain_run short_of
run_before = (refl, refl, refl)

-- the entry point: `\n` into three bytes, into none, and a byte that is not UTF-8
pub decoded_answers :
    (decoded (ascii "\\n") 3 ≡ Ok 1) × (output_after (ascii "\\n") (7 ∷ 8 ∷ 9 ∷ []) ≡ code "\n" ∷ 8 ∷ 9 ∷ []) × (decoded (ascii "\\n") 0 ≡ Err output_too_short) × (decoded (128 ∷ []) 3 ≡ Err not_utf8)
unfolding decoded utf8_from char_of unescape_from escape_at short_or braced named without_underscore digits_from hex_digit scalar encode
decoded_answers = (refl, refl, refl, refl)

-- Cedar accepts both, and decoding agrees: a _ behind a digit, and six digits
pub cedar_accepts : (cedar (ascii "\\u{4_}") ≡ Some (4 ∷ [])) × (cedar (ascii "\\u{000041}") ≡ Some (ascii "A"))
unfolding cedar_from literal_at unicode_from unescape_from escape_at short_or braced named without_underscore digits_from hex_digit scalar encode
cedar_accepts = (refl, refl)

-- Cedar refuses s, and decoding gives out
abbrev EscapeParts : List ℕ → List ℕ → Type 0
EscapeParts s out = (cedar s ≡ None) × (unescape s ≡ out)

-- a + before the digits
pub plus : EscapeParts (ascii "\\u{+0}") (0 ∷ [])
unfolding cedar_from literal_at unicode_from unescape_from escape_at short_or braced named without_underscore digits_from hex_digit scalar encode
plus = (refl, refl)

-- more than six digits
pub seven_digits : EscapeParts (ascii "\\u{0000000}") (0 ∷ [])
unfolding cedar_from literal_at unicode_from unescape_from escape_at short_or braced named without_underscore digits_from hex_digit scalar encode
seven_digits = (refl, refl)

-- \x with one digit
pub one_digit : EscapeParts (ascii "\\x0") (0 ∷ [])
unfolding cedar_from literal_at unicode_from unescape_from escape_at short_or braced named without_underscore digits_from hex_digit scalar encode
one_digit = (refl, refl)

-- \x with two digits past 7F: the bytes of U+0080
pub past_7_f : EscapeParts (ascii "\\x80") (194 ∷ 128 ∷ [])
unfolding cedar_from literal_at unicode_from unescape_from escape_at short_or braced named without_underscore digits_from hex_digit scalar encode
past_7_f = (refl, refl)

-- \x without a digit
pub no_digit : EscapeParts (ascii "\\x") (ascii "\\x")
unfolding cedar_from literal_at unicode_from unescape_from escape_at short_or braced named without_underscore digits_from hex_digit scalar encode
no_digit = (refl, refl)

-- \u{..} that names nothing: empty
pub empty_braces : EscapeParts (ascii "\\u{}") (ascii "\\u{}")
unfolding cedar_from literal_at unicode_from unescape_from escape_at short_or braced named without_underscore digits_from hex_digit scalar encode
empty_braces = (refl, refl)

-- .. a _ first
pub underscore_first : EscapeParts (ascii "\\u{_0}") (ascii "\\u{_0}")
unfolding cedar_from literal_at unicode_from unescape_from escape_at short_or braced named without_underscore digits_from hex_digit scalar encode
underscore_first = (refl, refl)

-- .. a byte that is no digit
pub no_number : EscapeParts (ascii "\\u{g}") (ascii "\\u{g}")
unfolding cedar_from literal_at unicode_from unescape_from escape_at short_or braced named without_underscore digits_from hex_digit scalar encode
no_number = (refl, refl)

-- .. a surrogate
pub surrogate : EscapeParts (ascii "\\u{D800}") (ascii "\\u{D800}")
unfolding cedar_from literal_at unicode_from unescape_from escape_at short_or braced named without_underscore digits_from hex_digit scalar encode
surrogate = (refl, refl)

-- .. a number past 10FFFF
pub past_10_ffff : EscapeParts (ascii "\\u{110000}") (ascii "\\u{110000}")
unfolding cedar_from literal_at unicode_from unescape_from escape_at short_or braced named without_underscore digits_from hex_digit scalar encode
past_10_ffff = (refl, refl)

-- \u{ without }, and all that follows it
pub unclosed : EscapeParts (ascii "\\u{\\n") (ascii "\\u{\\n")
unfolding cedar_from literal_at unicode_from unescape_from escape_at short_or braced named without_underscore digits_from hex_digit scalar encode
unclosed = (refl, refl)

-- \u without {
pub no_brace : EscapeParts (ascii "\\u") (ascii "\\u")
unfolding cedar_from literal_at unicode_from unescape_from escape_at short_or braced named without_underscore digits_from hex_digit scalar encode
no_brace = (refl, refl)

-- any other byte behind a backslash
pub unknown : EscapeParts (ascii "\\a") (ascii "\\a")
unfolding cedar_from literal_at unicode_from unescape_from escape_at short_or braced named without_underscore digits_from hex_digit scalar encode
unknown = (refl, refl)

-- a backslash before a line feed
pub backslash_line_end : EscapeParts (ascii "\\\n") (ascii "\\\n")
unfolding cedar_from literal_at unicode_from unescape_from escape_at short_or braced named without_underscore digits_from hex_digit scalar encode
backslash_line_end = (refl, refl)

-- a backslash that ends the text
pub lone : EscapeParts (ascii "\\") (ascii "\\")
unfolding cedar_from literal_at unicode_from unescape_from escape_at short_or braced named without_underscore digits_from hex_digit scalar encode
lone = (refl, refl)

-- a quote without a backslash
pub raw_quote : EscapeParts (ascii "\"") (ascii "\"")
unfolding cedar_from literal_at unicode_from unescape_from escape_at short_or braced named without_underscore digits_from hex_digit scalar encode
raw_quote = (refl, refl)

-- a carriage return without a backslash
pub raw_return : EscapeParts (ascii "\r") (ascii "\r")
unfolding cedar_from literal_at unicode_from unescape_from escape_at short_or braced named without_underscore digits_from hex_digit scalar encode
raw_return = (refl, refl)
