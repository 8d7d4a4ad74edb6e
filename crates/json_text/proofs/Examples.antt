-- Examples of RFC 8259, by computation, in the order of its sections.
-- Assumes nothing.
use mathlib.Core.Path.{◌≡◌, refl}
use mathlib.Core.Bool.{true, false}
use mathlib.Core.List.{List, [], ◌∷◌, ◌++◌, map}
use Prim.Native.Nat.{ℕ}
use Prim.Native.Char.{code}
use Prim.Native.String.{String}
use Rattle.std.specs.Prelude.{None, Some}
use Rattle.buffers.specs.Ascii.{ascii}
use Rattle.buffers.specs.Same.{same}
use Rattle.chars.specs.Utf8.{encode}
use Rattle.numbers.specs.Digits.{leading_digits}
use Rattle.escapes.specs.Unescape.{hex_digit}
use Rattle.json_text.specs.Json.{Json, null, bool, number, string, array, object, no_item, item, Members, no_member, member}
use Rattle.json_text.specs.Number as Number
use Rattle.json_text.specs.Text.{short, hex4, unicode, escape, char, string_from}
use Rattle.json_text.specs.Syntax.{ws, scalar, member_name, value, items, members, json}

abbrev Is : List ℕ → Json → Type 0
Is s j = json s ≡ Some j

-- none of the texts is one
abbrev NoJson : List (List ℕ) → Type 0
NoJson l = map json l ≡ map (λ _. None) l

-- ---- section 2, JSON grammar

-- space, tab, line feed and carriage return, on either side of a bracket
pub white_space : Is (ascii " \t\n\r[ \t\n\r] \t\n\r") (array no_item)
unfolding json value items members ws scalar member_name Number.number leading_digits string_from char same
white_space = refl

-- vertical tab, form feed, the byte A0, U+00A0, and the byte order mark U+FEFF
pub no_white_space : NoJson (map (λ w. w ++ ascii "[]") ((0x0B ∷ []) ∷ (0x0C ∷ []) ∷ (0xA0 ∷ []) ∷ (0xC2 ∷ 0xA0 ∷ []) ∷ (0xEF ∷ 0xBB ∷ 0xBF ∷ []) ∷ []))
unfolding json value items members ws scalar member_name Number.number leading_digits string_from char same
no_white_space = refl

-- a text is one value and nothing else
pub one_value : NoJson (map ascii ("" ∷ " " ∷ "[]x" ∷ "[][]" ∷ "1 2" ∷ []))
unfolding json value items members ws scalar member_name Number.number leading_digits string_from char same
one_value = refl

-- ---- section 3, values

pub literals : Is (ascii "false") (bool false)
    × Is (ascii "null") null
    × Is (ascii "true") (bool true)
unfolding json value ws scalar Number.number leading_digits same
literals = (refl, refl, refl)

-- lower case, whole, and no more
pub no_literals : NoJson (map ascii ("nul" ∷ "nulll" ∷ "True" ∷ "NULL" ∷ "n" ∷ []))
unfolding json value ws scalar Number.number leading_digits same
no_literals = refl

-- ---- section 4, objects

pub empty_object : Is (ascii "{}") (object no_member)
unfolding json value items members ws scalar member_name Number.number leading_digits string_from char same
empty_object = refl

-- members stay in the order in which they are written, and a name that comes twice stays twice
pub names_as_written : Is (ascii "{\"b\":1,\"a\":2,\"b\":3}")
    (object (member (ascii "b") (number (ascii "1")) (member (ascii "a") (number (ascii "2")) (member (ascii "b") (number (ascii "3")) no_member))))
unfolding json value items members ws scalar member_name Number.number leading_digits string_from char same
names_as_written = refl

pub no_objects : NoJson (map ascii ("{\"a\":1,}" ∷ "{,}" ∷ "{\"a\"}" ∷ "{\"a\":}" ∷ "{\"a\" 1}" ∷ "{\"a\":1 \"b\":2}" ∷ "{a:1}" ∷ "{1:1}" ∷ "{\"a\":1" ∷ "{\"a\":1]" ∷ []))
unfolding json value items members ws scalar member_name Number.number leading_digits string_from char same
no_objects = refl

-- ---- section 5, arrays

-- the values of an array need not be of one kind
pub any_items : Is (ascii "[null,[],\"a\"]") (array (item null (item (array no_item) (item (string (ascii "a")) no_item))))
unfolding json value items members ws scalar member_name Number.number leading_digits string_from char same
any_items = refl

pub no_arrays : NoJson (map ascii ("[1,]" ∷ "[,1]" ∷ "[1 2]" ∷ "[1,,2]" ∷ "[1" ∷ "[1}" ∷ "[" ∷ []))
unfolding json value items members ws scalar member_name Number.number leading_digits string_from char same
no_arrays = refl

-- ---- section 6, numbers

abbrev number_texts : List String
number_texts = "0" ∷ "-0" ∷ "10" ∷ "-1" ∷ "1.5" ∷ "0.50" ∷ "1e5" ∷ "1.5E+3" ∷ "2E-07" ∷ []

-- a number stays as it is written
pub numbers : map (λ s. json (ascii s)) number_texts ≡ map (λ s. Some (number (ascii s))) number_texts
unfolding json value ws scalar Number.number leading_digits same
numbers = refl

-- no leading zero, no plus sign, digits on both sides of a point and behind an exponent's letter
pub no_numbers : NoJson (map ascii ("01" ∷ "-01" ∷ "+1" ∷ "-" ∷ "--1" ∷ ".5" ∷ "1." ∷ "1.e1" ∷ "1e" ∷ "1e+" ∷ "0x1" ∷ "Infinity" ∷ "NaN" ∷ []))
unfolding json value ws scalar Number.number leading_digits same
no_numbers = refl

-- ---- section 7, strings

-- U+007F and what lies past ASCII stand for themselves
pub plain : Is (ascii "\"\"") (string [])
    × Is (ascii "\"/ab\"") (string (ascii "/ab"))
    × Is (ascii "\"" ++ (0x7F ∷ 0xC3 ∷ 0xA9 ∷ ascii "\"")) (string (0x7F ∷ 0xC3 ∷ 0xA9 ∷ []))
unfolding json value ws scalar string_from char escape unicode short hex4 hex_digit encode
plain = (refl, refl, refl)

pub short_escapes : Is (ascii "\"\\\"\\\\\\/\\b\\f\\n\\r\\t\"") (string (0x22 ∷ 0x5C ∷ 0x2F ∷ 0x08 ∷ 0x0C ∷ 0x0A ∷ 0x0D ∷ 0x09 ∷ []))
unfolding json value ws scalar string_from char escape unicode short hex4 hex_digit encode
short_escapes = refl

-- the reverse solidus in three ways: hex letters of either case, and the short escape
pub reverse_solidus : Is (ascii "\"\\u005C\"") (string (ascii "\\"))
    × Is (ascii "\"\\u005c\"") (string (ascii "\\"))
    × Is (ascii "\"\\\\\"") (string (ascii "\\"))
unfolding json value ws scalar string_from char escape unicode short hex4 hex_digit encode
reverse_solidus = (refl, refl, refl)

-- U+1D11E as a surrogate pair
pub g_clef : Is (ascii "\"\\uD834\\uDD1E\"") (string (0xF0 ∷ 0x9D ∷ 0x84 ∷ 0x9E ∷ []))
unfolding json value ws scalar string_from char escape unicode short hex4 hex_digit encode
g_clef = refl

-- the first character that takes a pair, and the last
pub ends_of_pairs : Is (ascii "\"\\uD800\\uDC00\"") (string (0xF0 ∷ 0x90 ∷ 0x80 ∷ 0x80 ∷ []))
    × Is (ascii "\"\\uDBFF\\uDFFF\"") (string (0xF4 ∷ 0x8F ∷ 0xBF ∷ 0xBF ∷ []))
unfolding json value ws scalar string_from char escape unicode short hex4 hex_digit encode
ends_of_pairs = (refl, refl)

pub next_to_surrogates : Is (ascii "\"\\uD7FF\"") (string (0xED ∷ 0x9F ∷ 0xBF ∷ []))
    × Is (ascii "\"\\uE000\"") (string (0xEE ∷ 0x80 ∷ 0x80 ∷ []))
unfolding json value ws scalar string_from char escape unicode short hex4 hex_digit encode
next_to_surrogates = (refl, refl)

-- a high surrogate at the end, before a character, before an escape that is none, before an escape of another character, and before a pair
pub lone_high : NoJson (map ascii ("\"\\uD800\"" ∷ "\"\\uDBFFa\"" ∷ "\"\\uD834\\\\uDD1E\"" ∷ "\"\\uD834\\u0041\"" ∷ "\"\\uD834\\uD834\\uDD1E\"" ∷ []))
unfolding json value ws scalar string_from char escape unicode short hex4 hex_digit encode
lone_high = refl

-- a low surrogate, also before a high one
pub lone_low : NoJson (map ascii ("\"\\uDC00\"" ∷ "\"\\uDFFF\"" ∷ "\"\\uDD1E\\uD834\"" ∷ []))
unfolding json value ws scalar string_from char escape unicode short hex4 hex_digit encode
lone_low = refl

pub no_control_characters : NoJson (map (λ b. code "\"" ∷ b ∷ ascii "\"") (0x00 ∷ code "\t" ∷ code "\n" ∷ 0x1F ∷ []))
unfolding json value ws scalar string_from char escape unicode short hex4 hex_digit encode
no_control_characters = refl

pub no_escapes : NoJson (map ascii ("\"\\a\"" ∷ "\"\\'\"" ∷ "\"\\x41\"" ∷ "\"\\U0041\"" ∷ "\"\\u041\"" ∷ "\"\\u00g1\"" ∷ "\"\\\"" ∷ "\"" ∷ []))
unfolding json value ws scalar string_from char escape unicode short hex4 hex_digit encode
no_escapes = refl

-- ---- section 13, examples

-- the JSON object
abbrev image_text : List ℕ
image_text =
    ascii "{\n"
    ++ ascii "  \"Image\": {\n"
    ++ ascii "      \"Width\":  800,\n"
    ++ ascii "      \"Height\": 600,\n"
    ++ ascii "      \"Title\":  \"View from 15th Floor\",\n"
    ++ ascii "      \"Thumbnail\": {\n"
    ++ ascii "          \"Url\":    \"http://www.example.com/image/481989943\",\n"
    ++ ascii "          \"Height\": 125,\n"
    ++ ascii "          \"Width\":  100\n"
    ++ ascii "      },\n"
    ++ ascii "      \"Animated\" : false,\n"
    ++ ascii "      \"IDs\": [116, 943, 234, 38793]\n"
    ++ ascii "    }\n"
    ++ ascii "}\n"

abbrev thumbnail : Members
thumbnail =
    member (ascii "Url") (string (ascii "http://www.example.com/image/481989943"))
    (member (ascii "Height") (number (ascii "125"))
    (member (ascii "Width") (number (ascii "100")) no_member))

abbrev image : Members
image =
    member (ascii "Width") (number (ascii "800"))
    (member (ascii "Height") (number (ascii "600"))
    (member (ascii "Title") (string (ascii "View from 15th Floor"))
    (member (ascii "Thumbnail") (object thumbnail)
    (member (ascii "Animated") (bool false)
    (member (ascii "IDs") (array (item (number (ascii "116")) (item (number (ascii "943")) (item (number (ascii "234")) (item (number (ascii "38793")) no_item))))) no_member)))))

pub image_object : Is image_text (object (member (ascii "Image") (object image) no_member))
unfolding json value items members ws scalar member_name Number.number leading_digits string_from char same
image_object = refl

-- the JSON array of two objects
abbrev addresses_text : List ℕ
addresses_text =
    ascii "[\n"
    ++ ascii "    {\n"
    ++ ascii "       \"precision\": \"zip\",\n"
    ++ ascii "       \"Latitude\":  37.7668,\n"
    ++ ascii "       \"Longitude\": -122.3959,\n"
    ++ ascii "       \"Address\":   \"\",\n"
    ++ ascii "       \"City\":      \"SAN FRANCISCO\",\n"
    ++ ascii "       \"State\":     \"CA\",\n"
    ++ ascii "       \"Zip\":       \"94107\",\n"
    ++ ascii "       \"Country\":   \"US\"\n"
    ++ ascii "    },\n"
    ++ ascii "    {\n"
    ++ ascii "       \"precision\": \"zip\",\n"
    ++ ascii "       \"Latitude\":  37.371991,\n"
    ++ ascii "       \"Longitude\": -122.026020,\n"
    ++ ascii "       \"Address\":   \"\",\n"
    ++ ascii "       \"City\":      \"SUNNYVALE\",\n"
    ++ ascii "       \"State\":     \"CA\",\n"
    ++ ascii "       \"Zip\":       \"94085\",\n"
    ++ ascii "       \"Country\":   \"US\"\n"
    ++ ascii "    }\n"
    ++ ascii "]\n"

abbrev address : List ℕ → List ℕ → List ℕ → List ℕ → Members
address latitude longitude city zip =
    member (ascii "precision") (string (ascii "zip"))
    (member (ascii "Latitude") (number latitude)
    (member (ascii "Longitude") (number longitude)
    (member (ascii "Address") (string [])
    (member (ascii "City") (string city)
    (member (ascii "State") (string (ascii "CA"))
    (member (ascii "Zip") (string zip)
    (member (ascii "Country") (string (ascii "US")) no_member)))))))

pub addresses : Is addresses_text
    (array (item (object (address (ascii "37.7668") (ascii "-122.3959") (ascii "SAN FRANCISCO") (ascii "94107")))
    (item (object (address (ascii "37.371991") (ascii "-122.026020") (ascii "SUNNYVALE") (ascii "94085"))) no_item)))
unfolding json value items members ws scalar member_name Number.number leading_digits string_from char same
addresses = refl

-- three texts of a value that is no object and no array
pub only_values : Is (ascii "\"Hello world!\"") (string (ascii "Hello world!"))
    × Is (ascii "42") (number (ascii "42"))
    × Is (ascii "true") (bool true)
unfolding json value ws scalar Number.number leading_digits string_from char same
only_values = (refl, refl, refl)
