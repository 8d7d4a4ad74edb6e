-- RFC 8259, sections 2 to 5: a text read as JSON, by recursive descent. The number counts down at each call, so that reading ends; `enough` is
-- always enough (`proofs/Rules`), and `read_value` and the others read with that.
-- Assumes nothing.
use Rattle.std.specs.Prelude.{Bool, true, false, cond, ◌||◌, List, [], ◌∷◌, ℕ, zero, suc, ◌+◌, ◌-◌, ◌*◌, eqb, length, take, drop, None, Option, Some, option_map, option_and_then}
use Prim.Native.Char.{code}
use Rattle.buffers.specs.Ascii.{ascii}
use Rattle.chars.specs.White.{empty}
use Rattle.json_text.specs.Json.{Json, null, bool, number, string, array, object, Items, no_item, item, Members, no_member, member}
use Rattle.json_text.specs.Parse.{Parse, then_read, made, starts, begins}
use Rattle.json_text.specs.Number as Number
use Rattle.json_text.specs.Text as Text

-- ws = *( %x20 / %x09 / %x0A / %x0D )
abbrev pub is_space : ℕ → Bool
is_space b = eqb b 0x20 || (eqb b 0x09 || (eqb b 0x0A || eqb b 0x0D))

-- the text behind it
unfoldable pub ws : List ℕ → List ℕ
ws [] = []
ws (b ∷ r) = cond (is_space b) (ws r) (b ∷ r)

-- ---- section 3, values

-- false, null, true: the word w stands for j
abbrev pub literal_or : List ℕ → Json → List ℕ → Option (Json × List ℕ) → Option (Json × List ℕ)
literal_or w j s other = cond (begins w s) (Some (j, drop (length w) s)) other

abbrev pub number_text : List ℕ → List ℕ → List ℕ
number_text s rest = take (length s - length rest) s

abbrev pub read_number : Parse Json
read_number s = option_map (λ rest. (number (number_text s rest), rest)) (Number.number s)

unfoldable pub scalar : Parse Json
scalar s =
    cond (starts (code "\"") s) (made string (Text.string (drop 1 s)))
    (literal_or (ascii "null") null s (literal_or (ascii "true") (bool true) s (literal_or (ascii "false") (bool false) s (read_number s))))

-- ---- sections 4 and 5, objects and arrays

-- the text from the next part of an array or an object on, or the text behind the bracket that closes it
pub data Next : Type 0 where
  part : List ℕ → Next
  end : List ℕ → Next

-- behind the bracket that opens, where c closes
abbrev pub first_part : ℕ → List ℕ → Next
first_part c s = cond (starts c (ws s)) (end (drop 1 (ws s))) (part (ws s))

-- behind a part: value-separator = ws %x2C ws, or the bracket that closes
abbrev pub next_part : ℕ → List ℕ → Option Next
next_part c s =
    cond (starts (code ",") (ws s)) (Some (part (ws (drop 1 (ws s))))) (cond (starts c (ws s)) (Some (end (drop 1 (ws s)))) None)

module _ {A : Type 0} where
  -- the parts that are read there, or none behind the end
  abbrev pub onward : A → Parse A → Next → Option (A × List ℕ)
  onward none read (part r) = read r
  onward none read (end r) = Some (none, r)

  abbrev pub onward_if : A → Parse A → Option Next → Option (A × List ℕ)
  onward_if none read o = option_and_then (onward none read) o

-- name-separator = ws %x3A ws
abbrev pub behind_colon : List ℕ → Option (List ℕ)
behind_colon s = cond (starts (code ":") (ws s)) (Some (ws (drop 1 (ws s)))) None

-- string name-separator: a member's name, and the text from its value on
unfoldable pub member_name : Parse (List ℕ)
member_name s =
    cond (starts (code "\"") s) (then_read (Text.string (drop 1 s)) (λ x r. option_map (λ t. (x, t)) (behind_colon r))) None

unfoldable mutual
  -- value = false / null / true / object / array / number / string
  pub value : ℕ → Parse Json
  value zero s = None
  value (suc k) s =
      cond (starts (code "[") s) (made array (onward no_item (items k) (first_part (code "]") (drop 1 s))))
      (cond (starts (code "{") s) (made object (onward no_member (members k) (first_part (code "}") (drop 1 s)))) (scalar s))

  -- value *( value-separator value ) and the bracket behind them
  pub items : ℕ → Parse Items
  items zero s = None
  items (suc k) s = then_read (value k s) (λ j r. made (item j) (onward_if no_item (items k) (next_part (code "]") r)))

  -- member *( value-separator member ) and the bracket behind them; member = string name-separator value
  pub members : ℕ → Parse Members
  members zero s = None
  members (suc k) s =
      then_read (member_name s) (λ x r. then_read (value k r) (λ j t. made (member x j) (onward_if no_member (members k) (next_part (code "}") t))))

abbrev pub enough : List ℕ → ℕ
enough s = 2 * length s + 2

abbrev pub read_value : Parse Json
read_value s = value (enough s) s

abbrev pub read_items : Parse Items
read_items s = items (enough s) s

abbrev pub read_members : Parse Members
read_members s = members (enough s) s

-- ---- section 2: JSON-text = ws value ws

abbrev pub alone : Json × List ℕ → Option Json
alone p = cond (empty (ws p.1)) (Some p.0) None

unfoldable pub json : List ℕ → Option Json
json s = then_read (read_value (ws s)) (λ j r. alone (j, r))
