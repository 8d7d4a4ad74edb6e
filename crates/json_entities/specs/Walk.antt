-- Of inner functions alone: the items and members of a JSON text in turn, and what those that read them lay down.
-- Assumes nothing.
use Rattle.std.specs.Prelude.{◌≡◌, Bool, true, false, cond, List, [], ℕ, ◌-◌, length, Err, None, Ok, Option, Result, Some}
use Rattle.std.specs.Borrow.{Bor}
use Prim.Native.Char.{code}
use Rattle.buffers.specs.Same.{same, among}
use Rattle.format.specs.Kinds.{text_kind}
use Rattle.format.specs.Outcome.{Outcome, refused}
use Rattle.format.specs.Refusals.{not_entities}
use Rattle.format.specs.declared.Refusal.{Refusal}
use Rattle.json_text.specs.Json.{Json, null, Items, no_item, Members, no_member, member}
use Rattle.json_text.specs.Parse.{Parse, then_read, made}
use Rattle.json_text.specs.Syntax.{Next, part, end, first_part, next_part, onward, onward_if, member_name, read_value, read_items, read_members}
use Rattle.json_text.specs.Walk.{bytes_ahead}
use Rattle.pack.specs.Value.{Value}
use Rattle.pack.specs.Pack.{Pack, append_text, append_value}
use Rattle.pack.specs.LaidDown.{laid_down}
use Rattle.pack.specs.Marks.{Marked}
use Rattle.values.specs.Parse.{unless_seen}
use Rattle.values.specs.declared.Names.TheVariants.{Decoded}
use Rattle.json_entities.specs.Shape.{entity_word, is_reserved, reference_alone, value_of}
use Rattle.json_entities.specs.Post.{members_in, rest_in}

-- ---- the parts of an array or an object

-- the items from a part of an array on, and those behind the bracket that opens
abbrev pub items_at : Next → Option (Items × List ℕ)
items_at x = onward no_item read_items x

abbrev pub items_behind : List ℕ → Option (Items × List ℕ)
items_behind s = items_at (first_part (code "]") s)

-- the members from a part of an object on, those behind the bracket that opens, and those behind a member
abbrev pub members_at : Next → Option (Members × List ℕ)
members_at x = onward no_member read_members x

abbrev pub members_behind : List ℕ → Option (Members × List ℕ)
members_behind s = members_at (first_part (code "}") s)

abbrev pub members_after : List ℕ → Option (Members × List ℕ)
members_after s = onward_if no_member read_members (next_part (code "}") s)

-- the bytes from a part on, up to the text behind what was read
abbrev pub width_ahead : {A : Type 0} → Option (A × List ℕ) → Next → ℕ
width_ahead o x = bytes_ahead x - length (rest_in o)

-- a member: its name and its value
abbrev pub read_member : Parse (List ℕ × Json)
read_member s = then_read (member_name s) (λ x r. made (λ (j : Json). (x, j)) (read_value r))

abbrev pub member_in : Option ((List ℕ × Json) × List ℕ) → List ℕ × Json
member_in (Some p) = p.0
member_in None = ([], null)

-- the text from a part on, or behind all parts
abbrev pub text_ahead : Next → List ℕ
text_ahead (part r) = r
text_ahead (end r) = r

-- the first of the members is the reference member
abbrev pub starts_reference : Members → Bool
starts_reference no_member = false
starts_reference (member x j ms) = same x entity_word

-- the text of its value
abbrev pub ReferenceText : Next → Option (Bor (List ℕ)) → Type 0
ReferenceText x (Some t) = (starts_reference (members_in (members_at x)) ≡ true) × (t.now ≡ rest_in (member_name (text_ahead x)))
ReferenceText x None = starts_reference (members_in (members_at x)) ≡ false

-- ---- what is laid down

-- the value of a field, behind those of the names `before`
abbrev pub field_value : (Json → Outcome Value) → List (List ℕ) → List ℕ × Json → Outcome Value
field_value p before m = cond (is_reserved m.0) (refused not_entities) (unless_seen Decoded (among m.0 before) (p m.1))

-- its name, and then its value, with so many levels left
unfoldable pub field_laid : ℕ → List (List ℕ) → List ℕ × Json → Pack → Outcome Pack
field_laid k before m p = laid_down append_value (append_text text_kind m.0 p) (field_value (value_of k) before m)

-- the value of a reference member, before other members
unfoldable pub alone_laid : Json → Members → Pack → Outcome Pack
alone_laid j ms p = laid_down append_value p (reference_alone j ms)

-- after a field that was read, its name and those before it have their marks
abbrev pub MarkedAfter : {A : Type 0} → Result A Refusal → List ℕ → List (List ℕ) → Type 0
MarkedAfter (Ok a) marks xs = Marked marks xs
MarkedAfter (Err e) marks xs = Unit {0}
