-- Of inner functions alone: what the readers of a JSON text require and ensure besides their answers.
-- Assumes nothing.
use Rattle.std.specs.Prelude.{◌≡◌, List, [], ℕ, ◌-◌, ◌*◌, length, Err, None, Ok, Option, Result, Some}
use Rattle.std.specs.Borrow.{Bor}
use Rattle.format.specs.declared.Refusal.{Refusal}
use Rattle.json_text.specs.Json.{Json, null, Items, no_item, Members, no_member}
use Rattle.pack.specs.declared.Tables.{Tables}
use Rattle.pack.specs.Post.{HasRoom, ReadsWithin}

-- what a text starts with, and the text behind it; they are used where there is one
abbrev pub json_in : Option (Json × List ℕ) → Json
json_in (Some p) = p.0
json_in None = null

abbrev pub items_in : Option (Items × List ℕ) → Items
items_in (Some p) = p.0
items_in None = no_item

abbrev pub members_in : Option (Members × List ℕ) → Members
members_in (Some p) = p.0
members_in None = no_member

abbrev pub rest_in : {A : Type 0} → Option (A × List ℕ) → List ℕ
rest_in (Some p) = p.1
rest_in None = []

-- the bytes of s up to the text behind what was read
abbrev pub width : {A : Type 0} → Option (A × List ℕ) → List ℕ → ℕ
width o s = length s - length (rest_in o)

-- Room for what w bytes of JSON give: a byte gives one node at most, and six bytes of text, as a stored key writes it.
abbrev pub RoomFor : ℕ → Tables → Type 0
RoomFor w t = HasRoom w (6 * w) t

abbrev pub WithinBytes : {A : Type 0} → ℕ → Tables → Tables → Result A Refusal → Type 0
WithinBytes w o n r = ReadsWithin w (6 * w) o n r

-- the answer is the text behind what was read
abbrev pub GoesOn : List ℕ → Result (Bor (List ℕ)) Refusal → Type 0
GoesOn rest (Ok t) = t.now ≡ rest
GoesOn rest (Err e) = Unit {0}
