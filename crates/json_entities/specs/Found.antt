-- Of inner functions alone: a uid that is looked for in a text, before its strings are decoded.
-- Assumes nothing.
use Rattle.std.specs.Prelude.{◌≡◌, List, ℕ, ◌+◌, ◌≤◌, ◌<◌, length, IfSome, IsSome, Err, None, Ok, Option, Result, Some}
use Rattle.std.specs.Borrow.{Bor}
use Prim.Native.Char.{code}
use Rattle.format.specs.declared.Refusal.{Refusal}
use Rattle.format.specs.Outcome.{Outcome, ok, refused}
use Rattle.format.specs.Refusals.{not_entities}
use Rattle.json_text.specs.Json.{Json, Members, no_member}
use Rattle.json_text.specs.Text.{string}
use Rattle.json_text.specs.Post.{text_in, next_of}
use Rattle.json_text.specs.Syntax.{next_part, onward, read_value, read_members}
use Rattle.json_text.specs.Walk.{bytes_ahead}
use Rattle.entities.specs.Parse.{Key}
use Rattle.json_entities.specs.Shape.{text_of, uid_from}
use Rattle.json_entities.specs.Post.{json_in, members_in, rest_in, width}
use Rattle.json_entities.specs.declared.uid.Uid.{Uid}
use Rattle.json_entities.specs.declared.uid.Found.{Found}
use Rattle.json_entities.specs.declared.uid.Text.{Text}

-- type and id, before White_Space is looked for
abbrev pub both_in : Json → Outcome Key
both_in (Json.object ms) = uid_from None None ms
both_in Json.null = refused not_entities
both_in (Json.bool b) = refused not_entities
both_in (Json.number s) = refused not_entities
both_in (Json.string s) = refused not_entities
both_in (Json.array js) = refused not_entities

-- what its two strings stand for
abbrev pub key_in : Uid → Key
key_in u = record { type = text_in (string u.ty.now); id = text_in (string u.id.now) }

-- a uid that was found in s: two strings, which together are shorter than it, and the text behind it
pub record UidIn (s : List ℕ) (u : Uid) : Type 0 where
  pub both : both_in (json_in (read_value s)) ≡ ok (key_in u)
  pub typed : IsSome (string u.ty.now)
  pub named : IsSome (string u.id.now)
  pub short : length (key_in u).type + length (key_in u).id + 8 ≤ width (read_value s) s
  pub rest : u.rest.now ≡ rest_in (read_value s)

abbrev pub UidFound : List ℕ → Result Uid Refusal → Type 0
UidFound s (Ok u) = UidIn s u
UidFound s (Err e) = both_in (json_in (read_value s)) ≡ refused e

-- ---- a member's value that is a string

-- a value stands there, and more of its object
abbrev pub InObject : List ℕ → Type 0
InObject s = IsSome (read_value s) × IsSome (next_part (code "}") (rest_in (read_value s)))

-- the value of a member, at s, is that string
pub record StringIn (s : List ℕ) (t : Text) : Type 0 where
  pub well : IsSome (string t.text.now)
  pub is : json_in (read_value s) ≡ Json.string (text_in (string t.text.now))
  pub follows : next_part (code "}") (rest_in (read_value s)) ≡ Some (next_of t.next)
  pub short : length (text_in (string t.text.now)) + 2 + length (rest_in (read_value s)) ≤ length s

abbrev pub StringFound : List ℕ → Result Text Refusal → Type 0
StringFound s (Ok t) = StringIn s t
StringFound s (Err e) = text_of (json_in (read_value s)) ≡ refused e

-- ---- before a member, or before the brace that closes

-- what the string stands for that was found
abbrev pub text_found : Option (Bor (List ℕ)) → Option (List ℕ)
text_found (Some t) = Some (text_in (string t.now))
text_found None = None

-- the members from there on, and the text behind the object
abbrev pub members_left : Found → Option (Members × List ℕ)
members_left f = onward no_member read_members (next_of f.next)

-- the uid, of what was found and of these members
abbrev pub uid_left : Found → Outcome Key
uid_left f = uid_from (text_found f.ty) (text_found f.id) (members_in (members_left f))

-- how many bytes a string and its name took at least
abbrev pub bytes_of : Option (Bor (List ℕ)) → ℕ
bytes_of (Some t) = length (text_in (string t.now)) + 5
bytes_of None = 0

-- and with the bytes from the next member on
abbrev pub bytes_in : Found → ℕ
bytes_in f = bytes_of f.ty + bytes_of f.id + bytes_ahead (next_of f.next)

pub record WellFound (f : Found) : Type 0 where
  pub left : IsSome (members_left f)
  pub typed : IfSome f.ty (λ t. IsSome (string t.now))
  pub named : IfSome f.id (λ t. IsSome (string t.now))

-- a member more was found
pub record OneMore (before after : Found) : Type 0 where
  pub well : WellFound after
  pub same : uid_left before ≡ uid_left after
  pub behind : rest_in (members_left before) ≡ rest_in (members_left after)
  pub fewer : bytes_in after ≤ bytes_in before
  pub ahead : bytes_ahead (next_of after.next) < bytes_ahead (next_of before.next)

abbrev pub FoundOn : Found → Result Found Refusal → Type 0
FoundOn before (Ok after) = OneMore before after
FoundOn before (Err e) = uid_left before ≡ refused e
