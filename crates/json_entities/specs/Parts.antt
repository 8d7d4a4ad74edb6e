-- Of inner functions alone: an entry's members one at a time. What they gave so far, where it stands in the text, and what was laid of it.
-- Assumes nothing.
use Rattle.std.specs.Prelude.{◌≡◌, Bool, true, cond, ◌&&◌, List, ℕ, ◌+◌, ◌≤◌, ◌<◌, max, length, get_or, take, drop, is_none, IsSome, Err, None, Ok, Option, Result, Some}
use Rattle.std.specs.Borrow.{Bor}
use Rattle.buffers.specs.Same.{same}
use Rattle.format.specs.declared.Reach.{Reach}
use Rattle.format.specs.declared.Refusal.{Refusal}
use Rattle.format.specs.Outcome.{Outcome, ok, refused, mapped, and_then}
use Rattle.format.specs.Refusals.{not_entities}
use Rattle.json_text.specs.Json.{Json, Members}
use Rattle.json_text.specs.Post.{text_in}
use Rattle.json_text.specs.Syntax.{member_name, read_value}
use Rattle.pack.specs.Pack.{Pack, append_value}
use Rattle.pack.specs.Value.{Fields, Values, array}
use Rattle.pack.specs.Walk.{text_at}
use Rattle.pack.specs.LaidDown.{laid_down}
use Rattle.pack.specs.Post.{pack_of, pack_before}
use Rattle.pack.specs.declared.Tables.{Tables}
use Rattle.values.specs.Read.{append_record}
use Rattle.entities.specs.Parse.{Key, Entry}
use Rattle.entities.specs.Post.{KeysMarkedAfter}
use Rattle.entities.specs.Read.{append_key, append_entry}
use Rattle.json_entities.specs.Shape.{uid_word, attrs_word, parents_word, uid_of, attributes_of, parents_of, parts_of, entry_from, entry_of}
use Rattle.json_entities.specs.Read.{key_laid, attributes_laid, parents_laid}
use Rattle.json_entities.specs.Post.{json_in, rest_in, width}
use Rattle.json_entities.specs.declared.Found.{Found}
use Rattle.json_entities.specs.declared.Part.{Part}
use Rattle.json_entities.specs.declared.Part.TheVariants.{Uid, Attributes, Parents}

-- ---- what the members so far gave

pub record PartsRead : Type 0 where
  pub uid : Option Key
  pub attributes : Option Fields
  pub parents : Option Values

-- the entry, with the members that follow
abbrev pub entry_with : PartsRead → Members → Outcome Entry
entry_with u ms = entry_from u.uid u.attributes u.parents ms

-- the part that the name x names, where each may still come or not
abbrev pub part_named : List ℕ → (uid attributes parents : Bool) → Option Part
part_named x uid attributes parents =
    cond (same x uid_word && uid) (Some Uid) (cond (same x attrs_word && attributes) (Some Attributes) (cond (same x parents_word && parents) (Some Parents) None))

-- one part more
abbrev pub with_part : Option Part → Json → PartsRead → Outcome PartsRead
with_part (Some Uid) j u = mapped (λ k. record u { uid = Some k }) (uid_of j)
with_part (Some Attributes) j u = mapped (λ fs. record u { attributes = Some fs }) (attributes_of j)
with_part (Some Parents) j u = mapped (λ ps. record u { parents = Some ps }) (parents_of j)
with_part None j u = refused not_entities

-- a member more
abbrev pub with_member : List ℕ → Json → PartsRead → Outcome PartsRead
with_member x j u = with_part (part_named x (is_none u.uid) (is_none u.attributes) (is_none u.parents)) j u

-- ---- laid behind a pack, in the order of the pack

abbrev pub part_laid : Part → Json → Pack → Outcome Pack
part_laid Uid j p = key_laid j p
part_laid Attributes j p = attributes_laid j p
part_laid Parents j p = parents_laid j p

abbrev pub three_laid : (uid attributes parents : Json) → Pack → Outcome Pack
three_laid uid attributes parents p = and_then (key_laid uid p) (λ q. and_then (attributes_laid attributes q) (λ r. parents_laid parents r))

abbrev pub lay_if : {A : Type 0} → (A → Pack → Pack) → Option A → Pack → Pack
lay_if lay (Some a) p = lay a p
lay_if lay None p = p

abbrev pub lay_parents : Values → Pack → Pack
lay_parents ps p = append_value (array ps) p

abbrev pub lay_parts : PartsRead → Pack → Pack
lay_parts u p = lay_if lay_parents u.parents (lay_if append_record u.attributes (lay_if append_key u.uid p))

abbrev pub members_laid : Members → Pack → Outcome Pack
members_laid ms p = laid_down append_entry p (entry_from None None None ms)

-- ---- where they stand in the text

abbrev pub value_in : List ℕ → Json
value_in s = json_in (read_value s)

abbrev pub ok_in : {A : Type 0} → Outcome A → Option A
ok_in (ok a) = Some a
ok_in (refused e) = None

abbrev pub part_in : {A : Type 0} → (Json → Outcome A) → Option (Bor (List ℕ)) → Option A
part_in of (Some t) = ok_in (of (value_in t.now))
part_in of None = None

abbrev pub parts_in : Found → PartsRead
parts_in f = record { uid = part_in uid_of f.uid; attributes = part_in attributes_of f.attributes; parents = part_in parents_of f.parents }

abbrev pub nothing_found : Found
nothing_found = record { uid = None; attributes = None; parents = None; ordered = true }

-- the value of a part that starts at t, which came behind the others
abbrev pub with_found : Part → Bor (List ℕ) → Found → Found
with_found Uid t f = record f { uid = Some t; ordered = f.ordered && (is_none f.attributes && is_none f.parents) }
with_found Attributes t f = record f { attributes = Some t; ordered = f.ordered && is_none f.parents }
with_found Parents t f = record f { parents = Some t }

-- what is kept was read without refusal
abbrev pub Sound : {A : Type 0} → (Json → Outcome A) → Option (Bor (List ℕ)) → Type 0
Sound of (Some t) = IsSome (read_value t.now) × IsSome (ok_in (of (value_in t.now)))
Sound of None = Unit {0}

-- its bytes
abbrev pub part_width : Option (Bor (List ℕ)) → ℕ
part_width (Some t) = width (read_value t.now) t.now
part_width None = 0

abbrev pub parts_width : Found → ℕ
parts_width f = part_width f.uid + part_width f.attributes + part_width f.parents

-- the bytes of the text from it on
abbrev pub text_size : Option (Bor (List ℕ)) → ℕ
text_size (Some t) = length t.now
text_size None = 0

pub record AllSound (f : Found) : Type 0 where
  pub uid : Sound uid_of f.uid
  pub attributes : Sound attributes_of f.attributes
  pub parents : Sound parents_of f.parents

-- parts that came in the order of the pack stand in it behind p
abbrev pub InOrder : Found → Pack → Tables → Type 0
InOrder f p t = f.ordered ≡ true → pack_of t ≡ lay_parts (parts_in f) p

-- ---- a member

abbrev pub name_in : List ℕ → List ℕ
name_in s = text_in (member_name s)

-- the text from its value on
abbrev pub value_text : List ℕ → List ℕ
value_text s = rest_in (member_name s)

-- what stood before the cursor stands there still
abbrev pub StandsBefore : Tables → Tables → Type 0
StandsBefore o n = pack_before o.reach n ≡ pack_of o

-- a member of w bytes, of the name x and the value j, was read in a text of n bytes
pub record MemberKept (x : List ℕ) (j : Json) (w n : ℕ) (f : Found) (t : Tables) (f' : Found) (t' : Tables) : Type 0 where
  pub parts : with_member x j (parts_in f) ≡ ok (parts_in f')
  pub sound : AllSound f'
  pub fits : parts_width f' ≤ parts_width f + w
  pub short : text_size f'.uid ≤ max (text_size f.uid) n
  pub laid : (p : Pack) → InOrder f p t → InOrder f' p t'
  pub stands : StandsBefore t t'

abbrev pub MemberMet : {A : Type 0} → List ℕ → Json → ℕ → ℕ → Found → Tables → Found → Tables → Result A Refusal → Type 0
MemberMet x j w n f t f' t' (Ok a) = MemberKept x j w n f t f' t'
MemberMet x j w n f t f' t' (Err e) = with_member x j (parts_in f) ≡ refused e

-- the members ms of w bytes were read in a text of n bytes
pub record MembersKept (ms : Members) (w n : ℕ) (t : Tables) (f' : Found) (t' : Tables) : Type 0 where
  pub parts : entry_from None None None ms ≡ parts_of (parts_in f').uid (parts_in f').attributes (parts_in f').parents
  pub sound : AllSound f'
  pub fits : parts_width f' ≤ w
  pub short : text_size f'.uid ≤ n
  pub laid : InOrder f' (pack_of t) t'
  pub stands : StandsBefore t t'

abbrev pub MembersMet : {A : Type 0} → Members → ℕ → ℕ → Tables → Found → Tables → Result A Refusal → Type 0
MembersMet ms w n t f' t' (Ok a) = MembersKept ms w n t f' t'
MembersMet ms w n t f' t' (Err e) = entry_from None None None ms ≡ refused e

-- ---- the stored key

-- the text of the first node behind a reach
abbrev pub key_behind : Reach → Tables → List ℕ
key_behind f t = text_at t.texts.now (get_or t.numbers.now f.nodes 0)

-- it stands first among the texts behind the reach
pub record KeyStands (f : Reach) (t : Tables) : Type 0 where
  pub kinds : f.nodes ≤ length t.kinds.now
  pub numbers : f.nodes < length t.numbers.now
  pub texts : f.texts + length (key_behind f t) ≤ length t.texts.now
  pub stands : take (length (key_behind f t)) (drop f.texts t.texts.now) ≡ key_behind f t

-- after an entry that was read, its key and those before it have their marks
abbrev pub KeysMarked : {A : Type 0} → Result A Refusal → List ℕ → List (List ℕ) → Json → Type 0
KeysMarked (Ok a) marks before j = KeysMarkedAfter marks before (entry_of before j)
KeysMarked (Err e) marks before j = Unit {0}
