-- A uid that was found, laid down: as a reference, and as a stored key. White_Space at the start of its type is looked for where the type stands
-- decoded.
-- Assumes nothing.
use mathlib.Core.Path.{◌≡◌, refl, sym, ap, ◌∙◌}
use mathlib.Core.Bool.{Bool, true, false, not}
use mathlib.Core.List.{List, ◌++◌}
use Prim.Native.Nat.{ℕ, ◌+◌, ◌-◌, ◌≤◌}
use native.Mathlib.Omega.{arith}
use lib.Dec.{eqb}
use lib.ListN.{length, take, drop}
use lib.Seq.{take_at, drop_at}
use Rattle.buffers.specs.declared.Writer.{Writer}
use Rattle.buffers.specs.Sink.{Writes}
use Rattle.buffers.proofs.Appending.{take_rest}
use Rattle.format.specs.Kinds.{entity_kind, text_kind}
use Rattle.format.specs.declared.Refusal.{Refusal}
use Rattle.format.specs.Outcome.{Outcome, ok, refused, and_then}
use Rattle.format.specs.Refusals.{not_entities}
use Rattle.chars.specs.White.{white_at}
use Rattle.keys.specs.Escape.{pinned, entity_uid}
use Rattle.pack.specs.Pack.{Pack, node, append_text, append_value}
use Rattle.pack.specs.LaidDown.{laid_down}
use Rattle.pack.specs.declared.Tables.{Tables}
use Rattle.pack.specs.Post.{HasRoom, Lays, text_behind as behind}
use Rattle.pack.proofs.Appended.{text_behind}
use Rattle.entities.specs.Parse.{Key}
use Rattle.entities.proofs.KeyTexts.{key_size}
use Rattle.json_text.specs.Json.{Json, null, bool, number, string, array, object}
use Rattle.json_entities.specs.Post.{RoomFor}
use Rattle.json_entities.specs.Shape.{unless_white, uid_of}
use Rattle.json_entities.specs.Read.{reference_laid, key_laid}
use Rattle.json_entities.specs.Found.{both_in}

-- ---- what is read

-- type and id, and then the look for White_Space
uid_is : (j : Json) → uid_of j ≡ and_then (both_in j) unless_white
uid_is null = refl
uid_is (bool b) = refl
uid_is (number x) = refl
uid_is (string x) = refl
uid_is (array js) = refl
uid_is (object ms) = refl

-- does a type begin with White_Space?
abbrev pub Begins : List ℕ → Bool → Type 0
Begins ty b = b ≡ not (eqb (white_at ty) 0)

module _ (j : Json) where
  unless_is : (k : Key) → both_in j ≡ ok k → uid_of j ≡ unless_white k
  unless_is k e = uid_is j ∙ ap (λ (o : Outcome Key). and_then o unless_white) e

  refused_is : (e : Refusal) → both_in j ≡ refused e → uid_of j ≡ refused e
  refused_is e n = uid_is j ∙ ap (λ (o : Outcome Key). and_then o unless_white) n

  white_is : (k : Key) → both_in j ≡ ok k → Begins k.type true → uid_of j ≡ refused not_entities
  white_is k e w = unless_is k e ∙ go (eqb (white_at k.type) 0) refl
    where
      go : (b : Bool) → eqb (white_at k.type) 0 ≡ b → unless_white k ≡ refused not_entities
      go true h = let z : true ≡ false = w ∙ ap not h in absurd cc
      go false h = rw h

  plain_is : (k : Key) → both_in j ≡ ok k → Begins k.type false → uid_of j ≡ ok k
  plain_is k e w = unless_is k e ∙ go (eqb (white_at k.type) 0) refl
    where
      go : (b : Bool) → eqb (white_at k.type) 0 ≡ b → unless_white k ≡ ok k
      go true h = rw h
      go false h = let z : false ≡ true = w ∙ ap not h in absurd cc

  module _ (p : Pack) where
    -- as a reference
    pub reference_refused : (e : Refusal) → both_in j ≡ refused e → refused e ≡ reference_laid j p
    unfolding reference_laid laid_down
    reference_refused e n = rw (refused_is e n)

    pub reference_white : (k : Key) → both_in j ≡ ok k → Begins k.type true → refused not_entities ≡ reference_laid j p
    unfolding reference_laid laid_down
    reference_white k e w = rw (white_is k e w)

    pub reference_done : (k : Key) → both_in j ≡ ok k → Begins k.type false → (n q r : Pack) → n ≡ node entity_kind 0 p → q ≡ append_text text_kind k.type n → r ≡ append_text text_kind k.id q
        → ok r ≡ reference_laid j p
    unfolding reference_laid laid_down append_value
    reference_done k e w n q r a b c = rw (plain_is k e w, c, b, a)

    -- as a stored key
    pub key_refused : (e : Refusal) → both_in j ≡ refused e → refused e ≡ key_laid j p
    unfolding key_laid laid_down
    key_refused e n = rw (refused_is e n)

    pub key_white : (k : Key) → both_in j ≡ ok k → Begins k.type true → refused not_entities ≡ key_laid j p
    unfolding key_laid laid_down
    key_white k e w = rw (white_is k e w)

    pub key_done : (k : Key) → both_in j ≡ ok k → Begins k.type false → (q : Pack) → q ≡ append_text text_kind (entity_uid pinned k.type k.id) p → ok q ≡ key_laid j p
    unfolding key_laid laid_down
    key_done k e w q h = rw (plain_is k e w) (ap ok h)

-- ---- where a type stands

-- a text that was appended last
pub text_written : (o n : Tables) (kind : ℕ) (x : List ℕ) → o.reach.texts ≤ length o.texts.now → Lays (append_text kind x) o n → behind o.reach n ≡ x
text_written o n kind x a l = text_behind o.reach n.reach o.kinds.now o.numbers.now o.texts.now n.kinds.now n.numbers.now n.texts.now kind x a l

-- two texts that were written into an empty buffer, one behind the other
module _ {o a b : Writer} {ty id : List ℕ} (empty : o.end ≡ 0) (p : Writes o ty a) (q : Writes a id b) where
  first_ends : a.end ≡ length ty
  first_ends = omega (arith, p.ends)

  both_stand : take b.end b.out.now ≡ ty ++ id
  both_stand = q.stands ∙ ap (λ (l : List ℕ). l ++ id) (p.stands ∙ rw empty)

  pub first_stands : take a.end (take b.end b.out.now) ≡ ty
  first_stands = rw both_stand (take_at ty id a.end (sym first_ends))

  pub second_stands : take (length (take b.end b.out.now) - a.end) (drop a.end (take b.end b.out.now)) ≡ id
  second_stands = take_rest a.end (take b.end b.out.now) ∙ rw both_stand (drop_at ty id a.end (sym first_ends))

-- the key has room
pub key_fits : (ty id : List ℕ) (w : ℕ) (t : Tables) → length ty + length id + 8 ≤ w → RoomFor w t → HasRoom 1 (length (entity_uid pinned ty id)) t
key_fits ty id w t h r =
    let k = key_size ty id in
    record { kinds = omega (arith, r.kinds); numbers = omega (arith, r.numbers); texts = omega (arith, r.texts); few = omega (arith, r.few); short = omega (arith, r.short) }
