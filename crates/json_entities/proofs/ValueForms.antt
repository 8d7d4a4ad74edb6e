-- One law for each form of a value: too deep, an array, an object, or neither; and of an object, a reference or a record.
-- Assumes nothing.
use mathlib.Core.Path.{◌≡◌, refl, sym, ap, ◌∙◌}
use mathlib.Core.Bool.{true, false}
use mathlib.Core.List.{List, []}
use Prim.Native.Char.{code}
use Prim.Native.Nat.{ℕ, suc, ◌+◌, ◌-◌, ◌≤◌, ◌<◌}
use native.Mathlib.Omega.{arith}
use lib.Dec.{eqb}
use Rattle.chars.specs.White.{white_at}
use lib.ListN.{length, drop, length-drop}
use Rattle.std.specs.Prelude.{None, Option, Some, IsSome}
use Rattle.buffers.specs.Same.{same}
use Rattle.buffers.proofs.Choice.{by_cond}
use Rattle.format.specs.Limits.{levels}
use Rattle.format.specs.declared.Refusal.{Refusal}
use Rattle.format.specs.Outcome.{Outcome, ok, refused, and_then, mapped}
use Rattle.format.specs.Refusals.{value_too_deep, not_entities}
use Rattle.json_text.specs.Json.{Json, Members, no_member, member}
use Rattle.json_text.specs.Parse.{starts}
use Rattle.json_text.specs.Syntax.{Next, part, end, scalar, member_name, read_value, read_members}
use Rattle.pack.specs.Pack.{Pack, append_value}
use Rattle.pack.specs.LaidDown.{laid_down}
use Rattle.entities.specs.Parse.{Key}
use Rattle.json_entities.specs.Shape.{entity_word, type_word, id_word, first_named, text_of, both_of, uid_from, unless_white, uid_of, entity_of, fields_by, object_by, value_by, value_of}
use Rattle.json_entities.specs.Read.{value_laid, array_laid, object_laid, record_laid, attributes_laid, reference_laid}
use Rattle.json_entities.specs.Post.{json_in, items_in, members_in, rest_in, width}
use Rattle.json_entities.specs.Walk.{items_behind, members_at, members_behind, members_after, width_ahead, text_ahead, starts_reference, alone_laid}
use Rattle.json_text.proofs.Rules.{value_rule, value_shorter}
use Rattle.json_entities.proofs.JsonSteps.{by_start, array_read, object_read, member_read}
use Rattle.json_entities.proofs.ValueFields.{laid_as_record}

-- ---- what is inside a value's brackets, o, in a text t: the same rest, and one byte less

pub record Inside {A : Type 0} (s t : List ℕ) (o : Option (A × List ℕ)) : Type 0 where
  pub there : IsSome o
  pub rest : rest_in (read_value s) ≡ rest_in o
  pub width : width (read_value s) s ≡ length t - length (rest_in o) + 1
  pub shorter : length t + 1 ≡ length s

module _ (s t : List ℕ) (behind : t ≡ drop 1 s) (is : IsSome (read_value s)) where
  module _ (e : starts (code "[") s ≡ true) where
    pub in_array : Inside s t (items_behind t)
    in_array =
        let a = array_read s e is in
        let whole : rest_in (read_value s) ≡ a.rest = rw a.whole refl in
        let left : rest_in (items_behind t) ≡ a.rest = rw (behind, a.left) refl in
        record {
          there = rw (behind, a.left) refl;
          rest = whole ∙ sym left;
          width = omega (arith, a.first_fits, a.rest_fits, length-drop 1 s, ap length whole, ap length left, ap length behind);
          shorter = omega (arith, a.first_fits, length-drop 1 s, ap length behind);
        }

    array_in : json_in (read_value s) ≡ Json.array (items_in (items_behind t))
    array_in = let a = array_read s e is in rw (behind, a.left, a.whole) refl

    -- with k levels left, i of them to what it holds
    pub value_array : (k i : ℕ) → k ≡ suc i → (p : Pack) → array_laid i (items_in (items_behind t)) p ≡ value_laid k (json_in (read_value s)) p
    unfolding value_laid value_of value_by array_laid
    value_array k i d p = rw (array_in, d) refl

  module _ (e : starts (code "{") s ≡ true) where
    pub in_object : Inside s t (members_behind t)
    in_object =
        let a = object_read s e is in
        let whole : rest_in (read_value s) ≡ a.rest = rw a.whole refl in
        let left : rest_in (members_behind t) ≡ a.rest = rw (behind, a.left) refl in
        record {
          there = rw (behind, a.left) refl;
          rest = whole ∙ sym left;
          width = omega (arith, a.first_fits, a.rest_fits, length-drop 1 s, ap length whole, ap length left, ap length behind);
          shorter = omega (arith, a.first_fits, length-drop 1 s, ap length behind);
        }

    object_in : json_in (read_value s) ≡ Json.object (members_in (members_behind t))
    object_in = let a = object_read s e is in rw (behind, a.left, a.whole) refl

    pub value_object : (k i : ℕ) → k ≡ suc i → (p : Pack) → object_laid i (members_in (members_behind t)) p ≡ value_laid k (json_in (read_value s)) p
    unfolding value_laid value_of value_by object_laid
    value_object k i d p = rw (object_in, d) refl

    pub attributes_object : (p : Pack) → record_laid (levels - 1) (members_in (members_behind t)) p ≡ attributes_laid (json_in (read_value s)) p
    unfolding attributes_laid record_laid
    attributes_object p = rw object_in refl

module _ (s : List ℕ) where
  -- a value that is no array and no object
  module _ (a : starts (code "[") s ≡ false) (o : starts (code "{") s ≡ false) where
    pub scalar_is : read_value s ≡ scalar s
    scalar_is = value_rule s ∙ rw (a, o) refl

-- a value that is there has a first byte
pub value_long : (s : List ℕ) → IsSome (read_value s) → length (rest_in (read_value s)) < length s
value_long s is = go (read_value s) refl is
  where
    go : (o : Option (Json × List ℕ)) → read_value s ≡ o → IsSome o → length (rest_in o) < length s
    go (Some p) e h = value_shorter s p e
    go None e h = absurd cc

-- ---- a value, with k levels left

pub value_deep : (k : ℕ) (j : Json) (p : Pack) → k ≡ 0 → refused value_too_deep ≡ value_laid k j p
unfolding value_laid value_of laid_down
value_deep k j p e = rw e refl

-- one that is no array and no object is read alike, however many levels are left
pub value_alike : (s : List ℕ) → starts (code "[") s ≡ false → starts (code "{") s ≡ false → (k i : ℕ) → k ≡ suc i → (p : Pack)
    → value_laid 1 (json_in (scalar s)) p ≡ value_laid k (json_in (read_value s)) p
unfolding value_laid value_of value_by
value_alike s a o k i e p =
    rw (e, ← scalar_is s a o)
    (by_start (λ (j : Json). value_laid 1 j p ≡ value_laid (suc i) j p) s (λ f js. absurd cc) (λ f ms. absurd cc) (λ _ x. refl) refl (λ b. refl) (λ x. refl))

-- ---- an object

object_reference : (k : ℕ) (p : Pack) (x : List ℕ) (j : Json) (ms : Members) → same x entity_word ≡ true → object_laid k (member x j ms) p ≡ alone_laid j ms p
unfolding object_laid object_by alone_laid
object_reference k p x j ms e = rw e refl

object_other : (k : ℕ) (p : Pack) (x : List ℕ) (j : Json) (ms : Members) → same x entity_word ≡ false → record_laid k (member x j ms) p ≡ object_laid k (member x j ms) p
unfolding object_laid object_by record_laid
object_other k p x j ms e = rw e (sym (laid_as_record (fields_by (value_of k) [] (member x j ms)) p))

object_empty : (k : ℕ) (p : Pack) → record_laid k no_member p ≡ object_laid k no_member p
unfolding object_laid object_by record_laid fields_by laid_down
object_empty k p = refl

-- its first member is not the reference member, or it has none
pub object_record : (k : ℕ) (p : Pack) (ms : Members) → starts_reference ms ≡ false → record_laid k ms p ≡ object_laid k ms p
object_record k p no_member e = object_empty k p
object_record k p (member x j ms) e = object_other k p x j ms e

-- its first member is the reference member, with its value at v
pub record ReferenceAt (x : Next) (v : List ℕ) : Type 0 where
  pub there : IsSome (read_value v)
  pub follows : IsSome (members_after (rest_in (read_value v)))
  pub rest : rest_in (members_at x) ≡ rest_in (members_after (rest_in (read_value v)))
  pub fits : width (read_value v) v ≤ width_ahead (members_at x) x
  pub laid : (k : ℕ) (p : Pack) → alone_laid (json_in (read_value v)) (members_in (members_after (rest_in (read_value v)))) p ≡ object_laid k (members_in (members_at x)) p

pub reference_at : (x : Next) (v : List ℕ) → IsSome (members_at x) → starts_reference (members_in (members_at x)) ≡ true → v ≡ rest_in (member_name (text_ahead x)) → ReferenceAt x v
reference_at (end r) v is e at = absurd cc
reference_at (part r) v is e at =
    let m = member_read r is in
    let value : v ≡ m.at = at ∙ rw m.named.is refl in
    let named : same m.name entity_word ≡ true = rw m.whole at e in
    let behind : rest_in (read_value v) ≡ m.behind = rw (value, m.is) refl in
    let rest : rest_in (read_members r) ≡ m.rest = rw m.whole refl in
    record {
      there = rw (value, m.is) refl;
      follows = rw (behind, m.follows, m.left) refl;
      rest = rest ∙ rw (behind, m.follows, m.left) refl;
      fits = omega (arith, m.at_fits, m.behind_fits, m.next_fits, m.rest_fits, ap length value, ap length behind, ap length rest);
      laid = λ k p. rw (value, m.is, m.follows, m.left, m.whole) (sym (object_reference k p m.name m.value m.more named));
    }

-- ---- a reference, in an object of its own

-- all that is refused of a uid is its shape
abbrev OnlyShape : {A : Type 0} → Outcome A → Type 0
OnlyShape (ok a) = Unit {0}
OnlyShape (refused e) = e ≡ not_entities

shape_then : {A B : Type 0} (o : Outcome A) (f : A → Outcome B) → OnlyShape o → ((a : A) → OnlyShape (f a)) → OnlyShape (and_then o f)
shape_then (ok a) f h g = g a
shape_then (refused e) f h g = h

text_shape : (j : Json) → OnlyShape (text_of j)
text_shape (Json.string s) = tt
text_shape Json.null = refl
text_shape (Json.bool b) = refl
text_shape (Json.number s) = refl
text_shape (Json.array js) = refl
text_shape (Json.object ms) = refl

both_shape : (ty id : Option (List ℕ)) → OnlyShape (both_of ty id)
both_shape (Some ty) (Some id) = tt
both_shape (Some ty) None = refl
both_shape None id = refl

uid_shape_from : (ty id : Option (List ℕ)) (ms : Members) → OnlyShape (uid_from ty id ms)
unfolding uid_from
uid_shape_from ty id no_member = both_shape ty id
uid_shape_from ty id (member x j ms) =
    by_cond OnlyShape (first_named type_word x ty) _ _ (λ _. shape_then (text_of j) _ (text_shape j) (λ s. uid_shape_from (Some s) id ms))
    (λ _. by_cond OnlyShape (first_named id_word x id) _ _ (λ _. shape_then (text_of j) _ (text_shape j) (λ s. uid_shape_from ty (Some s) ms)) (λ _. refl))

white_shape : (k : Key) → OnlyShape (unless_white k)
white_shape k = by_cond (OnlyShape {A = Key}) (eqb (white_at k.type) 0) (ok k) (refused not_entities) (λ _. tt) (λ _. refl)

uid_shape : (j : Json) → OnlyShape (uid_of j)
uid_shape (Json.object ms) = shape_then (uid_from None None ms) unless_white (uid_shape_from None None ms) white_shape
uid_shape Json.null = refl
uid_shape (Json.bool b) = refl
uid_shape (Json.number s) = refl
uid_shape (Json.string s) = refl
uid_shape (Json.array js) = refl

module _ (j : Json) (p : Pack) where
  pub alone_refused : (ms : Members) (e : Refusal) → refused e ≡ reference_laid j p → refused e ≡ alone_laid j ms p
  unfolding reference_laid alone_laid laid_down
  alone_refused no_member e h = h
  alone_refused (member x i ms) e h = go (uid_of j) (uid_shape j) h
    where
      go : (o : Outcome Key) → OnlyShape o → refused e ≡ laid_down append_value p (mapped entity_of o) → ◌≡◌ {A = Outcome Pack} (refused e) (refused not_entities)
      go (ok k) d h = absurd cc
      go (refused n) d h = h ∙ ap refused d

  pub alone_followed : (x : List ℕ) (i : Json) (ms : Members) → refused not_entities ≡ alone_laid j (member x i ms) p
  unfolding alone_laid laid_down
  alone_followed x i ms = refl

  pub alone_read : (b : Pack) → ok b ≡ reference_laid j p → ok b ≡ alone_laid j no_member p
  unfolding reference_laid alone_laid
  alone_read b h = h

-- ---- the record of an entry is an object

pub attributes_other : (s : List ℕ) (p : Pack) → starts (code "{") s ≡ false → refused not_entities ≡ attributes_laid (json_in (read_value s)) p
unfolding attributes_laid laid_down
attributes_other s p o = by_start (λ (j : Json). refused not_entities ≡ attributes_laid j p) s (λ _ js. refl) (λ f ms. absurd cc) (λ _ x. refl) refl (λ b. refl) (λ x. refl)
