-- Uids in a text: a member's string, and what a member adds to what was found before it. Each law is one way out of `find_string`, `with_member`
-- or `find_uid`.
-- Assumes nothing.
use mathlib.Core.Path.{◌≡◌, refl, sym, ap, ◌∙◌, subst}
use mathlib.Core.Bool.{Bool, true, false}
use mathlib.Core.List.{List}
use Prim.Native.Char.{code}
use Prim.Native.Nat.{ℕ, ◌+◌, ◌≤◌, ◌<◌}
use native.Mathlib.Omega.{arith}
use lib.ListN.{length, drop}
use Rattle.std.proofs.lemmas.Option.{none-some, same_Some, some_pair_parts}
use Rattle.std.specs.Prelude.{IsSome, is_none, None, Option, Some}
use Rattle.std.specs.Borrow.{Bor}
use Rattle.buffers.specs.Same.{same}
use Rattle.buffers.proofs.Choice.{and_left}
use Rattle.buffers.proofs.Equal.{same_true}
use Rattle.format.specs.declared.Refusal.{Refusal}
use Rattle.format.specs.Outcome.{refused, and_then}
use Rattle.format.specs.Refusals.{not_entities}
use Rattle.json_text.specs.Json.{Json, string as string_json, Members, no_member, member}
use Rattle.json_text.specs.Parse.{starts}
use Rattle.json_text.specs.Text.{string}
use Rattle.json_text.specs.Post.{behind, text_in, next_of, texts_of_member, member_texts}
use Rattle.json_text.specs.Syntax.{part, first_part, next_part, onward, member_name, read_value, read_members}
use Rattle.json_text.specs.Walk.{bytes_ahead}
use Rattle.json_text.specs.declared.Member.{Member}
use Rattle.json_text.specs.declared.Next as Declared
use Rattle.json_text.specs.declared.Next.TheVariants.{End}
use Rattle.json_entities.specs.Post.{json_in, rest_in}
use Rattle.json_entities.specs.Shape.{type_word, id_word, both_of, text_of, first_named, uid_from}
use Rattle.json_entities.specs.Found.{both_in, UidIn, InObject, StringIn, text_found, members_left, uid_left, bytes_in, WellFound, OneMore}
use Rattle.json_entities.specs.declared.uid.Found.{Found}
use Rattle.json_entities.specs.declared.uid.Text.{Text}
use Rattle.json_entities.proofs.JsonSteps.{by_start, object_read, StringRead, string_read, MemberRead, member_read}

-- ---- a member's string

pub no_some : {A : Type 0} (o : Option A) → None ≡ o → IsSome o → ⊥
no_some (Some a) e h = none-some a e
no_some None e h = cc

pub no_string : (s : List ℕ) → (starts (code "\"") s ≡ true → ⊥) → text_of (json_in (read_value s)) ≡ refused not_entities
no_string s n = by_start (λ j. text_of j ≡ refused not_entities) s (λ e js. refl) (λ e ms. refl) (λ e x. absurd (n e)) refl (λ b. refl) (λ x. refl)

-- x is what stands behind the quotation mark
module _ (s x : List ℕ) (e : starts (code "\"") s ≡ true) (h : InObject s) (is : x ≡ drop 1 s) where
  here : StringRead s
  here = string_read s e h.0

  inside : string x ≡ Some (here.text, here.rest)
  inside = ap string is ∙ here.inside

  pub string_ends : None ≡ behind (string x) → ⊥
  string_ends q = none-some here.rest (q ∙ ap behind inside)

  module _ (r : List ℕ) (q : Some r ≡ behind (string x)) where
    rest_is : r ≡ here.rest
    rest_is = same_Some r here.rest (q ∙ ap behind inside)

    behind_is : rest_in (read_value s) ≡ r
    behind_is = ap rest_in here.whole ∙ sym rest_is

    pub string_followed : None ≡ next_part (code "}") r → ⊥
    string_followed n = no_some (next_part (code "}") r) n (subst (λ (t : List ℕ). IsSome (next_part (code "}") t)) behind_is h.1)

    pub string_in : (t : Text) → t.text.now ≡ x → Some (next_of t.next) ≡ next_part (code "}") r → StringIn s t
    string_in t a f =
        let i : string t.text.now ≡ Some (here.text, here.rest) = ap string a ∙ inside in
        record {
          well = rw i;
          is = rw (i, here.whole);
          follows = ap (next_part (code "}")) behind_is ∙ sym f;
          short = rw (i, here.whole) (omega (arith, here.fits));
        }

-- ---- a member that stands next

same_word : (word x : List ℕ) (found : Option (List ℕ)) → first_named word x found ≡ true → x ≡ word
same_word word x found e = same_true x word (and_left (same x word) (is_none found) e)

-- what it is
module _ (ty id : Option (List ℕ)) (x : List ℕ) (j : Json) (ms : Members) where
  member_type : first_named type_word x ty ≡ true → uid_from ty id (member x j ms) ≡ and_then (text_of j) (λ s. uid_from (Some s) id ms)
  unfolding uid_from
  member_type a = rw a

  member_id : first_named type_word x ty ≡ false → first_named id_word x id ≡ true → uid_from ty id (member x j ms) ≡ and_then (text_of j) (λ s. uid_from ty (Some s) ms)
  unfolding uid_from
  member_id a b = rw (a, b)

  member_other : first_named type_word x ty ≡ false → first_named id_word x id ≡ false → uid_from ty id (member x j ms) ≡ refused not_entities
  unfolding uid_from
  member_other a b = rw (a, b)

module _ (f : Found) (s : List ℕ) (w : WellFound f) (is : next_of f.next ≡ part s) where
  next : MemberRead s
  next = member_read s (rw is at w.left)

  left_is : members_left f ≡ Some (member next.name next.value next.more, next.rest)
  left_is = rw is next.whole

  uid_is : uid_left f ≡ uid_from (text_found f.ty) (text_found f.id) (member next.name next.value next.more)
  uid_is = rw left_is

  pub member_there : None ≡ member_texts s (member_name s) → ⊥
  member_there q = none-some (drop 1 s, next.at) (q ∙ ap (member_texts s) next.named.is)

  module _ (m : Member) (q : Some (texts_of_member m) ≡ member_texts s (member_name s)) where
    places : (m.name.now ≡ drop 1 s) × (m.value.now ≡ next.at)
    places = some_pair_parts m.name.now (drop 1 s) m.value.now next.at (q ∙ ap (member_texts s) next.named.is)

    pub name_well : IsSome (string m.name.now)
    name_well = rw places.0 next.named.text

    name_is : text_in (string m.name.now) ≡ next.name
    name_is = rw places.0 next.named.same

    value_is : read_value m.value.now ≡ Some (next.value, next.behind)
    value_is = ap read_value places.1 ∙ next.is

    pub value_inside : InObject m.value.now
    value_inside = rw (value_is, next.follows) (refl, refl)

    abbrev IsType : Bool → Type 0
    IsType b = first_named type_word (text_in (string m.name.now)) (text_found f.ty) ≡ b

    abbrev IsId : Bool → Type 0
    IsId b = first_named id_word (text_in (string m.name.now)) (text_found f.id) ≡ b

    type_is : (b : Bool) → IsType b → first_named type_word next.name (text_found f.ty) ≡ b
    type_is b a = rw name_is at a

    id_is : (b : Bool) → IsId b → first_named id_word next.name (text_found f.id) ≡ b
    id_is b a = rw name_is at a

    pub name_refused : IsType false → IsId false → uid_left f ≡ refused not_entities
    name_refused a b = uid_is ∙ member_other _ _ next.name next.value next.more (type_is false a) (id_is false b)

    -- its value is no string
    module _ (e : Refusal) (no : text_of (json_in (read_value m.value.now)) ≡ refused e) where
      value_no : text_of next.value ≡ refused e
      value_no = rw value_is at no

      pub type_refused : IsType true → uid_left f ≡ refused e
      type_refused a = uid_is ∙ member_type _ _ next.name next.value next.more (type_is true a) ∙ rw value_no

      pub id_refused : IsType false → IsId true → uid_left f ≡ refused e
      id_refused a b = uid_is ∙ member_id _ _ next.name next.value next.more (type_is false a) (id_is true b) ∙ rw value_no

    -- its value is the string t
    module _ (t : Text) (got : StringIn m.value.now t) where
      value_text : next.value ≡ string_json (text_in (string t.text.now))
      value_text = rw value_is at got.is

      following : next_of t.next ≡ next.next
      following = let z : next_part (code "}") next.behind ≡ Some (next_of t.next) = rw value_is at got.follows in same_Some _ _ (sym z ∙ next.follows)

      text_fits : length (text_in (string t.text.now)) + 2 + length next.behind ≤ length next.at
      text_fits = rw (value_is, places.1) at got.short

      -- the bytes of its name are three at least with the quotation mark that closes it
      taken : 2 ≤ length next.name → length (text_in (string t.text.now)) + 5 + bytes_ahead (next_of t.next) < bytes_ahead (next_of f.next)
      taken l = rw (is, following) (omega (arith, text_fits, next.at_fits, next.next_fits))

      module _ (g : Found) (on : g.next ≡ t.next) where
        left_on : members_left g ≡ Some (next.more, next.rest)
        left_on = rw (on, following) next.left

        behind_on : rest_in (members_left f) ≡ rest_in (members_left g)
        behind_on = rw (left_is, left_on)

      pub type_found : IsType true → OneMore f (record { ty = Some t.text; id = f.id; next = t.next })
      type_found a =
          let g : Found = record { ty = Some t.text; id = f.id; next = t.next } in
          let l = taken (rw (same_word type_word next.name _ (type_is true a)) (omega arith)) in
          record {
            well = record { left = rw (left_on g refl); typed = got.well; named = w.named };
            same = uid_is ∙ member_type _ _ next.name next.value next.more (type_is true a) ∙ rw (value_text, left_on g refl);
            behind = behind_on g refl;
            fewer = omega arith;
            ahead = omega arith;
          }

      pub id_found : IsType false → IsId true → OneMore f (record { ty = f.ty; id = Some t.text; next = t.next })
      id_found a b =
          let g : Found = record { ty = f.ty; id = Some t.text; next = t.next } in
          let l = taken (rw (same_word id_word next.name _ (id_is true b)) (omega arith)) in
          record {
            well = record { left = rw (left_on g refl); typed = w.typed; named = got.well };
            same = uid_is ∙ member_id _ _ next.name next.value next.more (type_is false a) (id_is true b) ∙ rw (value_text, left_on g refl);
            behind = behind_on g refl;
            fewer = omega arith;
            ahead = omega arith;
          }

-- ---- an object from its brace on

pub no_object : (s : List ℕ) → (starts (code "{") s ≡ true → ⊥) → both_in (json_in (read_value s)) ≡ refused not_entities
no_object s n = by_start (λ j. both_in j ≡ refused not_entities) s (λ e js. refl) (λ e ms. absurd (n e)) (λ e x. refl) refl (λ b. refl) (λ x. refl)

-- what was found of the uid that s starts with
pub record FoundIn (s : List ℕ) (f : Found) : Type 0 where
  pub well : WellFound f
  pub same : both_in (json_in (read_value s)) ≡ uid_left f
  pub behind : rest_in (read_value s) ≡ rest_in (members_left f)
  pub fits : bytes_in f < length s

-- nothing so far; x is what stands behind the brace
pub found_start : (s x : List ℕ) → starts (code "{") s ≡ true → IsSome (read_value s) → x ≡ drop 1 s → (n : Declared.Next) → next_of n ≡ first_part (code "}") x
    → FoundIn s (record { ty = None; id = None; next = n })
found_start s x e h is n g =
    let o = object_read s e h in
    let first : next_of n ≡ first_part (code "}") (drop 1 s) = g ∙ ap (first_part (code "}")) is in
    let left : members_left (record { ty = None; id = None; next = n }) ≡ Some (o.members, o.rest) = ap (onward no_member read_members) first ∙ o.left in
    record {
      well = record { left = rw left; typed = tt; named = tt };
      same = rw (o.whole, left);
      behind = rw (o.whole, left);
      fits = rw first (omega (arith, o.first_fits));
    }

-- at the brace that closes, behind which stands `rest`
module _ {s : List ℕ} {f : Found} (found : FoundIn s f) (rest : Bor (List ℕ)) (closed : f.next ≡ End rest) where
  closed_is : both_in (json_in (read_value s)) ≡ both_of (text_found f.ty) (text_found f.id)
  unfolding uid_from
  closed_is = rw closed at found.same

  -- both were found, or one was not
  pub uid_in : (ty id : Bor (List ℕ)) → f.ty ≡ Some ty → f.id ≡ Some id → UidIn s (record { ty = ty; id = id; rest = rest })
  uid_in ty id a b =
      let behind : rest_in (read_value s) ≡ rest.now = rw closed at found.behind in
      let fits : length (text_in (string ty.now)) + 5 + (length (text_in (string id.now)) + 5) + length rest.now < length s = rw (closed, a, b) at found.fits in
      record {
        both = rw (a, b) at closed_is;
        typed = rw a at found.well.typed;
        named = rw b at found.well.named;
        short = rw behind (omega arith);
        rest = sym behind;
      }

  pub type_lacks : f.ty ≡ None → both_in (json_in (read_value s)) ≡ refused not_entities
  type_lacks a = rw a at closed_is

  pub id_lacks : f.id ≡ None → both_in (json_in (read_value s)) ≡ refused not_entities
  id_lacks b = (rw b at closed_is) ∙ none_lacks (text_found f.ty)
    where
      none_lacks : (o : Option (List ℕ)) → both_of o None ≡ refused not_entities
      none_lacks (Some x) = refl
      none_lacks None = refl
