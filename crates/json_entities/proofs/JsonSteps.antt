-- A text that is JSON, taken apart step by step: what an array, an object or a string has inside, and what an item or a member is and leaves. With
-- each step stands how much shorter the text behind it is.
-- Assumes nothing.
use mathlib.Core.Path.{◌≡◌, refl, sym, ap, ◌∙◌, subst}
use mathlib.Core.Logic.{◌⊎◌, inl, inr}
use mathlib.Core.Bool.{Bool, true, false, cond}
use mathlib.Core.List.{List}
use Prim.Native.Char.{code}
use Prim.Native.Nat.{ℕ, suc, ◌+◌, ◌≤◌, ◌<◌}
use native.Mathlib.Omega.{arith}
use lib.ListN.{length, get_or, drop, length-drop}
use borrow.Author.Tests.{eqb-true}
use Rattle.std.proofs.lemmas.Bool.{false_from_ne_true}
use Rattle.std.proofs.lemmas.Option.{some_pair_parts}
use Rattle.std.specs.Prelude.{IsSome, None, Option, Some, option_map}
use Rattle.buffers.specs.Ascii.{ascii}
use Rattle.buffers.proofs.Choice.{by_cond, both_arms}
use Rattle.json_text.specs.Json.{Json, null, bool, number, string as string_json, array, object, Items, no_item, item, Members, no_member, member}
use Rattle.json_text.specs.Parse.{Parse, then_read, made, starts, begins}
use Rattle.json_text.specs.Number.{number as number_behind}
use Rattle.json_text.specs.Text.{string}
use Rattle.json_text.specs.Post.{text_in}
use Rattle.json_text.specs.Syntax.{scalar, literal_or, Next, part, end, first_part, next_part, onward, onward_if, behind_colon, member_name, read_value, read_items, read_members}
use Rattle.json_text.specs.Walk.{bytes_ahead}
use Rattle.json_entities.specs.Post.{json_in}
use Rattle.json_text.proofs.Lengths.{starts_inside, string_shorter, member_shorter}
use Rattle.json_text.proofs.Rules.{value_shorter, items_shorter, members_shorter, first_shorter, next_shorter, value_rule, items_rule, members_rule}

-- ---- a value by its first byte

-- a text that does not start with it is empty, or has another there
pub starts_not : (c : ℕ) (s : List ℕ) → 0 < c → (length s < 1) ⊎ (get_or s 0 0 ≡ c → ⊥) → starts c s ≡ true → ⊥
starts_not c s z (inl l) e = let i = starts_inside c s z e in omega arith
starts_not c s z (inr n) e = n (eqb-true (get_or s 0 0) c e)

-- and it does not start with another
starts_other : (a c : ℕ) (s : List ℕ) → (a ≡ c → ⊥) → starts a s ≡ true → starts c s ≡ false
starts_other a c s n e = false_from_ne_true (starts c s) (λ f. n (sym (eqb-true (get_or s 0 0) a e) ∙ eqb-true (get_or s 0 0) c f))

module _ (s : List ℕ) where
  value_array : starts (code "[") s ≡ true → read_value s ≡ made array (onward no_item read_items (first_part (code "]") (drop 1 s)))
  value_array e = value_rule s ∙ rw e

  value_object : starts (code "{") s ≡ true → read_value s ≡ made object (onward no_member read_members (first_part (code "}") (drop 1 s)))
  value_object e = value_rule s ∙ rw (starts_other (code "{") (code "[") s (λ z. omega arith) e, e)

  value_string : starts (code "\"") s ≡ true → read_value s ≡ made string_json (string (drop 1 s))
  unfolding scalar
  value_string e =
      value_rule s ∙ rw (starts_other (code "\"") (code "[") s (λ z. omega arith) e, starts_other (code "\"") (code "{") s (λ z. omega arith) e, e)

-- what holds of an array, an object, a string, null, a truth value and a number holds of what a text starts with; of the first three where it starts so
module _ (P : Json → Type 0) (s : List ℕ) where
  abbrev At : Option (Json × List ℕ) → Type 0
  At (Some p) = P p.0
  At None = Unit {0}

  at_made : {A : Type 0} (f : A → Json) (o : Option (A × List ℕ)) → ((a : A) → P (f a)) → At (made f o)
  at_made f (Some p) h = h p.0
  at_made f None h = tt

  at_number : (o : Option (List ℕ)) (f : List ℕ → List ℕ) → ((x : List ℕ) → P (number x)) → At (option_map (λ rest. (number (f rest), rest)) o)
  at_number (Some r) f h = h (f r)
  at_number None f h = tt

  pub by_start : (starts (code "[") s ≡ true → (js : Items) → P (array js)) → (starts (code "{") s ≡ true → (ms : Members) → P (object ms))
      → (starts (code "\"") s ≡ true → (x : List ℕ) → P (string_json x)) → P null → ((b : Bool) → P (bool b)) → ((x : List ℕ) → P (number x)) → P (json_in (read_value s))
  unfolding scalar
  by_start a o t n b x = seen (read_value s) (subst At (sym (value_rule s)) first)
    where
      literal : (w : List ℕ) (j : Json) (other : Option (Json × List ℕ)) → P j → At other → At (literal_or w j s other)
      literal w j other h l = both_arms At (begins w s) h l

      first : At (cond (starts (code "[") s) (made array (onward no_item read_items (first_part (code "]") (drop 1 s))))
          (cond (starts (code "{") s) (made object (onward no_member read_members (first_part (code "}") (drop 1 s)))) (scalar s)))
      first =
          by_cond At (starts (code "[") s) _ _ (λ e. at_made array _ (a e))
          (λ _. by_cond At (starts (code "{") s) _ _ (λ e. at_made object _ (o e))
          (λ _. by_cond At (starts (code "\"") s) _ _ (λ e. at_made string_json (string (drop 1 s)) (t e))
          (λ _. literal (ascii "null") null _ n (literal (ascii "true") (bool true) _ (b true) (literal (ascii "false") (bool false) _ (b false) (at_number (number_behind s) _ x))))))

      seen : (q : Option (Json × List ℕ)) → At q → P (json_in q)
      seen (Some p) h = h
      seen None h = n

-- ---- an array, an object and a string

-- the parts of a text from a part on, and how many bytes they leave
module _ {A : Type 0} (none : A) (read : Parse A) (shorter : (s : List ℕ) (p : A × List ℕ) → read s ≡ Some p → length p.1 < length s) where
  pub rest_ahead : (n : Next) (a : A) (r : List ℕ) → onward none read n ≡ Some (a, r) → length r ≤ bytes_ahead n
  rest_ahead (part t) a r e = omega (arith, shorter t (a, r) e)
  rest_ahead (end t) a r e = omega (arith, ap length (some_pair_parts none a t r e).1)

-- its items, and the text behind it
pub record ArrayRead (s : List ℕ) : Type 0 where
  pub items : Items
  pub rest : List ℕ
  pub left : onward no_item read_items (first_part (code "]") (drop 1 s)) ≡ Some (items, rest)
  pub whole : read_value s ≡ Some (array items, rest)
  pub first_fits : bytes_ahead (first_part (code "]") (drop 1 s)) < length s
  pub rest_fits : length rest ≤ bytes_ahead (first_part (code "]") (drop 1 s))

pub array_read : (s : List ℕ) → starts (code "[") s ≡ true → IsSome (read_value s) → ArrayRead s
array_read s e h = go (onward no_item read_items (first_part (code "]") (drop 1 s))) refl (rw (value_array s e) at h)
  where
    go : (o : Option (Items × List ℕ)) → onward no_item read_items (first_part (code "]") (drop 1 s)) ≡ o → IsSome (made array o) → ArrayRead s
    go None g h = absurd cc
    go (Some (js, r)) g h = record {
      items = js;
      rest = r;
      left = g;
      whole = value_array s e ∙ ap (made array) g;
      first_fits = omega (arith, first_shorter (code "]") (drop 1 s), length-drop 1 s, starts_inside (code "[") s (omega arith) e);
      rest_fits = rest_ahead no_item read_items items_shorter _ js r g;
    }

-- its members, and the text behind it
pub record ObjectRead (s : List ℕ) : Type 0 where
  pub members : Members
  pub rest : List ℕ
  pub left : onward no_member read_members (first_part (code "}") (drop 1 s)) ≡ Some (members, rest)
  pub whole : read_value s ≡ Some (object members, rest)
  pub first_fits : bytes_ahead (first_part (code "}") (drop 1 s)) < length s
  pub rest_fits : length rest ≤ bytes_ahead (first_part (code "}") (drop 1 s))

pub object_read : (s : List ℕ) → starts (code "{") s ≡ true → IsSome (read_value s) → ObjectRead s
object_read s e h = go (onward no_member read_members (first_part (code "}") (drop 1 s))) refl (rw (value_object s e) at h)
  where
    go : (o : Option (Members × List ℕ)) → onward no_member read_members (first_part (code "}") (drop 1 s)) ≡ o → IsSome (made object o) → ObjectRead s
    go None g h = absurd cc
    go (Some (ms, r)) g h = record {
      members = ms;
      rest = r;
      left = g;
      whole = value_object s e ∙ ap (made object) g;
      first_fits = omega (arith, first_shorter (code "}") (drop 1 s), length-drop 1 s, starts_inside (code "{") s (omega arith) e);
      rest_fits = rest_ahead no_member read_members members_shorter _ ms r g;
    }

-- what it stands for, and the text behind it
pub record StringRead (s : List ℕ) : Type 0 where
  pub text : List ℕ
  pub rest : List ℕ
  pub inside : string (drop 1 s) ≡ Some (text, rest)
  pub whole : read_value s ≡ Some (string_json text, rest)
  pub fits : length text + length rest + 2 ≤ length s

pub string_read : (s : List ℕ) → starts (code "\"") s ≡ true → IsSome (read_value s) → StringRead s
string_read s e h = go (string (drop 1 s)) refl (rw (value_string s e) at h)
  where
    go : (o : Option (List ℕ × List ℕ)) → string (drop 1 s) ≡ o → IsSome (made string_json o) → StringRead s
    go None g h = absurd cc
    go (Some (x, r)) g h = record {
      text = x;
      rest = r;
      inside = g;
      whole = value_string s e ∙ ap (made string_json) g;
      fits = omega (arith, string_shorter (drop 1 s) (x, r) g, length-drop 1 s, starts_inside (code "\"") s (omega arith) e);
    }

-- ---- an item, and what follows it

pub record ItemRead (s : List ℕ) : Type 0 where
  pub value : Json
  pub behind : List ℕ
  pub is : read_value s ≡ Some (value, behind)
  pub next : Next
  pub follows : next_part (code "]") behind ≡ Some next
  pub more : Items
  pub rest : List ℕ
  pub left : onward no_item read_items next ≡ Some (more, rest)
  pub whole : read_items s ≡ Some (item value more, rest)
  pub behind_fits : length behind < length s
  pub next_fits : bytes_ahead next < length behind
  pub rest_fits : length rest ≤ bytes_ahead next

pub item_read : (s : List ℕ) → IsSome (read_items s) → ItemRead s
item_read s h = by_value (read_value s) refl (rw (items_rule s) at h)
  where
    follow : Json → List ℕ → Option (Items × List ℕ)
    follow j r = made (item j) (onward_if no_item read_items (next_part (code "]") r))

    by_more : (j : Json) (r : List ℕ) (n : Next) → read_value s ≡ Some (j, r) → next_part (code "]") r ≡ Some n → (o : Option (Items × List ℕ)) → onward no_item read_items n ≡ o → IsSome (made (item j) o) → ItemRead s
    by_more j r n e f None g h = absurd cc
    by_more j r n e f (Some (js, t)) g h = record {
      value = j;
      behind = r;
      is = e;
      next = n;
      follows = f;
      more = js;
      rest = t;
      left = g;
      whole = items_rule s ∙ rw (e, f, g);
      behind_fits = value_shorter s (j, r) e;
      next_fits = next_shorter (code "]") r n (omega arith) f;
      rest_fits = rest_ahead no_item read_items items_shorter n js t g;
    }

    by_next : (j : Json) (r : List ℕ) → read_value s ≡ Some (j, r) → (o : Option Next) → next_part (code "]") r ≡ o → IsSome (made (item j) (onward_if no_item read_items o)) → ItemRead s
    by_next j r e None f h = absurd cc
    by_next j r e (Some n) f h = by_more j r n e f (onward no_item read_items n) refl h

    by_value : (o : Option (Json × List ℕ)) → read_value s ≡ o → IsSome (then_read o (λ j r. made (item j) (onward_if no_item read_items (next_part (code "]") r)))) → ItemRead s
    by_value None e h = absurd cc
    by_value (Some (j, r)) e h = by_next j r e (next_part (code "]") r) refl h

-- ---- a member, and what follows it

-- the name stands in the text from behind its quotation mark on
pub record NameRead (s x t : List ℕ) : Type 0 where
  pub is : member_name s ≡ Some (x, t)
  pub text : IsSome (string (drop 1 s))
  pub same : text_in (string (drop 1 s)) ≡ x

pub name_read : (s x t : List ℕ) → member_name s ≡ Some (x, t) → NameRead s x t
unfolding member_name
name_read s x t e = go (starts (code "\"") s) (string (drop 1 s)) refl e
  where
    with_name : List ℕ → List ℕ → List ℕ × List ℕ
    with_name y v = (y, v)

    colon : (y r : List ℕ) (o : Option (List ℕ)) → option_map (with_name y) o ≡ Some (x, t) → y ≡ x
    colon y r (Some v) e = (some_pair_parts y x v t e).0
    colon y r None e = absurd cc

    go : (b : Bool) (o : Option (List ℕ × List ℕ)) → string (drop 1 s) ≡ o → cond b (then_read o (λ y r. option_map (with_name y) (behind_colon r))) None ≡ Some (x, t) → NameRead s x t
    go true (Some (y, r)) f h = record { is = e; text = rw f; same = rw f (colon y r (behind_colon r) h) }
    go true None f h = absurd cc
    go false o f h = absurd cc

pub record MemberRead (s : List ℕ) : Type 0 where
  pub name : List ℕ
  pub at : List ℕ
  pub named : NameRead s name at
  pub value : Json
  pub behind : List ℕ
  pub is : read_value at ≡ Some (value, behind)
  pub next : Next
  pub follows : next_part (code "}") behind ≡ Some next
  pub more : Members
  pub rest : List ℕ
  pub left : onward no_member read_members next ≡ Some (more, rest)
  pub whole : read_members s ≡ Some (member name value more, rest)
  pub at_fits : length name + suc (length at) ≤ length s
  pub behind_fits : length behind < length at
  pub next_fits : bytes_ahead next < length behind
  pub rest_fits : length rest ≤ bytes_ahead next

pub member_read : (s : List ℕ) → IsSome (read_members s) → MemberRead s
member_read s h = by_name (member_name s) refl (rw (members_rule s) at h)
  where
    by_more : (x t : List ℕ) (j : Json) (r : List ℕ) (n : Next) → member_name s ≡ Some (x, t) → read_value t ≡ Some (j, r) → next_part (code "}") r ≡ Some n
        → (o : Option (Members × List ℕ)) → onward no_member read_members n ≡ o → IsSome (made (member x j) o) → MemberRead s
    by_more x t j r n d e f None g h = absurd cc
    by_more x t j r n d e f (Some (ms, u)) g h = record {
      name = x;
      at = t;
      named = name_read s x t d;
      value = j;
      behind = r;
      is = e;
      next = n;
      follows = f;
      more = ms;
      rest = u;
      left = g;
      whole = members_rule s ∙ rw (d, e, f, g);
      at_fits = member_shorter s (x, t) d;
      behind_fits = value_shorter t (j, r) e;
      next_fits = next_shorter (code "}") r n (omega arith) f;
      rest_fits = rest_ahead no_member read_members members_shorter n ms u g;
    }

    by_next : (x t : List ℕ) (j : Json) (r : List ℕ) → member_name s ≡ Some (x, t) → read_value t ≡ Some (j, r) → (o : Option Next) → next_part (code "}") r ≡ o
        → IsSome (made (member x j) (onward_if no_member read_members o)) → MemberRead s
    by_next x t j r d e None f h = absurd cc
    by_next x t j r d e (Some n) f h = by_more x t j r n d e f (onward no_member read_members n) refl h

    by_value : (x t : List ℕ) → member_name s ≡ Some (x, t) → (o : Option (Json × List ℕ)) → read_value t ≡ o
        → IsSome (then_read o (λ j r. made (member x j) (onward_if no_member read_members (next_part (code "}") r)))) → MemberRead s
    by_value x t d None e h = absurd cc
    by_value x t d (Some (j, r)) e h = by_next x t j r d e (next_part (code "}") r) refl h

    by_name : (o : Option (List ℕ × List ℕ)) → member_name s ≡ o
        → IsSome (then_read o (λ x r. then_read (read_value r) (λ j t. made (member x j) (onward_if no_member read_members (next_part (code "}") t))))) → MemberRead s
    by_name None d h = absurd cc
    by_name (Some (x, t)) d h = by_value x t d (read_value t) refl h
