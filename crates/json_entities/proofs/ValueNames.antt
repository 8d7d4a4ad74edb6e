-- The name of a member: the string that it is, and the text of the value behind its colon. And what follows the value of a reference member.
-- Assumes nothing.
use mathlib.Core.Path.{◌≡◌, refl, sym, ap, ◌∙◌}
use mathlib.Core.Bool.{Bool, true, false, cond}
use mathlib.Core.List.{List}
use Prim.Native.Char.{code}
use Prim.Native.Nat.{ℕ, ◌≤◌}
use native.Mathlib.Omega.{arith}
use lib.ListN.{length, drop}
use Rattle.std.specs.Borrow.{Bor}
use Rattle.std.specs.Prelude.{None, Option, Some, IsSome, option_map}
use Rattle.std.proofs.lemmas.Option.{some_pair_parts}
use Rattle.buffers.specs.Same.{same}
use Rattle.json_entities.specs.Shape.{entity_word}
use Rattle.format.specs.Outcome.{ok, refused}
use Rattle.format.specs.Refusals.{not_entities}
use Rattle.json_text.specs.Json.{Json, no_member}
use Rattle.json_text.specs.Parse.{then_read, starts}
use Rattle.json_text.specs.Text.{string}
use Rattle.json_text.specs.Post.{text_in, texts_of, texts_of_member, member_texts}
use Rattle.json_text.specs.declared.Member.{Member}
use Rattle.json_text.specs.Syntax.{Next, part, end, next_part, behind_colon, member_name, onward_if, read_members}
use Rattle.pack.specs.Pack.{Pack}
use Rattle.json_entities.specs.Read.{reference_laid}
use Rattle.json_entities.specs.Post.{members_in, rest_in}
use Rattle.json_entities.specs.Walk.{members_after, starts_reference, alone_laid}
use Rattle.json_text.proofs.Lengths.{member_shorter}
use Rattle.json_entities.proofs.JsonSteps.{member_read}
use Rattle.json_entities.proofs.ValueForms.{alone_followed, alone_read}

-- ---- a name

pub record NameAt (s : List ℕ) : Type 0 where
  pub name : List ℕ
  pub behind : List ℕ
  pub at : List ℕ
  pub text : string (drop 1 s) ≡ Some (name, behind)
  pub colon : behind_colon behind ≡ Some at
  pub whole : member_name s ≡ Some (name, at)
  pub inside : 1 ≤ length s

pub name_at : (s : List ℕ) → IsSome (member_name s) → NameAt s
unfolding member_name
name_at s h = by_quote (starts (code "\"") s) refl h
  where
    with_name : List ℕ → List ℕ → List ℕ × List ℕ
    with_name x t = (x, t)

    by_colon : (x r : List ℕ) → starts (code "\"") s ≡ true → string (drop 1 s) ≡ Some (x, r) → (o : Option (List ℕ)) → behind_colon r ≡ o → IsSome (option_map (with_name x) o) → NameAt s
    by_colon x r q e (Some t) f h =
        let whole : member_name s ≡ Some (x, t) = rw (q, e, f) refl in
        record { name = x; behind = r; at = t; text = e; colon = f; whole = whole; inside = omega (arith, member_shorter s (x, t) whole) }
    by_colon x r q e None f h = absurd cc

    by_string : starts (code "\"") s ≡ true → (o : Option (List ℕ × List ℕ)) → string (drop 1 s) ≡ o → IsSome (then_read o (λ x r. option_map (with_name x) (behind_colon r))) → NameAt s
    by_string q (Some p) e h = by_colon p.0 p.1 q e (behind_colon p.1) refl h
    by_string q None e h = absurd cc

    by_quote : (b : Bool) → starts (code "\"") s ≡ b → IsSome (cond b (then_read (string (drop 1 s)) (λ x r. option_map (with_name x) (behind_colon r))) None) → NameAt s
    by_quote true q h = by_string q (string (drop 1 s)) refl h
    by_quote false q h = absurd cc

-- an answer that has a text is there, and it is that text
pub text_there : (o : Option (Bor (List ℕ))) (t : List ℕ) → texts_of o ≡ Some t → IsSome o
text_there (Some b) t e = refl
text_there None t e = absurd cc

pub text_is : (b : Bor (List ℕ)) (o : Option (Bor (List ℕ))) (t : List ℕ) → o ≡ Some b → texts_of o ≡ Some t → b.now ≡ t
text_is b o t is e = let z = rw is at e in cc

-- ---- the member that a text starts with

module _ (s : List ℕ) (is : IsSome (read_members s)) where
  pub member_there : (o : Option Member) → option_map texts_of_member o ≡ member_texts s (member_name s) → o ≡ None → ⊥
  member_there o e n = let m = member_read s is in let z = rw (n, m.named.is) at e in cc

  pub member_value : (m : Member) → Some (texts_of_member m) ≡ member_texts s (member_name s) → m.value.now ≡ rest_in (member_name s)
  member_value m e = let r = member_read s is in (some_pair_parts m.name.now (drop 1 s) m.value.now r.at (rw r.named.is at e)).1 ∙ rw r.named.is refl

  pub member_inside : 1 ≤ length s
  member_inside = let r = member_read s is in omega (arith, r.at_fits)

  -- its name, t from behind the quotation mark on, and whether it is the reference member
  module _ (t : List ℕ) (behind : t ≡ drop 1 s) where
    pub member_string : IsSome (string t)
    member_string = rw behind (member_read s is).named.text

    pub member_is : (b : Bool) → b ≡ same (text_in (string t)) entity_word → starts_reference (members_in (read_members s)) ≡ b
    member_is b h =
        let r = member_read s is in
        let name : text_in (string t) ≡ r.name = rw behind r.named.same in
        rw r.whole (ap (λ (x : List ℕ). same x entity_word) (sym name) ∙ sym h)

-- ---- what follows the value of a reference member, at t

pub after_there : (t : List ℕ) → IsSome (members_after t) → IsSome (next_part (code "}") t)
after_there t is = go (next_part (code "}") t) is
  where
    go : (o : Option Next) → IsSome (onward_if no_member read_members o) → IsSome o
    go (Some x) h = refl
    go None h = h

module _ (t r : List ℕ) (is : IsSome (members_after t)) (j : Json) (p : Pack) where
  pub alone_more : next_part (code "}") t ≡ Some (part r) → refused not_entities ≡ alone_laid j (members_in (members_after t)) p
  alone_more e =
      let m = member_read r (rw e at is) in
      rw (e, m.whole) (alone_followed j p m.name m.value m.more)

  pub alone_done : (b : Pack) → next_part (code "}") t ≡ Some (end r) → ok b ≡ reference_laid j p → ok b ≡ alone_laid j (members_in (members_after t)) p
  alone_done b e h = rw e (alone_read j p b h)
