-- The items of an array, read in turn by any reader of an item: what holds each time around, and one law for each way on or out. What the items lay
-- down behind the tables o is always what those that were read laid, and behind it what those that are left lay.
-- Assumes nothing.
use mathlib.Core.Path.{◌≡◌, refl, sym, ap, ◌∙◌}
use mathlib.Core.List.{List}
use Prim.Native.Char.{code}
use Prim.Native.Nat.{ℕ, suc, ◌+◌, ◌-◌, ◌*◌, ◌≤◌, ◌<◌}
use native.Mathlib.Omega.{arith}
use lib.ListN.{length, set}
use Rattle.format.specs.declared.Refusal.{Refusal}
use Rattle.format.specs.Kinds.{array_kind}
use Rattle.format.specs.Outcome.{Outcome, ok, refused, and_then, mapped}
use Rattle.json_text.specs.Json.{Json, Items, no_item, item}
use Rattle.json_text.specs.Syntax.{Next, part, end, next_part, read_value, read_items}
use Rattle.json_text.specs.Walk.{bytes_ahead}
use Rattle.pack.specs.Value as Value
use Rattle.pack.specs.Value.{Value, Values, array, more}
use Rattle.pack.specs.Pack.{Pack, append_value, append_all}
use Rattle.pack.specs.LaidDown.{laid_down}
use Rattle.pack.specs.declared.Tables.{Tables}
use Rattle.pack.specs.Added.{Added}
use Rattle.pack.specs.Post.{pack_at, pack_of, Within, Kept}
use Rattle.pack.proofs.Appended.{node_added}
use Rattle.values.proofs.ValueLaws.{ItemsCounted, array_done, array_refused, counted_then}
use Rattle.values.proofs.ItemLaws.{bind_then}
use Rattle.std.specs.Prelude.{None, Ok, Option, Some, IsSome}
use Rattle.std.proofs.lemmas.Option.{some_pair_parts}
use Rattle.json_entities.specs.Shape.{items_by}
use Rattle.json_entities.specs.Post.{json_in, items_in, rest_in, width, RoomFor}
use Rattle.json_entities.specs.Walk.{items_at}
use Rattle.json_text.proofs.Rules.{items_shorter}
use Rattle.json_entities.proofs.JsonSteps.{rest_ahead, ItemRead, item_read}
use Rattle.json_entities.proofs.ValueAlong.{Along, along_start, along_room, along_on, along_end}

-- ---- as many values as items

unfoldable pub how_many : Items → ℕ
how_many no_item = 0
how_many (item j js) = suc (how_many js)

pub items_counted : (p : Json → Outcome Value) (js : Items) → ItemsCounted (items_by p js) (how_many js)
unfolding items_by how_many Value.count_items
items_counted p no_item = refl
items_counted p (item j js) = counted_then (p j) (items_by p js) (how_many js) (items_counted p js)

-- ---- the items behind their node: the first, and then the others

module _ (p : Json → Outcome Value) where
  unfoldable pub items_laid : Items → Pack → Outcome Pack
  items_laid js q = laid_down append_all q (items_by p js)

  items_none : (q : Pack) → items_laid no_item q ≡ ok q
  unfolding items_laid items_by laid_down append_value
  items_none q = refl

  items_more : (j : Json) (js : Items) (q : Pack) → and_then (laid_down append_value q (p j)) (items_laid js) ≡ items_laid (item j js) q
  unfolding items_laid items_by
  items_more j js q = bind_then (p j) (items_by p js) q

-- ---- the loop: c items were read, from the tables o to the tables t, and the others stand from the place x on; `all` stood in l bytes

pub record ItemsGoing (p : Json → Outcome Value) (all : Option (Items × List ℕ)) (l : ℕ) (o t : Tables) (c : ℕ) (x : Next) : Type 0 where
  pub items : Items
  pub left : items_at x ≡ Some (items, rest_in all)
  pub same : items_laid p (items_in all) (pack_of o) ≡ items_laid p items (pack_of t)
  pub counted : how_many (items_in all) ≡ c + how_many items
  pub along : Along l (length (rest_in all)) o t c x

pub items_start : (p : Json → Outcome Value) (l : ℕ) (o : Tables) (x y : Next) → x ≡ y → IsSome (items_at y) → bytes_ahead y ≤ l
    → RoomFor (l - length (rest_in (items_at y))) o → ItemsGoing p (items_at y) l o o 0 x
items_start p l o x y is h f room = rw is (from (items_at y) refl h room)
  where
    from : (all : Option (Items × List ℕ)) → items_at y ≡ all → IsSome all → RoomFor (l - length (rest_in all)) o → ItemsGoing p all l o o 0 y
    from (Some a) e i room = record {
      items = a.0;
      left = e;
      same = refl;
      counted = omega arith;
      along = along_start l (length a.1) o y room (rest_ahead no_item read_items items_shorter y a.0 a.1 e) f;
    }
    from None e i room = absurd (cc)

module _ {p : Json → Outcome Value} {all : Option (Items × List ℕ)} {l : ℕ} {o t : Tables} {c : ℕ} where
  -- no item is left
  pub items_end : (r : List ℕ) → ItemsGoing p all l o t c (end r)
      → (ok (pack_of t) ≡ items_laid p (items_in all) (pack_of o)) × (r ≡ rest_in all) × (c ≡ how_many (items_in all))
      × Within o.reach (l - length (rest_in all)) (6 * (l - length (rest_in all))) (Ok t.reach)
  unfolding how_many
  items_end r going =
      let here = some_pair_parts no_item going.items r (rest_in all) going.left in
      let none : no_item ≡ going.items = here.0 in (
        sym (items_none p (pack_of t)) ∙ ap (λ (js : Items). items_laid p js (pack_of t)) none ∙ sym going.same,
        here.1,
        omega (arith, going.counted, ap how_many none),
        along_end going.along,
      )

  module _ (r : List ℕ) (going : ItemsGoing p all l o t c (part r)) where
    read : ItemRead r
    read = item_read r (rw going.left refl)

    same_parts : (item read.value read.more ≡ going.items) × (read.rest ≡ rest_in all)
    same_parts = some_pair_parts (item read.value read.more) going.items read.rest (rest_in all) (sym read.whole ∙ going.left)

    others : items_laid p (items_in all) (pack_of o) ≡ and_then (laid_down append_value (pack_of t) (p (json_in (read_value r)))) (items_laid p read.more)
    others =
        going.same ∙ ap (λ (js : Items). items_laid p js (pack_of t)) (sym same_parts.0) ∙ sym (items_more p read.value read.more (pack_of t)) ∙ rw read.is refl

    -- what stands at this place, and that it has room
    pub item_there : IsSome (read_value r)
    item_there = rw read.is refl

    pub item_room : RoomFor (width (read_value r) r) t
    item_room = rw read.is (along_room going.along (length r - length read.behind) (omega (arith, read.behind_fits, read.next_fits, read.rest_fits, ap length same_parts.1)))

    -- an item that is refused
    pub items_refused : (n : Refusal) → refused n ≡ laid_down append_value (pack_of t) (p (json_in (read_value r))) → refused n ≡ items_laid p (items_in all) (pack_of o)
    items_refused n h = ap (λ (b : Outcome Pack). and_then b (items_laid p read.more)) h ∙ sym others

    -- something follows it
    pub item_followed : IsSome (next_part (code "]") (rest_in (read_value r)))
    item_followed = rw (read.is, read.follows) refl

    pub items_smaller : (y : Next) → next_part (code "]") (rest_in (read_value r)) ≡ Some y → bytes_ahead y < length r
    items_smaller y n =
        let f = rw read.is at n in
        let g = read.follows in
        let follows : read.next ≡ y = cc in
        omega (arith, read.behind_fits, read.next_fits, ap bytes_ahead follows)

    -- an item that is read, up to the tables u
    pub items_on : (u : Tables) (y : Next) → ok (pack_of u) ≡ laid_down append_value (pack_of t) (p (json_in (read_value r)))
        → Within t.reach (width (read_value r) r) (6 * width (read_value r) r) (Ok u.reach) → Kept t u → next_part (code "]") (rest_in (read_value r)) ≡ Some y
        → ItemsGoing p all l o u (c + 1) y
    unfolding how_many
    items_on u y h w k n =
        let f = rw read.is at n in
        let g = read.follows in
        let follows : read.next ≡ y = cc in
        let ends = ap length same_parts.1 in
        let width_is : width (read_value r) r ≡ length r - length read.behind = rw read.is refl in
        record {
          items = read.more;
          left = rw (← follows, ← same_parts.1) read.left;
          same = others ∙ ap (λ (b : Outcome Pack). and_then b (items_laid p read.more)) (sym h);
          counted = omega (arith, going.counted, ap how_many same_parts.0);
          along = rw follows at (along_on going.along (width (read_value r) r) u read.next w (omega (arith, read.behind_fits, read.next_fits)) (omega (arith, read.rest_fits)) k);
        }

-- ---- the array: its node was appended to the tables o, which gave n, and the items are read behind it

module _ {o n : Tables} (added : Added array_kind 0 o.reach.texts o n) (p : Json → Outcome Value) (js : Items) where
  -- an item was refused
  pub array_lost : (x : Refusal) → refused x ≡ items_laid p js (pack_of n) → refused x ≡ laid_down append_value (pack_of o) (mapped array (items_by p js))
  unfolding items_laid
  array_lost x h = array_refused (items_by p js) x _ _ h

  -- all were read, up to the tables t, and their count was stored
  pub array_stored : (t : Tables) (c : ℕ) → o.reach.nodes ≤ length o.numbers.now → ok (pack_of t) ≡ items_laid p js (pack_of n) → c ≡ how_many js
      → ok (pack_at t.reach t.kinds.now (set t.numbers.now o.reach.nodes c) t.texts.now) ≡ laid_down append_value (pack_of o) (mapped array (items_by p js))
  unfolding items_laid
  array_stored t c l h e =
      array_done o.reach t.reach o.kinds.now o.numbers.now o.texts.now t.kinds.now t.numbers.now t.texts.now l _ c e (items_by p js) (items_counted p js) (rw (node_added added) at h)
