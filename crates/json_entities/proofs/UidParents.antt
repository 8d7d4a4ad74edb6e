-- An entry's parents: an array of uids, each laid down as a reference. The loop over them is the one over any items (`ValueItems`).
-- Assumes nothing.
use mathlib.Core.Path.{◌≡◌, refl, sym, ap, ◌∙◌}
use mathlib.Core.Bool.{true}
use mathlib.Core.List.{List}
use Prim.Native.Char.{code}
use Prim.Native.Nat.{ℕ, ◌-◌, ◌*◌, ◌≤◌, ◌<◌}
use native.Mathlib.Omega.{arith}
use lib.ListN.{length, drop, set}
use Rattle.std.specs.Prelude.{IsSome, Ok}
use Rattle.format.specs.Kinds.{array_kind}
use Rattle.format.specs.declared.Refusal.{Refusal}
use Rattle.format.specs.Outcome.{Outcome, ok, refused}
use Rattle.format.specs.Refusals.{not_entities}
use Rattle.json_text.specs.Json.{Json}
use Rattle.json_text.specs.Parse.{starts}
use Rattle.json_text.specs.Syntax.{Next, first_part, read_value}
use Rattle.pack.specs.Pack.{Pack, append_value}
use Rattle.pack.specs.Added.{Added}
use Rattle.pack.specs.LaidDown.{laid_down}
use Rattle.pack.specs.declared.Tables.{Tables}
use Rattle.pack.specs.Post.{pack_at, pack_of, Within, Kept}
use Rattle.json_entities.specs.Post.{json_in, items_in, rest_in, width, RoomFor}
use Rattle.json_entities.specs.Shape.{reference_of}
use Rattle.json_entities.specs.Read.{reference_laid, parents_laid}
use Rattle.json_entities.specs.Walk.{items_behind}
use Rattle.json_entities.proofs.JsonSteps.{by_start, ArrayRead, array_read}
use Rattle.json_entities.proofs.ValueAlong.{room_less, room_behind}
use Rattle.json_entities.proofs.ValueItems.{items_laid, how_many, ItemsGoing, items_start, array_lost, array_stored}

pub no_array : (s : List ℕ) → (starts (code "[") s ≡ true → ⊥) → (p : Pack) → refused not_entities ≡ parents_laid (json_in (read_value s)) p
unfolding parents_laid laid_down
no_array s n p = by_start (λ j. refused not_entities ≡ parents_laid j p) s (λ e js. absurd (n e)) (λ e ms. refl) (λ e x. refl) refl (λ b. refl) (λ x. refl)

-- an array, whose node was appended to the tables o, which gave n
module _ (s : List ℕ) (e : starts (code "[") s ≡ true) (h : IsSome (read_value s)) where
  parts : ArrayRead s
  parts = array_read s e h

  items_are : items_in (items_behind (drop 1 s)) ≡ parts.items
  items_are = ap items_in parts.left

  rest_left : rest_in (items_behind (drop 1 s)) ≡ parts.rest
  rest_left = ap rest_in parts.left

  pub rest_is : rest_in (read_value s) ≡ rest_in (items_behind (drop 1 s))
  rest_is = ap rest_in parts.whole ∙ sym rest_left

  -- its node has room
  pub node_fits : (o : Tables) → RoomFor (width (read_value s) s) o → (o.reach.nodes < length o.kinds.now) × (o.reach.nodes < length o.numbers.now)
  node_fits o room =
      let w : 1 ≤ width (read_value s) s = omega (arith, parts.first_fits, parts.rest_fits, ap length rest_is, ap length rest_left) in
      (omega (arith, room.kinds), omega (arith, room.numbers))

  module _ {o n : Tables} (added : Added array_kind 0 o.reach.texts o n) where
    pub parents_start : Kept o n → RoomFor (width (read_value s) s) o → (x : Next) (t : List ℕ) → x ≡ first_part (code "]") t → t ≡ drop 1 s
        → ItemsGoing reference_of (items_behind (drop 1 s)) (length s - 1) n n 0 x
    parents_start kept room x t a b =
        items_start reference_of (length s - 1) n x (first_part (code "]") (drop 1 s)) (a ∙ ap (first_part (code "]")) b) (rw parts.left) (omega (arith, parts.first_fits))
        (room_behind (length s - 1 - length (rest_in (items_behind (drop 1 s)))) added kept
        (room_less o (width (read_value s) s) _ (omega (arith, parts.first_fits, parts.rest_fits, ap length rest_is, ap length rest_left)) room))

    pub parents_lost : (x : Refusal) → refused x ≡ items_laid reference_of (items_in (items_behind (drop 1 s))) (pack_of n) → refused x ≡ parents_laid (json_in (read_value s)) (pack_of o)
    unfolding parents_laid
    parents_lost x l = rw parts.whole (array_lost added reference_of parts.items x (rw items_are at l))

    pub parents_stored : (t : Tables) (c : ℕ) → o.reach.nodes ≤ length o.numbers.now → ok (pack_of t) ≡ items_laid reference_of (items_in (items_behind (drop 1 s))) (pack_of n)
        → c ≡ how_many (items_in (items_behind (drop 1 s)))
        → ok (pack_at t.reach t.kinds.now (set t.numbers.now o.reach.nodes c) t.texts.now) ≡ parents_laid (json_in (read_value s)) (pack_of o)
    unfolding parents_laid
    parents_stored t c f l k = rw parts.whole (array_stored added reference_of parts.items t c f (rw items_are at l) (rw items_are at k))

    pub parents_within : (t : Tables)
        → Within n.reach (length s - 1 - length (rest_in (items_behind (drop 1 s)))) (6 * (length s - 1 - length (rest_in (items_behind (drop 1 s))))) (Ok t.reach)
        → Within o.reach (width (read_value s) s) (6 * width (read_value s) s) (Ok t.reach)
    parents_within t w = omega (arith, added.nodes, added.texts, parts.first_fits, parts.rest_fits, ap length rest_is, ap length rest_left)

-- as a reader says it
pub laid_as : (p : Pack) (j : Json) (o : Outcome Pack) → o ≡ reference_laid j p → o ≡ laid_down append_value p (reference_of j)
unfolding reference_laid
laid_as p j o h = h
