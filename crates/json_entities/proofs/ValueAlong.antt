-- How far the cursor has moved while the parts of an array or an object were read in turn: a node a byte at most, and six bytes of text a byte.
-- Assumes nothing.
use mathlib.Core.Path.{refl}
use Prim.Native.Nat.{ℕ, ◌+◌, ◌-◌, ◌*◌, ◌≤◌, ◌<◌}
use native.Mathlib.Omega.{arith}
use Rattle.json_text.specs.Syntax.{Next}
use Rattle.json_text.specs.Walk.{bytes_ahead}
use Rattle.pack.specs.declared.Tables.{Tables}
use Rattle.pack.specs.Added.{Added}
use Rattle.pack.specs.Post.{Within, Kept, ended}
use Rattle.pack.proofs.Appended.{kept_then}
use Rattle.std.specs.Prelude.{Ok, Result}
use Rattle.format.specs.declared.Refusal.{Refusal}
use Rattle.values.proofs.ValueLaws.{within_more}
use Rattle.json_entities.specs.Post.{RoomFor, WithinBytes}

-- less room, and room enough for less
pub room_less : (t : Tables) (w v : ℕ) → v ≤ w → RoomFor w t → RoomFor v t
room_less t w v h room = record {
  kinds = omega (arith, room.kinds);
  numbers = omega (arith, room.numbers);
  texts = omega (arith, room.texts);
  few = omega (arith, room.few);
  short = omega (arith, room.short);
}

pub within_less : {A : Type 0} (w v : ℕ) (o n : Tables) (r : Result A Refusal) → v ≤ w → WithinBytes v o n r → WithinBytes w o n r
within_less w v o n r h = within_more o.reach v w (6 * v) (6 * w) (ended r n) h (omega arith)

-- a byte was taken for a node
pub room_behind : {o n : Tables} {kind number : ℕ} (w : ℕ) → Added kind number o.reach.texts o n → Kept o n → RoomFor (w + 1) o → RoomFor w n
room_behind w added kept room = record {
  kinds = omega (arith, room.kinds, added.nodes, kept.kinds);
  numbers = omega (arith, room.numbers, added.nodes, kept.numbers);
  texts = omega (arith, room.texts, added.texts, kept.texts);
  few = omega (arith, room.few, added.nodes);
  short = omega (arith, room.short, added.texts);
}

-- c parts of l bytes were read, from the tables o to the tables t, up to the place x; e bytes stand behind all parts
pub record Along (l e : ℕ) (o t : Tables) (c : ℕ) (x : Next) : Type 0 where
  pub room : RoomFor (l - e) o
  pub left_fits : e ≤ bytes_ahead x
  pub count_fits : c + bytes_ahead x ≤ l
  pub nodes_up : o.reach.nodes ≤ t.reach.nodes
  pub nodes_fit : t.reach.nodes + bytes_ahead x ≤ o.reach.nodes + l
  pub texts_up : o.reach.texts ≤ t.reach.texts
  pub texts_fit : t.reach.texts + 6 * bytes_ahead x ≤ o.reach.texts + 6 * l
  pub kept : Kept o t

pub along_start : (l e : ℕ) (o : Tables) (x : Next) → RoomFor (l - e) o → e ≤ bytes_ahead x → bytes_ahead x ≤ l → Along l e o o 0 x
along_start l e o x room f h = record {
  room = room;
  left_fits = f;
  count_fits = omega arith;
  nodes_up = omega arith;
  nodes_fit = omega arith;
  texts_up = omega arith;
  texts_fit = omega arith;
  kept = record { kinds = refl; numbers = refl; texts = refl; kinds_lent = refl; numbers_lent = refl; texts_lent = refl };
}

module _ {l e : ℕ} {o t : Tables} {c : ℕ} {x : Next} (along : Along l e o t c x) where
  -- a part of w bytes has room
  pub along_room : (w : ℕ) → w + e ≤ bytes_ahead x → RoomFor w t
  along_room w h =
      let room = along.room in
      let inside = along.count_fits in
      let nodes = along.nodes_fit in
      let texts = along.texts_fit in
      record {
        kinds = omega (arith, room.kinds, along.kept.kinds);
        numbers = omega (arith, room.numbers, along.kept.numbers);
        texts = omega (arith, room.texts, along.kept.texts);
        few = omega (arith, room.few);
        short = omega (arith, room.short);
      }

  -- it was read, up to the tables u and the place y
  pub along_on : (w : ℕ) (u : Tables) (y : Next) → Within t.reach w (6 * w) (Ok u.reach) → w + bytes_ahead y < bytes_ahead x → e ≤ bytes_ahead y → Kept t u → Along l e o u (c + 1) y
  along_on w u y i h f k = record {
    room = along.room;
    left_fits = f;
    count_fits = omega (arith, along.count_fits);
    nodes_up = omega (arith, along.nodes_up);
    nodes_fit = omega (arith, along.nodes_fit);
    texts_up = omega (arith, along.texts_up);
    texts_fit = omega (arith, along.texts_fit);
    kept = kept_then along.kept k;
  }

  -- no part is left
  pub along_end : Within o.reach (l - e) (6 * (l - e)) (Ok t.reach)
  along_end =
      let inside = along.count_fits in
      let fits = along.left_fits in
      (along.nodes_up, omega (arith, along.nodes_fit), along.texts_up, omega (arith, along.texts_fit))
