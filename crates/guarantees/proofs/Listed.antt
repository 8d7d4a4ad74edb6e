-- A call of `list_line` that answered with a listing: its line is one that is read, and what it wrote is the listing of the line's event.
-- Assumes nothing.
use mathlib.Core.Path.{◌≡◌, refl, ap, ◌∙◌}
use mathlib.Core.Bool.{Bool, true, false, cond}
use mathlib.Core.List.{List, ◌++◌}
use Prim.Native.Nat.{ℕ}
use native.Mathlib.Omega.{arith}
use lib.Dec.{leb}
use lib.ListN.{length, take, drop}
use lib.Seq.{take_at}
use Rattle.format.specs.Refusals.{table_too_short, output_too_short}
use Rattle.pack.specs.Pack.{Pack}
use Rattle.events.specs.Event.{Event}
use Rattle.events.specs.Answer.{Answer, event, blank, refused, read_line}
use Rattle.lines.specs.Entry.{enough}
use Rattle.listing.specs.Lines.{list_event}
use Rattle.listing.specs.Entry.{list_answer, list_output}
use Rattle.guarantees.specs.Calls.{ListedInto}
use Rattle.guarantees.specs.Lines.{IsRead}
use Rattle.std.specs.Prelude.{Err, Ok, Some}

module _ (n m : ℕ) (out : List ℕ) where
  -- no other answer is a listing
  listed_event : (b : Bool) (a : Answer) → Ok (Some m) ≡ cond b (list_answer n (length out) a) (Err table_too_short) → (e : Event) × (a ≡ event e)
  listed_event true (event e) h = (e, refl)
  listed_event true blank h = let z : ◌≡◌ {A = ℕ} 0 1 = cc in absurd (omega arith)
  listed_event true (refused r) h = let z : ◌≡◌ {A = ℕ} 0 1 = cc in absurd (omega arith)
  listed_event false a h = let z : ◌≡◌ {A = ℕ} 0 1 = cc in absurd (omega arith)

  text_wrote : (fits : Bool) (text : List ℕ) → Ok (Some m) ≡ cond fits (Ok (Some (length text))) (Err output_too_short)
      → take m (cond fits (text ++ drop (length text) out) out) ≡ text
  text_wrote true text h = let z : length text ≡ m = cc in take_at text (drop (length text) out) m z
  text_wrote false text h = let z : ◌≡◌ {A = ℕ} 0 1 = cc in absurd (omega arith)

  listing_wrote : (b : Bool) (e : Event) → Ok (Some m) ≡ cond b (list_answer n (length out) (event e)) (Err table_too_short)
      → take m (cond b (list_output n out (event e)) out) ≡ list_event n e
  listing_wrote true e h = text_wrote (leb (length (list_event n e)) (length out)) (list_event n e) h
  listing_wrote false e h = let z : ◌≡◌ {A = ℕ} 0 1 = cc in absurd (omega arith)

module _ {s : List ℕ} {n m : ℕ} {p q : Pack} {out left : List ℕ} (w : ListedInto s n p out (Ok (Some m)) q left) where
  pub event_listed : IsRead s
  event_listed = listed_event n m out (enough p.kinds p.numbers p.texts) (read_line s) w.answer

  pub wrote : {e : Event} → read_line s ≡ event e → take m left ≡ list_event n e
  wrote {e} h = ap (take m) (rw h at w.output) ∙ listing_wrote n m out (enough p.kinds p.numbers p.texts) e (rw h at w.answer)
