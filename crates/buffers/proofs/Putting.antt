-- A text is put into a sink piece by piece. What was put and what is left make up the whole, whatever the sink.
-- Assumes nothing.
use mathlib.Core.Path.{◌≡◌, refl, sym, ap, ◌∙◌}
use mathlib.Core.List.{List, [], ◌++◌, append_assoc, append-nil}
use Prim.Native.Nat.{ℕ}
use native.Mathlib.Omega.{arith}
use lib.ListN.{length, length-append}
use Rattle.buffers.specs.Sink.{SinkLaws, PutPart}

module _ {S : Type 0} {room : S → ℕ → Type 0} {put : S → List ℕ → S → Type 0} (laws : SinkLaws room put) where
  -- nothing was put yet
  pub part_none : (o : S) (whole : List ℕ) → PutPart put o whole o whole
  part_none o whole = record { part = []; stands = laws.none o; splits = refl }

  module _ {o n : S} {whole left : List ℕ} (p : PutPart put o whole n left) where
    -- a piece goes off the front of what is left
    pub part_more : {m : S} {x rest : List ℕ} → left ≡ x ++ rest → put n x m → PutPart put o whole m rest
    part_more {m} {x} {rest} e w = record {
      part = p.part ++ x;
      stands = laws.next p.stands w;
      splits = p.splits ∙ ap (λ (l : List ℕ). p.part ++ l) e ∙ sym (append_assoc p.part x rest);
    }

    -- what is left has room where the whole has
    pub part_left_room : room o (length whole) → room n (length left)
    part_left_room h = laws.rest p.stands (rw (ap length p.splits ∙ length-append p.part left) at h)

    -- and so has a piece of it
    pub part_room : (x rest : List ℕ) → left ≡ x ++ rest → room o (length whole) → room n (length x)
    part_room x rest e h = laws.less (omega (arith, ap length e, length-append x rest)) (part_left_room h)

    -- nothing is left: the whole was put
    pub part_all : left ≡ [] → put o whole n
    part_all e = rw (p.splits ∙ ap (λ (l : List ℕ). p.part ++ l) e ∙ append-nil p.part) p.stands

    -- what was left was put too
    pub part_rest : {m : S} → put n left m → put o whole m
    part_rest w = rw p.splits (laws.next p.stands w)
