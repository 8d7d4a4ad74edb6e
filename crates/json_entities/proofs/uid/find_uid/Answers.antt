-- `json_entities::uid::find_uid` meets its contract: what was found of the object so far, and how far it was walked.
-- Assumes nothing.
use Rattle.std.proofs.Common.{rules, true}
use mathlib.Core.Path.{◌≡◌}
use mathlib.Core.Logic.{◌⊎◌, inl, inr}
use Prim.Native.Char.{code}
use Prim.Native.Nat.{◌<◌}
use native.Mathlib.Omega.{arith}
use lib.ListN.{length, get_or}
use Rattle.buffers.proofs.Appending.{take_rest}
use Rattle.json_text.specs.Parse.{starts}
use Rattle.json_entities.proofs.JsonSteps.{starts_not}
use Rattle.json_entities.proofs.UidLaws.{no_object, found_start, uid_in, type_lacks, id_lacks}
use Rattle.json_entities.proofs.uid.find_uid.Goals.{in_default-via-then-s-lt1, in_default-via-else-s-lt1+in_default-1, in_default-2-via-in-Some+in_default, in_default-2-via-in_default}
use Rattle.json_entities.proofs.uid.find_uid.Goals as goal

pub returns-in_default : goal.returns-in_default
returns-in_default c =
    let other : (length c.args.s.now < 1) ⊎ (get_or c.args.s.now 0 0 ≡ code "{" → ⊥) =
    elim c.in_default.branch [ in_default-via-then-s-lt1 w ↦ inl (search rules) | in_default-via-else-s-lt1+in_default-1 w ↦ inr (search rules) ] in
    no_object c.args.s.now (starts_not (code "{") c.args.s.now (omega arith) other)

pub loop-found-init : goal.loop-found-init
loop-found-init c =
    let e : starts (code "{") c.args.s.now ≡ true = search rules in
    found_start c.args.s.now _ e c.requires (take_rest 1 c.args.s.now) _ c.first_part.ensures

pub returns-in_default-2 : goal.returns-in_default-2
returns-in_default-2 c =
    elim c.in_default-2.branch [
      | in_default-2-via-in-Some+in_default w ↦ id_lacks c.loop-found.invariant c.in-End.rest c.in-End.is w.in_default-2.is-1
      | in_default-2-via-in_default w ↦ type_lacks c.loop-found.invariant c.in-End.rest c.in-End.is w.in_default-2.is-0
    ]

pub returns-in-End : goal.returns-in-End
returns-in-End c = uid_in c.loop-found.invariant c.in-End.rest c.in-End.is c.in-Some-Some.ty c.in-Some-Some.id c.in-Some-Some.is-0 c.in-Some-Some.is-1
