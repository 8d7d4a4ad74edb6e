-- `json_entities::read_members` meets its contract: each time around, the members read so far were found and laid, and the others are ahead. Assumes nothing.
use mathlib.Core.Path.{refl, sym, ap, ◌∙◌}
use Prim.Native.Char.{code}
use native.Mathlib.Omega.{arith}
use lib.ListN.{length}
use Rattle.format.proofs.Outcomes.{handed_on}
use Rattle.json_text.specs.Post.{next_of}
use Rattle.json_text.specs.Syntax.{first_part, next_part}
use Rattle.json_text.proofs.Rules.{first_shorter}
use Rattle.json_entities.proofs.EntryMembers.{never_ends, members_start, members_end, member_there, member_room, members_stop, member_followed, member_smaller, members_on}
use Rattle.json_entities.proofs.read_members.Goals as goal

pub loop-next-init : goal.loop-next-init
loop-next-init c =
    let a = c.args in
    record {
      going = rw c.requires.json.2 (members_start (length a.s.now) a.tables.now (next_of c.first_part-next.result) (first_part (code "}") a.s.now) c.first_part-next.ensures c.requires.json.0 (first_shorter (code "}") a.s.now) c.requires.room);
      scratch_kept = refl;
    }

pub returns-in-End-clause-met : goal.returns-in-End-clause-met
returns-in-End-clause-met c = (members_end c.in-End.rest.now (rw c.in-End.is at c.loop-next.invariant.going)).0

pub read_member-requires-clause-json : goal.read_member-requires-clause-json
read_member-requires-clause-json c =
    let t = member_there c.in-Part.member.now (rw c.in-Part.is at c.loop-next.invariant.going) in
    (t.0, t.1, omega (arith, t.2, c.loop-next.invariant.scratch_kept, c.requires.json.1))

pub read_member-requires-clause-room : goal.read_member-requires-clause-room
read_member-requires-clause-room c = member_room c.in-Part.member.now (rw c.in-Part.is at c.loop-next.invariant.going)

pub returns-in_err-rest-in-Part-clause-met : goal.returns-in_err-rest-in-Part-clause-met
returns-in_err-rest-in-Part-clause-met c =
    let e = c.in_err-rest-in-Part in
    rw (handed_on _ c.from_residual.ensures.1) (members_stop c.in-Part.member.now (rw c.in-Part.is at c.loop-next.invariant.going) e.field-0.0 e.ensures.met)

pub returns-in_default-clause-met : goal.returns-in_default-clause-met
returns-in_default-clause-met c =
    absurd (never_ends (code "}") _ c.in_ok-rest-in-Part.rest.now c.in_ok-rest-in-Part.ensures.rest c.in_default.ensures
    (member_followed c.in-Part.member.now (rw c.in-Part.is at c.loop-next.invariant.going)))

pub loop-next-smaller : goal.loop-next-smaller
loop-next-smaller c =
    rw c.in-Part.is
    (member_smaller c.in-Part.member.now (rw c.in-Part.is at c.loop-next.invariant.going) (next_of c.in-Some.follows)
    (ap (next_part (code "}")) (sym c.in_ok-rest-in-Part.ensures.rest) ∙ sym c.in-Some.ensures))

pub loop-next-preserved : goal.loop-next-preserved
loop-next-preserved c =
    let q = c.read_member.new in
    let e = c.in_ok-rest-in-Part.ensures in
    record {
      going =
          members_on c.in-Part.member.now (rw c.in-Part.is at c.loop-next.invariant.going) q.tables q.found (next_of c.in-Some.follows) e.met e.within e.kept
          (ap (next_part (code "}")) (sym e.rest) ∙ sym c.in-Some.ensures);
      scratch_kept = e.scratch_kept ∙ c.loop-next.invariant.scratch_kept;
    }
