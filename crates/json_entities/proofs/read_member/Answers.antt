-- `json_entities::read_member` meets its contract: the name says which part it is, which is read, kept and laid behind the last. Assumes nothing.
use mathlib.Core.Path.{ap}
use mathlib.Core.List.{List}
use Prim.Native.Nat.{ℕ}
use native.Mathlib.Omega.{arith}
use lib.ListN.{length}
use Rattle.format.proofs.Outcomes.{handed_on}
use Rattle.json_text.specs.Syntax.{read_value}
use Rattle.pack.specs.Post.{pack_of}
use Rattle.json_entities.specs.Post.{rest_in}
use Rattle.json_entities.specs.Parts.{value_in, value_text}
use Rattle.json_entities.proofs.EntryParts.{member_found, member_unnamed, member_refused, member_kept}
use Rattle.json_entities.proofs.read_member.Goals as goal

pub part_named-requires : goal.part_named-requires
part_named-requires c = (member_found c.args.s.now c.in-Some.member.name.now c.in-Some.member.value.now c.in-Some.ensures).text

pub returns-in_default-part_named-clause-met : goal.returns-in_default-part_named-clause-met
returns-in_default-part_named-clause-met c =
    let a = c.args in
    let v = c.in-Some.member.value in
    let m = member_found a.s.now c.in-Some.member.name.now v.now c.in-Some.ensures in
    member_unnamed a.s.now c.in-Some.member.name.now v m a.found.now c.requires.sound (value_in (value_text a.s.now)) c.in_default-part_named.ensures

pub read_part-requires-clause-json : goal.read_part-requires-clause-json
read_part-requires-clause-json c =
    let m = member_found c.args.s.now c.in-Some.member.name.now c.in-Some.member.value.now c.in-Some.ensures in
    (rw m.value c.requires.json.1, omega (arith, m.fits, c.requires.json.2))

pub read_part-requires-clause-room : goal.read_part-requires-clause-room
read_part-requires-clause-room c =
    let r = c.requires.room in
    let m = member_found c.args.s.now c.in-Some.member.name.now c.in-Some.member.value.now c.in-Some.ensures in
    let e = ap (λ (x : List ℕ). length (rest_in (read_value x))) m.value in
    record {
      kinds = omega (arith, r.kinds, m.fits);
      numbers = omega (arith, r.numbers, m.fits);
      texts = omega (arith, r.texts, m.fits);
      few = omega (arith, r.few, m.fits);
      short = omega (arith, r.short, m.fits);
    }

pub returns-in_err-rest-clause-met : goal.returns-in_err-rest-clause-met
returns-in_err-rest-clause-met c =
    let a = c.args in
    let v = c.in-Some.member.value in
    let m = member_found a.s.now c.in-Some.member.name.now v.now c.in-Some.ensures in
    rw (handed_on _ c.from_residual.ensures.1)
    (member_refused a.s.now c.in-Some.member.name.now v m a.found.now c.requires.sound c.in-Some-part_named.part c.in-Some-part_named.ensures c.in_err-rest.field-0.0 (pack_of a.tables.now) c.in_err-rest.ensures.reads)

pub returns-clause-met : goal.returns-clause-met
returns-clause-met c =
    let a = c.args in
    let v = c.in-Some.member.value in
    let m = member_found a.s.now c.in-Some.member.name.now v.now c.in-Some.ensures in
    rw c.keep.ensures
    (member_kept a.s.now c.in-Some.member.name.now v m a.found.now c.requires.sound c.in-Some-part_named.part c.in-Some-part_named.ensures a.tables.now c.read_part.new.tables
    c.requires.json.1 c.requires.room _ c.in_ok-rest.ensures.within c.in_ok-rest.ensures.reads)

pub returns-clause-within : goal.returns-clause-within
returns-clause-within c =
    let m = member_found c.args.s.now c.in-Some.member.name.now c.in-Some.member.value.now c.in-Some.ensures in
    let e = ap (λ (x : List ℕ). length (rest_in (read_value x))) m.value in
    let w = c.in_ok-rest.ensures.within in
    (w.0, omega (arith, w.1, m.fits), w.2, omega (arith, w.3, m.fits))
