-- `json_entities::uid::Found::with_member` meets its contract, one law for each way: a member that is no JSON, the type, the id, another name.
-- Assumes nothing.
use Rattle.std.proofs.Common.{sym}
use Rattle.format.proofs.Outcomes.{handed_on}
use Rattle.json_entities.proofs.UidLaws.{member_there, name_well, value_inside, name_refused, type_refused, id_refused, type_found, id_found}
use Rattle.json_entities.proofs.uid.Found.with_member.Goals as goal

pub returns-in_default : goal.returns-in_default
returns-in_default c = absurd (member_there c.args.self c.args.s.now c.requires.0 c.requires.1 c.in_default.ensures)

pub is_first-requires : goal.is_first-requires
is_first-requires c = name_well c.args.self c.args.s.now c.requires.0 c.requires.1 c.in-Some.member c.in-Some.ensures

pub find_string-requires : goal.find_string-requires
find_string-requires c = value_inside c.args.self c.args.s.now c.requires.0 c.requires.1 c.in-Some.member c.in-Some.ensures

pub returns-in_err-text : goal.returns-in_err-text
returns-in_err-text c =
    rw (handed_on _ c.from_residual.ensures.1) (type_refused c.args.self c.args.s.now c.requires.0 c.requires.1 c.in-Some.member c.in-Some.ensures c.in_err-text.field-0.0 c.in_err-text.ensures (sym c.if-is_first.ensures))

pub returns-then-is_first : goal.returns-then-is_first
returns-then-is_first c =
    type_found c.args.self c.args.s.now c.requires.0 c.requires.1 c.in-Some.member c.in-Some.ensures c.in_ok-text.field-0 c.in_ok-text.ensures (sym c.if-is_first.ensures)

pub is_first-requires-2 : goal.is_first-requires-2
is_first-requires-2 c = name_well c.args.self c.args.s.now c.requires.0 c.requires.1 c.in-Some.member c.in-Some.ensures

pub find_string-requires-then-is_first-2 : goal.find_string-requires-then-is_first-2
find_string-requires-then-is_first-2 c = value_inside c.args.self c.args.s.now c.requires.0 c.requires.1 c.in-Some.member c.in-Some.ensures

pub returns-in_err-text-2 : goal.returns-in_err-text-2
returns-in_err-text-2 c =
    rw (handed_on _ c.from_residual-in_err-text-2.ensures.1)
    (id_refused c.args.self c.args.s.now c.requires.0 c.requires.1 c.in-Some.member c.in-Some.ensures c.in_err-text-2.field-0.0 c.in_err-text-2.ensures (sym c.if-is_first.ensures) (sym c.if-is_first-2.ensures))

pub returns-then-is_first-2 : goal.returns-then-is_first-2
returns-then-is_first-2 c =
    id_found c.args.self c.args.s.now c.requires.0 c.requires.1 c.in-Some.member c.in-Some.ensures c.in_ok-text-2.field-0 c.in_ok-text-2.ensures (sym c.if-is_first.ensures) (sym c.if-is_first-2.ensures)

pub returns : goal.returns
returns c =
    name_refused c.args.self c.args.s.now c.requires.0 c.requires.1 c.in-Some.member c.in-Some.ensures (sym c.if-is_first.ensures) (sym c.if-is_first-2.ensures)
