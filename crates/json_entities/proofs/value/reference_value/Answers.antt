-- `value::reference_value` meets its contract: the first member's name is held against the word. Assumes nothing.
use mathlib.Core.Path.{sym, ◌∙◌}
use Rattle.buffers.proofs.Appending.{take_rest}
use Rattle.json_entities.proofs.ValueNames.{member_there, member_inside, member_string, member_value, member_is}
use Rattle.json_entities.proofs.value.reference_value.Goals as goal

pub slice_bounds-is_text-count : goal.slice_bounds-is_text-count
slice_bounds-is_text-count c = member_inside c.in-Part.s.now (rw c.in-Part.is at c.requires)

pub slice_bounds-is_text-start : goal.slice_bounds-is_text-start
slice_bounds-is_text-start c = member_inside c.in-Part.s.now (rw c.in-Part.is at c.requires)

pub is_text-requires : goal.is_text-requires
is_text-requires c = member_string c.in-Part.s.now (rw c.in-Part.is at c.requires) _ (take_rest 1 c.in-Part.s.now)

pub returns-then-not-is_text : goal.returns-then-not-is_text
returns-then-not-is_text c =
    rw c.in-Part.is (member_is c.in-Part.s.now (rw c.in-Part.is at c.requires) _ (take_rest 1 c.in-Part.s.now) _ (sym c.if-not-is_text.true ∙ c.is_text.ensures))

pub returns-in_err-member : goal.returns-in_err-member
returns-in_err-member c = absurd (member_there c.in-Part.s.now (rw c.in-Part.is at c.requires) c.first_member.result c.first_member.ensures c.in_err-member.was)

pub returns : goal.returns
returns c =
    let is = rw c.in-Part.is at c.requires in
    rw c.in-Part.is (
      member_is c.in-Part.s.now is _ (take_rest 1 c.in-Part.s.now) _ (sym c.if-not-is_text.false ∙ c.is_text.ensures),
      member_value c.in-Part.s.now is c.in_ok-member.member c.in_ok-member.ensures,
    )
