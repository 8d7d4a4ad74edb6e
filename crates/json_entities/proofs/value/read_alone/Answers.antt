-- `value::read_alone` meets its contract: a reference, and the bracket that closes. Assumes nothing.
use mathlib.Core.Path.{sym, ap, ◌∙◌}
use Prim.Native.Char.{code}
use Rattle.std.specs.Prelude.{option_map}
use Rattle.std.proofs.Common.{IsSome, subst}
use Rattle.format.proofs.Outcomes.{handed_on}
use Rattle.json_text.specs.Post.{next_of}
use Rattle.json_text.specs.Syntax.{next_part}
use Rattle.json_text.proofs.Lengths.{of_mapped}
use Rattle.json_entities.proofs.ValueForms.{alone_refused}
use Rattle.json_entities.proofs.ValueNames.{after_there, alone_more, alone_done}
use Rattle.json_entities.proofs.value.read_alone.Goals as goal

pub returns-in_err-after-clause-reads : goal.returns-in_err-after-clause-reads
returns-in_err-after-clause-reads c = rw (handed_on _ c.from_residual.ensures.1) (alone_refused _ _ _ _ c.in_err-after.ensures.reads)

pub unwrap-requires : goal.unwrap-requires
unwrap-requires c =
    of_mapped next_of c.next_part.result
    (subst IsSome (sym (c.next_part.ensures ∙ ap (next_part (code "}")) c.in_ok-after.ensures.rest)) (after_there _ c.requires.json.1))

pub returns-in-End-clause-reads : goal.returns-in-End-clause-reads
returns-in-End-clause-reads c =
    let e = c.next_part.ensures ∙ ap (next_part (code "}")) c.in_ok-after.ensures.rest in
    alone_done _ c.in-End.rest.now c.requires.json.1 _ _ _ (sym e ∙ ap (option_map next_of) c.in-End.ensures) c.in_ok-after.ensures.reads

pub returns-in-Part-clause-reads : goal.returns-in-Part-clause-reads
returns-in-Part-clause-reads c =
    let e = c.next_part.ensures ∙ ap (next_part (code "}")) c.in_ok-after.ensures.rest in
    alone_more _ c.in-Part.field-0.now c.requires.json.1 _ _ (sym e ∙ ap (option_map next_of) c.in-Part.ensures)
