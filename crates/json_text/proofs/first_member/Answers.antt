-- `json_text::first_member` meets its contract: a string, a colon, and what follows.
-- Assumes nothing.
use Rattle.std.proofs.Common.{rules, sym, ap, ◌∙◌, arith}
use Rattle.std.specs.Prelude.{option_map}
use Rattle.buffers.proofs.Appending.{take_rest}
use Rattle.json_text.specs.Syntax.{member_name}
use Rattle.json_text.specs.Post.{texts_of, texts_of_member}
use Rattle.json_text.proofs.Scalars.{member_no_name, member_value}
use Rattle.json_text.proofs.first_member.Goals as goal

pub returns-in_default : goal.returns-in_default
unfolding member_name
returns-in_default c = search rules

pub returns-in_err-rest : goal.returns-in_err-rest
returns-in_err-rest c =
    let s = c.args.s.now in
    ap (option_map texts_of_member) c.from_residual.ensures
    ∙ sym (member_no_name s _ (take_rest 1 s) (omega arith) (sym c.string_behind.ensures ∙ ap texts_of c.in_err-rest.was))

pub returns-in_err-value : goal.returns-in_err-value
returns-in_err-value c =
    let s = c.args.s.now in
    let r = c.in_ok-rest in
    ap (option_map texts_of_member) c.from_residual-in_err-value.ensures
    ∙ sym (member_value s _ (take_rest 1 s) (omega arith) r.rest.now (sym c.string_behind.ensures ∙ ap texts_of r.was) (sym c.colon_behind.ensures ∙ ap texts_of c.in_err-value.was))

pub returns : goal.returns
returns c =
    let s = c.args.s.now in
    let r = c.in_ok-rest in
    sym (member_value s _ (take_rest 1 s) (omega arith) r.rest.now (sym c.string_behind.ensures ∙ ap texts_of r.was) (sym c.colon_behind.ensures ∙ ap texts_of c.in_ok-value.was))
