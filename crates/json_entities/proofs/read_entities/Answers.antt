-- `json_entities::read_entities` meets its contract: what lies past the used lengths is not lent further. Assumes nothing.
use Rattle.std.proofs.Common.{rules}
use mathlib.Core.Path.{sym, ◌∙◌}
use Rattle.format.proofs.Fitting.{fitting}
use Rattle.json_entities.proofs.Finish.{entities_whole, entities_whole_not}
use Rattle.json_entities.proofs.read_entities.Goals as goal

pub returns-then-not-tables_fit : goal.returns-then-not-tables_fit
returns-then-not-tables_fit c =
    let a = c.args in
    entities_whole_not a.text.now a.kinds.now a.numbers.now a.texts.now (sym c.tables_fit.ensures ∙ c.if-not-tables_fit.true)

pub split_at_mut-kinds-requires : goal.split_at_mut-kinds-requires
split_at_mut-kinds-requires c = (fitting _ _ _ (sym c.tables_fit.ensures ∙ c.if-not-tables_fit.false)).kinds

pub split_at_mut-numbers-requires : goal.split_at_mut-numbers-requires
split_at_mut-numbers-requires c = (fitting _ _ _ (sym c.tables_fit.ensures ∙ c.if-not-tables_fit.false)).numbers

pub split_at_mut-texts-requires : goal.split_at_mut-texts-requires
split_at_mut-texts-requires c = (fitting _ _ _ (sym c.tables_fit.ensures ∙ c.if-not-tables_fit.false)).texts

pub returns : goal.returns
returns c =
    let a = c.args in
    let q = c.read_used in
    entities_whole a.text.now a.kinds.now a.numbers.now a.texts.now q.result q.new.tables _ _ _ _ _ _ (sym c.tables_fit.ensures ∙ c.if-not-tables_fit.false) q.ensures.shown
    (search rules) (search rules) (search rules) c.split_at_mut-kinds.ensures.back c.split_at_mut-numbers.ensures.back c.split_at_mut-texts.ensures.back
