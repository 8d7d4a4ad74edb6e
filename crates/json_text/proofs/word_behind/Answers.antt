-- `json_text::word_behind` meets its contract: a text that is too short begins with no word.
-- Assumes nothing.
use Rattle.json_text.proofs.Scalars.{begins_short}
use Rattle.json_text.proofs.word_behind.Goals as goal

pub returns-then-s-n : goal.returns-then-s-n
returns-then-s-n c = rw (begins_short c.args.word.now c.args.s.now c.if-s-n.true)
