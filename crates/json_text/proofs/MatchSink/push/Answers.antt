-- `push` of `json_text::MatchSink` meets its contract: the byte is the word's next one or it is not.
-- Assumes nothing.
use mathlib.Core.List.{[], ◌∷◌}
use native.Mathlib.Omega.{arith}
use Rattle.buffers.proofs.Appending.{take_rest}
use Rattle.json_text.proofs.Matching.{goes_on_by, ends_before}
use Rattle.json_text.proofs.MatchSink.push.Goals as goal

pub returns-then-self-eq0 : goal.returns-then-self-eq0
returns-then-self-eq0 c = let m = c.args.self.now in λ x. ends_before m.equal x m.left.now (c.args.b ∷ []) (omega arith)

pub returns : goal.returns
returns c = let m = c.args.self.now in λ x. goes_on_by m.equal x m.left.now c.args.b (omega arith) (take_rest 1 m.left.now)
