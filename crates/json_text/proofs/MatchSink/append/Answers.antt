-- `append` of `json_text::MatchSink` meets its contract: the word goes on with the text or it does not.
-- Assumes nothing.
use lib.ListN.{length}
use Rattle.buffers.proofs.Appending.{take_rest}
use Rattle.json_text.proofs.Matching.{goes_on_with, ends_before}
use Rattle.json_text.proofs.MatchSink.append.Goals as goal

pub returns-then-self-n : goal.returns-then-self-n
returns-then-self-n c = let m = c.args.self.now in λ x. ends_before m.equal x m.left.now c.args.s.now c.if-self-n.true

pub returns : goal.returns
returns c =
    let m = c.args.self.now in
    let s = c.args.s.now in
    λ x. goes_on_with m.equal x m.left.now s c.if-self-n.false c.same.ensures (take_rest (length s) m.left.now)
