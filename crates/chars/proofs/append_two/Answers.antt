-- `chars::append_two` meets its contract: one byte, and then another.
-- Assumes nothing.
use Rattle.chars.proofs.append_two.Goals as goal

pub returns : goal.returns
returns g c = g.S.Sink.laws.next c.push.ensures c.push-2.ensures
