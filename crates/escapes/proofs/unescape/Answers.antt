-- `escapes::unescape` meets its contract: there is room for a text that is no longer than s.
-- Assumes nothing.
use Rattle.escapes.proofs.Unescaping.{unescape_length}
use Rattle.escapes.proofs.unescape.Goals as goal

pub append_unescaped-requires : goal.append_unescaped-requires
append_unescaped-requires g c = g.S.Sink.laws.less (unescape_length c.args.s.now) c.requires
