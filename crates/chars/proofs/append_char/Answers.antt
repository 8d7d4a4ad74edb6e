-- `chars::append_char` meets its contract: the bytes of each size go out one or two at a time.
-- Assumes nothing.
use Rattle.chars.proofs.Writing.{encode_3, encode_4}
use Rattle.chars.proofs.append_char.Goals as goal

pub returns-then-c-lt65536 : goal.returns-then-c-lt65536
returns-then-c-lt65536 g c =
    rw (encode_3 c.args.c c.if-c-lt2048.false c.if-c-lt65536.true) (g.S.Sink.laws.next c.append_two-then-c-lt65536.ensures c.push-then-c-lt65536.ensures)

pub returns : goal.returns
returns g c = rw (encode_4 c.args.c c.if-c-lt65536.false) (g.S.Sink.laws.next c.append_two-2.ensures c.append_two-3.ensures)
