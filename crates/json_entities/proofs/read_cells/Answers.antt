-- `json_entities::read_cells` meets its contract: what stands before the entities and they themselves have room. Assumes nothing.
use mathlib.Core.Path.{ap}
use native.Mathlib.Omega.{arith}
use lib.ListN.{length}
use Rattle.json_text.specs.Syntax.{read_value}
use Rattle.json_entities.specs.Post.{width}
use Rattle.json_text.proofs.Lengths.{ws_shorter}
use Rattle.json_entities.proofs.Finish.{json_read, cells_read, cells_fit}
use Rattle.json_entities.proofs.read_cells.Goals as goal

pub read_entries-requires-clause-json : goal.read_entries-requires-clause-json
read_entries-requires-clause-json c =
    let e = c.skip_white.ensures in
    (rw e (json_read c.args.text.now c.requires.2).there, omega (arith, ap length e, ws_shorter c.args.text.now, c.requires.1))

pub read_entries-requires-clause-room : goal.read_entries-requires-clause-room
read_entries-requires-clause-room c =
    let e = c.skip_white.ensures in
    let u = c.requires.0 in
    let b = c.append_before.ensures in
    let k = b.kept in
    record {
      kinds = omega (arith, u.kinds, k.kinds, b.moved.0, ap length e, ws_shorter c.args.text.now, c.requires.1);
      numbers = omega (arith, u.numbers, k.numbers, b.moved.0, ap length e, ws_shorter c.args.text.now, c.requires.1);
      texts = omega (arith, u.texts, k.texts, b.moved.1, ap length e, ws_shorter c.args.text.now, c.requires.1);
      few = omega (arith, b.moved.0, ap length e, ws_shorter c.args.text.now, c.requires.1);
      short = omega (arith, b.moved.1, ap length e, ws_shorter c.args.text.now, c.requires.1);
    }

pub returns-clause-cells : goal.returns-clause-cells
returns-clause-cells c = cells_read c.args.text.now _ _ c.requires.2 c.append_before.ensures.lays (rw c.skip_white.ensures at c.read_entries.ensures.reads)

pub returns-clause-within : goal.returns-clause-within
returns-clause-within c =
    let e = c.skip_white.ensures in
    let b = c.append_before.ensures in
    cells_fit (width (read_value c.skip_white.result.now) c.skip_white.result.now) c.append_before.new.tables c.read_entries.new.tables c.read_entries.result
    (omega (arith, ap length e, ws_shorter c.args.text.now, c.requires.1)) b.moved.0 b.moved.1 c.read_entries.ensures.within
