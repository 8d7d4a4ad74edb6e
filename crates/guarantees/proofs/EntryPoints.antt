-- Each entry point's contract as one statement, written out here over the definitions, and proved by the function's own theorem, which
-- `rt` made from the contract in `src/` and checked.
-- Assumes nothing.
use mathlib.Core.Path.{◌≡◌}
use lib.ListN.{length}
use Rattle.cuts.specs.Body.{cut_body, cut_output}
use Rattle.cuts.specs.contracts.cut_body
use Rattle.cuts.proofs.cut_body.Met as CutBody
use Rattle.cuts.proofs.cut_body.Symbol as CutBodyCode
use Rattle.escapes.specs.Entry.{decoded, output_after}
use Rattle.escapes.specs.contracts.decode
use Rattle.escapes.proofs.decode.Met as Decode
use Rattle.escapes.proofs.decode.Symbol as DecodeCode
use Rattle.keys.specs.Entry.{spell_key, spell_output}
use Rattle.keys.specs.contracts.spell_key
use Rattle.keys.proofs.spell_key.Met as SpellKey
use Rattle.keys.proofs.spell_key.Symbol as SpellKeyCode
use Rattle.lines.specs.Entry.{LineWhole}
use Rattle.lines.specs.contracts.read_line
use Rattle.lines.proofs.read_line.Met as ReadLine
use Rattle.lines.proofs.read_line.Symbol as ReadLineCode
use Rattle.json_entities.specs.Entry.{EntitiesWhole}
use Rattle.json_entities.specs.contracts.read_entities
use Rattle.json_entities.proofs.read_entities.Met as ReadEntities
use Rattle.json_entities.proofs.read_entities.Symbol as ReadEntitiesCode
use Rattle.logs.specs.Judge as Judge
use Rattle.logs.specs.contracts.judge
use Rattle.logs.proofs.judge.Met as JudgeLog
use Rattle.logs.proofs.judge.Symbol as JudgeCode
use Rattle.listing.specs.Entry as Listing
use Rattle.listing.specs.contracts.list_line
use Rattle.listing.proofs.list_line.Met as ListLine
use Rattle.listing.proofs.list_line.Symbol as ListLineCode
use Rattle.log_listing.specs.Stretch.{stretch_at, StretchWhole, Onward}
use Rattle.log_listing.specs.contracts.next_stretch
use Rattle.log_listing.proofs.next_stretch.Met as NextStretch
use Rattle.log_listing.proofs.next_stretch.Symbol as NextStretchCode
use Rattle.merging.specs.Merge as Merge
use Rattle.merging.specs.contracts.merge
use Rattle.merging.proofs.merge.Met as MergeLogs
use Rattle.merging.proofs.merge.Symbol as MergeCode
use Rattle.guarantees.specs.Promised.{Promised, PromisedBoth}

-- 1. Decode escapes: `decode(out, text)`. The answer is what `decoded` says of the text and the output's length; the whole output is then
-- what `output_after` says.
pub decode_promised : {M : Type 1} → Promised decode.ended DecodeCode.code DecodeCode.name M (λ κs a r s.
    (r ≡ decoded a.1.0.now (length a.0.now)) × (s.0.now ≡ output_after a.1.0.now a.0.now))
decode_promised = Decode.met

-- 2. Spell a key: `spell_key(out, ty, id)`. The same, for a type text and a decoded id.
pub spell_key_promised : {M : Type 1} → PromisedBoth spell_key.ended SpellKeyCode.code SpellKeyCode.name M
    (λ κs a r s. r ≡ spell_key a.1.0.now a.1.1.0.now (length a.0.now))
    (λ κs a r s. s.0.now ≡ spell_output r a.1.0.now a.1.1.0.now a.0.now)
spell_key_promised = SpellKey.met

-- 3. Cut a body at its commas: `cut_body(out, s)`. The same, for the places of the commas that cut.
pub cut_body_promised : {M : Type 1} → PromisedBoth cut_body.ended CutBodyCode.code CutBodyCode.name M
    (λ κs a r s. r ≡ cut_body a.1.0.now (length a.0.now))
    (λ κs a r s. s.0.now ≡ cut_output r a.1.0.now a.0.now)
cut_body_promised = CutBody.met

-- 4. Read one line into a pack: `read_line(kinds, numbers, texts, line)`. `LineWhole` gives the answer, and every entry of the three tables.
pub read_line_promised : {M : Type 1} → Promised read_line.ended ReadLineCode.code ReadLineCode.name M (λ κs a r s.
    LineWhole a.1.1.1.0.now a.0.now a.1.0.now a.1.1.0.now r s.0.now s.1.0.now s.1.1.0.now)
read_line_promised = ReadLine.met

-- 5. Judge a log: `judge(kinds, numbers, texts, log)`. The same, with `JudgeWhole`.
pub judge_promised : {M : Type 1} → Promised judge.ended JudgeCode.code JudgeCode.name M (λ κs a r s.
    Judge.JudgeWhole a.1.1.1.0.now a.0.now a.1.0.now a.1.1.0.now r s.0.now s.1.0.now s.1.1.0.now)
judge_promised = JudgeLog.met

-- 6. Read cells from entities JSON: `read_entities(kinds, numbers, texts, text)`. The same, with `EntitiesWhole`.
pub read_entities_promised : {M : Type 1} → Promised read_entities.ended ReadEntitiesCode.code ReadEntitiesCode.name M (λ κs a r s.
    EntitiesWhole a.1.1.1.0.now a.0.now a.1.0.now a.1.1.0.now r s.0.now s.1.0.now s.1.1.0.now)
read_entities_promised = ReadEntities.met

-- 7. List one line's event: `list_line(kinds, numbers, texts, out, line, number)`. The same, with `ListWhole`, which gives every
-- byte of the output too.
pub list_line_promised : {M : Type 1} → Promised list_line.ended ListLineCode.code ListLineCode.name M (λ κs a r s.
    Listing.ListWhole a.1.1.1.1.0.now a.1.1.1.1.1.0 a.0.now a.1.0.now a.1.1.0.now a.1.1.1.0.now r
    s.0.now s.1.0.now s.1.1.0.now s.1.1.1.0.now)
list_line_promised = ListLine.met

-- 8. The next stretch of a log's night listing, which the program calls: `next_stretch(work, out, log, place)`. `StretchWhole` gives the
-- answer, and every byte of the output; `Onward` what a loop over the calls needs.
pub next_stretch_promised : {M : Type 1} → PromisedBoth next_stretch.ended NextStretchCode.code NextStretchCode.name M
    (λ κs a r s. StretchWhole (stretch_at a.1.1.0.now a.1.1.1.0) a.1.0.now r s.1.0.now)
    (λ κs a r s. Onward a.1.1.0.now a.1.1.1.0 r s.1.0.now)
next_stretch_promised = NextStretch.met

-- 9. Merge two logs: `merge(kinds, numbers, texts, out, first, second)`. `MergeWhole` gives the answer, every entry of the three
-- tables and every byte of the output.
pub merge_promised : {M : Type 1} → Promised merge.ended MergeCode.code MergeCode.name M (λ κs a r s.
    Merge.MergeWhole a.1.1.1.1.0.now a.1.1.1.1.1.0.now a.0.now a.1.0.now a.1.1.0.now a.1.1.1.0.now r
    s.0.now s.1.0.now s.1.1.0.now s.1.1.1.0.now)
merge_promised = MergeLogs.met
