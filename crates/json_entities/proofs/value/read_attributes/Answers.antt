-- `value::read_attributes` meets its contract: an object, read as a record. Assumes nothing.
use Prim.Native.Char.{code}
use Rattle.std.proofs.Common.{arith, ap, ◌∙◌, List, ℕ, ◌+◌, ◌-◌, ◌≤◌, length, take, drop}
use lib.ListN.{get_or}
use borrow.Author.Tests.{eq-eqb, ne_eqb}
use Rattle.buffers.proofs.Appending.{take_rest}
use Rattle.format.specs.Limits.{levels}
use Rattle.json_text.specs.Syntax.{Next, first_part, read_value}
use Rattle.pack.specs.Post.{pack_of}
use Rattle.json_entities.specs.Read.{record_laid}
use Rattle.json_entities.specs.Post.{members_in, width}
use Rattle.json_entities.specs.Walk.{members_at, members_behind, width_ahead}
use Rattle.json_text.proofs.Rules.{first_shorter}
use Rattle.json_entities.proofs.ValueAlong.{room_less, within_less}
use Rattle.json_entities.proofs.ValueForms.{in_object, value_long, attributes_object, attributes_other}
use Rattle.json_entities.proofs.value.read_attributes.Goals as goal

pub bounds-s-0 : goal.bounds-s-0
bounds-s-0 c = omega (arith, value_long c.args.s.now c.requires.json)

pub returns-then-s-ne123-clause-reads : goal.returns-then-s-ne123-clause-reads
returns-then-s-ne123-clause-reads c =
    let s : List ℕ = c.args.s.now in
    attributes_other s _ (ne_eqb (get_or s 0 0) (code "{") (omega arith))

pub read_record-requires-clause-json : goal.read_record-requires-clause-json
read_record-requires-clause-json c =
    let s : List ℕ = c.args.s.now in
    let i = in_object s _ (take_rest 1 s) c.requires.json (eq-eqb (get_or s 0 0) (code "{") (omega arith)) in
    rw c.first_part-first.ensures i.there

pub read_record-requires-clause-room : goal.read_record-requires-clause-room
read_record-requires-clause-room c =
    let s : List ℕ = c.args.s.now in
    let t : List ℕ = take (length s - 1) (drop 1 s) in
    let i = in_object s t (take_rest 1 s) c.requires.json (eq-eqb (get_or s 0 0) (code "{") (omega arith)) in
    let l : width_ahead (members_behind t) (first_part (code "}") t) + 1 ≤ width (read_value s) s = omega (arith, i.width, first_shorter (code "}") t) in
    rw c.first_part-first.ensures (room_less c.args.tables.now _ _ l c.requires.room)

pub returns-clause-reads : goal.returns-clause-reads
returns-clause-reads c =
    let s : List ℕ = c.args.s.now in
    let p = pack_of c.args.tables.now in
    c.read_record.ensures.reads ∙ ap (λ (x : Next). record_laid (levels - 1) (members_in (members_at x)) p) c.first_part-first.ensures
    ∙ attributes_object s _ (take_rest 1 s) c.requires.json (eq-eqb (get_or s 0 0) (code "{") (omega arith)) p

pub returns-clause-rest : goal.returns-clause-rest
returns-clause-rest c =
    let s : List ℕ = c.args.s.now in
    let i = in_object s _ (take_rest 1 s) c.requires.json (eq-eqb (get_or s 0 0) (code "{") (omega arith)) in
    rw i.rest (rw c.first_part-first.ensures at c.read_record.ensures.rest)

pub returns-clause-within : goal.returns-clause-within
returns-clause-within c =
    let s : List ℕ = c.args.s.now in
    let t : List ℕ = take (length s - 1) (drop 1 s) in
    let i = in_object s t (take_rest 1 s) c.requires.json (eq-eqb (get_or s 0 0) (code "{") (omega arith)) in
    let l : width_ahead (members_behind t) (first_part (code "}") t) + 1 ≤ width (read_value s) s = omega (arith, i.width, first_shorter (code "}") t) in
    within_less _ _ c.args.tables.now c.read_record.new.tables c.read_record.result l (rw c.first_part-first.ensures at c.read_record.ensures.within)
