-- `json_entities::read_entry` meets its contract: what the members give is an entry where its key was not stored before. Assumes nothing.
use mathlib.Core.Path.{◌≡◌, ◌∙◌}
use mathlib.Core.Logic.{inl, inr}
use Prim.Native.Char.{code}
use Prim.Native.Nat.{◌-◌, ◌<◌}
use Rattle.std.proofs.Common.{rules}
use native.Mathlib.Omega.{arith}
use borrow.Author.Tests.{eq-eqb}
use lib.ListN.{length, take, drop, get_or}
use Rattle.buffers.proofs.Appending.{take_rest}
use Rattle.std.specs.Prelude.{Ok}
use Rattle.format.proofs.Outcomes.{handed_on}
use Rattle.values.proofs.ValueLaws.{within_more}
use Rattle.json_entities.proofs.JsonSteps.{starts_not}
use Rattle.json_entities.proofs.EntryStored.{no_object, members_there, object_rest, object_width, entry_refused, found, marked_before, stored_twice, stored_once, keys_marked}
use Rattle.json_text.specs.Syntax.{read_value}
use Rattle.json_entities.specs.Post.{width}
use Rattle.json_entities.proofs.read_entry.Goals as goal
use Rattle.json_entities.proofs.read_entry.Goals.{in_default-via-then-s-lt1, in_default-via-else-s-lt1+in_default-1}

pub returns-in_default-clause-reads : goal.returns-in_default-clause-reads
returns-in_default-clause-reads c =
    elim c.in_default.branch [
      | in_default-via-then-s-lt1 w ↦
          let short : length c.args.s.now < 1 = search rules in
          no_object _ c.args.s.now _ (starts_not (code "{") c.args.s.now (omega arith) (inl short))
      | in_default-via-else-s-lt1+in_default-1 w ↦
          let other : get_or c.args.s.now 0 0 ≡ code "{" → ⊥ = search rules in
          no_object _ c.args.s.now _ (starts_not (code "{") c.args.s.now (omega arith) (inr other))
    ]

pub read_parts-requires-clause-json : goal.read_parts-requires-clause-json
read_parts-requires-clause-json c =
    let s = c.args.s.now in
    let i : get_or s 0 0 ≡ code "{" = search rules in
    let h = c.requires.json in
    let w = object_width s (take (length s - 1) (drop 1 s)) (eq-eqb (get_or s 0 0) (code "{") i) (take_rest 1 s) h.0 in
    (members_there s (take (length s - 1) (drop 1 s)) (eq-eqb (get_or s 0 0) (code "{") i) (take_rest 1 s) h.0, omega (arith, w.0, h.1))

pub read_parts-requires-clause-room : goal.read_parts-requires-clause-room
read_parts-requires-clause-room c =
    let s = c.args.s.now in
    let i : get_or s 0 0 ≡ code "{" = search rules in
    let r = c.requires.room in
    let w = object_width s (take (length s - 1) (drop 1 s)) (eq-eqb (get_or s 0 0) (code "{") i) (take_rest 1 s) c.requires.json.0 in
    record {
      kinds = omega (arith, w.1, r.kinds);
      numbers = omega (arith, w.1, r.numbers);
      texts = omega (arith, w.1, r.texts);
      few = omega (arith, w.1, r.few);
      short = omega (arith, w.1, r.short);
    }

pub returns-in_err-rest-clause-reads : goal.returns-in_err-rest-clause-reads
returns-in_err-rest-clause-reads c =
    let s = c.args.s.now in
    let i : get_or s 0 0 ≡ code "{" = search rules in
    rw (handed_on _ c.from_residual.ensures.1)
    (entry_refused s (take (length s - 1) (drop 1 s)) (eq-eqb (get_or s 0 0) (code "{") i) (take_rest 1 s) c.requires.json.0 _ _ c.in_err-rest.field-0.0 c.in_err-rest.ensures.reads)

pub is_stored-requires : goal.is_stored-requires
is_stored-requires c =
    let a = c.args in
    let s = a.s.now in
    let i : get_or s 0 0 ≡ code "{" = search rules in
    let e = c.in_ok-rest.ensures in
    let w = object_width s (take (length s - 1) (drop 1 s)) (eq-eqb (get_or s 0 0) (code "{") i) (take_rest 1 s) c.requires.json.0 in
    ((found s (take (length s - 1) (drop 1 s)) (eq-eqb (get_or s 0 0) (code "{") i) (take_rest 1 s) c.requires.json.0 a.tables.now c.read_parts.new.tables (width (read_value s) s) c.requires.room (within_more a.tables.now.reach _ _ _ _ (Ok c.read_parts.new.tables.reach) w.1 (omega (arith, w.1)) e.within) e.kept e.reads).stands, marked_before s (take (length s - 1) (drop 1 s)) (eq-eqb (get_or s 0 0) (code "{") i) (take_rest 1 s) c.requires.json.0 a.tables.now c.read_parts.new.tables (width (read_value s) s) c.requires.room (within_more a.tables.now.reach _ _ _ _ (Ok c.read_parts.new.tables.reach) w.1 (omega (arith, w.1)) e.within) e.kept e.reads a.seen.now a.seen.now.marks c.requires.marked)

pub returns-then-is_stored-clause-reads : goal.returns-then-is_stored-clause-reads
returns-then-is_stored-clause-reads c =
    let a = c.args in
    let s = a.s.now in
    let i : get_or s 0 0 ≡ code "{" = search rules in
    let e = c.in_ok-rest.ensures in
    let w = object_width s (take (length s - 1) (drop 1 s)) (eq-eqb (get_or s 0 0) (code "{") i) (take_rest 1 s) c.requires.json.0 in
    stored_twice s (take (length s - 1) (drop 1 s)) (eq-eqb (get_or s 0 0) (code "{") i) (take_rest 1 s) c.requires.json.0 a.tables.now c.read_parts.new.tables (width (read_value s) s) c.requires.room (within_more a.tables.now.reach _ _ _ _ (Ok c.read_parts.new.tables.reach) w.1 (omega (arith, w.1)) e.within) e.kept e.reads a.seen.now c.is_stored.result c.is_stored.ensures.value c.if-is_stored.true

pub returns-clause-reads : goal.returns-clause-reads
returns-clause-reads c =
    let a = c.args in
    let s = a.s.now in
    let i : get_or s 0 0 ≡ code "{" = search rules in
    let e = c.in_ok-rest.ensures in
    let w = object_width s (take (length s - 1) (drop 1 s)) (eq-eqb (get_or s 0 0) (code "{") i) (take_rest 1 s) c.requires.json.0 in
    stored_once s (take (length s - 1) (drop 1 s)) (eq-eqb (get_or s 0 0) (code "{") i) (take_rest 1 s) c.requires.json.0 a.tables.now c.read_parts.new.tables (width (read_value s) s) c.requires.room (within_more a.tables.now.reach _ _ _ _ (Ok c.read_parts.new.tables.reach) w.1 (omega (arith, w.1)) e.within) e.kept e.reads a.seen.now c.is_stored.result c.is_stored.ensures.value c.if-is_stored.false

pub returns-clause-rest : goal.returns-clause-rest
returns-clause-rest c =
    let a = c.args in
    let s = a.s.now in
    let i : get_or s 0 0 ≡ code "{" = search rules in
    let e = c.in_ok-rest.ensures in
    e.rest ∙ object_rest s (take (length s - 1) (drop 1 s)) (eq-eqb (get_or s 0 0) (code "{") i) (take_rest 1 s) c.requires.json.0

pub returns-clause-within : goal.returns-clause-within
returns-clause-within c =
    let a = c.args in
    let s = a.s.now in
    let i : get_or s 0 0 ≡ code "{" = search rules in
    let e = c.in_ok-rest.ensures in
    let w = object_width s (take (length s - 1) (drop 1 s)) (eq-eqb (get_or s 0 0) (code "{") i) (take_rest 1 s) c.requires.json.0 in
    within_more a.tables.now.reach _ _ _ _ (Ok c.read_parts.new.tables.reach) w.1 (omega (arith, w.1)) e.within

pub returns-clause-keys_marked : goal.returns-clause-keys_marked
returns-clause-keys_marked c =
    let a = c.args in
    let s = a.s.now in
    let i : get_or s 0 0 ≡ code "{" = search rules in
    let e = c.in_ok-rest.ensures in
    let w = object_width s (take (length s - 1) (drop 1 s)) (eq-eqb (get_or s 0 0) (code "{") i) (take_rest 1 s) c.requires.json.0 in
    keys_marked s (take (length s - 1) (drop 1 s)) (eq-eqb (get_or s 0 0) (code "{") i) (take_rest 1 s) c.requires.json.0 a.tables.now c.read_parts.new.tables (width (read_value s) s) c.requires.room (within_more a.tables.now.reach _ _ _ _ (Ok c.read_parts.new.tables.reach) w.1 (omega (arith, w.1)) e.within) e.kept e.reads a.seen.now c.is_stored.result c.is_stored.ensures.value c.if-is_stored.false c.is_stored.new.seen.marks c.is_stored.ensures.marked
