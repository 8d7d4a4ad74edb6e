-- A value, an array, an object, a record and a field meet their contracts together. Each answer cites the law of its way (`ValueForms`, `ValueItems`,
-- `ValueFields`). Assumes nothing.
use Prim.Native.Char.{code}
use Rattle.std.proofs.Common.{arith, ◌≡◌, sym, ap, ◌∙◌, subst, List, ℕ, suc, ◌+◌, ◌-◌, ◌≤◌, length, IsSome}
use lib.ListN.{get_or}
use borrow.Author.Tests.{eq-eqb, ne_eqb}
use Rattle.std.specs.Prelude.{option_map}
use Rattle.buffers.proofs.Appending.{take_rest}
use Rattle.format.specs.Limits.{levels}
use Rattle.format.proofs.Outcomes.{handed_on}
use Rattle.json_text.specs.Post.{next_of}
use Rattle.json_text.specs.Syntax.{Next, first_part, next_part, read_value}
use Rattle.json_text.specs.Walk.{bytes_ahead}
use Rattle.pack.specs.Marks.{Marked}
use Rattle.pack.specs.Post.{pack_of}
use Rattle.json_entities.specs.Shape.{is_reserved}
use Rattle.json_entities.specs.Read.{value_laid, array_laid, object_laid}
use Rattle.json_entities.specs.Post.{members_in, rest_in, width, GoesOn}
use Rattle.json_entities.specs.Walk.{members_at, members_behind, width_ahead}
use Rattle.json_text.proofs.Lengths.{of_mapped}
use Rattle.json_text.proofs.Rules.{first_shorter}
use Rattle.json_entities.proofs.ValueAlong.{room_less, within_less, room_behind}
use Rattle.json_entities.proofs.ValueForms.{in_array, value_array, in_object, value_object, scalar_is, value_long, value_deep, value_alike, object_record, reference_at}
use Rattle.json_entities.proofs.ValueItems.{items_start, items_end, item_there, item_room, items_refused, item_followed, items_smaller, items_on, array_lost, array_stored}
use Rattle.json_entities.proofs.ValueFields.{fields_start, marked_here, fields_end, field_there, field_room, fields_refused, field_followed, fields_smaller, fields_on, record_lost, record_stored, name_there, name_fits, field_started, field_reserved, field_refused, field_twice, field_done}
use Rattle.values.proofs.FieldLaws.{names_before, looked_up}
use Rattle.json_entities.proofs.value.+value.Goals as goal

-- ---- a value

pub read_value-bounds-s-0 : goal.read_value-bounds-s-0
read_value-bounds-s-0 t c = omega (arith, value_long c.args.s.now c.requires.json)

pub read_value-returns-then-depth-gt-MAX_VALUE_DEPTH-clause-reads : goal.read_value-returns-then-depth-gt-MAX_VALUE_DEPTH-clause-reads
read_value-returns-then-depth-gt-MAX_VALUE_DEPTH-clause-reads t c = value_deep (levels - c.args.depth) _ _ (omega (arith, c.if-depth-gt-MAX_VALUE_DEPTH.true))

pub read_value-read_array-requires : goal.read_value-read_array-requires
read_value-read_array-requires t c =
    let s : List ℕ = c.args.s.now in
    let i = in_array s _ (take_rest 1 s) c.requires.json (eq-eqb (get_or s 0 0) (code "[") (omega arith)) in
    (omega (arith, c.decreases, i.shorter), (i.there, rw i.width at c.requires.room))

pub read_value-returns-in-91-clause-reads : goal.read_value-returns-in-91-clause-reads
read_value-returns-in-91-clause-reads t c =
    let k : levels - c.args.depth ≡ suc (levels - (c.args.depth + 1)) = omega (arith, c.if-depth-gt-MAX_VALUE_DEPTH.false) in
    let s : List ℕ = c.args.s.now in
    c.read_array.ensures.reads ∙ value_array s _ (take_rest 1 s) c.requires.json (eq-eqb (get_or s 0 0) (code "[") (omega arith)) _ _ k _

pub read_value-returns-in-91-clause-rest : goal.read_value-returns-in-91-clause-rest
read_value-returns-in-91-clause-rest t c =
    let s : List ℕ = c.args.s.now in
    let i = in_array s _ (take_rest 1 s) c.requires.json (eq-eqb (get_or s 0 0) (code "[") (omega arith)) in
    rw i.rest c.read_array.ensures.rest

pub read_value-returns-in-91-clause-within : goal.read_value-returns-in-91-clause-within
read_value-returns-in-91-clause-within t c =
    let s : List ℕ = c.args.s.now in
    let i = in_array s _ (take_rest 1 s) c.requires.json (eq-eqb (get_or s 0 0) (code "[") (omega arith)) in
    within_less _ _ c.args.tables.now c.read_array.new.tables c.read_array.result (omega (arith, i.width)) c.read_array.ensures.within

pub read_value-read_object-requires : goal.read_value-read_object-requires
read_value-read_object-requires t c =
    let s : List ℕ = c.args.s.now in
    let i = in_object s _ (take_rest 1 s) c.requires.json (eq-eqb (get_or s 0 0) (code "{") (omega arith)) in
    (omega (arith, c.decreases, i.shorter), (i.there, rw i.width at c.requires.room))

pub read_value-returns-in-123-clause-reads : goal.read_value-returns-in-123-clause-reads
read_value-returns-in-123-clause-reads t c =
    let k : levels - c.args.depth ≡ suc (levels - (c.args.depth + 1)) = omega (arith, c.if-depth-gt-MAX_VALUE_DEPTH.false) in
    let s : List ℕ = c.args.s.now in
    c.read_object.ensures.reads ∙ value_object s _ (take_rest 1 s) c.requires.json (eq-eqb (get_or s 0 0) (code "{") (omega arith)) _ _ k _

pub read_value-returns-in-123-clause-rest : goal.read_value-returns-in-123-clause-rest
read_value-returns-in-123-clause-rest t c =
    let s : List ℕ = c.args.s.now in
    let i = in_object s _ (take_rest 1 s) c.requires.json (eq-eqb (get_or s 0 0) (code "{") (omega arith)) in
    rw i.rest c.read_object.ensures.rest

pub read_value-returns-in-123-clause-within : goal.read_value-returns-in-123-clause-within
read_value-returns-in-123-clause-within t c =
    let s : List ℕ = c.args.s.now in
    let i = in_object s _ (take_rest 1 s) c.requires.json (eq-eqb (get_or s 0 0) (code "{") (omega arith)) in
    within_less _ _ c.args.tables.now c.read_object.new.tables c.read_object.result (omega (arith, i.width)) c.read_object.ensures.within

pub read_value-read_scalar-requires-clause-json : goal.read_value-read_scalar-requires-clause-json
read_value-read_scalar-requires-clause-json t c =
    let s : List ℕ = c.args.s.now in
    subst IsSome (scalar_is s (ne_eqb (get_or s 0 0) (code "[") (omega arith)) (ne_eqb (get_or s 0 0) (code "{") (omega arith))) c.requires.json

pub read_value-read_scalar-requires-clause-room : goal.read_value-read_scalar-requires-clause-room
read_value-read_scalar-requires-clause-room t c =
    let s : List ℕ = c.args.s.now in
    let is = scalar_is s (ne_eqb (get_or s 0 0) (code "[") (omega arith)) (ne_eqb (get_or s 0 0) (code "{") (omega arith)) in
    rw is at c.requires.room

pub read_value-returns-in_default-clause-reads : goal.read_value-returns-in_default-clause-reads
read_value-returns-in_default-clause-reads t c =
    let k : levels - c.args.depth ≡ suc (levels - (c.args.depth + 1)) = omega (arith, c.if-depth-gt-MAX_VALUE_DEPTH.false) in
    let s : List ℕ = c.args.s.now in
    c.read_scalar.ensures.reads ∙ value_alike s (ne_eqb (get_or s 0 0) (code "[") (omega arith)) (ne_eqb (get_or s 0 0) (code "{") (omega arith)) _ _ k _

pub read_value-returns-in_default-clause-rest : goal.read_value-returns-in_default-clause-rest
read_value-returns-in_default-clause-rest t c =
    let s : List ℕ = c.args.s.now in
    let is = scalar_is s (ne_eqb (get_or s 0 0) (code "[") (omega arith)) (ne_eqb (get_or s 0 0) (code "{") (omega arith)) in
    rw is c.read_scalar.ensures.rest

pub read_value-returns-in_default-clause-within : goal.read_value-returns-in_default-clause-within
read_value-returns-in_default-clause-within t c =
    let s : List ℕ = c.args.s.now in
    let is = scalar_is s (ne_eqb (get_or s 0 0) (code "[") (omega arith)) (ne_eqb (get_or s 0 0) (code "{") (omega arith)) in
    rw is c.read_scalar.ensures.within

-- ---- an array

pub read_array-loop-next-init : goal.read_array-loop-next-init
read_array-loop-next-init t c =
    let s : List ℕ = c.args.s.now in
    let a = c.append_node.ensures in
    items_start _ (length s) _ _ (first_part (code "]") s) c.first_part-next.ensures c.requires.json (first_shorter (code "]") s) (room_behind _ a.added a.kept c.requires.room)

pub read_array-read_value-requires : goal.read_array-read_value-requires
read_array-read_value-requires t c =
    let r : List ℕ = c.in-Part.item.now in
    let g = rw c.in-Part.is at c.loop-next.invariant in
    (omega (arith, c.decreases, g.along.count_fits), (item_there r g, item_room r g))

pub read_array-returns-in_err-rest-in-Part-clause-reads : goal.read_array-returns-in_err-rest-in-Part-clause-reads
unfolding value_laid array_laid
read_array-returns-in_err-rest-in-Part-clause-reads t c =
    let r : List ℕ = c.in-Part.item.now in
    let g = rw c.in-Part.is at c.loop-next.invariant in
    rw (handed_on _ c.from_residual.ensures.1) (array_lost c.append_node.ensures.added _ _ _ (items_refused r g _ c.in_err-rest-in-Part.ensures.reads))

pub read_array-unwrap-next-requires : goal.read_array-unwrap-next-requires
read_array-unwrap-next-requires t c =
    let r : List ℕ = c.in-Part.item.now in
    let g = rw c.in-Part.is at c.loop-next.invariant in
    of_mapped next_of c.next_part.result
    (subst IsSome (sym (c.next_part.ensures ∙ ap (next_part (code "]")) c.in_ok-rest-in-Part.ensures.rest)) (item_followed r g))

pub read_array-loop-next-smaller : goal.read_array-loop-next-smaller
read_array-loop-next-smaller t c =
    let r : List ℕ = c.in-Part.item.now in
    let g = rw c.in-Part.is at c.loop-next.invariant in
    let e = c.next_part.ensures ∙ ap (next_part (code "]")) c.in_ok-rest-in-Part.ensures.rest in
    rw c.in-Part.is (items_smaller r g (next_of c.unwrap-next.result) (sym e ∙ ap (option_map next_of) c.unwrap-next.ensures))

pub read_array-loop-next-preserved : goal.read_array-loop-next-preserved
unfolding value_laid
read_array-loop-next-preserved t c =
    let r : List ℕ = c.in-Part.item.now in
    let g = rw c.in-Part.is at c.loop-next.invariant in
    let e = c.next_part.ensures ∙ ap (next_part (code "]")) c.in_ok-rest-in-Part.ensures.rest in
    let v = c.in_ok-rest-in-Part.ensures in
    items_on r g c.read_value.new.tables (next_of c.unwrap-next.result) v.reads v.within v.kept (sym e ∙ ap (option_map next_of) c.unwrap-next.ensures)

pub read_array-returns-in-End-clause-reads : goal.read_array-returns-in-End-clause-reads
unfolding array_laid
read_array-returns-in-End-clause-reads t c =
    let z = items_end c.in-End.rest.now (rw c.in-End.is at c.loop-next.invariant) in
    array_stored c.append_node.ensures.added _ _ c.loop-next.tables c.loop-next.n (omega (arith, c.requires.room)) z.0 z.2

-- ---- an object

pub read_object-read_alone-requires-clause-json : goal.read_object-read_alone-requires-clause-json
read_object-read_alone-requires-clause-json t c =
    let f = c.first_part-first.ensures in
    let a = reference_at (next_of c.first_part-first.result) c.in-Some.value.now (rw f c.requires.json) c.in-Some.ensures.0 c.in-Some.ensures.1 in
    (a.there, a.follows)

pub read_object-read_alone-requires-clause-room : goal.read_object-read_alone-requires-clause-room
read_object-read_alone-requires-clause-room t c =
    let s : List ℕ = c.args.s.now in
    let f = c.first_part-first.ensures in
    let a = reference_at (next_of c.first_part-first.result) c.in-Some.value.now (rw f c.requires.json) c.in-Some.ensures.0 c.in-Some.ensures.1 in
    let fits = a.fits in
    let l : width (read_value c.in-Some.value.now) c.in-Some.value.now ≤ width (members_behind s) s + 1 = omega (arith, rw f at fits, first_shorter (code "}") s) in
    room_less c.args.tables.now _ _ l c.requires.room

pub read_object-returns-in-Some-clause-reads : goal.read_object-returns-in-Some-clause-reads
read_object-returns-in-Some-clause-reads t c =
    let f = c.first_part-first.ensures in
    let a = reference_at (next_of c.first_part-first.result) c.in-Some.value.now (rw f c.requires.json) c.in-Some.ensures.0 c.in-Some.ensures.1 in
    c.read_alone.ensures.reads ∙ a.laid (levels - c.args.depth) _ ∙ ap (λ (x : Next). object_laid (levels - c.args.depth) (members_in (members_at x)) (pack_of c.args.tables.now)) f

pub read_object-returns-in-Some-clause-rest : goal.read_object-returns-in-Some-clause-rest
read_object-returns-in-Some-clause-rest t c =
    let f = c.first_part-first.ensures in
    let a = reference_at (next_of c.first_part-first.result) c.in-Some.value.now (rw f c.requires.json) c.in-Some.ensures.0 c.in-Some.ensures.1 in
    subst (λ (r : List ℕ). GoesOn r c.read_alone.result) (sym a.rest ∙ ap (λ (x : Next). rest_in (members_at x)) f) c.read_alone.ensures.rest

pub read_object-returns-in-Some-clause-within : goal.read_object-returns-in-Some-clause-within
read_object-returns-in-Some-clause-within t c =
    let s : List ℕ = c.args.s.now in
    let f = c.first_part-first.ensures in
    let a = reference_at (next_of c.first_part-first.result) c.in-Some.value.now (rw f c.requires.json) c.in-Some.ensures.0 c.in-Some.ensures.1 in
    let fits = a.fits in
    let l : width (read_value c.in-Some.value.now) c.in-Some.value.now ≤ width (members_behind s) s + 1 = omega (arith, rw f at fits, first_shorter (code "}") s) in
    within_less _ _ c.args.tables.now c.read_alone.new.tables c.read_alone.result l c.read_alone.ensures.within

pub read_object-read_record-requires : goal.read_object-read_record-requires
read_object-read_record-requires t c =
    let s : List ℕ = c.args.s.now in
    let f = c.first_part-first.ensures in
    let l : width_ahead (members_behind s) (first_part (code "}") s) + 1 ≤ width (members_behind s) s + 1 = omega (arith, first_shorter (code "}") s) in
    (omega (arith, c.decreases, first_shorter (code "}") s, ap bytes_ahead f), (rw f c.requires.json, rw f (room_less c.args.tables.now _ _ l c.requires.room)))

pub read_object-returns-clause-reads : goal.read_object-returns-clause-reads
read_object-returns-clause-reads t c =
    let f = c.first_part-first.ensures in
    c.read_record.ensures.reads ∙ object_record _ _ _ c.in_default.ensures ∙ ap (λ (x : Next). object_laid (levels - c.args.depth) (members_in (members_at x)) (pack_of c.args.tables.now)) f

pub read_object-returns-clause-within : goal.read_object-returns-clause-within
read_object-returns-clause-within t c =
    let s : List ℕ = c.args.s.now in
    let f = c.first_part-first.ensures in
    let l : width_ahead (members_behind s) (first_part (code "}") s) + 1 ≤ width (members_behind s) s + 1 = omega (arith, first_shorter (code "}") s) in
    within_less _ _ c.args.tables.now c.read_record.new.tables c.read_record.result l (rw f at c.read_record.ensures.within)

-- ---- a record

pub read_record-loop-next-init : goal.read_record-loop-next-init
read_record-loop-next-init t c =
    let a = c.append_node.ensures in
    let seen = c.new-seen.ensures in
    fields_start _ _ _ (next_of c.args.first) _ c.requires.json (omega arith) (room_behind _ a.added a.kept c.requires.room) seen.start seen.marked

pub read_record-read_field-requires : goal.read_record-read_field-requires
read_record-read_field-requires t c =
    let r : List ℕ = c.in-Part.member.now in
    let g = rw c.in-Part.is at c.loop-next.invariant in
    (omega (arith, c.decreases, g.along.count_fits), (field_there r g, (field_room r g, marked_here g)))

pub read_record-returns-in_err-rest-in-Part-clause-reads : goal.read_record-returns-in_err-rest-in-Part-clause-reads
read_record-returns-in_err-rest-in-Part-clause-reads t c =
    let r : List ℕ = c.in-Part.member.now in
    let g = rw c.in-Part.is at c.loop-next.invariant in
    rw (handed_on _ c.from_residual.ensures.1) (record_lost c.append_node.ensures.added _ _ _ (fields_refused r g _ c.in_err-rest-in-Part.ensures.reads))

pub read_record-unwrap-next-requires : goal.read_record-unwrap-next-requires
read_record-unwrap-next-requires t c =
    let r : List ℕ = c.in-Part.member.now in
    let g = rw c.in-Part.is at c.loop-next.invariant in
    of_mapped next_of c.next_part.result
    (subst IsSome (sym (c.next_part.ensures ∙ ap (next_part (code "}")) c.in_ok-rest-in-Part.ensures.rest)) (field_followed r g))

pub read_record-loop-next-smaller : goal.read_record-loop-next-smaller
read_record-loop-next-smaller t c =
    let r : List ℕ = c.in-Part.member.now in
    let g = rw c.in-Part.is at c.loop-next.invariant in
    let e = c.next_part.ensures ∙ ap (next_part (code "}")) c.in_ok-rest-in-Part.ensures.rest in
    rw c.in-Part.is (fields_smaller r g (next_of c.unwrap-next.result) (sym e ∙ ap (option_map next_of) c.unwrap-next.ensures))

pub read_record-loop-next-preserved : goal.read_record-loop-next-preserved
read_record-loop-next-preserved t c =
    let r : List ℕ = c.in-Part.member.now in
    let g = rw c.in-Part.is at c.loop-next.invariant in
    let e = c.next_part.ensures ∙ ap (next_part (code "}")) c.in_ok-rest-in-Part.ensures.rest in
    let v = c.in_ok-rest-in-Part.ensures in
    fields_on r g c.read_field.new.tables _ (next_of c.unwrap-next.result) v.reads v.within v.kept v.marked_after (v.counted.0, ap (λ n. n + 1) v.counted.1)
    (sym e ∙ ap (option_map next_of) c.unwrap-next.ensures)

pub read_record-returns-in-End-clause-reads : goal.read_record-returns-in-End-clause-reads
read_record-returns-in-End-clause-reads t c =
    let z = fields_end c.in-End.rest.now (rw c.in-End.is at c.loop-next.invariant) in
    record_stored c.append_node.ensures.added _ _ c.loop-next.tables c.loop-next.seen.count (omega (arith, c.requires.room)) z.0 z.2

-- ---- a field

pub read_field-append_name-value-requires-clause-json : goal.read_field-append_name-value-requires-clause-json
read_field-append_name-value-requires-clause-json t c = name_there c.args.s.now c.requires.json

pub read_field-append_name-value-requires-clause-room : goal.read_field-append_name-value-requires-clause-room
read_field-append_name-value-requires-clause-room t c = omega (arith, c.requires.room, name_fits c.args.s.now c.requires.json)

pub read_field-is_reserved_behind-requires : goal.read_field-is_reserved_behind-requires
read_field-is_reserved_behind-requires t c =
    let n = c.append_name-value.ensures in
    (field_started c.args.s.now c.requires.json c.append_name-value.result.now c.args.tables.now c.append_name-value.new.tables c.requires.room n.lays n.moved n.kept n.rest).appended

pub read_field-returns-then-is_reserved_behind-clause-reads : goal.read_field-returns-then-is_reserved_behind-clause-reads
read_field-returns-then-is_reserved_behind-clause-reads t c =
    let n = c.append_name-value.ensures in
    let f = field_started c.args.s.now c.requires.json c.append_name-value.result.now c.args.tables.now c.append_name-value.new.tables c.requires.room n.lays n.moved n.kept n.rest in
    field_reserved _ _ _ _ (sym (ap is_reserved f.name) ∙ sym c.is_reserved_behind.ensures ∙ c.if-is_reserved_behind.true)

pub read_field-is_seen-twice-requires : goal.read_field-is_seen-twice-requires
read_field-is_seen-twice-requires t c =
    let n = c.append_name-value.ensures in
    let f = field_started c.args.s.now c.requires.json c.append_name-value.result.now c.args.tables.now c.append_name-value.new.tables c.requires.room n.lays n.moved n.kept n.rest in (
      f.appended,
      subst (λ (xs : List (List ℕ)). Marked c.args.seen.now.marks xs)
          (sym (names_before c.args.tables.now c.append_name-value.new.tables _ c.requires.room (omega (arith, f.nodes)) f.texts_up f.laid c.args.seen.now)) c.requires.marked,
    )

pub read_field-read_value-requires : goal.read_field-read_value-requires
read_field-read_value-requires t c =
    let n = c.append_name-value.ensures in
    let f = field_started c.args.s.now c.requires.json c.append_name-value.result.now c.args.tables.now c.append_name-value.new.tables c.requires.room n.lays n.moved n.kept n.rest in
    (omega (arith, c.decreases, f.shorter), (f.there, f.room))

pub read_field-returns-in_err-rest-clause-reads : goal.read_field-returns-in_err-rest-clause-reads
read_field-returns-in_err-rest-clause-reads t c =
    let n = c.append_name-value.ensures in
    let f = field_started c.args.s.now c.requires.json c.append_name-value.result.now c.args.tables.now c.append_name-value.new.tables c.requires.room n.lays n.moved n.kept n.rest in
    let free = sym (ap is_reserved f.name) ∙ sym c.is_reserved_behind.ensures ∙ c.if-is_reserved_behind.false in
    rw (handed_on _ c.from_residual.ensures.1) (field_refused _ _ _ _ free _ _ (rw f.tree at c.in_err-rest.ensures.reads))

pub read_field-returns-then-twice-clause-reads : goal.read_field-returns-then-twice-clause-reads
read_field-returns-then-twice-clause-reads t c =
    let n = c.append_name-value.ensures in
    let f = field_started c.args.s.now c.requires.json c.append_name-value.result.now c.args.tables.now c.append_name-value.new.tables c.requires.room n.lays n.moved n.kept n.rest in
    let free = sym (ap is_reserved f.name) ∙ sym c.is_reserved_behind.ensures ∙ c.if-is_reserved_behind.false in
    let twice = c.is_seen-twice in
    let looked = looked_up c.args.tables.now c.append_name-value.new.tables _ c.requires.room (omega (arith, f.nodes)) f.texts_up f.laid c.args.seen.now twice.result twice.new.seen.marks twice.ensures.value twice.ensures.marked in
    field_twice _ _ _ _ free _ _ (sym looked.0 ∙ c.if-twice.true) (rw f.tree at c.in_ok-rest.ensures.reads)

pub read_field-returns-clause-reads : goal.read_field-returns-clause-reads
read_field-returns-clause-reads t c =
    let n = c.append_name-value.ensures in
    let f = field_started c.args.s.now c.requires.json c.append_name-value.result.now c.args.tables.now c.append_name-value.new.tables c.requires.room n.lays n.moved n.kept n.rest in
    let free = sym (ap is_reserved f.name) ∙ sym c.is_reserved_behind.ensures ∙ c.if-is_reserved_behind.false in
    let twice = c.is_seen-twice in
    let looked = looked_up c.args.tables.now c.append_name-value.new.tables _ c.requires.room (omega (arith, f.nodes)) f.texts_up f.laid c.args.seen.now twice.result twice.new.seen.marks twice.ensures.value twice.ensures.marked in
    field_done _ _ _ _ free _ (sym looked.0 ∙ c.if-twice.false) (rw (f.tree, f.laid) at c.in_ok-rest.ensures.reads)

pub read_field-returns-clause-rest : goal.read_field-returns-clause-rest
read_field-returns-clause-rest t c =
    let n = c.append_name-value.ensures in
    let f = field_started c.args.s.now c.requires.json c.append_name-value.result.now c.args.tables.now c.append_name-value.new.tables c.requires.room n.lays n.moved n.kept n.rest in
    c.in_ok-rest.ensures.rest ∙ sym f.rest

pub read_field-returns-clause-within : goal.read_field-returns-clause-within
read_field-returns-clause-within t c =
    let n = c.append_name-value.ensures in
    let f = field_started c.args.s.now c.requires.json c.append_name-value.result.now c.args.tables.now c.append_name-value.new.tables c.requires.room n.lays n.moved n.kept n.rest in
    let w = c.in_ok-rest.ensures.within in
    omega (arith, f.nodes, f.texts_up, f.texts_fit, f.nodes_fit)

pub read_field-returns-clause-marked_after : goal.read_field-returns-clause-marked_after
read_field-returns-clause-marked_after t c =
    let n = c.append_name-value.ensures in
    let f = field_started c.args.s.now c.requires.json c.append_name-value.result.now c.args.tables.now c.append_name-value.new.tables c.requires.room n.lays n.moved n.kept n.rest in
    let twice = c.is_seen-twice in
    (looked_up c.args.tables.now c.append_name-value.new.tables _ c.requires.room (omega (arith, f.nodes)) f.texts_up f.laid c.args.seen.now twice.result twice.new.seen.marks twice.ensures.value twice.ensures.marked).1
