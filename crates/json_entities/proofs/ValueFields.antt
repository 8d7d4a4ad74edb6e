-- The fields of a record, read in turn, as `ValueItems` has the items of an array: the fields read so far are kept as a tree, so that their names are
-- known. And what one field lays down, for each way that reading it ends.
-- Assumes nothing.
use mathlib.Core.Path.{◌≡◌, refl, sym, ap, ◌∙◌, subst}
use mathlib.Core.Bool.{Bool, true, false, cond}
use mathlib.Core.List.{List, [], ◌∷◌, ◌++◌}
use Prim.Native.Char.{code}
use Prim.Native.Nat.{ℕ, suc, ◌+◌, ◌-◌, ◌*◌, ◌≤◌, ◌<◌}
use native.Mathlib.Omega.{arith}
use lib.ListN.{length, set}
use Rattle.buffers.specs.Same.{among}
use Rattle.format.specs.declared.Refusal.{Refusal}
use Rattle.format.specs.Kinds.{record_kind, text_kind}
use Rattle.format.specs.Refusals.{not_entities, duplicate_field}
use Rattle.format.specs.Outcome.{Outcome, ok, refused, and_then, mapped}
use Rattle.json_text.specs.Json.{Json, Members, no_member, member}
use Rattle.json_text.specs.Syntax.{Next, part, end, next_part, member_name, read_value, read_members}
use Rattle.json_text.specs.Walk.{bytes_ahead}
use Rattle.json_text.specs.Post.{text_in}
use Rattle.pack.specs.Value.{Value, Fields, no_field, field, count_fields, names}
use Rattle.pack.specs.Pack.{Pack, append_text, append_value, append_fields}
use Rattle.pack.specs.LaidDown.{laid_down}
use Rattle.pack.specs.declared.Tables.{Tables}
use Rattle.pack.specs.Added.{Added}
use Rattle.pack.specs.Marks.{Marked}
use Rattle.pack.specs.declared.Seen.{Seen}
use Rattle.pack.specs.Seen.{texts_seen}
use Rattle.pack.specs.Post.{pack_at, pack_of, text_behind, Appended, Moved, Within, Kept}
use Rattle.pack.proofs.Appended.{node_added, text_behind as behind_is}
use Rattle.pack.proofs.Laid.{names_front, and_field, append_field, names_field, count_field}
use Rattle.values.specs.declared.Names.TheVariants.{Decoded}
use Rattle.values.specs.Parse.{unless_seen}
use Rattle.values.specs.Read.{append_record}
use Rattle.values.proofs.ValueLaws.{CountedFields, record_done, record_refused, counted_field}
use Rattle.std.specs.Prelude.{None, Ok, Option, Some, IsSome}
use Rattle.std.proofs.lemmas.Option.{some_pair_parts}
use Rattle.json_entities.specs.Shape.{is_reserved, fields_by, value_of}
use Rattle.json_entities.specs.Read.{value_laid, record_laid}
use Rattle.json_entities.specs.Post.{json_in, members_in, rest_in, width, RoomFor}
use Rattle.json_entities.specs.Walk.{members_at, read_member, member_in, field_value, field_laid}
use Rattle.json_text.proofs.Rules.{members_shorter}
use Rattle.json_entities.proofs.JsonSteps.{rest_ahead, MemberRead, member_read}
use Rattle.json_entities.proofs.ValueAlong.{Along, along_start, along_room, along_on, along_end}
use Rattle.values.proofs.FieldLaws.{field_refused_at, field_twice_at, field_done_at}
use Rattle.values.proofs.RecordLaws.{bind_field}

-- ---- as many fields as members

unfoldable pub how_many : Members → ℕ
how_many no_member = 0
how_many (member x j ms) = suc (how_many ms)

-- a reserved name is refused before what belongs to it is read
reserved_first : {A B : Type 0} (b : Bool) (e : Refusal) (o : Outcome A) (f : A → Outcome B) → and_then (cond b (refused e) o) f ≡ cond b (refused e) (and_then o f)
reserved_first true e o f = refl
reserved_first false e o f = refl

module _ (p : Json → Outcome Value) where
  fields_first : (before : List (List ℕ)) (x : List ℕ) (j : Json) (ms : Members)
      → fields_by p before (member x j ms) ≡ and_then (field_value p before (x, j)) (λ v. mapped (field x v) (fields_by p (before ++ x ∷ []) ms))
  unfolding fields_by
  fields_first before x j ms = sym (reserved_first (is_reserved x) not_entities (unless_seen Decoded (among x before) (p j)) _)

  pub fields_counted : (before : List (List ℕ)) (ms : Members) → CountedFields (fields_by p before ms) (how_many ms)
  unfolding fields_by how_many count_fields
  fields_counted before no_member = refl
  fields_counted before (member x j ms) =
      rw (fields_first before x j ms) (counted_field x (field_value p before (x, j)) (fields_by p (before ++ x ∷ []) ms) (how_many ms) (fields_counted (before ++ x ∷ []) ms))

-- ---- the fields behind their node: the first, and then the others

module _ (k : ℕ) where
  unfoldable pub fields_laid : List (List ℕ) → Members → Pack → Outcome Pack
  fields_laid before ms q = laid_down append_fields q (fields_by (value_of k) before ms)

  fields_none : (before : List (List ℕ)) (q : Pack) → fields_laid before no_member q ≡ ok q
  unfolding fields_laid fields_by laid_down append_value
  fields_none before q = refl

  fields_more : (before : List (List ℕ)) (x : List ℕ) (j : Json) (ms : Members) (q : Pack)
      → and_then (field_laid k before (x, j) q) (fields_laid (before ++ x ∷ []) ms) ≡ fields_laid before (member x j ms) q
  unfolding field_laid fields_laid
  fields_more before x j ms q =
      bind_field x (field_value (value_of k) before (x, j)) (fields_by (value_of k) (before ++ x ∷ []) ms) q
      ∙ ap (laid_down append_fields q) (sym (fields_first (value_of k) before x j ms))

-- the fields fs behind p and one more of the name x are q
record FieldsOnward (fs : Fields) (x : List ℕ) (p q : Pack) : Type 0 where
  all : Fields
  laid : q ≡ append_fields all p
  named : names all ≡ names fs ++ x ∷ []
  many : count_fields all ≡ count_fields fs + 1

onward_by : (k : ℕ) (fs : Fields) (x : List ℕ) (j : Json) (p q r : Pack) → r ≡ append_fields fs p → ok q ≡ field_laid k (names fs) (x, j) r → FieldsOnward fs x p q
unfolding field_laid laid_down
onward_by k fs x j p q r e h = go (field_value (value_of k) (names fs) (x, j)) h
  where
    go : (y : Outcome Value) → ok q ≡ laid_down append_value (append_text text_kind x r) y → FieldsOnward fs x p q
    go (ok v) h = record {
      all = and_field fs x v;
      laid = let z : q ≡ append_value v (append_text text_kind x r) = cc in z ∙ rw e (sym (append_field fs x v p));
      named = names_field fs x v;
      many = count_field fs x v;
    }
    go (refused y) h = absurd cc

-- ---- the loop

pub record FieldsGoing (k : ℕ) (all : Option (Members × List ℕ)) (l : ℕ) (o t : Tables) (seen : Seen) (x : Next) : Type 0 where
  pub members : Members
  pub left : members_at x ≡ Some (members, rest_in all)
  pub first : seen.first ≡ o.reach.nodes
  pub fs : Fields
  pub laid : pack_of t ≡ append_fields fs (pack_of o)
  pub many : count_fields fs ≡ seen.count
  pub marked : Marked seen.marks (names fs)
  pub same : fields_laid k [] (members_in all) (pack_of o) ≡ fields_laid k (names fs) members (pack_of t)
  pub counted : how_many (members_in all) ≡ seen.count + how_many members
  pub along : Along l (length (rest_in all)) o t seen.count x

pub fields_start : (k l : ℕ) (o : Tables) (x : Next) (seen : Seen) → IsSome (members_at x) → bytes_ahead x ≤ l → RoomFor (l - length (rest_in (members_at x))) o
    → (seen.first ≡ o.reach.nodes) × (seen.count ≡ 0) → Marked seen.marks [] → FieldsGoing k (members_at x) l o o seen x
unfolding append_value count_fields names
fields_start k l o x seen is f room start marked = from (members_at x) refl is room
  where
    from : (all : Option (Members × List ℕ)) → members_at x ≡ all → IsSome all → RoomFor (l - length (rest_in all)) o → FieldsGoing k all l o o seen x
    from (Some a) e i room = record {
      members = a.0;
      left = e;
      first = start.0;
      fs = no_field;
      laid = refl;
      many = sym start.1;
      marked = marked;
      same = refl;
      counted = omega (arith, start.1);
      along = rw start.1 (along_start l (length a.1) o x room (rest_ahead no_member read_members members_shorter x a.0 a.1 e) f);
    }
    from None e i room = absurd (cc)

module _ {k : ℕ} {all : Option (Members × List ℕ)} {l : ℕ} {o t : Tables} {seen : Seen} where
  module _ {x : Next} (going : FieldsGoing k all l o t seen x) where
    names_here : texts_seen false seen (pack_of t) ≡ names going.fs
    names_here =
        let room = going.along.room in
        rw (going.first, ← going.many)
        (names_front going.fs o.reach t.reach o.kinds.now o.numbers.now o.texts.now t.kinds.now t.numbers.now t.texts.now (omega (arith, room.kinds)) (omega (arith, room.numbers))
        (omega (arith, room.short, going.along.texts_fit, going.along.left_fits, going.along.count_fits)) going.laid)

    -- the names read so far have their marks
    pub marked_here : Marked seen.marks (texts_seen false seen (pack_of t))
    marked_here = subst (λ (xs : List (List ℕ)). Marked seen.marks xs) (sym names_here) going.marked

  -- no member is left
  pub fields_end : (r : List ℕ) → FieldsGoing k all l o t seen (end r)
      → (ok (pack_of t) ≡ fields_laid k [] (members_in all) (pack_of o)) × (r ≡ rest_in all) × (seen.count ≡ how_many (members_in all))
      × Within o.reach (l - length (rest_in all)) (6 * (l - length (rest_in all))) (Ok t.reach)
  unfolding how_many
  fields_end r going =
      let here = some_pair_parts no_member going.members r (rest_in all) going.left in
      let none : no_member ≡ going.members = here.0 in (
        sym (fields_none k (names going.fs) (pack_of t)) ∙ ap (λ (ms : Members). fields_laid k (names going.fs) ms (pack_of t)) none ∙ sym going.same,
        here.1,
        omega (arith, going.counted, ap how_many none),
        along_end going.along,
      )

  module _ (r : List ℕ) (going : FieldsGoing k all l o t seen (part r)) where
    read : MemberRead r
    read = member_read r (rw going.left refl)

    same_parts : (member read.name read.value read.more ≡ going.members) × (read.rest ≡ rest_in all)
    same_parts = some_pair_parts (member read.name read.value read.more) going.members read.rest (rest_in all) (sym read.whole ∙ going.left)

    abbrev named : List (List ℕ)
    named = names going.fs

    -- what stands at this place, and that it has room
    pub field_there : IsSome (read_members r)
    field_there = rw going.left refl

    read_is : read_member r ≡ Some ((read.name, read.value), read.behind)
    read_is = rw (read.named.is, read.is) refl

    pub field_room : RoomFor (width (read_member r) r) t
    field_room = rw read_is (along_room going.along (length r - length read.behind) (omega (arith, read.at_fits, read.behind_fits, read.next_fits, read.rest_fits, ap length same_parts.1)))

    -- the fields behind this one
    abbrev others : Pack → Outcome Pack
    others q = fields_laid k (named ++ read.name ∷ []) read.more q

    rest : fields_laid k [] (members_in all) (pack_of o) ≡ and_then (field_laid k named (read.name, read.value) (pack_of t)) others
    rest =
        going.same ∙ ap (λ (ms : Members). fields_laid k named ms (pack_of t)) (sym same_parts.0)
        ∙ sym (fields_more k named read.name read.value read.more (pack_of t))

    field_is : field_laid k (texts_seen false seen (pack_of t)) (member_in (read_member r)) (pack_of t) ≡ field_laid k named (read.name, read.value) (pack_of t)
    field_is = rw (names_here going, read_is) refl

    -- a field that is refused
    pub fields_refused : (n : Refusal) → refused n ≡ field_laid k (texts_seen false seen (pack_of t)) (member_in (read_member r)) (pack_of t)
        → refused n ≡ fields_laid k [] (members_in all) (pack_of o)
    fields_refused n h = ap (λ (b : Outcome Pack). and_then b others) (h ∙ field_is) ∙ sym rest

    -- something follows it
    pub field_followed : IsSome (next_part (code "}") (rest_in (read_member r)))
    field_followed = rw (read_is, read.follows) refl

    pub fields_smaller : (y : Next) → next_part (code "}") (rest_in (read_member r)) ≡ Some y → bytes_ahead y < length r
    fields_smaller y n =
        let f = rw read_is at n in
        let g = read.follows in
        let follows : read.next ≡ y = cc in
        omega (arith, read.at_fits, read.behind_fits, read.next_fits, ap bytes_ahead follows)

    -- a field that is read, up to the tables u
    pub fields_on : (u : Tables) (after : Seen) (y : Next) → ok (pack_of u) ≡ field_laid k (texts_seen false seen (pack_of t)) (member_in (read_member r)) (pack_of t)
        → Within t.reach (width (read_member r) r) (6 * width (read_member r) r) (Ok u.reach) → Kept t u
        → Marked after.marks (texts_seen false seen (pack_of t) ++ (member_in (read_member r)).0 ∷ []) → (after.first ≡ seen.first) × (after.count ≡ seen.count + 1)
        → next_part (code "}") (rest_in (read_member r)) ≡ Some y → FieldsGoing k all l o u after y
    unfolding how_many
    fields_on u after y h w kept m is n =
        let f = rw read_is at n in
        let g = read.follows in
        let follows : read.next ≡ y = cc in
        let ends = ap length same_parts.1 in
        let width_is : width (read_member r) r ≡ length r - length read.behind = rw read_is refl in
        let h' = h ∙ field_is in
        let b = onward_by k going.fs read.name read.value (pack_of o) (pack_of u) (pack_of t) going.laid h' in
        record {
          members = read.more;
          left = rw (← follows, ← same_parts.1) read.left;
          first = is.0 ∙ going.first;
          fs = b.all;
          laid = b.laid;
          many = omega (arith, b.many, going.many, is.1);
          marked = rw b.named (rw (names_here going, read_is) at m);
          same = rest ∙ ap (λ (b : Outcome Pack). and_then b others) (sym h') ∙ ap (λ (ys : List (List ℕ)). fields_laid k ys read.more (pack_of u)) (sym b.named);
          counted = omega (arith, going.counted, ap how_many same_parts.0, is.1);
          along =
              rw is.1
              (rw follows at
              (along_on going.along (width (read_member r) r) u read.next w (omega (arith, read.at_fits, read.behind_fits, read.next_fits)) (omega (arith, read.rest_fits)) kept));
        }

-- ---- the record: its node was appended to the tables o, which gave n, and the fields are read behind it

pub laid_as_record : (r : Outcome Fields) (p : Pack) → laid_down append_value p (mapped Value.fields r) ≡ laid_down append_record p r
unfolding laid_down
laid_as_record (ok fs) p = refl
laid_as_record (refused e) p = refl

module _ {o n : Tables} (added : Added record_kind 0 o.reach.texts o n) (k : ℕ) (ms : Members) where
  -- a field was refused
  pub record_lost : (x : Refusal) → refused x ≡ fields_laid k [] ms (pack_of n) → refused x ≡ record_laid k ms (pack_of o)
  unfolding fields_laid record_laid
  record_lost x h = record_refused (fields_by (value_of k) [] ms) x _ _ h ∙ laid_as_record (fields_by (value_of k) [] ms) (pack_of o)

  -- all were read, up to the tables t, and their count was stored
  pub record_stored : (t : Tables) (c : ℕ) → o.reach.nodes ≤ length o.numbers.now → ok (pack_of t) ≡ fields_laid k [] ms (pack_of n) → c ≡ how_many ms
      → ok (pack_at t.reach t.kinds.now (set t.numbers.now o.reach.nodes c) t.texts.now) ≡ record_laid k ms (pack_of o)
  unfolding fields_laid record_laid
  record_stored t c l h e =
      record_done o.reach t.reach o.kinds.now o.numbers.now o.texts.now t.kinds.now t.numbers.now t.texts.now l _ c e (fields_by (value_of k) [] ms) (fields_counted (value_of k) [] ms)
      (rw (node_added added) at h)
      ∙ laid_as_record (fields_by (value_of k) [] ms) (pack_of o)

-- ---- one field, of the name and value m, behind the names `before`

-- the name of the member that s starts with was appended to the tables o, which gave n; its value stands at v
pub record FieldStarted (o n : Tables) (s v : List ℕ) : Type 0 where
  pub there : IsSome (read_value v)
  pub tree : json_in (read_value v) ≡ (member_in (read_member s)).1
  pub rest : rest_in (read_member s) ≡ rest_in (read_value v)
  pub laid : pack_of n ≡ append_text text_kind (member_in (read_member s)).0 (pack_of o)
  pub name : text_behind o.reach n ≡ (member_in (read_member s)).0
  pub appended : Appended o.reach n
  pub nodes : n.reach.nodes ≡ o.reach.nodes + 1
  pub texts_up : o.reach.texts ≤ n.reach.texts
  pub texts_fit : n.reach.texts + 6 * width (read_value v) v ≤ o.reach.texts + 6 * width (read_member s) s
  pub nodes_fit : width (read_value v) v + 1 ≤ width (read_member s) s
  pub room : RoomFor (width (read_value v) v) n
  pub shorter : length v < length s

module _ (s : List ℕ) (is : IsSome (read_members s)) where
  pub name_there : IsSome (member_name s)
  name_there = let m = member_read s is in rw m.named.is refl

  pub name_fits : length (text_in (member_name s)) < width (read_member s) s
  name_fits =
      let m = member_read s is in
      let whole : read_member s ≡ Some ((m.name, m.value), m.behind) = rw (m.named.is, m.is) refl in
      let name : text_in (member_name s) ≡ m.name = rw m.named.is refl in
      let behind : rest_in (read_member s) ≡ m.behind = rw whole refl in
      omega (arith, m.at_fits, m.behind_fits, ap length name, ap length behind)

  pub field_started : (v : List ℕ) (o n : Tables) → RoomFor (width (read_member s) s) o → pack_of n ≡ append_text text_kind (text_in (member_name s)) (pack_of o)
      → Moved 1 (length (text_in (member_name s))) o n → Kept o n → v ≡ rest_in (member_name s) → FieldStarted o n s v
  field_started v o n room lays moved kept at =
      let m = member_read s is in
      let whole : read_member s ≡ Some ((m.name, m.value), m.behind) = rw (m.named.is, m.is) refl in
      let value : v ≡ m.at = at ∙ rw m.named.is refl in
      let name : text_in (member_name s) ≡ (member_in (read_member s)).0 = rw (m.named.is, m.is) refl in
      let behind : rest_in (read_value v) ≡ m.behind = rw (value, m.is) refl in
      let rest : rest_in (read_member s) ≡ m.behind = rw whole refl in
      let named : text_in (member_name s) ≡ m.name = rw m.named.is refl in
      let laid : pack_of n ≡ append_text text_kind (member_in (read_member s)).0 (pack_of o) = lays ∙ ap (λ (x : List ℕ). append_text text_kind x (pack_of o)) name in
      let long = ap length named in
      let ends = ap length behind in
      let ends_too = ap length rest in
      let from = ap length value in
      record {
        there = rw (value, m.is) refl;
        tree = rw (value, m.is, whole) refl;
        rest = rest ∙ sym behind;
        laid = laid;
        name = behind_is o.reach n.reach o.kinds.now o.numbers.now o.texts.now n.kinds.now n.numbers.now n.texts.now text_kind _ (omega (arith, room.texts)) laid;
        appended = record {
          kinds = omega (arith, room.kinds, kept.kinds);
          numbers = omega (arith, room.numbers, kept.numbers);
          from = omega (arith, moved.1);
          texts = omega (arith, room.texts, kept.texts, moved.1, m.at_fits, m.behind_fits);
        };
        nodes = moved.0;
        texts_up = omega (arith, moved.1);
        texts_fit = omega (arith, moved.1, m.at_fits, m.behind_fits);
        nodes_fit = omega (arith, m.at_fits, m.behind_fits);
        room = record {
          kinds = omega (arith, room.kinds, kept.kinds, moved.0, m.at_fits, m.behind_fits);
          numbers = omega (arith, room.numbers, kept.numbers, moved.0, m.at_fits, m.behind_fits);
          texts = omega (arith, room.texts, kept.texts, moved.1, m.at_fits, m.behind_fits);
          few = omega (arith, room.few, moved.0, m.at_fits, m.behind_fits);
          short = omega (arith, room.short, moved.1, m.at_fits, m.behind_fits);
        };
        shorter = omega (arith, m.at_fits);
      }

module _ (k : ℕ) (before : List (List ℕ)) (m : List ℕ × Json) (p : Pack) where
  pub field_reserved : is_reserved m.0 ≡ true → refused not_entities ≡ field_laid k before m p
  unfolding field_laid laid_down
  field_reserved e = rw e

  module _ (free : is_reserved m.0 ≡ false) where
    pub field_refused : (e : Refusal) (q : Pack) → refused e ≡ value_laid k m.1 q → refused e ≡ field_laid k before m p
    unfolding field_laid value_laid
    field_refused e q h = rw free (field_refused_at Decoded e (among m.0 before) (value_of k m.1) _ q h)

    pub field_twice : (b q : Pack) → among m.0 before ≡ true → ok b ≡ value_laid k m.1 q → refused duplicate_field ≡ field_laid k before m p
    unfolding field_laid value_laid
    field_twice b q t h = rw (free, t) (field_twice_at Decoded (value_of k m.1) _ q b h)

    pub field_done : (b : Pack) → among m.0 before ≡ false → ok b ≡ value_laid k m.1 (append_text text_kind m.0 p) → ok b ≡ field_laid k before m p
    unfolding field_laid value_laid
    field_done b t h = rw (free, t) (field_done_at Decoded (value_of k m.1) _ b h)
