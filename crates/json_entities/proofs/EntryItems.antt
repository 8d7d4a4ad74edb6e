-- The loop over the entries: those read so far are kept as a tree, so that their stored keys are known; one law for each way on or out.
-- Assumes nothing.
use mathlib.Core.Path.{◌≡◌, refl, sym, ap, ◌∙◌, subst}
use mathlib.Core.Bool.{true}
use mathlib.Core.List.{List, [], ◌∷◌, ◌++◌}
use Prim.Native.Char.{code}
use Prim.Native.Nat.{ℕ, ◌+◌, ◌-◌, ◌*◌, ◌≤◌, ◌<◌}
use native.Mathlib.Omega.{arith}
use lib.ListN.{length, drop, set, length-drop}
use Rattle.std.specs.Prelude.{IsSome, None, Ok, Option, Some}
use Rattle.format.specs.Kinds.{record_kind}
use Rattle.format.specs.Outcome.{Outcome, ok, refused, and_then, mapped}
use Rattle.format.specs.Refusals.{not_entities}
use Rattle.format.specs.declared.Refusal.{Refusal}
use Rattle.json_text.specs.Json.{Json, Items, no_item, item}
use Rattle.json_text.specs.Parse.{starts}
use Rattle.json_text.specs.Syntax.{Next, part, end, first_part, next_part, read_value, read_items}
use Rattle.json_text.specs.Walk.{bytes_ahead}
use Rattle.pack.specs.Pack.{Pack}
use Rattle.pack.specs.Value.{Fields, Values}
use Rattle.pack.specs.LaidDown.{laid_down}
use Rattle.pack.specs.Marks.{Marked}
use Rattle.pack.specs.Added.{Added}
use Rattle.pack.specs.declared.Seen.{Seen}
use Rattle.pack.specs.Seen.{texts_seen, SameSeen}
use Rattle.pack.specs.declared.Tables.{Tables}
use Rattle.pack.specs.Post.{pack_at, pack_of, Within, Kept}
use Rattle.pack.proofs.Appended.{node_added}
use Rattle.entities.specs.Entries.{Entries, no_entry, entry, count_entries, stored_keys, append_entries, append_entities}
use Rattle.entities.specs.Parse.{Entry, with_entry}
use Rattle.entities.specs.Post.{KeysMarkedAfter}
use Rattle.entities.specs.Read.{key_bytes, append_entry}
use Rattle.entities.proofs.Laid.{entries_counted, keys_front, and_entry, entry_parts_read, keys_entry, count_entry}
use Rattle.json_entities.specs.Shape.{entry_of, entries_from, entries_of}
use Rattle.json_entities.specs.Read.{entry_laid, entities_laid}
use Rattle.json_entities.specs.Post.{json_in, items_in, rest_in, width, RoomFor}
use Rattle.json_entities.specs.Walk.{items_at, items_behind}
use Rattle.json_entities.specs.Parts.{value_in}
use Rattle.json_text.proofs.Rules.{first_shorter, items_shorter}
use Rattle.json_entities.proofs.JsonSteps.{by_start, rest_ahead, ArrayRead, array_read, ItemRead, item_read}
use Rattle.json_entities.proofs.ValueAlong.{Along, along_start, along_room, along_on, along_end}
use Rattle.json_entities.proofs.EntryParts.{LaidOk, laid_ok, laid_refused}

-- ---- entries, and others behind them

unfoldable pub joined : Entries → Entries → Entries
joined no_entry fs = fs
joined (entry a b c d es) fs = entry a b c d (joined es fs)

joined_none : (es : Entries) → joined es no_entry ≡ es
unfolding joined
joined_none no_entry = refl
joined_none (entry a b c d es) = ap (entry a b c d) (joined_none es)

joined_entry : (es : Entries) (ty id : List ℕ) (f : Fields) (ps : Values) (fs : Entries) → joined es (entry ty id f ps fs) ≡ joined (and_entry es ty id f ps) fs
unfolding joined and_entry
joined_entry no_entry ty id f ps fs = refl
joined_entry (entry a b c d es) ty id f ps fs = ap (entry a b c d) (joined_entry es ty id f ps fs)

abbrev and_read : Entries → Entry → Entries
and_read es e = and_entry es e.key.type e.key.id e.attributes e.parents

joined_read : (es : Entries) (e : Entry) (o : Outcome Entries) → mapped (joined es) (mapped (with_entry e) o) ≡ mapped (joined (and_read es e)) o
joined_read es e (ok fs) = ap ok (joined_entry es e.key.type e.key.id e.attributes e.parents fs)
joined_read es e (refused n) = refl

-- ---- the loop: entries were read, from the tables o to the tables t, and the others stand from the place x on; `all` stood in l bytes

pub record EntriesGoing (all : Option (Items × List ℕ)) (l : ℕ) (o t : Tables) (seen : Seen) (x : Next) : Type 0 where
  pub items : Items
  pub rest : List ℕ
  pub left : items_at x ≡ Some (items, rest)
  pub ends : rest_in all ≡ rest
  pub es : Entries
  pub same : entries_from [] (items_in all) ≡ mapped (joined es) (entries_from (stored_keys es) items)
  pub laid : pack_of t ≡ append_entries es (pack_of o)
  pub first : seen.first ≡ o.reach.nodes
  pub many : count_entries es ≡ seen.count
  pub marked : Marked seen.marks (stored_keys es)
  pub along : Along l (length (rest_in all)) o t seen.count x

joined_nothing : (o : Outcome Entries) → o ≡ mapped (joined no_entry) o
unfolding joined
joined_nothing (ok fs) = refl
joined_nothing (refused n) = refl

pub entries_start : (l : ℕ) (o : Tables) (seen : Seen) (x y : Next) → x ≡ y → IsSome (items_at y) → bytes_ahead y ≤ l → RoomFor (l - length (rest_in (items_at y))) o → (seen.first ≡ o.reach.nodes) × (seen.count ≡ 0) → Marked seen.marks []
    → EntriesGoing (items_at y) l o o seen x
unfolding append_entries count_entries stored_keys
entries_start l o seen x y e h f room start marked = rw e (from (items_at y) refl h room)
  where
    from : (all : Option (Items × List ℕ)) → items_at y ≡ all → IsSome all → RoomFor (l - length (rest_in all)) o → EntriesGoing all l o o seen y
    from (Some a) d i space = record {
      items = a.0;
      rest = a.1;
      left = d;
      ends = refl;
      es = no_entry;
      same = joined_nothing (entries_from [] a.0);
      laid = refl;
      first = start.0;
      many = sym start.1;
      marked = marked;
      along = rw start.1 (along_start l (length a.1) o y space (rest_ahead no_item read_items items_shorter y a.0 a.1 d) f);
    }
    from None d i space = absurd (cc)

module _ {all : Option (Items × List ℕ)} {l : ℕ} {o t : Tables} {seen : Seen} where
  -- no entry is left
  pub entries_end : (r : List ℕ) (going : EntriesGoing all l o t seen (end r))
      → (entries_from [] (items_in all) ≡ ok going.es) × Within o.reach (l - length (rest_in all)) (6 * (l - length (rest_in all))) (Ok t.reach)
  unfolding entries_from
  entries_end r going =
      let q : ◌≡◌ {A = Items × List ℕ} (no_item, r) (going.items, going.rest) = cc going.left in
      let none = ap (λ (p : Items × List ℕ). p.0) q in
      let here : rest_in all ≡ r = going.ends ∙ sym (ap (λ (p : Items × List ℕ). p.1) q) in (
        going.same ∙ ap (λ (js : Items). mapped (joined going.es) (entries_from (stored_keys going.es) js)) (sym none) ∙ ap ok (joined_none going.es),
        along_end going.along,
      )

  module _ (r : List ℕ) (going : EntriesGoing all l o t seen (part r)) where
    read : ItemRead r
    read = item_read r (rw going.left refl)

    -- what stands at this place
    pub entry_text : IsSome (read_value r) × (length r ≤ l)
    entry_text = (rw read.is refl, omega (arith, going.along.count_fits))

    behind_there : rest_in (read_value r) ≡ read.behind
    behind_there = ap rest_in read.is

    parted : ◌≡◌ {A = Items × List ℕ} (item read.value read.more, read.rest) (going.items, going.rest)
    parted = cc (going.left, read.whole)

    rest_there : length (rest_in all) < length read.behind
    rest_there = omega (arith, ap length going.ends, ap (λ (p : Items × List ℕ). length p.1) parted, read.rest_fits, read.next_fits)

    -- it has room
    pub entry_room : RoomFor (width (read_value r) r) t
    entry_room = along_room going.along (width (read_value r) r) (omega (arith, rest_there, ap length behind_there, read.behind_fits))

    -- the keys before it, as the tables have them
    abbrev pub earlier : List (List ℕ)
    earlier = texts_seen true seen (pack_of t)

    pub keys_here : earlier ≡ stored_keys going.es
    keys_here =
        let a = going.along in
        let room = a.room in
        rw (going.many, ← going.first) at
        (keys_front going.es o.reach t.reach o.kinds.now o.numbers.now o.texts.now t.kinds.now t.numbers.now t.texts.now (omega (arith, room.kinds)) (omega (arith, room.numbers))
        (omega (arith, room.short, a.texts_fit, a.count_fits, rest_there, read.behind_fits)) going.laid)

    pub marked_here : Marked seen.marks earlier
    marked_here = subst (Marked seen.marks) (sym keys_here) going.marked

    others : entries_from [] (items_in all) ≡ mapped (joined going.es) (entries_from (stored_keys going.es) (item read.value read.more))
    others = going.same ∙ ap (λ (js : Items). mapped (joined going.es) (entries_from (stored_keys going.es) js)) (sym (ap (λ (p : Items × List ℕ). p.0) parted))

    own : entry_of earlier (value_in r) ≡ entry_of (stored_keys going.es) read.value
    own = ap (λ (before : List (List ℕ)). entry_of before (value_in r)) keys_here ∙ ap (λ (j : Json). entry_of (stored_keys going.es) j) (ap json_in read.is)

    -- an entry that is refused
    pub entries_stop : (e : Refusal) → refused e ≡ entry_laid earlier (value_in r) (pack_of t) → entries_from [] (items_in all) ≡ refused e
    unfolding entry_laid entries_from
    entries_stop e h =
        let z = sym own ∙ laid_refused append_entry (pack_of t) (entry_of earlier (value_in r)) e h in
        others
        ∙ ap (λ (y : Outcome Entry). mapped (joined going.es) (and_then y (λ e. mapped (with_entry e) (entries_from (stored_keys going.es ++ key_bytes e.key ∷ []) read.more)))) z

    -- an entry that is read, up to the tables u, and something follows it
    pub entry_followed : IsSome (next_part (code "]") (rest_in (read_value r)))
    entry_followed = rw (behind_there, read.follows) refl

    pub entry_smaller : (y : Next) → next_part (code "]") (rest_in (read_value r)) ≡ Some y → bytes_ahead y < length r
    entry_smaller y n =
        let z : y ≡ read.next = cc (n, read.follows, ap (next_part (code "]")) behind_there) in
        omega (arith, ap bytes_ahead z, read.next_fits, read.behind_fits)

    pub entries_on : (u : Tables) (after : Seen) (y : Next) → SameSeen seen after → ok (pack_of u) ≡ entry_laid earlier (value_in r) (pack_of t)
        → KeysMarkedAfter after.marks earlier (entry_of earlier (value_in r)) → Within t.reach (width (read_value r) r) (6 * width (read_value r) r) (Ok u.reach) → Kept t u
        → next_part (code "]") (rest_in (read_value r)) ≡ Some y
        → EntriesGoing all l o u (record { marks = after.marks; first = after.first; count = after.count + 1 }) y
    unfolding entry_laid entries_from
    entries_on u after y counted h m i k n =
        let own_read : LaidOk append_entry (pack_of t) (pack_of u) (entry_of earlier (value_in r)) = laid_ok append_entry (pack_of t) (pack_of u) (entry_of earlier (value_in r)) h in
        let e : Entry = own_read.part in
        let es : Entries = and_read going.es e in
        let keys : stored_keys es ≡ stored_keys going.es ++ key_bytes e.key ∷ [] = keys_entry e.key.type e.key.id e.attributes e.parents going.es in
        let z : y ≡ read.next = cc (n, read.follows, ap (next_part (code "]")) behind_there) in
        record {
          items = read.more;
          rest = read.rest;
          left = ap items_at z ∙ read.left;
          ends = going.ends ∙ sym (ap (λ (p : Items × List ℕ). p.1) parted);
          es = es;
          same =
              others
              ∙ ap (λ (y : Outcome Entry). mapped (joined going.es) (and_then y (λ e. mapped (with_entry e) (entries_from (stored_keys going.es ++ key_bytes e.key ∷ []) read.more)))) (sym own ∙ own_read.is)
              ∙ joined_read going.es e (entries_from (stored_keys going.es ++ key_bytes e.key ∷ []) read.more)
              ∙ ap (λ (before : List (List ℕ)). mapped (joined es) (entries_from before read.more)) (sym keys);
          laid = own_read.laid ∙ ap (append_entry e) going.laid ∙ sym (entry_parts_read e.key.type e.key.id e.attributes e.parents going.es (pack_of o));
          first = counted.0 ∙ going.first;
          many = omega (arith, count_entry e.key.type e.key.id e.attributes e.parents going.es, going.many, counted.1);
          marked =
              subst (Marked after.marks) (ap (λ (before : List (List ℕ)). before ++ key_bytes e.key ∷ []) keys_here ∙ sym keys)
              (subst (KeysMarkedAfter after.marks earlier) own_read.is m);
          along =
              rw counted.1 (along_on going.along (width (read_value r) r) u y i (omega (arith, ap bytes_ahead z, read.next_fits, read.behind_fits, ap length behind_there))
              (omega (arith, ap length going.ends, ap (λ (p : Items × List ℕ). length p.1) parted, read.rest_fits, ap bytes_ahead z)) k);
        }

-- ---- an array, by the text behind its bracket

pub no_array : (s : List ℕ) (p : Pack) → (starts (code "[") s ≡ true → ⊥) → refused not_entities ≡ entities_laid (value_in s) p
unfolding entities_laid laid_down
no_array s p e =
    ap (laid_down append_entities p)
    (by_start (λ (j : Json). refused not_entities ≡ entries_of j) s (λ f js. absurd (e f)) (λ _ ms. refl) (λ _ x. refl) refl (λ b. refl) (λ x. refl))

module _ (s r : List ℕ) (starting : starts (code "[") s ≡ true) (is : r ≡ drop 1 s) (h : IsSome (read_value s)) where
  there : ArrayRead s
  there = array_read s starting h

  left : items_behind r ≡ Some (there.items, there.rest)
  left = ap items_behind is ∙ there.left

  pub items_rest : rest_in (items_behind r) ≡ rest_in (read_value s)
  items_rest = ap rest_in left ∙ sym (ap rest_in there.whole)

  pub items_there : IsSome (items_behind r) × (bytes_ahead (first_part (code "]") r) ≤ length r) × (length r < length s) × (width (read_value s) s ≡ length r - length (rest_in (items_behind r)) + 1)
  items_there =
      let e = ap length items_rest in
      let z : length r + 1 ≡ length s = omega (arith, ap length is, length-drop 1 s, there.first_fits) in
      let f = first_shorter (code "]") r in
      let g : length (rest_in (items_behind r)) ≤ length r = omega (arith, ap length (ap rest_in left), there.rest_fits, ap (λ (x : List ℕ). bytes_ahead (first_part (code "]") x)) is) in
      (rw left refl, f, omega arith, omega arith)

  entries_same : entries_of (value_in s) ≡ entries_from [] (items_in (items_behind r))
  entries_same = ap (λ (j : Json). entries_of j) (ap json_in there.whole) ∙ ap (entries_from []) (sym (ap items_in left))

  -- an entry is refused
  pub entities_refused : (e : Refusal) (p : Pack) → entries_from [] (items_in (items_behind r)) ≡ refused e → refused e ≡ entities_laid (value_in s) p
  unfolding entities_laid laid_down
  entities_refused e p h = sym (ap (laid_down append_entities p) (entries_same ∙ h))

  -- all were read behind the entities node, which was appended to the tables o and gave m; now they are t, and the count was stored
  pub entities_stored : {o m : Tables} → Added record_kind 0 o.reach.texts o m → o.reach.nodes ≤ length o.numbers.now → (t : Tables) (seen : Seen) (last : List ℕ) (going : EntriesGoing (items_behind r) (length r) m t seen (end last))
      → ok (pack_at t.reach t.kinds.now (set t.numbers.now o.reach.nodes seen.count) t.texts.now) ≡ entities_laid (value_in s) (pack_of o)
  unfolding entities_laid laid_down
  entities_stored {o} {m} added fits t seen last going =
      let d = (entries_end last going).0 in
      ap ok (entries_counted o.reach t.reach o.kinds.now o.numbers.now o.texts.now t.kinds.now t.numbers.now t.texts.now fits seen.count going.es (sym going.many) (going.laid ∙ ap (append_entries going.es) (node_added added)))
      ∙ sym (ap (laid_down append_entities (pack_of o)) (entries_same ∙ d))
