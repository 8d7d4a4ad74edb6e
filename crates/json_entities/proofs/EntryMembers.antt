-- The loop over the members of an entry: what holds each time around, and one law for each way on or out.
-- Assumes nothing.
use mathlib.Core.Path.{◌≡◌, refl, sym, ap, ◌∙◌}
use mathlib.Core.List.{List}
use Prim.Native.Char.{code}
use Prim.Native.Nat.{ℕ, ◌+◌, ◌-◌, ◌*◌, ◌≤◌, ◌<◌}
use native.Mathlib.Omega.{arith}
use lib.ListN.{length}
use lib.Seq.{take-take}
use Rattle.std.specs.Prelude.{IsSome, None, Ok, Option, Some}
use Rattle.std.specs.Borrow.{Bor}
use mathlib.Core.Bool.{true}
use Rattle.format.specs.Outcome.{Outcome, ok, refused, and_then, mapped}
use Rattle.format.specs.Refusals.{not_entities}
use Rattle.format.specs.declared.Refusal.{Refusal}
use Rattle.json_text.specs.Json.{Members, no_member, member}
use Rattle.json_text.specs.Syntax.{Next, part, end, next_part, member_name, read_value, read_members}
use Rattle.json_text.specs.Walk.{bytes_ahead}
use Rattle.pack.specs.Pack.{Pack}
use Rattle.pack.specs.declared.Tables.{Tables}
use Rattle.pack.specs.Post.{pack_of, pack_before, Within, Kept}
use Rattle.pack.proofs.Appended.{pack_is}
use Rattle.pack.specs.Pack.{append_value}
use Rattle.pack.specs.Value.{Fields, Values, array}
use Rattle.pack.specs.LaidDown.{laid_down}
use Rattle.values.specs.Read.{append_record}
use Rattle.entities.specs.Parse.{Key}
use Rattle.entities.specs.Read.{append_key, append_entry}
use Rattle.json_entities.specs.Read.{key_laid, attributes_laid, parents_laid}
use Rattle.json_entities.specs.Shape.{uid_of, attributes_of, parents_of, parts_of, entry_from}
use Rattle.json_entities.specs.Post.{members_in, rest_in, width, RoomFor}
use Rattle.json_entities.specs.Walk.{members_at}
use Rattle.json_entities.specs.Parts.{PartsRead, entry_with, with_member, lay_parts, three_laid, members_laid, value_in, ok_in, part_in, parts_in, Sound, nothing_found, parts_width, text_size, AllSound, InOrder, name_in, value_text, StandsBefore, MemberKept, MembersKept}
use Rattle.json_entities.specs.declared.Found.{Found}
use Rattle.json_text.proofs.Rules.{members_shorter}
use Rattle.json_entities.proofs.JsonSteps.{rest_ahead, MemberRead, member_read}
use Rattle.json_entities.proofs.ValueAlong.{Along, along_start, along_room, along_on, along_end}
use Rattle.json_entities.proofs.EntryParts.{entry_step}

-- what stood before the first cursor stands there still, after one step and after the next
stands_then : (o t u : Tables) → o.reach.nodes ≤ t.reach.nodes → o.reach.texts ≤ t.reach.texts → StandsBefore o t → StandsBefore t u → StandsBefore o u
stands_then o t u a b g h =
    pack_is _ _
    (sym (take-take o.reach.nodes t.reach.nodes u.kinds.now a) ∙ ap (λ (p : Pack). lib.ListN.take o.reach.nodes p.kinds) h ∙ take-take o.reach.nodes t.reach.nodes t.kinds.now a ∙ ap (λ (p : Pack). p.kinds) g)
    (sym (take-take o.reach.nodes t.reach.nodes u.numbers.now a) ∙ ap (λ (p : Pack). lib.ListN.take o.reach.nodes p.numbers) h ∙ take-take o.reach.nodes t.reach.nodes t.numbers.now a ∙ ap (λ (p : Pack). p.numbers) g)
    (sym (take-take o.reach.texts t.reach.texts u.texts.now b) ∙ ap (λ (p : Pack). lib.ListN.take o.reach.texts p.texts) h ∙ take-take o.reach.texts t.reach.texts t.texts.now b ∙ ap (λ (p : Pack). p.texts) g)

-- something follows a part of JSON
pub never_ends : (c : ℕ) (r t : List ℕ) → t ≡ r → ◌≡◌ {A = Option Next} None (next_part c t) → IsSome (next_part c r) → ⊥
never_ends c r t e n h = let k = rw (← e, ← n) at h in absurd cc

-- some members were read, from the tables o to the tables t, which gave what was found; the others stand from the place x on; `all` stood in l bytes
pub record MembersGoing (all : Option (Members × List ℕ)) (l : ℕ) (o t : Tables) (f : Found) (x : Next) : Type 0 where
  pub members : Members
  pub rest : List ℕ
  pub left : members_at x ≡ Some (members, rest)
  pub ends : rest_in all ≡ rest
  pub same : entry_from None None None (members_in all) ≡ entry_with (parts_in f) members
  pub sound : AllSound f
  pub fits : parts_width f + bytes_ahead x ≤ l
  pub short : text_size f.uid ≤ l
  pub laid : InOrder f (pack_of o) t
  pub stands : StandsBefore o t
  pub many : ℕ
  pub along : Along l (length (rest_in all)) o t many x

pub members_start : (l : ℕ) (o : Tables) (x y : Next) → x ≡ y → IsSome (members_at y) → bytes_ahead y ≤ l → RoomFor (l - length (rest_in (members_at y))) o
    → MembersGoing (members_at y) l o o nothing_found x
members_start l o x y e h f room = rw e (from (members_at y) refl h room)
  where
    from : (all : Option (Members × List ℕ)) → members_at y ≡ all → IsSome all → RoomFor (l - length (rest_in all)) o → MembersGoing all l o o nothing_found y
    from (Some a) d i space = record {
      members = a.0;
      rest = a.1;
      left = d;
      ends = refl;
      same = refl;
      sound = record { uid = tt; attributes = tt; parents = tt };
      fits = omega arith;
      short = omega arith;
      laid = λ _. refl;
      stands = refl;
      many = 0;
      along = along_start l (length a.1) o y space (rest_ahead no_member read_members members_shorter y a.0 a.1 d) f;
    }
    from None d i space = absurd (cc)

module _ {all : Option (Members × List ℕ)} {l : ℕ} {o t : Tables} {f : Found} where
  -- no member is left
  pub members_end : (r : List ℕ) → MembersGoing all l o t f (end r)
      → MembersKept (members_in all) (l - length (rest_in all)) l o f t × (r ≡ rest_in all) × Within o.reach (l - length (rest_in all)) (6 * (l - length (rest_in all))) (Ok t.reach)
  unfolding entry_from
  members_end r going =
      let q : ◌≡◌ {A = Members × List ℕ} (no_member, r) (going.members, going.rest) = cc going.left in
      let none = ap (λ (p : Members × List ℕ). p.0) q in
      let here : rest_in all ≡ r = going.ends ∙ sym (ap (λ (p : Members × List ℕ). p.1) q) in (
        record {
          parts = going.same ∙ ap (entry_with (parts_in f)) (sym none);
          sound = going.sound;
          fits = omega (arith, going.fits, ap length here);
          short = going.short;
          laid = going.laid;
          stands = going.stands;
        },
        sym here,
        along_end going.along,
      )

  module _ (r : List ℕ) (going : MembersGoing all l o t f (part r)) where
    read : MemberRead r
    read = member_read r (rw going.left refl)

    value_there : value_text r ≡ read.at
    value_there = ap rest_in read.named.is

    name_there : name_in r ≡ read.name
    name_there = ap Rattle.json_text.specs.Post.text_in read.named.is

    -- what stands at this place
    pub member_there : IsSome (member_name r) × IsSome (read_value (value_text r)) × (length r ≤ l)
    member_there = (rw read.named.is refl, rw (value_there, read.is) refl, omega (arith, going.fits))

    behind_there : rest_in (read_value (value_text r)) ≡ read.behind
    behind_there = ap (λ (x : List ℕ). rest_in (read_value x)) value_there ∙ ap rest_in read.is

    rest_there : length (rest_in all) < length read.behind
    rest_there =
        let q : ◌≡◌ {A = Members × List ℕ} (member read.name read.value read.more, read.rest) (going.members, going.rest) = cc (going.left, read.whole) in
        omega (arith, ap length going.ends, ap (λ (p : Members × List ℕ). length p.1) q, read.rest_fits, read.next_fits)

    -- it has room
    pub member_room : RoomFor (width (read_value (value_text r)) r) t
    member_room = along_room going.along (width (read_value (value_text r)) r) (omega (arith, rest_there, ap length behind_there, read.behind_fits, read.at_fits))

    others : entry_from None None None (members_in all) ≡ and_then (with_member (name_in r) (value_in (value_text r)) (parts_in f)) (λ v. entry_with v read.more)
    others =
        let q : ◌≡◌ {A = Members × List ℕ} (member read.name read.value read.more, read.rest) (going.members, going.rest) = cc (going.left, read.whole) in
        going.same ∙ ap (entry_with (parts_in f)) (sym (ap (λ (p : Members × List ℕ). p.0) q))
        ∙ entry_step read.name read.value read.more (parts_in f)
        ∙ rw (name_there, value_there, read.is) refl

    -- a member that is refused
    pub members_stop : (e : Refusal) → with_member (name_in r) (value_in (value_text r)) (parts_in f) ≡ refused e → entry_from None None None (members_in all) ≡ refused e
    members_stop e h = others ∙ ap (λ (u : Outcome PartsRead). and_then u (λ v. entry_with v read.more)) h

    -- a member that is read, up to the tables u, and something follows it
    pub member_followed : IsSome (next_part (code "}") (rest_in (read_value (value_text r))))
    member_followed = rw (behind_there, read.follows) refl

    pub member_smaller : (y : Next) → next_part (code "}") (rest_in (read_value (value_text r))) ≡ Some y → bytes_ahead y < length r
    member_smaller y n =
        let z : y ≡ read.next = cc (n, read.follows, ap (next_part (code "}")) behind_there) in
        omega (arith, ap bytes_ahead z, read.next_fits, read.behind_fits, read.at_fits)

    pub members_on : (u : Tables) (g : Found) (y : Next) → MemberKept (name_in r) (value_in (value_text r)) (width (read_value (value_text r)) r) (length r) f t g u
        → Within t.reach (width (read_value (value_text r)) r) (6 * width (read_value (value_text r)) r) (Ok u.reach) → Kept t u
        → next_part (code "}") (rest_in (read_value (value_text r))) ≡ Some y → MembersGoing all l o u g y
    members_on u g y m w k n =
        let q : ◌≡◌ {A = Members × List ℕ} (member read.name read.value read.more, read.rest) (going.members, going.rest) = cc (going.left, read.whole) in
        let z : y ≡ read.next = cc (n, read.follows, ap (next_part (code "}")) behind_there) in
        let a = going.along in
        record {
          members = read.more;
          rest = read.rest;
          left = ap members_at z ∙ read.left;
          ends = going.ends ∙ sym (ap (λ (p : Members × List ℕ). p.1) q);
          same = others ∙ ap (λ (u : Outcome PartsRead). and_then u (λ v. entry_with v read.more)) m.parts;
          sound = m.sound;
          fits = omega (arith, m.fits, going.fits, ap bytes_ahead z, read.next_fits, read.behind_fits, read.at_fits, ap length behind_there);
          short = omega (arith, m.short, going.short, going.fits);
          laid = m.laid (pack_of o) going.laid;
          stands = stands_then o t u (a.nodes_up) (a.texts_up) going.stands m.stands;
          many = going.many + 1;
          along = along_on a (width (read_value (value_text r)) r) u y w (omega (arith, ap bytes_ahead z, read.next_fits, read.behind_fits, read.at_fits, ap length behind_there))
              (omega (arith, ap length going.ends, ap (λ (p : Members × List ℕ). length p.1) q, read.rest_fits, ap bytes_ahead z)) k;
        }

-- ---- the parts that were found, where no member is left

no_second : (k : Option Key) (ps : Option Values) → parts_of k None ps ≡ refused not_entities
no_second (Some k) ps = refl
no_second None ps = refl

no_third : (k : Option Key) (fs : Option Fields) → parts_of k fs None ≡ refused not_entities
no_third (Some k) (Some fs) = refl
no_third (Some k) None = refl
no_third None fs = refl

-- all three are there
all_laid : (k : Option Key) (fs : Option Fields) (ps : Option Values) (p q : Pack) → IsSome k → IsSome fs → IsSome ps
    → q ≡ lay_parts (record { uid = k; attributes = fs; parents = ps }) p → ok q ≡ laid_down append_entry p (parts_of k fs ps)
unfolding laid_down
all_laid (Some k) (Some fs) (Some ps) p q a b d e = ap ok e
all_laid (Some k) (Some fs) None p q a b d e = absurd cc
all_laid (Some k) None ps p q a b d e = absurd cc
all_laid None fs ps p q a b d e = absurd cc

three_same : (u : Outcome Key) (a : Outcome Fields) (d : Outcome Values) (p : Pack) → IsSome (ok_in u) → IsSome (ok_in a) → IsSome (ok_in d)
    → and_then (laid_down append_key p u) (λ q. and_then (laid_down append_record q a) (λ r. laid_down append_value r (mapped array d)))
    ≡ laid_down append_entry p (parts_of (ok_in u) (ok_in a) (ok_in d))
unfolding laid_down
three_same (ok k) (ok fs) (ok ps) p x y z = refl
three_same (ok k) (ok fs) (refused e) p x y z = absurd cc
three_same (ok k) (refused e) d p x y z = absurd cc
three_same (refused e) a d p x y z = absurd cc

module _ {ms : Members} {w n : ℕ} {o t : Tables} {f : Found} (kept : MembersKept ms w n o f t) where
  by_parts : (p : Pack) → members_laid ms p ≡ laid_down append_entry p (parts_of (parts_in f).uid (parts_in f).attributes (parts_in f).parents)
  by_parts p = ap (laid_down append_entry p) kept.parts

  pub no_uid : f.uid ≡ None → refused not_entities ≡ members_laid ms (pack_of o)
  unfolding laid_down
  no_uid e = sym (by_parts (pack_of o) ∙ ap (λ (t : Option (Bor (List ℕ))). laid_down append_entry (pack_of o) (parts_of (part_in uid_of t) (parts_in f).attributes (parts_in f).parents)) e)

  pub no_attributes : f.attributes ≡ None → refused not_entities ≡ members_laid ms (pack_of o)
  unfolding laid_down
  no_attributes e =
      sym (by_parts (pack_of o)
      ∙ ap (λ (t : Option (Bor (List ℕ))). laid_down append_entry (pack_of o) (parts_of (parts_in f).uid (part_in attributes_of t) (parts_in f).parents)) e
      ∙ ap (laid_down append_entry (pack_of o)) (no_second (parts_in f).uid (parts_in f).parents))

  pub no_parents : f.parents ≡ None → refused not_entities ≡ members_laid ms (pack_of o)
  unfolding laid_down
  no_parents e =
      sym (by_parts (pack_of o)
      ∙ ap (λ (t : Option (Bor (List ℕ))). laid_down append_entry (pack_of o) (parts_of (parts_in f).uid (parts_in f).attributes (part_in parents_of t))) e
      ∙ ap (laid_down append_entry (pack_of o)) (no_third (parts_in f).uid (parts_in f).attributes))

  -- all three were found
  module _ (a b d : Bor (List ℕ)) (fa : f.uid ≡ Some a) (fb : f.attributes ≡ Some b) (fd : f.parents ≡ Some d) where
    sound_a : Sound uid_of (Some a)
    sound_a = rw fa at kept.sound.uid

    sound_b : Sound attributes_of (Some b)
    sound_b = rw fb at kept.sound.attributes

    sound_d : Sound parents_of (Some d)
    sound_d = rw fd at kept.sound.parents

    pub texts_there : IsSome (read_value a.now) × IsSome (read_value b.now) × IsSome (read_value d.now) × (length a.now ≤ n)
    texts_there = (sound_a.0, sound_b.0, sound_d.0, omega (arith, kept.short, ap text_size fa))

    there : (p : Pack) → members_laid ms p ≡ laid_down append_entry p (parts_of (ok_in (uid_of (value_in a.now))) (ok_in (attributes_of (value_in b.now))) (ok_in (parents_of (value_in d.now))))
    there p = by_parts p ∙ rw (fa, fb, fd) refl

    -- in the order of the pack
    pub laid_once : f.ordered ≡ true → ok (pack_of t) ≡ members_laid ms (pack_of o)
    laid_once e =
        all_laid _ _ _ (pack_of o) (pack_of t) sound_a.1 sound_b.1 sound_d.1 (rw (fa, fb, fd) at (kept.laid e)) ∙ sym (there (pack_of o))

    -- and else anew
    pub laid_anew : (q : Outcome Pack) → q ≡ three_laid (value_in a.now) (value_in b.now) (value_in d.now) (pack_before o.reach t) → q ≡ members_laid ms (pack_of o)
    unfolding key_laid attributes_laid parents_laid
    laid_anew q e =
        e ∙ ap (three_laid (value_in a.now) (value_in b.now) (value_in d.now)) kept.stands
        ∙ three_same (uid_of (value_in a.now)) (attributes_of (value_in b.now)) (parents_of (value_in d.now)) (pack_of o) sound_a.1 sound_b.1 sound_d.1
        ∙ sym (there (pack_of o))

pub members_refused : (ms : Members) (e : Refusal) (p : Pack) → entry_from None None None ms ≡ refused e → refused e ≡ members_laid ms p
unfolding laid_down
members_refused ms e p h = sym (ap (laid_down append_entry p) h)
