-- The members of an entry one at a time: a member is one of the three parts, which is read, kept and laid behind the last; parts that came in the
-- order of the pack stand in it.
-- Assumes nothing.
use mathlib.Core.Path.{◌≡◌, refl, sym, ap, ◌∙◌, subst}
use mathlib.Core.Bool.{Bool, true, false, cond, ◌&&◌}
use mathlib.Core.List.{List, [], ◌∷◌}
use Prim.Native.Nat.{ℕ, ◌+◌, ◌*◌, ◌≤◌, ◌<◌, max}
use native.Mathlib.Omega.{arith}
use lib.ListN.{length, drop}
use Rattle.std.specs.Prelude.{is_none, is_some, IsSome, None, Ok, Option, Some}
use Rattle.std.specs.Borrow.{Bor}
use Rattle.buffers.specs.Same.{same}
use Rattle.buffers.proofs.Choice.{and_left, and_right}
use Rattle.format.specs.Kinds.{text_kind}
use Rattle.format.specs.Outcome.{Outcome, ok, refused, mapped, and_then}
use Rattle.format.specs.Refusals.{not_entities}
use Rattle.format.specs.declared.Refusal.{Refusal}
use Rattle.format.proofs.Outcomes.{never, same_answer}
use Rattle.json_text.specs.Json.{Json, Members, member}
use Rattle.json_text.specs.Text.{string}
use Rattle.json_text.specs.Post.{text_in, member_texts}
use Rattle.json_text.specs.Syntax.{member_name, read_value}
use Rattle.pack.specs.Pack.{Pack, append_value, text_number}
use Rattle.pack.specs.Value.{Value, Fields, Values, array, fields}
use Rattle.pack.specs.Closed.{kinds_of, texts_of, numbers_of}
use Rattle.pack.specs.LaidDown.{laid_down}
use Rattle.pack.specs.declared.Tables.{Tables}
use Rattle.pack.specs.Post.{pack_of, Within}
use Rattle.pack.proofs.Appended.{kept_before}
use Rattle.pack.proofs.Closed.{joined, append_closed}
use Rattle.values.specs.Read.{append_record}
use Rattle.entities.specs.Parse.{Key}
use Rattle.entities.specs.Read.{key_bytes, append_key}
use Rattle.json_entities.specs.Shape.{uid_word, attrs_word, parents_word, first_named, uid_of, attributes_of, parents_of, entry_from}
use Rattle.json_entities.specs.Read.{key_laid, attributes_laid, parents_laid}
use Rattle.json_entities.specs.Post.{width, RoomFor}
use Rattle.json_entities.specs.Parts.{PartsRead, entry_with, part_named, with_part, with_member, part_laid, lay_parents, lay_parts, value_in, ok_in, part_in, parts_in, with_found, Sound, part_width, parts_width, text_size, AllSound, InOrder, name_in, value_text, StandsBefore, MemberKept}
use Rattle.json_entities.specs.declared.Found.{Found}
use Rattle.json_entities.specs.declared.Part.{Part}
use Rattle.json_entities.specs.declared.Part.TheVariants.{Uid, Attributes, Parents}
use Rattle.json_text.proofs.Lengths.{member_shorter}
use Rattle.json_entities.proofs.Mapped.{mapped_ok, mapped_refused}
use Rattle.json_entities.proofs.JsonSteps.{name_read}

-- ---- the tree: a member, and then the others

through : {A B C : Type 0} (o : Outcome A) (f : A → B) (g : B → Outcome C) → and_then o (λ a. g (f a)) ≡ and_then (mapped f o) g
through (ok a) f g = refl
through (refused e) f g = refl

pub entry_step : (x : List ℕ) (j : Json) (ms : Members) (u : PartsRead) → entry_with u (member x j ms) ≡ and_then (with_member x j u) (λ v. entry_with v ms)
unfolding entry_from
entry_step x j ms u = go (first_named uid_word x u.uid) (first_named attrs_word x u.attributes) (first_named parents_word x u.parents)
  where
    go : (a b d : Bool)
        → cond a (and_then (uid_of j) (λ k. entry_from (Some k) u.attributes u.parents ms))
        (cond b (and_then (attributes_of j) (λ fs. entry_from u.uid (Some fs) u.parents ms))
        (cond d (and_then (parents_of j) (λ ps. entry_from u.uid u.attributes (Some ps) ms)) (refused not_entities)))
        ≡ and_then (with_part (cond a (Some Uid) (cond b (Some Attributes) (cond d (Some Parents) None))) j u) (λ v. entry_with v ms)
    go true b d = through (uid_of j) (λ (k : Key). record u { uid = Some k }) (λ (v : PartsRead). entry_with v ms)
    go false true d = through (attributes_of j) (λ (fs : Fields). record u { attributes = Some fs }) (λ (v : PartsRead). entry_with v ms)
    go false false true = through (parents_of j) (λ (ps : Values). record u { parents = Some ps }) (λ (v : PartsRead). entry_with v ms)
    go false false false = refl

-- ---- the text of a member

-- its name from behind the quotation mark on, and its value
pub record MemberFound (s n v : List ℕ) : Type 0 where
  pub text : IsSome (string n)
  pub name : text_in (string n) ≡ name_in s
  pub value : v ≡ value_text s
  pub fits : length v < length s

pub member_found : (s n v : List ℕ) → ◌≡◌ {A = Option (List ℕ × List ℕ)} (Some (n, v)) (member_texts s (member_name s)) → MemberFound s n v
member_found s n v e = go (member_name s) refl e
  where
    go : (o : Option (List ℕ × List ℕ)) → member_name s ≡ o → ◌≡◌ {A = Option (List ℕ × List ℕ)} (Some (n, v)) (member_texts s o) → MemberFound s n v
    go None f e = absurd cc
    go (Some (x, t)) f e =
        let named = name_read s x t f in
        let q : ◌≡◌ {A = List ℕ × List ℕ} (n, v) (drop 1 s, t) = cc in
        let a = ap (λ (p : List ℕ × List ℕ). p.0) q in
        let b = ap (λ (p : List ℕ × List ℕ). p.1) q in
        record {
          text = rw a named.text;
          name = rw (a, f) named.same;
          value = rw f b;
          fits = omega (arith, ap length b, member_shorter s (x, t) f);
        }

-- ---- which part its name names

module _ {A : Type 0} (of : Json → Outcome A) where
  none_read : (o : Outcome A) → IsSome (ok_in o) → is_none (ok_in o) ≡ false
  none_read (ok a) h = refl
  none_read (refused e) h = absurd cc

  -- a part was read where it was found
  none_kept : (t : Option (Bor (List ℕ))) → Sound of t → is_none (part_in of t) ≡ is_none t
  none_kept None h = refl
  none_kept (Some t) h = none_read (of (value_in t.now)) h.1

  part_none : (t : Option (Bor (List ℕ))) → is_none t ≡ true → part_in of t ≡ None
  part_none None h = refl
  part_none (Some t) h = absurd cc

part_same : (x : List ℕ) {a b d a' b' d' : Bool} → a ≡ a' → b ≡ b' → d ≡ d' → part_named x a b d ≡ part_named x a' b' d'
part_same x p q r = rw (p, q, r)

pub named_same : (x : List ℕ) (f : Found) → AllSound f
    → part_named x (is_none (parts_in f).uid) (is_none (parts_in f).attributes) (is_none (parts_in f).parents) ≡ part_named x (is_none f.uid) (is_none f.attributes) (is_none f.parents)
named_same x f h = part_same x (none_kept uid_of f.uid h.uid) (none_kept attributes_of f.attributes h.attributes) (none_kept parents_of f.parents h.parents)

-- that part was not met before
abbrev Free : Part → Bool → Bool → Bool → Type 0
Free Uid a b d = a ≡ true
Free Attributes a b d = b ≡ true
Free Parents a b d = d ≡ true

free_by : (t u v a b d : Bool) (part : Part) → (t ≡ true → a ≡ true) → (u ≡ true → b ≡ true) → (v ≡ true → d ≡ true)
    → Some part ≡ cond t (Some Uid) (cond u (Some Attributes) (cond v (Some Parents) None)) → Free part a b d
free_by true u v a b d part f g h e = let z : part ≡ Uid = cc in rw z (f refl)
free_by false true v a b d part f g h e = let z : part ≡ Attributes = cc in rw z (g refl)
free_by false false true a b d part f g h e = let z : part ≡ Parents = cc in rw z (h refl)
free_by false false false a b d part f g h e = absurd cc

free : (x : List ℕ) (a b d : Bool) (part : Part) → Some part ≡ part_named x a b d → Free part a b d
free x a b d part e = free_by (same x uid_word && a) (same x attrs_word && b) (same x parents_word && d) a b d part (and_right _ a) (and_right _ b) (and_right _ d) e

-- ---- what was read of it

pub record LaidOk {A : Type 0} (lay : A → Pack → Pack) (p q : Pack) (o : Outcome A) : Type 0 where
  pub part : A
  pub is : o ≡ ok part
  pub laid : q ≡ lay part p

pub laid_ok : {A : Type 0} (lay : A → Pack → Pack) (p q : Pack) (o : Outcome A) → ok q ≡ laid_down lay p o → LaidOk lay p q o
unfolding laid_down
laid_ok lay p q (ok a) e = record { part = a; is = refl; laid = same_answer e }
laid_ok lay p q (refused n) e = absurd (never (sym e))

pub laid_refused : {A : Type 0} (lay : A → Pack → Pack) (p : Pack) (o : Outcome A) (n : Refusal) → refused n ≡ laid_down lay p o → o ≡ refused n
unfolding laid_down
laid_refused lay p (ok a) n e = absurd (never e)
laid_refused lay p (refused m) n e = sym cc

module _ {A : Type 0} where
  ok_kept : (o : Outcome A) (a : A) → o ≡ ok a → ok_in o ≡ Some a
  ok_kept o a e = ap ok_in e

  sound_kept : (of : Json → Outcome A) (v : Bor (List ℕ)) (a : A) → IsSome (read_value v.now) → of (value_in v.now) ≡ ok a → Sound of (Some v)
  sound_kept of v a h e = (h, ap (λ (o : Option A). is_some o) (ok_kept _ a e))

-- laid behind those that came before it in the pack
module _ (a : Option Key) (b : Option Fields) (d : Option Values) (p t n : Pack) where
  lay_uid : (k : Key) → a ≡ None → b ≡ None → d ≡ None → t ≡ lay_parts (record { uid = a; attributes = b; parents = d }) p → n ≡ append_key k t
      → n ≡ lay_parts (record { uid = Some k; attributes = b; parents = d }) p
  lay_uid k x y z g l = rw (y, z) (l ∙ ap (append_key k) (rw (x, y, z) at g))

  lay_attributes : (fs : Fields) → b ≡ None → d ≡ None → t ≡ lay_parts (record { uid = a; attributes = b; parents = d }) p → n ≡ append_record fs t
      → n ≡ lay_parts (record { uid = a; attributes = Some fs; parents = d }) p
  lay_attributes fs y z g l = rw z (l ∙ ap (append_record fs) (rw (y, z) at g))

  lay_last : (ps : Values) → d ≡ None → t ≡ lay_parts (record { uid = a; attributes = b; parents = d }) p → n ≡ lay_parents ps t
      → n ≡ lay_parts (record { uid = a; attributes = b; parents = Some ps }) p
  lay_last ps z g l = l ∙ ap (lay_parents ps) (rw z at g)

-- what stood before it stands there still
module _ (t n : Tables) (a : t.reach.nodes ≤ length t.kinds.now) (b : t.reach.nodes ≤ length t.numbers.now) (c : t.reach.texts ≤ length t.texts.now)
    (m l : ℕ) (w : Within t.reach m l (Ok n.reach)) where
  pub stands_by : (ks ns ts : List ℕ) → pack_of n ≡ joined (pack_of t) ks ns ts → StandsBefore t n
  stands_by ks ns ts e = kept_before t.reach n.reach t.kinds.now t.numbers.now t.texts.now n.kinds.now n.numbers.now n.texts.now a b c w.0 w.2 ks ns ts e

  stands_value : (v : Value) → pack_of n ≡ append_value v (pack_of t) → StandsBefore t n
  stands_value v e = stands_by (kinds_of v) (numbers_of v (length (pack_of t).texts)) (texts_of v) (e ∙ append_closed v (pack_of t))

  -- the part that starts at v was read, and was not met before
  module _ (f : Found) (s : AllSound f) (v : Bor (List ℕ)) (h : IsSome (read_value v.now)) (size : ℕ) (fits : width (read_value v.now) v.now ≤ size) where
    abbrev Kept : Part → Type 0
    Kept part = (with_part (Some part) (value_in v.now) (parts_in f) ≡ ok (parts_in (with_found part v f))) × AllSound (with_found part v f)
        × (parts_width (with_found part v f) ≤ parts_width f + size) × (text_size (with_found part v f).uid ≤ max (text_size f.uid) (length v.now))
        × ((p : Pack) → InOrder f p t → InOrder (with_found part v f) p n) × StandsBefore t n

    width_none : (o : Option (Bor (List ℕ))) → is_none o ≡ true → part_width o ≡ 0
    width_none None e = refl
    width_none (Some u) e = absurd cc

    abbrev uid : Option Key
    uid = (parts_in f).uid

    abbrev attributes : Option Fields
    attributes = (parts_in f).attributes

    abbrev parents : Option Values
    parents = (parts_in f).parents

    kept_part : (part : Part) → Free part (is_none f.uid) (is_none f.attributes) (is_none f.parents) → ok (pack_of n) ≡ part_laid part (value_in v.now) (pack_of t) → Kept part
    unfolding key_laid attributes_laid parents_laid
    kept_part Uid e r =
        let k = laid_ok append_key (pack_of t) (pack_of n) (uid_of (value_in v.now)) r in
        let is = ok_kept _ _ k.is in (
          ap (mapped (λ (x : Key). record (parts_in f) { uid = Some x })) k.is ∙ ap (λ (o : Option Key). ok (record (parts_in f) { uid = o })) (sym is),
          record { uid = sound_kept uid_of v k.part h k.is; attributes = s.attributes; parents = s.parents },
          omega (arith, width_none f.uid e),
          omega arith,
          λ p g o.
              let x = and_right f.ordered (is_none f.attributes && is_none f.parents) o in
              lay_uid uid attributes parents p (pack_of t) (pack_of n) k.part (part_none uid_of f.uid e) (part_none attributes_of f.attributes (and_left _ _ x)) (part_none parents_of f.parents (and_right _ _ x))
              (g (and_left f.ordered _ o)) k.laid
              ∙ ap (λ (o : Option Key). lay_parts (record { uid = o; attributes = attributes; parents = parents }) p) (sym is),
          stands_by (text_kind ∷ []) (text_number (length (pack_of t).texts) (length (key_bytes k.part)) ∷ []) (key_bytes k.part) k.laid,
        )
    kept_part Attributes e r =
        let k = laid_ok append_record (pack_of t) (pack_of n) (attributes_of (value_in v.now)) r in
        let is = ok_kept _ _ k.is in (
          ap (mapped (λ (x : Fields). record (parts_in f) { attributes = Some x })) k.is ∙ ap (λ (o : Option Fields). ok (record (parts_in f) { attributes = o })) (sym is),
          record { uid = s.uid; attributes = sound_kept attributes_of v k.part h k.is; parents = s.parents },
          omega (arith, width_none f.attributes e),
          omega arith,
          λ p g o.
              lay_attributes uid attributes parents p (pack_of t) (pack_of n) k.part (part_none attributes_of f.attributes e) (part_none parents_of f.parents (and_right f.ordered _ o)) (g (and_left f.ordered _ o)) k.laid
              ∙ ap (λ (o : Option Fields). lay_parts (record { uid = uid; attributes = o; parents = parents }) p) (sym is),
          stands_value (fields k.part) k.laid,
        )
    kept_part Parents e r =
        let q = laid_ok append_value (pack_of t) (pack_of n) (mapped array (parents_of (value_in v.now))) r in
        let k = mapped_ok array (parents_of (value_in v.now)) q.part q.is in
        let is = ok_kept _ _ k.1.0 in (
          ap (mapped (λ (x : Values). record (parts_in f) { parents = Some x })) k.1.0 ∙ ap (λ (o : Option Values). ok (record (parts_in f) { parents = o })) (sym is),
          record { uid = s.uid; attributes = s.attributes; parents = sound_kept parents_of v k.0 h k.1.0 },
          omega (arith, width_none f.parents e),
          omega arith,
          λ p g o.
              lay_last uid attributes parents p (pack_of t) (pack_of n) k.0 (part_none parents_of f.parents e) (g o) (q.laid ∙ ap (λ (x : Value). append_value x (pack_of t)) k.1.1)
              ∙ ap (λ (o : Option Values). lay_parts (record { uid = uid; attributes = attributes; parents = o }) p) (sym is),
          stands_value q.part q.laid,
        )

-- ---- a member

module _ (s n : List ℕ) (v : Bor (List ℕ)) (m : MemberFound s n v.now) (f : Found) (sound : AllSound f) where
  abbrev named : Option Part
  named = part_named (text_in (string n)) (is_none f.uid) (is_none f.attributes) (is_none f.parents)

  by_name : (j : Json) → with_member (name_in s) j (parts_in f) ≡ with_part named j (parts_in f)
  by_name j =
      ap (λ (o : Option Part). with_part o j (parts_in f))
      (named_same (name_in s) f sound ∙ ap (λ (x : List ℕ). part_named x (is_none f.uid) (is_none f.attributes) (is_none f.parents)) (sym m.name))

  -- its name names no part that was not met before
  pub member_unnamed : (j : Json) → None ≡ named → with_member (name_in s) j (parts_in f) ≡ refused not_entities
  member_unnamed j e = by_name j ∙ ap (λ (o : Option Part). with_part o j (parts_in f)) (sym e)

  module _ (part : Part) (is : Some part ≡ named) where
    with_refused : (q : Part) (j : Json) (e : Refusal) (p : Pack) → refused e ≡ part_laid q j p → with_part (Some q) j (parts_in f) ≡ refused e
    unfolding key_laid attributes_laid parents_laid
    with_refused Uid j e p h = ap (mapped (λ (x : Key). record (parts_in f) { uid = Some x })) (laid_refused append_key p (uid_of j) e h)
    with_refused Attributes j e p h = ap (mapped (λ (x : Fields). record (parts_in f) { attributes = Some x })) (laid_refused append_record p (attributes_of j) e h)
    with_refused Parents j e p h =
        ap (mapped (λ (x : Values). record (parts_in f) { parents = Some x })) (mapped_refused array (parents_of j) e (laid_refused append_value p (mapped array (parents_of j)) e h))

    -- its value is refused
    pub member_refused : (e : Refusal) (p : Pack) → refused e ≡ part_laid part (value_in v.now) p → with_member (name_in s) (value_in (value_text s)) (parts_in f) ≡ refused e
    member_refused e p h =
        by_name (value_in (value_text s))
        ∙ ap (λ (o : Option Part). with_part o (value_in (value_text s)) (parts_in f)) (sym is)
        ∙ with_refused part (value_in (value_text s)) e p (subst (λ (x : List ℕ). refused e ≡ part_laid part (value_in x) p) m.value h)

    -- it is read
    pub member_kept : (t u : Tables) → IsSome (read_value (value_text s)) → RoomFor (width (read_value (value_text s)) s) t → (w : ℕ) → Within t.reach w (6 * w) (Ok u.reach)
        → ok (pack_of u) ≡ part_laid part (value_in v.now) (pack_of t)
        → MemberKept (name_in s) (value_in (value_text s)) (width (read_value (value_text s)) s) (length s) f t (with_found part v f) u
    member_kept t u h room w i r =
        subst (λ (x : List ℕ). MemberKept (name_in s) (value_in x) (width (read_value x) s) (length s) f t (with_found part v f) u) m.value
        (let k =
        kept_part t u (omega (arith, room.kinds)) (omega (arith, room.numbers)) (omega (arith, room.texts)) w (6 * w) i f sound v
        (subst (λ (x : List ℕ). IsSome (read_value x)) (sym m.value) h) (width (read_value v.now) s) (omega (arith, m.fits)) part
        (free (text_in (string n)) (is_none f.uid) (is_none f.attributes) (is_none f.parents) part is) r in
        record {
          parts = by_name (value_in v.now) ∙ ap (λ (o : Option Part). with_part o (value_in v.now) (parts_in f)) (sym is) ∙ k.0;
          sound = k.1;
          fits = k.2;
          short = omega (arith, k.3, m.fits);
          laid = k.4;
          stands = k.5;
        })
