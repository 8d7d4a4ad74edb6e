-- The stored key of an entry that was laid: it stands at the first node behind the place where the entry began, and is compared with the keys before it.
-- Assumes nothing.
use mathlib.Core.Path.{◌≡◌, refl, sym, ap, ◌∙◌, subst}
use mathlib.Core.Bool.{Bool, true, false}
use mathlib.Core.List.{List, [], ◌∷◌, ◌++◌, append_assoc}
use Prim.Native.Char.{code}
use Prim.Native.Nat.{ℕ, ◌+◌, ◌*◌, ◌≤◌, ◌<◌}
use native.Mathlib.Omega.{arith}
use lib.ListN.{length, take, drop, length-append, length-drop, take-append-drop}
use lib.Seq.{length-take-le, take-take, take-append_seam, drop_at}
use Rattle.std.proofs.lemmas.List.{drop-take}
use Rattle.std.specs.Prelude.{IsSome, None, Ok, Some}
use Rattle.buffers.specs.Same.{among}
use Rattle.format.specs.Outcome.{Outcome, ok, refused, and_then}
use Rattle.format.specs.Refusals.{not_entities, duplicate_key}
use Rattle.format.specs.declared.Reach.{Reach}
use Rattle.format.specs.declared.Refusal.{Refusal}
use Rattle.json_text.specs.Json.{Json, Members}
use Rattle.json_text.specs.Parse.{starts}
use Rattle.json_text.specs.Syntax.{read_value}
use Rattle.pack.specs.Pack.{Pack}
use Rattle.pack.specs.Value.{array, fields}
use Rattle.pack.specs.Closed.{kinds_of, texts_of}
use Rattle.pack.specs.Walk.{place_key, texts_from}
use Rattle.pack.specs.LaidDown.{laid_down}
use Rattle.pack.specs.Marks.{Marked}
use Rattle.pack.specs.declared.Seen.{Seen}
use Rattle.pack.specs.Seen.{texts_seen}
use Rattle.pack.specs.declared.Tables.{Tables}
use Rattle.pack.specs.Post.{pack_of, pack_before, Within, Kept}
use Rattle.pack.proofs.Appended.{kept_before}
use Rattle.pack.proofs.Closed.{joined}
use Rattle.pack.proofs.Laid.{element, place_laid}
use Rattle.entities.specs.Entries.{Entries, no_entry, entry, append_entries}
use Rattle.entities.specs.Closed.{kinds_entries, texts_entries, numbers_entries}
use Rattle.entities.specs.Parse.{Entry, unless_stored}
use Rattle.entities.specs.Post.{KeysMarkedAfter}
use Rattle.entities.specs.Read.{key_bytes, append_entry}
use Rattle.entities.proofs.Laid.{append_entries_closed}
use Rattle.json_entities.specs.Shape.{entry_from, entry_of}
use Rattle.json_entities.specs.Read.{entry_laid}
use Rattle.json_entities.specs.Post.{json_in, members_in, rest_in, width, RoomFor}
use Rattle.json_entities.specs.Walk.{members_behind}
use Rattle.json_entities.specs.Parts.{members_laid, value_in, key_behind, KeyStands}
use Rattle.json_entities.proofs.JsonSteps.{by_start, ObjectRead, object_read}
use Rattle.json_entities.proofs.EntryParts.{LaidOk, laid_ok, laid_refused}

-- ---- an object, by the text behind its brace

pub no_object : (before : List (List ℕ)) (s : List ℕ) (p : Pack) → (starts (code "{") s ≡ true → ⊥) → refused not_entities ≡ entry_laid before (value_in s) p
unfolding entry_laid laid_down
no_object before s p e =
    ap (laid_down append_entry p)
    (by_start (λ (j : Json). refused not_entities ≡ entry_of before j) s (λ _ js. refl) (λ f ms. absurd (e f)) (λ _ x. refl) refl (λ b. refl) (λ x. refl))

module _ (s r : List ℕ) (starting : starts (code "{") s ≡ true) (is : r ≡ drop 1 s) (h : IsSome (read_value s)) where
  there : ObjectRead s
  there = object_read s starting h

  left : members_behind r ≡ Some (there.members, there.rest)
  left = ap members_behind is ∙ there.left

  pub members_there : IsSome (members_behind r)
  members_there = rw left refl

  pub object_rest : rest_in (members_behind r) ≡ rest_in (read_value s)
  object_rest = ap rest_in left ∙ sym (ap rest_in there.whole)

  pub object_width : (length r < length s) × (width (members_behind r) r ≤ width (read_value s) s)
  object_width =
      let e = ap length object_rest in
      let z : length r < length s = omega (arith, ap length is, length-drop 1 s, there.first_fits) in
      (z, omega arith)

  entry_same : (before : List (List ℕ)) → entry_of before (value_in s) ≡ and_then (entry_from None None None (members_in (members_behind r))) (unless_stored before)
  entry_same before =
      ap (λ (j : Json). entry_of before j) (ap json_in there.whole)
      ∙ ap (λ (ms : Members). and_then (entry_from None None None ms) (unless_stored before)) (sym (ap members_in left))

  -- its members are refused
  pub entry_refused : (before : List (List ℕ)) (p : Pack) (e : Refusal) → refused e ≡ members_laid (members_in (members_behind r)) p → refused e ≡ entry_laid before (value_in s) p
  unfolding entry_laid laid_down
  entry_refused before p e k =
      sym (ap (laid_down append_entry p)
      (entry_same before ∙ ap (λ (o : Outcome Entry). and_then o (unless_stored before)) (laid_refused append_entry p (entry_from None None None (members_in (members_behind r))) e k)))

-- ---- in the tables

-- what stands behind a part that was kept
behind_kept : (n g : ℕ) (l l' z : List ℕ) → n ≤ length l → take g l' ≡ take n l ++ z → drop n l' ≡ z ++ drop g l'
behind_kept n g l l' z i e =
    ap (drop n) (sym (take-append-drop g l') ∙ ap (λ (x : List ℕ). x ++ drop g l') e ∙ append_assoc (take n l) z (drop g l'))
    ∙ drop_at (take n l) (z ++ drop g l') n (length-take-le n l i)

-- the entry e was laid behind what the tables o held, and now they are t
pub record EntryThere (e : Entry) (o t : Tables) : Type 0 where
  pub key : key_behind o.reach t ≡ key_bytes e.key
  pub kept : pack_before o.reach t ≡ pack_of o
  pub stands : KeyStands o.reach t

pub entry_there : (e : Entry) (o t : Tables) (w : ℕ) → RoomFor w o → Within o.reach w (6 * w) (Ok t.reach) → Kept o t → pack_of t ≡ append_entry e (pack_of o) → EntryThere e o t
unfolding append_entries kinds_entries texts_entries numbers_entries place_key
entry_there e o t w room i k laid =
    let es : Entries = entry e.key.type e.key.id e.attributes e.parents no_entry in
    let y : List ℕ = key_bytes e.key in
    let st : length (take o.reach.texts o.texts.now) ≡ o.reach.texts = length-take-le o.reach.texts o.texts.now (omega (arith, room.texts)) in
    let all : pack_of t ≡ joined (pack_of o) (kinds_entries es) (numbers_entries es (length (take o.reach.texts o.texts.now))) (texts_entries es) = laid ∙ append_entries_closed es (pack_of o) in
    let v : List ℕ = kinds_of (fields e.attributes) in
    let hn = behind_kept o.reach.nodes t.reach.nodes o.numbers.now t.numbers.now _ (omega (arith, room.numbers)) (ap (λ (p : Pack). p.numbers) all) in
    let ht = behind_kept o.reach.texts t.reach.texts o.texts.now t.texts.now _ (omega (arith, room.texts)) (ap (λ (p : Pack). p.texts) all) in
    let rt : List ℕ = (texts_of (fields e.attributes) ++ (texts_of (array e.parents) ++ [])) ++ drop t.reach.texts t.texts.now in
    let hy : drop o.reach.texts t.texts.now ≡ y ++ rt = ht ∙ append_assoc y (texts_of (fields e.attributes) ++ (texts_of (array e.parents) ++ [])) (drop t.reach.texts t.texts.now) in
    let size : o.reach.texts + length y ≤ t.reach.texts =
    omega (
      arith,
      ap length (ap (λ (p : Pack). p.texts) all),
      st,
      length-take-le t.reach.texts t.texts.now (omega (arith, room.texts, k.texts)),
      length-append (take o.reach.texts o.texts.now) (texts_entries es),
      length-append y (texts_of (fields e.attributes) ++ (texts_of (array e.parents) ++ [])),
    ) in
    let key : key_behind o.reach t ≡ y = place_laid t.numbers.now t.texts.now o.reach.nodes o.reach.texts y _ rt (rw st at hn) hy (omega (arith, room.short)) in
    record {
      key = key;
      kept = kept_before o.reach t.reach o.kinds.now o.numbers.now o.texts.now t.kinds.now t.numbers.now t.texts.now (omega (arith, room.kinds)) (omega (arith, room.numbers)) (omega (arith, room.texts)) i.0 i.2 _ _ _ all;
      stands = record {
        kinds = omega (arith, room.kinds, k.kinds);
        numbers = (element t.numbers.now o.reach.nodes _ _ hn).inside;
        texts = omega (arith, ap length key, size, room.texts, k.texts);
        stands = rw (key, hy) (take-append_seam y rt);
      };
    }

-- ---- compared with the keys before it

pub marked_stored : (f : Reach) (t : Tables) (seen : Seen) (end : ℕ) (marks : List ℕ) → KeyStands f t → end ≡ f.texts + length (key_behind f t)
    → Marked marks (texts_from true seen.count seen.first (take f.nodes t.kinds.now) (take f.nodes t.numbers.now) (take f.texts (take end t.texts.now)) ++ drop f.texts (take end t.texts.now) ∷ [])
    → Marked marks (texts_seen true seen (pack_before f t) ++ key_behind f t ∷ [])
marked_stored f t seen end marks k e m =
    let a = take-take f.texts end t.texts.now (omega arith) in
    let b : drop f.texts (take end t.texts.now) ≡ key_behind f t = ap (λ (n : ℕ). drop f.texts (take n t.texts.now)) e ∙ drop-take f.texts (length (key_behind f t)) t.texts.now ∙ k.stands in
    subst (λ (x : List ℕ). Marked marks (texts_from true seen.count seen.first (take f.nodes t.kinds.now) (take f.nodes t.numbers.now) x ++ key_behind f t ∷ [])) a
    (subst (λ (x : List ℕ). Marked marks (texts_from true seen.count seen.first (take f.nodes t.kinds.now) (take f.nodes t.numbers.now) (take f.texts (take end t.texts.now)) ++ x ∷ [])) b m)

-- the members of an object s, whose text behind the brace is r, were read behind what the tables o held, and now they are t
module _ (s r : List ℕ) (starting : starts (code "{") s ≡ true) (is : r ≡ drop 1 s) (h : IsSome (read_value s)) (o t : Tables) (w : ℕ) (room : RoomFor w o) (i : Within o.reach w (6 * w) (Ok t.reach))
    (k : Kept o t) (read : ok (pack_of t) ≡ members_laid (members_in (members_behind r)) (pack_of o)) where
  pub own : LaidOk append_entry (pack_of o) (pack_of t) (entry_from None None None (members_in (members_behind r)))
  own = laid_ok append_entry (pack_of o) (pack_of t) (entry_from None None None (members_in (members_behind r))) read

  pub found : EntryThere own.part o t
  found = entry_there own.part o t w room i k own.laid

  module _ (seen : Seen) where
    abbrev before : List (List ℕ)
    before = texts_seen true seen (pack_of o)

    pub marked_before : (marks : List ℕ) → Marked marks before → Marked marks (texts_seen true seen (pack_before o.reach t))
    marked_before marks q = subst (λ (p : Pack). Marked marks (texts_seen true seen p)) (sym found.kept) q

    entry_known : entry_of before (value_in s) ≡ unless_stored before own.part
    entry_known = entry_same s r starting is h before ∙ ap (λ (o : Outcome Entry). and_then o (unless_stored before)) own.is

    module _ (twice : Bool) (tested : twice ≡ among (key_behind o.reach t) (texts_seen true seen (pack_before o.reach t))) where
      own_tested : among (key_bytes own.part.key) before ≡ twice
      own_tested =
          ap (λ (y : List ℕ). among y before) (sym found.key)
          ∙ ap (λ (p : Pack). among (key_behind o.reach t) (texts_seen true seen p)) (sym found.kept)
          ∙ sym tested

      pub stored_twice : twice ≡ true → refused duplicate_key ≡ entry_laid before (value_in s) (pack_of o)
      unfolding entry_laid laid_down
      stored_twice e =
          let refusal : entry_of before (value_in s) ≡ refused duplicate_key = entry_known ∙ rw (own_tested, e) refl in
          sym (ap (laid_down append_entry (pack_of o)) refusal)

      once : twice ≡ false → entry_of before (value_in s) ≡ ok own.part
      once e = entry_known ∙ rw (own_tested, e) refl

      pub stored_once : twice ≡ false → ok (pack_of t) ≡ entry_laid before (value_in s) (pack_of o)
      unfolding entry_laid laid_down
      stored_once e = ap ok own.laid ∙ sym (ap (laid_down append_entry (pack_of o)) (once e))

      pub keys_marked : twice ≡ false → (marks : List ℕ) → Marked marks (texts_seen true seen (pack_before o.reach t) ++ key_behind o.reach t ∷ []) → KeysMarkedAfter marks before (entry_of before (value_in s))
      keys_marked e marks q =
          subst (KeysMarkedAfter marks before) (sym (once e))
          (subst (λ (p : Pack). Marked marks (texts_seen true seen p ++ key_bytes own.part.key ∷ [])) found.kept
          (subst (λ (y : List ℕ). Marked marks (texts_seen true seen (pack_before o.reach t) ++ y ∷ [])) found.key q))
