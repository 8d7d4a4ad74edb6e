-- The entities nodes of a pack, text starts counted from the first of them, are those that the entries alone give, whatever stands before them.
-- Assumes nothing.
use mathlib.Core.Path.{◌≡◌, refl, sym, ap, ap₂, ◌∙◌}
use mathlib.Core.Bool.{true, false, cond}
use mathlib.Core.List.{List, [], ◌∷◌, ◌++◌, append-nil}
use Prim.Native.Nat.{ℕ, ◌+◌, ◌-◌, ◌*◌, ◌^◌, ◌<◌}
use native.Mathlib.Omega.{arith}
use lib.ListN.{length, drop, length-append}
use lib.Seq.{take_at, drop_at}
use Rattle.format.specs.Kinds.{record_kind}
use Rattle.format.specs.declared.Reach.{Reach}
use Rattle.keys.specs.Escape.{pinned, entity_uid}
use Rattle.pack.specs.Pack.{Pack, empty_pack, text_number}
use Rattle.pack.specs.Value.{Value, null, bool, integer, decimal, string, entity, array, fields, Values, no_item, more, Fields, no_field, field, count_items, count_fields}
use Rattle.pack.specs.Closed.{kinds_of, kinds_all, kinds_fields, texts_of, numbers_of, numbers_all, numbers_fields}
use Rattle.pack.specs.EventParts.{entities_at}
use Rattle.pack.proofs.Appended.{pack_is}
use Rattle.pack.proofs.Closed.{joined, numbers_long}
use Rattle.entities.specs.Entries.{Entries, no_entry, entry, count_entries, append_entities}
use Rattle.entities.specs.Closed.{kinds_entries, texts_entries, numbers_entries}
use Rattle.listing.proofs.SheetLaid.{entries_even}
use Rattle.guarantees.specs.Calls.{pack_left}
use Rattle.guarantees.specs.EntityNodes.{has_text, first_start, counted_from, nodes_from, entities_nodes}
use Rattle.guarantees.proofs.Laying.{past_all, Laid}
use Rattle.guarantees.proofs.Standing.{EntitiesStand, entities_closed}

-- ---- numbers, counted from a start

module _ (start : ℕ) where
  counted_joined : (ks ns rk rn : List ℕ) → length ns ≡ length ks → counted_from start (ks ++ rk) (ns ++ rn) ≡ counted_from start ks ns ++ counted_from start rk rn
  unfolding counted_from
  counted_joined [] [] rk rn e = refl
  counted_joined [] (n ∷ ns) rk rn e = absurd (omega (arith, e))
  counted_joined (k ∷ ks) [] rk rn e = absurd (omega (arith, e))
  counted_joined (k ∷ ks) (n ∷ ns) rk rn e = ap (λ (l : List ℕ). cond (has_text k) (n - start * 2 ^ 32) n ∷ l) (counted_joined ks ns rk rn (omega (arith, e)))

  -- of a text that starts so far behind it
  text_counted : (p at l : ℕ) → p ≡ start + at → text_number p l - start * 2 ^ 32 ≡ text_number at l
  text_counted p at l e = omega (arith, e)

  mutual
    unfolding counted_from kinds_of numbers_of

    value_counted : (v : Value) (p at : ℕ) → p ≡ start + at → counted_from start (kinds_of v) (numbers_of v p) ≡ numbers_of v at
    value_counted null p at e = refl
    value_counted (bool true) p at e = refl
    value_counted (bool false) p at e = refl
    value_counted (integer n) p at e = refl
    value_counted (decimal s) p at e = ap (λ (n : ℕ). n ∷ []) (text_counted p at (length s) e)
    value_counted (string s) p at e = ap (λ (n : ℕ). n ∷ []) (text_counted p at (length s) e)
    value_counted (entity ty id) p at e =
        ap₂ (λ (m n : ℕ). 0 ∷ m ∷ n ∷ []) (text_counted p at (length ty) e) (text_counted (p + length ty) (at + length ty) (length id) (omega (arith, e)))
    value_counted (array vs) p at e = ap (λ (l : List ℕ). count_items vs ∷ l) (items_counted vs p at e)
    value_counted (fields fs) p at e = ap (λ (l : List ℕ). count_fields fs ∷ l) (fields_counted fs p at e)

    items_counted : (vs : Values) (p at : ℕ) → p ≡ start + at → counted_from start (kinds_all vs) (numbers_all vs p) ≡ numbers_all vs at
    items_counted no_item p at e = refl
    items_counted (more v vs) p at e =
        let l = length (texts_of v) in
        counted_joined (kinds_of v) (numbers_of v p) (kinds_all vs) (numbers_all vs (p + l)) (numbers_long v p)
        ∙ ap₂ (λ (a b : List ℕ). a ++ b) (value_counted v p at e) (items_counted vs (p + l) (at + l) (omega (arith, e)))

    fields_counted : (fs : Fields) (p at : ℕ) → p ≡ start + at → counted_from start (kinds_fields fs) (numbers_fields fs p) ≡ numbers_fields fs at
    fields_counted no_field p at e = refl
    fields_counted (field x v fs) p at e =
        let l = length x in
        let m = length (texts_of v) in
        ap₂ (λ (n : ℕ) (r : List ℕ). n ∷ r) (text_counted p at l e)
        (counted_joined (kinds_of v) (numbers_of v (p + l)) (kinds_fields fs) (numbers_fields fs (p + l + m)) (numbers_long v (p + l))
        ∙ ap₂ (λ (a b : List ℕ). a ++ b) (value_counted v (p + l) (at + l) (omega (arith, e))) (fields_counted fs (p + l + m) (at + l + m) (omega (arith, e))))

  entries_counted : (es : Entries) (p at : ℕ) → p ≡ start + at → counted_from start (kinds_entries es) (numbers_entries es p) ≡ numbers_entries es at
  unfolding counted_from kinds_entries numbers_entries
  entries_counted no_entry p at e = refl
  entries_counted (entry ty id fs ps es) p at e =
      let l = length (entity_uid pinned ty id) in
      let v = fields fs in
      let w = array ps in
      let m = length (texts_of v) in
      let n = length (texts_of w) in
      ap₂ (λ (n : ℕ) (r : List ℕ). n ∷ r) (text_counted p at l e)
      (counted_joined (kinds_of v) (numbers_of v (p + l)) (kinds_of w ++ kinds_entries es) (numbers_of w (p + l + m) ++ numbers_entries es (p + l + m + n)) (numbers_long v (p + l))
      ∙ ap₂ (λ (a b : List ℕ). a ++ b) (value_counted v (p + l) (at + l) (omega (arith, e)))
      (counted_joined (kinds_of w) (numbers_of w (p + l + m)) (kinds_entries es) (numbers_entries es (p + l + m + n)) (numbers_long w (p + l + m))
      ∙ ap₂ (λ (a b : List ℕ). a ++ b) (value_counted w (p + l + m) (at + l + m) (omega (arith, e))) (entries_counted es (p + l + m + n) (at + l + m + n) (omega (arith, e)))))

-- ---- the first text is the first entry's key

first_found : (es : Entries) (at end : ℕ) → end ≡ at + length (texts_entries es) → length (texts_entries es) < 2 ^ 32 → first_start end (kinds_entries es) (numbers_entries es at) ≡ at
unfolding first_start kinds_entries numbers_entries texts_entries
first_found no_entry at end e l = omega (arith, e)
first_found (entry ty id fs ps es) at end e l =
    let k = length-append (entity_uid pinned ty id) (texts_of (fields fs) ++ (texts_of (array ps) ++ texts_entries es)) in
    omega (arith, k, l)

-- with what stands there and where its first text starts
nodes_are : (p : Pack) (at start : ℕ) (ks ns : List ℕ) → drop at p.kinds ≡ ks → drop at p.numbers ≡ ns → first_start (length p.texts) ks ns ≡ start
    → nodes_from at p ≡ record { kinds = ks; numbers = counted_from start ks ns; texts = drop start p.texts }
nodes_are p at start ks ns k n e = rw (k, n, e) refl

-- ---- behind the pack p, of which nothing is seen any more

module _ (es : Entries) (p : Pack) (l : length (texts_entries es) < 2 ^ 32) where
  abbrev with_entities : Pack
  with_entities = joined p (record_kind ∷ kinds_entries es) (count_entries es ∷ numbers_entries es (length p.texts)) (texts_entries es)

  -- from the node on that stands behind it
  alone_from : (at : ℕ) → length p.kinds ≡ at → length p.numbers ≡ at → nodes_from at with_entities ≡ append_entities es empty_pack
  unfolding first_start counted_from
  alone_from at k n =
      let start = first_found es (length p.texts) (length with_entities.texts) (length-append p.texts (texts_entries es)) l in
      nodes_are with_entities at (length p.texts) (record_kind ∷ kinds_entries es) (count_entries es ∷ numbers_entries es (length p.texts))
      (drop_at p.kinds (record_kind ∷ kinds_entries es) at k) (drop_at p.numbers (count_entries es ∷ numbers_entries es (length p.texts)) at n) start
      ∙ pack_is _ _ refl (ap (λ (r : List ℕ). count_entries es ∷ r) (entries_counted (length p.texts) es (length p.texts) 0 (omega arith))) (drop_at p.texts (texts_entries es) (length p.texts) refl)
      ∙ sym (entities_closed es empty_pack)

  -- from the ninth value on
  alone_behind : Laid 8 empty_pack p → entities_nodes with_entities ≡ append_entities es empty_pack
  unfolding past_all
  alone_behind o =
      let c = length o.kinds in
      let ks : List ℕ = with_entities.kinds in
      let ns : List ℕ = with_entities.numbers in
      let k0 : ks ≡ o.kinds ++ (record_kind ∷ (kinds_entries es ++ [])) = rw o.is (simp append-nil) in
      let n0 : ns ≡ o.numbers ++ (count_entries es ∷ (numbers_entries es (length p.texts) ++ [])) = rw o.is (simp append-nil) in
      let at : entities_at ks ns ≡ c = o.past 0 ks ns _ _ k0 n0 ∙ omega arith in
      ap (λ (n : ℕ). nodes_from n with_entities) at ∙ alone_from c (ap (λ (r : Pack). length r.kinds) o.is) (ap (λ (r : Pack). length r.numbers) o.is ∙ o.even)

pub behind_alone : (es : Entries) (p : Pack) → Laid 8 empty_pack p → length (append_entities es p).texts < 2 ^ 32 → entities_nodes (append_entities es p) ≡ append_entities es empty_pack
behind_alone es p o short =
    let c = entities_closed es p in
    let t = ap (λ (r : Pack). length r.texts) c ∙ length-append p.texts (texts_entries es) in
    ap entities_nodes c ∙ alone_behind es p (omega (arith, t, short)) o

-- ---- in tables

module _ {f : Reach} {q : Pack} {es : Entries} (o : EntitiesStand f q es) where
  -- as many numbers as kinds
  even : length (append_entities es o.before).numbers ≡ length (append_entities es o.before).kinds
  even =
      let ks = ap (λ (r : Pack). length r.kinds) o.laid.is in
      let ns = ap (λ (r : Pack). length r.numbers) o.laid.is in
      rw (entities_closed es o.before) (omega (
        arith,
        length-append o.before.kinds (record_kind ∷ kinds_entries es),
        length-append o.before.numbers (count_entries es ∷ numbers_entries es (length o.before.texts)),
        entries_even es (length o.before.texts),
        o.laid.even,
        ks,
        ns,
      ))

  -- the pack that stands there, as far as its sizes
  pack_stands : pack_left f q ≡ append_entities es o.before
  pack_stands =
      let p = append_entities es o.before in
      rw (o.sizes, o.is) (pack_is _ _ (take_at p.kinds o.rest.kinds (length p.kinds) refl) (take_at p.numbers o.rest.numbers (length p.kinds) even) (take_at p.texts o.rest.texts (length p.texts) refl))

  pub left_alone : entities_nodes (pack_left f q) ≡ append_entities es empty_pack
  left_alone = ap entities_nodes pack_stands ∙ behind_alone es o.before o.laid o.short
