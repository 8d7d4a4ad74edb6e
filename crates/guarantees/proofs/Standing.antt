-- Where entries stand in the tables, and that walking over them finds their stored keys, whatever lies behind the pack.
-- Assumes nothing.
use mathlib.Core.Path.{◌≡◌, refl, ap, ◌∙◌}
use mathlib.Core.List.{List, ◌∷◌, ◌++◌, append_assoc}
use Prim.Native.Nat.{ℕ, ◌+◌, ◌-◌, ◌^◌, ◌<◌}
use native.Mathlib.Omega.{arith}
use lib.ListN.{length, drop, get_or, replicate, length-append}
use lib.Seq.{drop_at, get_or_at}
use Rattle.format.specs.Kinds.{record_kind}
use Rattle.format.specs.declared.Reach.{Reach}
use Rattle.pack.specs.Pack.{Pack, empty_pack, node}
use Rattle.pack.specs.Padded.{padded}
use Rattle.pack.proofs.Appended.{pack_is}
use Rattle.pack.proofs.Closed.{joined}
use Rattle.pack.proofs.Laid.{element}
use Rattle.entities.specs.Entries.{Entries, count_entries, stored_keys, append_entities}
use Rattle.entities.specs.Closed.{kinds_entries, texts_entries, numbers_entries}
use Rattle.entities.proofs.Laid.{append_entries_closed, keys_laid}
use Rattle.lines.specs.Entry.{sizes_of}
use Rattle.guarantees.specs.Keys.{followed_by, keys_in}
use Rattle.guarantees.proofs.Laying.{past_all, Laid}
use Rattle.pack.specs.EventParts.{entities_at}

-- ---- the entities node is the ninth

pub entities_closed : (es : Entries) (p : Pack)
    → append_entities es p ≡ joined p (record_kind ∷ kinds_entries es) (count_entries es ∷ numbers_entries es (length p.texts)) (texts_entries es)
entities_closed es p = append_entries_closed es (node record_kind (count_entries es) p) ∙ pack_is _ _ (append_assoc p.kinds _ _) (append_assoc p.numbers _ _) refl

-- behind eight values, whatever follows the pack
keys_ninth : (es : Entries) (q rest : Pack) → Laid 8 empty_pack q → length (texts_entries es) < 2 ^ 32
    → keys_in (followed_by (joined q (record_kind ∷ kinds_entries es) (count_entries es ∷ numbers_entries es (length q.texts)) (texts_entries es)) rest) ≡ stored_keys es
unfolding keys_in past_all
keys_ninth es q rest o l =
    let all = followed_by (joined q (record_kind ∷ kinds_entries es) (count_entries es ∷ numbers_entries es (length q.texts)) (texts_entries es)) rest in
    let ks : List ℕ = all.kinds in
    let ns : List ℕ = all.numbers in
    let ts : List ℕ = all.texts in
    let c = length o.kinds in
    let k0 : ks ≡ o.kinds ++ (record_kind ∷ (kinds_entries es ++ rest.kinds)) = rw o.is (simp append_assoc) in
    let n0 : ns ≡ o.numbers ++ (count_entries es ∷ (numbers_entries es (length q.texts) ++ rest.numbers)) = rw o.is (simp append_assoc) in
    let t0 : ts ≡ q.texts ++ (texts_entries es ++ rest.texts) = simp append_assoc in
    let at : entities_at ks ns ≡ c = o.past 0 ks ns _ _ k0 n0 ∙ omega arith in
    let count : get_or ns c 0 ≡ count_entries es = rw n0 (get_or_at o.numbers _ _ 0 c o.even) in
    let k1 = element ks c record_kind _ (ap (drop c) k0 ∙ drop_at o.kinds _ c refl) in
    let n1 = element ns c (count_entries es) _ (ap (drop c) n0 ∙ drop_at o.numbers _ c o.even) in
    rw (at, count)
    (keys_laid es (c + 1) (length q.texts) ks ns ts _ _ _ k1.rest n1.rest (ap (drop (length q.texts)) t0 ∙ drop_at q.texts _ (length q.texts) refl) l)

pub entities_stand : (es : Entries) (p rest : Pack) → Laid 8 empty_pack p → length (append_entities es p).texts < 2 ^ 32 → keys_in (followed_by (append_entities es p) rest) ≡ stored_keys es
entities_stand es p rest o l =
    let c = entities_closed es p in
    let t = ap (λ (q : Pack). length q.texts) c ∙ length-append p.texts (texts_entries es) in
    ap (λ (q : Pack). keys_in (followed_by q rest)) c ∙ keys_ninth es p rest o (omega arith)

-- ---- in tables that a call left

-- tables that begin with a pack of the sizes f: eight values, and then the entities node with the entries es
pub record EntitiesStand (f : Reach) (q : Pack) (es : Entries) : Type 0 where
  pub before : Pack
  pub laid : Laid 8 empty_pack before
  pub rest : Pack
  pub is : q ≡ followed_by (append_entities es before) rest
  pub sizes : f ≡ sizes_of (append_entities es before)
  pub short : length (append_entities es before).texts < 2 ^ 32

pub keys_stand : {f : Reach} {q : Pack} {es : Entries} → EntitiesStand f q es → keys_in q ≡ stored_keys es
keys_stand {es = es} o = rw o.is (entities_stand es o.before o.rest o.laid o.short)

-- zeros behind what was written, and then r
padded_behind : (n : ℕ) (l r : List ℕ) → padded n l ++ r ≡ l ++ (replicate (n - length l) 0 ++ r)
unfolding padded
padded_behind n l r = append_assoc l (replicate (n - length l) 0) r

pub tables_padded : (n m : ℕ) (p past : Pack)
    → (rest : Pack) × (record { kinds = padded n p.kinds ++ past.kinds; numbers = padded n p.numbers ++ past.numbers; texts = padded m p.texts ++ past.texts } ≡ followed_by p rest)
tables_padded n m p past = (_, pack_is _ _ (padded_behind n p.kinds past.kinds) (padded_behind n p.numbers past.numbers) (padded_behind m p.texts past.texts))
