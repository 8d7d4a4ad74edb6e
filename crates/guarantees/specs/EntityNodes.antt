-- The entities nodes of a pack, apart from what stands before them: document 02, A2, "Equal type, id, record and parents in the same written order
-- give the same entities nodes as a log line gives, text starts counted from the first text under the entities node". Total on all packs.
-- Assumes nothing.
use Rattle.std.specs.Prelude.{Bool, cond, ◌||◌, List, [], ◌∷◌, ℕ, ◌-◌, ◌*◌, ◌^◌, ◌/◌, eqb, length, drop}
use Rattle.format.specs.Kinds.{decimal_kind, string_kind, text_kind}
use Rattle.pack.specs.Pack.{Pack}
use Rattle.guarantees.specs.Keys.{entities_node}

-- the kinds whose numbers are the start and the length of a text: 5, 6 and 10
abbrev pub has_text : ℕ → Bool
has_text k = eqb k decimal_kind || (eqb k string_kind || eqb k text_kind)

-- where the first text of nodes starts; where they have none, `end`
unfoldable pub first_start : ℕ → List ℕ → List ℕ → ℕ
first_start end [] ns = end
first_start end (k ∷ ks) [] = end
first_start end (k ∷ ks) (n ∷ ns) = cond (has_text k) (n / 2 ^ 32) (first_start end ks ns)

-- the numbers of nodes, text starts counted from a start
unfoldable pub counted_from : ℕ → List ℕ → List ℕ → List ℕ
counted_from start [] ns = []
counted_from start (k ∷ ks) [] = []
counted_from start (k ∷ ks) (n ∷ ns) = cond (has_text k) (n - start * 2 ^ 32) n ∷ counted_from start ks ns

-- the nodes from the node `at` on, their text starts counted from the first of them, and the texts from there
abbrev pub nodes_from : ℕ → Pack → Pack
nodes_from at p =
    let start = first_start (length p.texts) (drop at p.kinds) (drop at p.numbers) in
    record { kinds = drop at p.kinds; numbers = counted_from start (drop at p.kinds) (drop at p.numbers); texts = drop start p.texts }

abbrev pub entities_nodes : Pack → Pack
entities_nodes p = nodes_from (entities_node p) p
