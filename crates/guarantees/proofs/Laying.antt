-- Values laid behind a pack one after the other: what stands there, and that walking past them leads behind them, whatever lies there. So of all that
-- stands before the entities node, in the pack of an event and in one of entities JSON.
-- Assumes nothing.
use mathlib.Core.Path.{◌≡◌, refl, sym, ap, ◌∙◌}
use mathlib.Core.List.{List, [], ◌∷◌, ◌++◌, append_assoc, append-nil}
use Prim.Native.Nat.{ℕ, zero, suc, ◌+◌}
use native.Mathlib.Nat.{zero-add, add_assoc}
use native.Mathlib.Omega.{arith}
use lib.ListN.{length, drop, length-append}
use Rattle.format.specs.Kinds.{absent_kind, integer_kind, array_kind, record_kind, text_kind}
use Rattle.pack.specs.Value.{Value, integer, array, no_item, count_items, fields, no_field, count_fields}
use Rattle.pack.specs.Pack.{Pack, empty_pack, node, append_text, append_value, text_number}
use Rattle.pack.specs.Closed.{kinds_of, texts_of, numbers_of}
use Rattle.pack.specs.Walk.{children, past_at}
use Rattle.pack.proofs.Appended.{pack_is}
use Rattle.pack.proofs.Closed.{joined, append_closed, numbers_long}
use Rattle.pack.proofs.Laid.{past_value, past_leaf, behind}
use Rattle.heads.specs.Head.{Head, count_texts, append_namespace, append_head}
use Rattle.heads.proofs.Texts.{kinds_texts, numbers_texts, joined_texts, namespace_closed, kinds_length, numbers_length, past_texts}
use Rattle.events.specs.Event.{Event, append_if}
use Rattle.json_entities.specs.Entry as Json
use Rattle.std.specs.Prelude.{None, Option, Some}

-- the node behind n values
unfoldable pub past_all : ℕ → List ℕ → List ℕ → ℕ → ℕ
past_all zero ks ns at = at
past_all (suc n) ks ns at = past_all n ks ns (past_at ks ns at)

-- n values are what q has more than p
pub record Laid (n : ℕ) (p q : Pack) : Type 0 where
  pub kinds : List ℕ
  pub numbers : List ℕ
  pub texts : List ℕ
  pub is : q ≡ joined p kinds numbers texts
  pub even : length numbers ≡ length kinds
  pub past : (at : ℕ) (ks ns rk rn : List ℕ) → drop at ks ≡ kinds ++ rk → drop at ns ≡ numbers ++ rn → past_all n ks ns at ≡ at + length kinds

past_sum : (m n : ℕ) (ks ns : List ℕ) (at : ℕ) → past_all (m + n) ks ns at ≡ past_all n ks ns (past_all m ks ns at)
unfolding past_all
past_sum zero n ks ns at = rw (zero-add n)
past_sum (suc m) n ks ns at = let w : suc m + n ≡ suc (m + n) = omega arith in rw w (past_sum m n ks ns (past_at ks ns at))

pub laid_then : {m n : ℕ} {p q r : Pack} → Laid m p q → Laid n q r → Laid (m + n) p r
laid_then {m} {n} {p} {q} {r} a b = record {
  kinds = a.kinds ++ b.kinds;
  numbers = a.numbers ++ b.numbers;
  texts = a.texts ++ b.texts;
  is = b.is ∙ ap (λ (z : Pack). joined z b.kinds b.numbers b.texts) a.is
      ∙ pack_is _ _ (append_assoc p.kinds _ _) (append_assoc p.numbers _ _) (append_assoc p.texts _ _);
  even = simp length-append (omega (arith, a.even, b.even));
  past = λ at ks ns rk rn hk hn.
      let k = hk ∙ append_assoc a.kinds b.kinds rk in
      let l = hn ∙ append_assoc a.numbers b.numbers rn in
      past_sum m n ks ns at
      ∙ ap (past_all n ks ns) (a.past at ks ns _ _ k l)
      ∙ b.past (at + length a.kinds) ks ns rk rn (behind ks at _ a.kinds _ k refl) (behind ns at _ a.numbers _ l a.even)
      ∙ simp (length-append, add_assoc);
}

-- ---- a value, and a node that has nothing behind it

pub value_laid : (v : Value) (p : Pack) → Laid 1 p (append_value v p)
unfolding past_all
value_laid v p = record {
  kinds = kinds_of v;
  numbers = numbers_of v (length p.texts);
  texts = texts_of v;
  is = append_closed v p;
  even = numbers_long v (length p.texts);
  past = λ at ks ns rk rn hk hn. past_value v at (length p.texts) ks ns rk rn hk hn;
}

leaf_laid : (kind number : ℕ) (x : List ℕ) (p q : Pack) → children kind number ≡ 0 → q ≡ joined p (kind ∷ []) (number ∷ []) x → Laid 1 p q
unfolding past_all
leaf_laid kind number x p q leaf is = record {
  kinds = kind ∷ [];
  numbers = number ∷ [];
  texts = x;
  is = is;
  even = refl;
  past = λ at ks ns rk rn hk hn. past_leaf kind number at ks ns rk rn leaf hk hn;
}

absent_laid : (p : Pack) → Laid 1 p (node absent_kind 0 p)
unfolding children
absent_laid p = leaf_laid absent_kind 0 [] p _ refl (pack_is _ _ refl refl (sym (append-nil p.texts)))

pub text_walked : (x : List ℕ) (p : Pack) → Laid 1 p (append_text text_kind x p)
unfolding children
text_walked x p = leaf_laid text_kind (text_number (length p.texts) (length x)) x p _ refl refl

pub option_laid : (o : Option Value) (p : Pack) → Laid 1 p (append_if o p)
option_laid (Some v) p = value_laid v p
option_laid None p = absent_laid p

-- ---- an array of texts

texts_laid : (xs : List (List ℕ)) (p : Pack) → Laid 1 p (append_namespace xs p)
unfolding past_all
texts_laid xs p = record {
  kinds = array_kind ∷ kinds_texts xs;
  numbers = count_texts xs ∷ numbers_texts (length p.texts) xs;
  texts = joined_texts xs;
  is = namespace_closed xs p;
  even = omega (arith, kinds_length xs, numbers_length (length p.texts) xs);
  past = λ at ks ns rk rn hk hn. past_texts xs (length p.texts) at ks ns rk rn hk hn;
}

-- ---- an event, all but its entities

time_laid : (n : ℕ) (p : Pack) → Laid 1 p (node integer_kind n p)
unfolding append_value
time_laid n p = value_laid (integer n) p

head_laid : (h : Head) (p : Pack) → Laid 3 p (append_head h p)
head_laid h p = laid_then (laid_then (texts_laid h.namespace p) (text_walked h.action _)) (text_walked h.kind _)

abbrev pub before_entities : Event → Pack → Pack
before_entities e p =
    append_value (fields e.context) (append_value (fields e.logged) (append_head e.head (append_if e.resource (append_if e.principal (node integer_kind e.time p)))))

pub parts_laid : (e : Event) (p : Pack) → Laid 8 p (before_entities e p)
parts_laid e p =
    laid_then (laid_then (laid_then (laid_then (laid_then (time_laid e.time p) (option_laid e.principal _)) (option_laid e.resource _)) (head_laid e.head _))
    (value_laid (fields e.logged) _)) (value_laid (fields e.context) _)

-- ---- a pack of entities JSON, all but its entities

no_items_laid : (p : Pack) → Laid 1 p (node array_kind 0 p)
unfolding append_value count_items
no_items_laid p = value_laid (array no_item) p

no_fields_laid : (p : Pack) → Laid 1 p (node record_kind 0 p)
unfolding append_value count_fields
no_fields_laid p = value_laid (fields no_field) p

pub json_parts_laid : Laid 8 empty_pack Json.before_entities
json_parts_laid =
    laid_then (laid_then (laid_then (laid_then (laid_then (laid_then (laid_then (absent_laid empty_pack) (absent_laid _)) (absent_laid _)) (no_items_laid _)) (text_walked [] _)) (text_walked [] _))
    (no_fields_laid _)) (no_fields_laid _)
