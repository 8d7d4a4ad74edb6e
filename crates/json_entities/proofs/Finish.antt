-- From the reader of the entities to the entry point: a text that is JSON, the limits, the zeros behind the pack, the tables' lengths.
-- Assumes nothing.
use mathlib.Core.Path.{◌≡◌, refl, sym, ap, ◌∙◌}
use mathlib.Core.Bool.{Bool, true, false, cond}
use mathlib.Core.List.{List, ◌++◌}
use Prim.Native.Nat.{ℕ, ◌≤◌}
use native.Mathlib.Omega.{arith}
use lib.Dec.{leb}
use lib.ListN.{length, drop}
use lib.Seq.{length-take-le}
use Rattle.std.specs.Prelude.{is_some, IsSome, Err, None, Ok, Option, Result, Some}
use Rattle.format.specs.Limits.{text_limit, json_limit, nodes_used, texts_used}
use Rattle.format.specs.Outcome.{Outcome, ok, refused, mapped}
use Rattle.format.specs.Reaching.{empty_reach}
use Rattle.format.specs.Refusals.{table_too_short, line_too_long, not_json}
use Rattle.format.specs.declared.Reach.{Reach}
use Rattle.format.specs.declared.Refusal.{Refusal}
use Rattle.chars.specs.Utf8.{utf8}
use Rattle.chars.specs.Checked.{text_checked}
use Rattle.chars.specs.White.{empty}
use Rattle.chars.proofs.Checking.{stopped}
use Rattle.json_text.specs.Json.{Json}
use Rattle.json_text.specs.Parse.{then_read}
use Rattle.json_text.specs.Syntax.{ws, read_value, alone, json}
use Rattle.pack.specs.Pack.{Pack}
use Rattle.pack.specs.Padded.{padded}
use Rattle.pack.specs.LaidDown.{laid_down}
use Rattle.pack.specs.declared.Tables.{Tables}
use Rattle.pack.specs.Post.{pack_of, pack_before, Within, ended}
use Rattle.entities.specs.Entries.{Entries, append_entities}
use Rattle.lines.specs.Entry.{enough, Used, ClearedBehind}
use Rattle.json_entities.specs.Shape.{entries_of}
use Rattle.json_entities.specs.Read.{entities_laid}
use Rattle.json_entities.specs.Post.{json_in, WithinBytes}
use Rattle.json_entities.specs.Parts.{value_in}
use Rattle.json_entities.specs.Entry as Entry
use Rattle.json_entities.specs.Entry.{entries_if_json, read_entities, before_entities, cells_pack, cells_laid, kept, Prefix, Shown, EntitiesWhole}
use Rattle.json_entities.proofs.Mapped.{mapped_ok, mapped_refused}

-- ---- a text that is JSON: its value stands behind white space

pub record JsonRead (s : List ℕ) : Type 0 where
  pub there : IsSome (read_value (ws s))
  pub whole : json s ≡ Some (value_in (ws s))

sure : (b : Bool) (j : Json) → IsSome (cond b (Some j) None) → cond b (Some j) None ≡ Some j
sure true j h = refl
sure false j h = absurd cc

pub json_read : (s : List ℕ) → IsSome (json s) → JsonRead s
unfolding json
json_read s h = go (read_value (ws s)) refl h
  where
    go : (o : Option (Json × List ℕ)) → read_value (ws s) ≡ o → IsSome (then_read o (λ j r. alone (j, r))) → JsonRead s
    go (Some (j, r)) e h = record {
      there = rw e refl;
      whole = ap (λ (o : Option (Json × List ℕ)). then_read o (λ j r. alone (j, r))) e ∙ sure (empty (ws r)) j h ∙ sym (ap (λ (o : Option (Json × List ℕ)). Some (json_in o)) e);
    }
    go None e h = absurd cc

-- what is laid down is made of what was read
laid_mapped : {A : Type 0} (lay : A → Pack → Pack) (p : Pack) (o : Outcome A) → laid_down lay p o ≡ mapped (λ a. lay a p) o
unfolding laid_down
laid_mapped lay p (ok a) = refl
laid_mapped lay p (refused e) = refl

-- the entities stand behind what stands before them
pub cells_read : (s : List ℕ) (p : Pack) (o : Outcome Pack) → IsSome (json s) → p ≡ before_entities → o ≡ entities_laid (value_in (ws s)) p → o ≡ cells_laid (json s)
unfolding entities_laid
cells_read s p o h e r =
    r ∙ ap (λ (p : Pack). laid_down append_entities p (entries_of (value_in (ws s)))) e
    ∙ laid_mapped append_entities before_entities (entries_of (value_in (ws s)))
    ∙ sym (ap cells_laid (json_read s h).whole)

-- there is room for them
pub cells_fit : {A : Type 0} (w : ℕ) (t n : Tables) (r : Result A Refusal) → w ≤ json_limit → t.reach.nodes ≡ 8 → t.reach.texts ≡ 0 → WithinBytes w t n r
    → Within empty_reach nodes_used texts_used (ended r n)
cells_fit w t n (Ok a) h x y i = (omega arith, omega (arith, i.1), omega arith, omega (arith, i.3))
cells_fit w t n (Err e) h x y i = tt

-- ---- the limits on the whole text, and the cells

module _ (t : Tables) where
  -- no pack is kept
  refused_prefix : (o : Outcome Entries) (e : Refusal) → o ≡ refused e → Prefix o (Err e) t
  refused_prefix o e is = rw is (record { answer = refl; pack = refl; nodes = omega arith; texts = omega arith })

  cells_prefix : (o : Outcome Entries) (f : Reach) (es : Entries) → f.nodes ≤ length t.kinds.now → f.texts ≤ length t.texts.now → f.nodes ≤ nodes_used → f.texts ≤ texts_used
      → pack_before f t ≡ cells_pack es → o ≡ ok es → Prefix o (Ok f) t
  cells_prefix o f es lk lt ln lx p is =
      rw is (record { answer = rw (← p, length-take-le f.nodes t.kinds.now lk, length-take-le f.texts t.texts.now lt) refl; pack = p; nodes = ln; texts = lx })

  module _ (s : List ℕ) where
    pub limits_refused : {e : Refusal} → Err e ≡ text_checked s → Prefix (read_entities s) (Err e) t
    unfolding read_entities
    limits_refused {e} h = refused_prefix (read_entities s) e (sym (stopped s refused _ h))

    module _ (b : leb (length s) text_limit ≡ true) (u : utf8 s ≡ true) where
      pub too_long_json : leb (length s) json_limit ≡ false → Prefix (read_entities s) (Err line_too_long) t
      unfolding read_entities
      too_long_json e = refused_prefix (read_entities s) line_too_long (rw (b, u, e))

      module _ (e : leb (length s) json_limit ≡ true) where
        within_limits : read_entities s ≡ entries_if_json (json s)
        unfolding read_entities
        within_limits = rw (b, u, e)

        no_value : (o : Option Json) → is_some o ≡ false → entries_if_json o ≡ refused not_json
        no_value None h = refl
        no_value (Some j) h = absurd cc

        pub no_json : is_some (json s) ≡ false → Prefix (read_entities s) (Err not_json) t
        no_json h = refused_prefix (read_entities s) not_json (within_limits ∙ no_value (json s) h)

        pub cells_refused : (x : Refusal) → refused x ≡ cells_laid (json s) → Prefix (read_entities s) (Err x) t
        cells_refused x h = refused_prefix (read_entities s) x (within_limits ∙ mapped_refused cells_pack (entries_if_json (json s)) x (sym h))

        pub cells_answer : Used t → Within empty_reach nodes_used texts_used (Ok t.reach) → ok (pack_of t) ≡ cells_laid (json s) → Prefix (read_entities s) (Ok t.reach) t
        cells_answer l m h =
            let c = mapped_ok cells_pack (entries_if_json (json s)) (pack_of t) (sym h) in
            cells_prefix (read_entities s) t.reach c.0 (omega (arith, l.kinds, m.1)) (omega (arith, l.texts, m.3)) (omega (arith, m.1)) (omega (arith, m.3)) c.1.1 (within_limits ∙ c.1.0)

-- ---- zeros behind the pack

pub shown : (o : Outcome Entries) (r : Result Reach Refusal) (f : Reach) (t t' : Tables) → Prefix o r t → f ≡ kept r → ClearedBehind f t t' → Shown o r t'
shown o r f t t' p e z =
    let q : pack_before f t ≡ Entry.pack_of o = rw e p.pack in
    record {
      answer = p.answer;
      kinds = z.kinds ∙ ap (λ (x : Pack). padded nodes_used x.kinds) q;
      numbers = z.numbers ∙ ap (λ (x : Pack). padded nodes_used x.numbers) q;
      texts = z.texts ∙ ap (λ (x : Pack). padded texts_used x.texts) q;
    }

-- ---- the whole tables

module _ (s k n t : List ℕ) where
  -- the used parts were lent, and ended as `used`; what lies past them was not lent
  pub entities_whole : (r : Result Reach Refusal) (used : Tables) (k' n' t' k'' n'' t'' : List ℕ) → enough k n t ≡ true → Shown (read_entities s) r used
      → k' ≡ used.kinds.now → n' ≡ used.numbers.now → t' ≡ used.texts.now → k'' ≡ drop nodes_used k → n'' ≡ drop nodes_used n → t'' ≡ drop texts_used t
      → EntitiesWhole s k n t r (k' ++ k'') (n' ++ n'') (t' ++ t'')
  entities_whole r used k' n' t' k'' n'' t'' e h a b c a' b' c' = record {
    answer = rw e h.answer;
    kinds = rw (e, a, a', h.kinds);
    numbers = rw (e, b, b', h.numbers);
    texts = rw (e, c, c', h.texts);
  }

  pub entities_whole_not : enough k n t ≡ false → EntitiesWhole s k n t (Err table_too_short) k n t
  entities_whole_not e = record { answer = rw e; kinds = rw e; numbers = rw e; texts = rw e }
