-- The walk with a stack of open brackets in place of recursion: where a rule of the grammar calls another, the walk goes on with a bracket more.
-- Assumes nothing.
use mathlib.Core.Path.{◌≡◌, refl, sym, ap, ◌∙◌}
use mathlib.Core.Bool.{Bool, true, false, cond}
use mathlib.Core.List.{List, [], ◌∷◌}
use Prim.Native.Char.{code}
use Prim.Native.Nat.{ℕ, zero, suc, ◌+◌, ◌-◌, ◌≤◌, ◌<◌}
use native.Mathlib.Omega.{arith}
use lib.Dec.{eqb}
use lib.ListN.{length, take, drop, get_or, set, length-drop}
use native.Mathlib.Numerals.{add-one, sub-one}
use lib.Seq.{get_or-set_other, get_or-set_same}
use borrow.Author.Tests.{eq-eqb, ne_eqb, eqb-true}
use Rattle.buffers.proofs.Appending.{take_rest}
use Rattle.buffers.proofs.Choice.{both_arms}
use Rattle.chars.specs.White.{empty}
use Rattle.json_text.specs.Json.{Json, array, object, Items, no_item, item, Members, no_member, member}
use Rattle.json_text.specs.Parse.{then_read, made, starts}
use Rattle.json_text.specs.Syntax.{ws, scalar, Next, part, first_part, next_part, onward, onward_if, member_name, read_value, read_items, read_members, alone, json}
use Rattle.json_text.specs.declared.Step.{Step}
use Rattle.json_text.specs.Post.{behind, member_texts}
use Rattle.json_text.specs.Walk.{goes, closing, within_bracket, closes, right, StepsTo, bytes_ahead}
use Rattle.json_text.proofs.Lengths.{starts_inside, scalar_shorter, member_shorter}
use Rattle.json_text.proofs.Rules.{first_shorter, next_shorter, value_rule, items_rule, members_rule}
use Rattle.std.specs.Prelude.{None, Option, Some, is_some, ◌≢◌}

-- ---- the text goes on behind what is read

module _ {A : Type 0} where
  goes_same : (on more : List ℕ → Bool) → ((r : List ℕ) → on r ≡ more r) → (o : Option (A × List ℕ)) → goes o on ≡ goes o more
  goes_same on more e (Some p) = e p.1
  goes_same on more e None = refl

  goes_made : {B : Type 0} (f : A → B) (o : Option (A × List ℕ)) (on : List ℕ → Bool) → goes (made f o) on ≡ goes o on
  goes_made f (Some p) on = refl
  goes_made f None on = refl

  -- whatever is read, what follows goes on alike
  goes_then : {B : Type 0} (f : A → List ℕ → Option (B × List ℕ)) (on more : List ℕ → Bool) → ((a : A) (r : List ℕ) → goes (f a r) on ≡ more r) → (o : Option (A × List ℕ))
      → goes (then_read o f) on ≡ goes o more
  goes_then f on more e (Some p) = e p.0 p.1
  goes_then f on more e None = refl

-- ---- the rules

module _ (on : List ℕ → Bool) where
  -- what follows an item, or a member
  abbrev behind_item : List ℕ → Bool
  behind_item r = goes (onward_if no_item read_items (next_part (code "]") r)) on

  abbrev behind_member : List ℕ → Bool
  behind_member r = goes (onward_if no_member read_members (next_part (code "}") r)) on

  items_go : (s : List ℕ) → goes (read_items s) on ≡ goes (read_value s) behind_item
  items_go s =
      ap (λ (o : Option (Items × List ℕ)). goes o on) (items_rule s)
      ∙ goes_then (λ j r. made (item j) (onward_if no_item read_items (next_part (code "]") r))) on behind_item
      (λ j r. goes_made (item j) (onward_if no_item read_items (next_part (code "]") r)) on) (read_value s)

  members_go : (s : List ℕ) → goes (read_members s) on ≡ goes (member_name s) (λ r. goes (read_value r) behind_member)
  members_go s =
      ap (λ (o : Option (Members × List ℕ)). goes o on) (members_rule s)
      ∙ goes_then (λ x r. then_read (read_value r) (λ j t. made (member x j) (onward_if no_member read_members (next_part (code "}") t)))) on (λ r. goes (read_value r) behind_member)
      (λ x r.
      goes_then (λ j t. made (member x j) (onward_if no_member read_members (next_part (code "}") t))) on behind_member
      (λ j t. goes_made (member x j) (onward_if no_member read_members (next_part (code "}") t)) on) (read_value r))
      (member_name s)

  -- a value that an opening bracket starts, and any other
  array_goes : (s : List ℕ) → starts (code "[") s ≡ true → goes (read_value s) on ≡ within_bracket (code "[") on (Some (first_part (code "]") (drop 1 s)))
  array_goes s e =
      ap (λ (o : Option (Json × List ℕ)). goes o on) (value_rule s) ∙ rw e (goes_made array (onward no_item read_items (first_part (code "]") (drop 1 s))) on)

  object_goes : (s : List ℕ) → starts (code "{") s ≡ true → goes (read_value s) on ≡ within_bracket (code "{") on (Some (first_part (code "}") (drop 1 s)))
  object_goes s e =
      let f : starts (code "[") s ≡ false = ne_eqb (get_or s 0 0) (code "[") (λ q. omega (arith, q, eqb-true (get_or s 0 0) (code "{") e)) in
      ap (λ (o : Option (Json × List ℕ)). goes o on) (value_rule s)
      ∙ rw (f, e) (goes_made object (onward no_member read_members (first_part (code "}") (drop 1 s))) on)

  scalar_goes : (s : List ℕ) → starts (code "[") s ≡ false → starts (code "{") s ≡ false → goes (read_value s) on ≡ goes (scalar s) on
  scalar_goes s e f = ap (λ (o : Option (Json × List ℕ)). goes o on) (value_rule s) ∙ rw (e, f)

-- ---- a bracket more on the stack

within_same : (b : ℕ) (on more : List ℕ → Bool) → ((r : List ℕ) → on r ≡ more r) → (o : Option Next) → within_bracket b on o ≡ within_bracket b more o
within_same b on more e o = go (eqb b (code "["))
  where
    go : (t : Bool) → cond t (goes (onward_if no_item read_items o) on) (goes (onward_if no_member read_members o) on)
        ≡ cond t (goes (onward_if no_item read_items o) more) (goes (onward_if no_member read_members o) more)
    go true = goes_same on more e (onward_if no_item read_items o)
    go false = goes_same on more e (onward_if no_member read_members o)

-- how the brackets below place k close, what stands there does not matter
closes_below : (nesting : List ℕ) (k b d : ℕ) → d ≤ k → (s : List ℕ) → closes (set nesting k b) d s ≡ closes nesting d s
unfolding closes
closes_below nesting k b zero h s = refl
closes_below nesting k b (suc d) h s =
    let other : d ≢ k = omega arith in
    rw (get_or-set_other nesting k d b 0 other)
    (within_same (get_or nesting d 0) (closes (set nesting k b) d) (closes nesting d) (closes_below nesting k b d (omega arith)) (next_part (closing (get_or nesting d 0)) s))

-- ---- a part in the bracket b, which opens with d brackets before it

module _ (nesting : List ℕ) (d b : ℕ) (h : d < length nesting) where
  -- what follows the part
  pushed : (s : List ℕ) → closes (set nesting d b) (d + 1) s ≡ within_bracket b (closes nesting d) (next_part (closing b) s)
  unfolding closes
  pushed s =
      rw (add-one, get_or-set_same nesting d b 0 h)
      (within_same b (closes (set nesting d b) d) (closes nesting d) (closes_below nesting d b d (omega arith)) (next_part (closing b) s))

  module _ (p : List ℕ) where
    pub item_opens : b ≡ code "[" → within_bracket b (closes nesting d) (Some (part p)) ≡ right true (set nesting d b) (d + 1) p
    item_opens e =
        rw (eq-eqb b (code "[") e)
        (items_go (closes nesting d) p ∙ goes_same (behind_item (closes nesting d)) (closes (set nesting d b) (d + 1)) (λ r. sym (pushed r ∙ rw (eq-eqb b (code "[") e))) (read_value p))

    member_goes : b ≢ code "[" → within_bracket b (closes nesting d) (Some (part p)) ≡ goes (member_name p) (λ r. right true (set nesting d b) (d + 1) r)
    member_goes n =
        rw (ne_eqb b (code "[") n)
        (members_go (closes nesting d) p
        ∙ goes_same _ _
        (λ q. goes_same (behind_member (closes nesting d)) (closes (set nesting d b) (d + 1)) (λ r. sym (pushed r ∙ rw (ne_eqb b (code "[") n))) (read_value q))
        (member_name p))

    -- of a member its name was passed too
    pub member_opens : b ≢ code "[" → (x : List ℕ × List ℕ) → Some x ≡ member_texts p (member_name p)
        → (within_bracket b (closes nesting d) (Some (part p)) ≡ right true (set nesting d b) (d + 1) x.1) × (length x.1 < length p)
    member_opens n x e = go (member_name p) refl e
      where
        go : (o : Option (List ℕ × List ℕ)) → member_name p ≡ o → Some x ≡ member_texts p o
            → (within_bracket b (closes nesting d) (Some (part p)) ≡ right true (set nesting d b) (d + 1) x.1) × (length x.1 < length p)
        go (Some q) i e =
            let k : q.1 ≡ x.1 = cc in
            (member_goes n ∙ rw i (ap (λ (r : List ℕ). right true (set nesting d b) (d + 1) r) k), omega (arith, member_shorter p q i, ap length k))
        go None i e = cc

    pub no_member_opens : b ≢ code "[" → None ≡ member_texts p (member_name p) → within_bracket b (closes nesting d) (Some (part p)) ≡ false
    no_member_opens n e = member_goes n ∙ go (member_name p) e
      where
        go : (o : Option (List ℕ × List ℕ)) → None ≡ member_texts p o → goes o (λ r. right true (set nesting d b) (d + 1) r) ≡ false
        go (Some q) i = cc
        go None i = refl

-- ---- a step from one of the functions below is a step from here

-- a step that may take fewer bytes, from a place that is right exactly where this one is
steps_on : (before here : Bool) (d e l m : ℕ) (nesting : List ℕ) (r : Option Step) → here ≡ before → l ≤ m → d + l ≤ e + m → StepsTo before d l nesting r → StepsTo here e m nesting r
steps_on before here d e l m nesting (Some n) i h k t = (i ∙ t.0, omega (arith, t.1), omega (arith, t.2))
steps_on before here d e l m nesting None i h k t = i ∙ t

module _ (nesting after s : List ℕ) (d : ℕ) (r : Option Step) (n : Next) where
  -- behind the bracket b, which c closes
  bracket_steps : (b c : ℕ) → 0 < b → starts b s ≡ true → n ≡ first_part c (take (length s - 1) (drop 1 s))
      → right true nesting d s ≡ within_bracket b (closes nesting d) (Some (first_part c (drop 1 s)))
      → StepsTo (within_bracket b (closes nesting d) (Some n)) d (bytes_ahead n + 1) after r → StepsTo (right true nesting d s) d (length s) after r
  bracket_steps b c z e f g t =
      let k : n ≡ first_part c (drop 1 s) = f ∙ ap (first_part c) (take_rest 1 s) in
      let a : bytes_ahead n ≤ length (drop 1 s) = rw k (first_shorter c (drop 1 s)) in
      let i : 1 ≤ length s = starts_inside b s z e in
      let m : bytes_ahead n + 1 ≤ length s = omega (arith, a, i, length-drop 1 s) in
      steps_on (within_bracket b (closes nesting d) (Some n)) (right true nesting d s) d d (bytes_ahead n + 1) (length s) after r
      (g ∙ ap (λ (x : Next). within_bracket b (closes nesting d) (Some x)) (sym k)) m (omega arith) t

  pub array_steps : starts (code "[") s ≡ true → n ≡ first_part (code "]") (take (length s - 1) (drop 1 s))
      → StepsTo (within_bracket (code "[") (closes nesting d) (Some n)) d (bytes_ahead n + 1) after r → StepsTo (right true nesting d s) d (length s) after r
  array_steps e f t = bracket_steps (code "[") (code "]") (omega arith) e f (array_goes (closes nesting d) s e) t

  pub object_steps : starts (code "{") s ≡ true → n ≡ first_part (code "}") (take (length s - 1) (drop 1 s))
      → StepsTo (within_bracket (code "{") (closes nesting d) (Some n)) d (bytes_ahead n + 1) after r → StepsTo (right true nesting d s) d (length s) after r
  object_steps e f t = bracket_steps (code "{") (code "}") (omega arith) e f (object_goes (closes nesting d) s e) t

pub closing_positive : (b : ℕ) → 0 < closing b
closing_positive b = both_arms (λ (c : ℕ). 0 < c) (eqb b (code "[")) (omega arith) (omega arith)

module _ (nesting s : List ℕ) (d : ℕ) (inside : 0 < d) where
  -- behind a value in a bracket
  closes_there : closes nesting d s ≡ within_bracket (get_or nesting (d - 1) 0) (closes nesting (d - 1)) (next_part (closing (get_or nesting (d - 1) 0)) s)
  unfolding closes
  closes_there = go d inside
    where
      go : (e : ℕ) → 0 < e → closes nesting e s ≡ within_bracket (get_or nesting (e - 1) 0) (closes nesting (e - 1)) (next_part (closing (get_or nesting (e - 1) 0)) s)
      go zero z = absurd (omega arith)
      go (suc e) z = rw sub-one

  pub nothing_closes : None ≡ next_part (closing (get_or nesting (d - 1) 0)) s → closes nesting d s ≡ false
  nothing_closes e = closes_there ∙ rw (← e) (both_arms (λ (t : Bool). t ≡ false) (eqb (get_or nesting (d - 1) 0) (code "[")) refl refl)

  pub close_steps : (after : List ℕ) (r : Option Step) (n : Next) → Some n ≡ next_part (closing (get_or nesting (d - 1) 0)) s
      → StepsTo (within_bracket (get_or nesting (d - 1) 0) (closes nesting (d - 1)) (Some n)) (d - 1) (bytes_ahead n + 1) after r → StepsTo (right false nesting d s) d (length s) after r
  close_steps after r n e t =
      let b : ℕ = get_or nesting (d - 1) 0 in
      let k : bytes_ahead n < length s = next_shorter (closing b) s n (closing_positive b) (sym e) in
      steps_on (within_bracket b (closes nesting (d - 1)) (Some n)) (right false nesting d s) (d - 1) d (bytes_ahead n + 1) (length s) after r
      (closes_there ∙ ap (within_bracket b (closes nesting (d - 1))) (sym e)) (omega arith) (omega arith) t

-- ---- a value that is no array and no object

pub starts_none : (c : ℕ) (s : List ℕ) → 0 < c → length s < 1 → starts c s ≡ false
starts_none c [] z h = ne_eqb 0 c (λ e. omega arith)
starts_none c (b ∷ r) z h = absurd (omega arith)

module _ (nesting s : List ℕ) (d : ℕ) (no_array : starts (code "[") s ≡ false) (no_object : starts (code "{") s ≡ false) where
  pub no_scalar : None ≡ behind (scalar s) → right true nesting d s ≡ false
  no_scalar e = scalar_goes (closes nesting d) s no_array no_object ∙ go (scalar s) e
    where
      go : (o : Option (Json × List ℕ)) → None ≡ behind o → goes o (closes nesting d) ≡ false
      go (Some p) i = cc
      go None i = refl

  pub scalar_steps : (rest : List ℕ) → Some rest ≡ behind (scalar s) → (right true nesting d s ≡ right false nesting d rest) × (length rest < length s)
  scalar_steps rest e = go (scalar s) refl e
    where
      go : (o : Option (Json × List ℕ)) → scalar s ≡ o → Some rest ≡ behind o → (right true nesting d s ≡ right false nesting d rest) × (length rest < length s)
      go (Some p) i f =
          let k : p.1 ≡ rest = cc in (
            scalar_goes (closes nesting d) s no_array no_object ∙ rw i (ap (closes nesting d) k),
            omega (arith, scalar_shorter s p i, ap length k),
          )
      go None i f = cc

-- ---- a whole text

some_if : (j : Json) (t : Bool) → is_some (cond t (Some j) None) ≡ t
some_if j true = refl
some_if j false = refl

pub json_right : (nesting s : List ℕ) → is_some (json s) ≡ right true nesting 0 (ws s)
unfolding json closes
json_right nesting s = go (read_value (ws s))
  where
    go : (o : Option (Json × List ℕ)) → is_some (then_read o (λ j r. alone (j, r))) ≡ goes o (closes nesting 0)
    go (Some p) = some_if p.0 (empty (ws p.1))
    go None = refl

-- where no bracket is open, and t stands behind the white space
pub json_ends : (nesting : List ℕ) (v : Bool) (d : ℕ) (rest t : List ℕ) → v ≡ false → d ≤ 0 → t ≡ ws rest → eqb (length t) 0 ≡ right v nesting d rest
unfolding closes
json_ends nesting true d rest t e h f = cc
json_ends nesting false (suc d) rest t e h f = absurd (omega arith)
json_ends nesting false zero rest t e h f = none t ∙ ap empty f
  where
    none : (x : List ℕ) → eqb (length x) 0 ≡ empty x
    none [] = refl
    none (a ∷ x) = ne_eqb (length (a ∷ x)) 0 (λ e. omega arith)
