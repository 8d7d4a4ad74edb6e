-- The rules of the grammar without the number that counts down: more steps than `enough` read the same, since each call is on a shorter text or
-- one step nearer. And what is read is shorter than the text.
-- Assumes nothing.
use mathlib.Core.Path.{◌≡◌, refl, ap, ap₂, ◌∙◌}
use mathlib.Core.Bool.{cond}
use mathlib.Core.List.{List, [], ◌∷◌}
use Prim.Native.Char.{code}
use Prim.Native.Nat.{ℕ, zero, suc, ◌+◌, ◌*◌, ◌≤◌, ◌<◌}
use native.Mathlib.Omega.{arith}
use lib.ListN.{length, drop, length-drop}
use Rattle.buffers.proofs.Choice.{by_cond, both_arms}
use Rattle.json_text.specs.Json.{Json, array, object, Items, no_item, item, Members, no_member, member}
use Rattle.json_text.specs.Parse.{Parse, then_read, made, starts}
use Rattle.json_text.specs.Syntax.{ws, scalar, Next, part, end, first_part, next_part, onward, onward_if, member_name, value, items, members, enough, read_value, read_items, read_members}
use Rattle.json_text.specs.Walk.{bytes_ahead}
use Rattle.json_text.proofs.Lengths.{ws_shorter, starts_inside, scalar_shorter, member_shorter}
use Rattle.std.specs.Prelude.{None, Option, Some}

-- ---- what is read is shorter

-- what is read, if anything, leaves fewer than n bytes
abbrev Leaves : {A : Type 0} → ℕ → Option (A × List ℕ) → Type 0
Leaves n (Some p) = length p.1 < n
Leaves n None = Unit {0}

abbrev Ahead : ℕ → Option Next → Type 0
Ahead n (Some x) = bytes_ahead x < n
Ahead n None = Unit {0}

leaves : {A : Type 0} (n : ℕ) (o : Option (A × List ℕ)) → ((p : A × List ℕ) → o ≡ Some p → length p.1 < n) → Leaves n o
leaves n (Some p) h = h p refl
leaves n None h = tt

left : {A : Type 0} (n : ℕ) (o : Option (A × List ℕ)) (p : A × List ℕ) → Leaves n o → o ≡ Some p → length p.1 < n
left n o p h e = rw e at h

made_leaves : {A B : Type 0} (n : ℕ) (f : A → B) (o : Option (A × List ℕ)) → Leaves n o → Leaves n (made f o)
made_leaves n f (Some p) h = h
made_leaves n f None h = h

module _ {A B : Type 0} (m : ℕ) (f : A → List ℕ → Option (B × List ℕ)) where
  then_leaves : (n : ℕ) (o : Option (A × List ℕ)) → Leaves m o → ((a : A) (r : List ℕ) → length r < m → Leaves n (f a r)) → Leaves n (then_read o f)
  then_leaves n (Some p) h g = g p.0 p.1 h
  then_leaves n None h g = tt

  -- two readers that read the same there
  then_same : (g : A → List ℕ → Option (B × List ℕ)) (o : Option (A × List ℕ)) → Leaves m o → ((a : A) (r : List ℕ) → length r < m → f a r ≡ g a r) → then_read o f ≡ then_read o g
  then_same g (Some p) h e = e p.0 p.1 h
  then_same g None h e = refl

pub first_shorter : (c : ℕ) (s : List ℕ) → bytes_ahead (first_part c s) ≤ length s
first_shorter c s = both_arms (λ x. bytes_ahead x ≤ length s) (starts c (ws s)) (omega (arith, length-drop 1 (ws s), ws_shorter s)) (ws_shorter s)

next_ahead : (c : ℕ) (s : List ℕ) → 0 < c → Ahead (length s) (next_part c s)
next_ahead c s z =
    by_cond (Ahead (length s)) (starts (code ",") (ws s)) _ _
    (λ e. omega (arith, ws_shorter (drop 1 (ws s)), length-drop 1 (ws s), ws_shorter s, starts_inside (code ",") (ws s) (omega arith) e))
    (λ _. by_cond (Ahead (length s)) (starts c (ws s)) _ _ (λ e. omega (arith, length-drop 1 (ws s), ws_shorter s, starts_inside c (ws s) z e)) (λ _. tt))

pub next_shorter : (c : ℕ) (s : List ℕ) (n : Next) → 0 < c → next_part c s ≡ Some n → bytes_ahead n < length s
next_shorter c s n z e = let h = next_ahead c s z in rw e at h

module _ {A : Type 0} (none : A) (read : Parse A) (reads : (r : List ℕ) → Leaves (length r) (read r)) where
  onward_leaves : (n : ℕ) (x : Next) → bytes_ahead x < n → Leaves n (onward none read x)
  onward_leaves n (part r) h = leaves n (read r) (λ p e. let k = left (length r) (read r) p (reads r) e in omega arith)
  onward_leaves n (end r) h = h

  onward_if_leaves : (m n : ℕ) (o : Option Next) → Ahead m o → m ≤ n → Leaves n (onward_if none read o)
  onward_if_leaves m n (Some x) h l = onward_leaves n x (omega arith)
  onward_if_leaves m n None h l = tt

  -- behind a part, before the bracket c
  rest_leaves : (c n : ℕ) (r : List ℕ) → 0 < c → length r ≤ n → Leaves n (onward_if none read (next_part c r))
  rest_leaves c n r z l = onward_if_leaves (length r) n (next_part c r) (next_ahead c r z) l

name_leaves : (s : List ℕ) → Leaves (length s) (member_name s)
name_leaves s = leaves (length s) (member_name s) (λ p e. omega (arith, member_shorter s p e))

mutual
  unfolding value items members

  value_leaves : (k : ℕ) (s : List ℕ) → Leaves (length s) (value k s)
  value_leaves zero s = tt
  value_leaves (suc k) s =
      by_cond (Leaves (length s)) (starts (code "[") s) _ _
      (λ e.
      let z = starts_inside (code "[") s (omega arith) e in
      made_leaves (length s) array _ (onward_leaves no_item (items k) (items_leaves k) (length s) _ (omega (arith, first_shorter (code "]") (drop 1 s), length-drop 1 s))))
      (λ _.
      by_cond (Leaves (length s)) (starts (code "{") s) _ _
      (λ e.
      let z = starts_inside (code "{") s (omega arith) e in
      made_leaves (length s) object _ (onward_leaves no_member (members k) (members_leaves k) (length s) _ (omega (arith, first_shorter (code "}") (drop 1 s), length-drop 1 s))))
      (λ _. leaves (length s) (scalar s) (scalar_shorter s)))

  items_leaves : (k : ℕ) (s : List ℕ) → Leaves (length s) (items k s)
  items_leaves zero s = tt
  items_leaves (suc k) s =
      then_leaves (length s) (λ j r. made (item j) (onward_if no_item (items k) (next_part (code "]") r))) (length s) (value k s) (value_leaves k s)
      (λ j r l. made_leaves (length s) (item j) _ (rest_leaves no_item (items k) (items_leaves k) (code "]") (length s) r (omega arith) (omega arith)))

  members_leaves : (k : ℕ) (s : List ℕ) → Leaves (length s) (members k s)
  members_leaves zero s = tt
  members_leaves (suc k) s =
      then_leaves (length s) (λ x r. then_read (value k r) (λ j t. made (member x j) (onward_if no_member (members k) (next_part (code "}") t)))) (length s) (member_name s)
      (name_leaves s)
      (λ x r l.
      then_leaves (length r) (λ j t. made (member x j) (onward_if no_member (members k) (next_part (code "}") t))) (length s) (value k r) (value_leaves k r)
      (λ j t d. made_leaves (length s) (member x j) _ (rest_leaves no_member (members k) (members_leaves k) (code "}") (length s) t (omega arith) (omega arith))))

pub value_shorter : (s : List ℕ) (p : Json × List ℕ) → read_value s ≡ Some p → length p.1 < length s
value_shorter s p e = left (length s) (read_value s) p (value_leaves (enough s) s) e

pub items_shorter : (s : List ℕ) (p : Items × List ℕ) → read_items s ≡ Some p → length p.1 < length s
items_shorter s p e = left (length s) (read_items s) p (items_leaves (enough s) s) e

pub members_shorter : (s : List ℕ) (p : Members × List ℕ) → read_members s ≡ Some p → length p.1 < length s
members_shorter s p e = left (length s) (read_members s) p (members_leaves (enough s) s) e

-- ---- one step, by readers that read the same on shorter texts

module _ {A : Type 0} (none : A) (read again : Parse A) (n : ℕ) (same : (r : List ℕ) → length r < n → read r ≡ again r) where
  onward_same : (x : Next) → bytes_ahead x < n → onward none read x ≡ onward none again x
  onward_same (part r) h = same r h
  onward_same (end r) h = refl

  onward_if_same : (m : ℕ) (o : Option Next) → Ahead m o → m ≤ n → onward_if none read o ≡ onward_if none again o
  onward_if_same m (Some x) h l = onward_same x (omega arith)
  onward_if_same m None h l = refl

  rest_same : (c : ℕ) (r : List ℕ) → 0 < c → length r ≤ n → onward_if none read (next_part c r) ≡ onward_if none again (next_part c r)
  rest_same c r z l = onward_if_same (length r) (next_part c r) (next_ahead c r z) l

module _ (k : ℕ) (values : Parse Json) (more_items : Parse Items) (more_members : Parse Members) where
  value_step : (s : List ℕ) → ((r : List ℕ) → length r < length s → items k r ≡ more_items r) → ((r : List ℕ) → length r < length s → members k r ≡ more_members r)
      → value (suc k) s
      ≡ cond (starts (code "[") s) (made array (onward no_item more_items (first_part (code "]") (drop 1 s))))
      (cond (starts (code "{") s) (made object (onward no_member more_members (first_part (code "}") (drop 1 s)))) (scalar s))
  unfolding value
  value_step [] a b = refl
  value_step (c ∷ r) a b =
      ap₂ (λ (i : Option (Items × List ℕ)) (m : Option (Members × List ℕ)). cond (starts (code "[") (c ∷ r)) (made array i) (cond (starts (code "{") (c ∷ r)) (made object m) (scalar (c ∷ r))))
      (onward_same no_item (items k) more_items (length (c ∷ r)) a (first_part (code "]") r) (omega (arith, first_shorter (code "]") r)))
      (onward_same no_member (members k) more_members (length (c ∷ r)) b (first_part (code "}") r) (omega (arith, first_shorter (code "}") r)))

  items_step : (s : List ℕ) → value k s ≡ values s → ((r : List ℕ) → length r < length s → items k r ≡ more_items r) → items (suc k) s
      ≡ then_read (values s) (λ j r. made (item j) (onward_if no_item more_items (next_part (code "]") r)))
  unfolding items
  items_step s v a =
      then_same (length s) (λ j r. made (item j) (onward_if no_item (items k) (next_part (code "]") r))) (λ j r. made (item j) (onward_if no_item more_items (next_part (code "]") r))) (value k s)
      (value_leaves k s) (λ j r l. ap (made (item j)) (rest_same no_item (items k) more_items (length s) a (code "]") r (omega arith) (omega arith)))
      ∙ ap (λ (o : Option (Json × List ℕ)). then_read o (λ j r. made (item j) (onward_if no_item more_items (next_part (code "]") r)))) v

  members_step : (s : List ℕ) → ((r : List ℕ) → length r < length s → value k r ≡ values r) → ((r : List ℕ) → length r < length s → members k r ≡ more_members r)
      → members (suc k) s
      ≡ then_read (member_name s) (λ x r. then_read (values r) (λ j t. made (member x j) (onward_if no_member more_members (next_part (code "}") t))))
  unfolding members
  members_step s v b =
      then_same (length s) (λ x r. then_read (value k r) (λ j t. made (member x j) (onward_if no_member (members k) (next_part (code "}") t))))
      (λ x r. then_read (values r) (λ j t. made (member x j) (onward_if no_member more_members (next_part (code "}") t)))) (member_name s) (name_leaves s)
      (λ x r l.
      then_same (length r) (λ j t. made (member x j) (onward_if no_member (members k) (next_part (code "}") t)))
      (λ j t. made (member x j) (onward_if no_member more_members (next_part (code "}") t))) (value k r) (value_leaves k r)
      (λ j t d. ap (made (member x j)) (rest_same no_member (members k) more_members (length s) b (code "}") t (omega arith) (omega arith)))
      ∙ ap (λ (o : Option (Json × List ℕ)). then_read o (λ j t. made (member x j) (onward_if no_member more_members (next_part (code "}") t)))) (v r l))

-- ---- any numbers that are high enough read the same

mutual
  unfolding value items members

  value_steady : (k m : ℕ) (s : List ℕ) → 2 * length s + 1 ≤ k → 2 * length s + 1 ≤ m → value k s ≡ value m s
  value_steady zero m s a b = absurd (omega arith)
  value_steady (suc k) zero s a b = absurd (omega arith)
  value_steady (suc k) (suc m) s a b =
      value_step k (value m) (items m) (members m) s (λ r l. items_steady k m r (omega arith) (omega arith)) (λ r l. members_steady k m r (omega arith) (omega arith))

  items_steady : (k m : ℕ) (s : List ℕ) → 2 * length s + 2 ≤ k → 2 * length s + 2 ≤ m → items k s ≡ items m s
  items_steady zero m s a b = absurd (omega arith)
  items_steady (suc k) zero s a b = absurd (omega arith)
  items_steady (suc k) (suc m) s a b = items_step k (value m) (items m) (members m) s (value_steady k m s (omega arith) (omega arith)) (λ r l. items_steady k m r (omega arith) (omega arith))

  members_steady : (k m : ℕ) (s : List ℕ) → 2 * length s + 2 ≤ k → 2 * length s + 2 ≤ m → members k s ≡ members m s
  members_steady zero m s a b = absurd (omega arith)
  members_steady (suc k) zero s a b = absurd (omega arith)
  members_steady (suc k) (suc m) s a b =
      members_step k (value m) (items m) (members m) s (λ r l. value_steady k m r (omega arith) (omega arith)) (λ r l. members_steady k m r (omega arith) (omega arith))

-- ---- the rules

-- of n bytes
before_enough : (n : ℕ) → 2 * n + 2 ≡ suc (2 * n + 1)
before_enough n = omega arith

-- value = false / null / true / object / array / number / string
pub value_rule : (s : List ℕ) → read_value s
    ≡ cond (starts (code "[") s) (made array (onward no_item read_items (first_part (code "]") (drop 1 s))))
    (cond (starts (code "{") s) (made object (onward no_member read_members (first_part (code "}") (drop 1 s)))) (scalar s))
value_rule s =
    ap (λ (k : ℕ). value k s) (before_enough (length s))
    ∙ value_step (2 * length s + 1) read_value read_items read_members s (λ r l. items_steady (2 * length s + 1) (enough r) r (omega arith) (omega arith))
    (λ r l. members_steady (2 * length s + 1) (enough r) r (omega arith) (omega arith))

-- value *( value-separator value ) and the bracket behind them
pub items_rule : (s : List ℕ) → read_items s ≡ then_read (read_value s) (λ j r. made (item j) (onward_if no_item read_items (next_part (code "]") r)))
items_rule s =
    ap (λ (k : ℕ). items k s) (before_enough (length s))
    ∙ items_step (2 * length s + 1) read_value read_items read_members s (value_steady (2 * length s + 1) (enough s) s (omega arith) (omega arith))
    (λ r l. items_steady (2 * length s + 1) (enough r) r (omega arith) (omega arith))

-- member *( value-separator member ) and the bracket behind them; member = string name-separator value
pub members_rule : (s : List ℕ) → read_members s
    ≡ then_read (member_name s) (λ x r. then_read (read_value r) (λ j t. made (member x j) (onward_if no_member read_members (next_part (code "}") t))))
members_rule s =
    ap (λ (k : ℕ). members k s) (before_enough (length s))
    ∙ members_step (2 * length s + 1) read_value read_items read_members s (λ r l. value_steady (2 * length s + 1) (enough r) r (omega arith) (omega arith))
    (λ r l. members_steady (2 * length s + 1) (enough r) r (omega arith) (omega arith))
