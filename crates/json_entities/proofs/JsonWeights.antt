-- How few bytes a JSON text can have, by its tree: what each part of a tree stands for is written in the text, and a byte at least stands for each
-- value, and for each member's name.
-- Assumes nothing.
use mathlib.Core.Path.{◌≡◌, refl}
use mathlib.Core.Bool.{Bool, true, false, cond}
use mathlib.Core.List.{List}
use Prim.Native.Char.{code}
use Prim.Native.Nat.{ℕ, zero, suc, ◌+◌, ◌≤◌, ◌<◌}
use native.Mathlib.Omega.{arith}
use lib.ListN.{length, drop, length-drop}
use Rattle.std.specs.Prelude.{None, Option, Some, option_map}
use Rattle.buffers.specs.Ascii.{ascii}
use Rattle.buffers.proofs.Choice.{by_cond, both_arms}
use Rattle.json_text.specs.Json.{Json, null, bool, number, string, array, object, Items, no_item, item, Members, no_member, member}
use Rattle.json_text.specs.Parse.{Parse, then_read, made, starts, begins}
use Rattle.json_text.specs.Number.{number as number_behind}
use Rattle.json_text.specs.Text.{string as string_text}
use Rattle.json_text.specs.Syntax.{scalar, literal_or, number_text, Next, part, end, next_part, onward, onward_if, member_name, value, items, members, enough, read_value}
use Rattle.json_text.specs.Walk.{bytes_ahead}
use Rattle.json_text.proofs.Lengths.{starts_inside, string_shorter, scalar_shorter, member_shorter}
use Rattle.json_text.proofs.Rules.{first_shorter, next_shorter}

unfoldable mutual
  pub weight : Json → ℕ
  weight null = 1
  weight (bool b) = 1
  weight (number s) = 1
  weight (string s) = length s + 2
  weight (array js) = 1 + items_weight js
  weight (object ms) = 1 + members_weight ms

  pub items_weight : Items → ℕ
  items_weight no_item = 0
  items_weight (item j js) = weight j + items_weight js

  pub members_weight : Members → ℕ
  members_weight no_member = 0
  members_weight (member x j ms) = 1 + length x + weight j + members_weight ms

-- a name takes a byte more than it stands for
abbrev name_weight : List ℕ → ℕ
name_weight x = 1 + length x

-- what is read, if anything, has its weight and the text behind it in n bytes
abbrev Weighs : {A : Type 0} → (A → ℕ) → ℕ → Option (A × List ℕ) → Type 0
Weighs w n (Some p) = w p.0 + length p.1 ≤ n
Weighs w n None = Unit {0}

module _ {A : Type 0} (w : A → ℕ) where
  more_weighs : (m n : ℕ) (o : Option (A × List ℕ)) → m ≤ n → Weighs w m o → Weighs w n o
  more_weighs m n (Some p) l h = omega arith
  more_weighs m n None l h = tt

  weighed : (n : ℕ) (o : Option (A × List ℕ)) → ((p : A × List ℕ) → o ≡ Some p → w p.0 + length p.1 ≤ n) → Weighs w n o
  weighed n (Some p) h = h p refl
  weighed n None h = tt

  made_weighs : {B : Type 0} (v : B → ℕ) (f : A → B) (c n m : ℕ) (o : Option (A × List ℕ)) → ((a : A) → v (f a) ≡ c + w a) → c + n ≤ m → Weighs w n o → Weighs v m (made f o)
  made_weighs v f c n m (Some p) e l h = omega (arith, e p.0)
  made_weighs v f c n m None e l h = tt

  module _ (none : A) (empty : w none ≡ 0) (read : Parse A) (reads : (s : List ℕ) → Weighs w (length s) (read s)) where
    onward_weighs : (n : ℕ) (x : Next) → bytes_ahead x ≤ n → Weighs w n (onward none read x)
    onward_weighs n (part r) l = more_weighs (length r) n (read r) l (reads r)
    onward_weighs n (end r) l = omega (arith, empty)

    rest_weighs : (c : ℕ) (r : List ℕ) → 0 < c → Weighs w (length r) (onward_if none read (next_part c r))
    rest_weighs c r z = go (next_part c r) (λ n e. next_shorter c r n z e)
      where
        go : (o : Option Next) → ((n : Next) → o ≡ Some n → bytes_ahead n < length r) → Weighs w (length r) (onward_if none read o)
        go (Some n) h = let l = h n refl in onward_weighs (length r) n (omega arith)
        go None h = tt

-- what is read behind it
then_weighs : {A B : Type 0} (w : A → ℕ) (v : B → ℕ) (m n : ℕ) (o : Option (A × List ℕ)) (f : A → List ℕ → Option (B × List ℕ)) → Weighs w m o
    → ((a : A) (r : List ℕ) → w a + length r ≤ m → Weighs v n (f a r)) → Weighs v n (then_read o f)
then_weighs w v m n (Some p) f h g = g p.0 p.1 h
then_weighs w v m n None f h g = tt

-- ---- values that are no array and no object

abbrev Light : Option (Json × List ℕ) → Type 0
Light (Some p) = weight p.0 ≡ 1
Light None = Unit {0}

light_weighs : (n : ℕ) (o : Option (Json × List ℕ)) → ((p : Json × List ℕ) → o ≡ Some p → length p.1 < n) → Light o → Weighs weight n o
light_weighs n (Some p) h l = let k = h p refl in omega arith
light_weighs n None h l = tt

number_light : (f : List ℕ → List ℕ) (o : Option (List ℕ)) → Light (option_map (λ rest. (number (f rest), rest)) o)
unfolding weight
number_light f (Some r) = refl
number_light f None = tt

scalar_weighs : (s : List ℕ) → Weighs weight (length s) (scalar s)
unfolding scalar weight
scalar_weighs s = go (starts (code "\"") s) refl (λ p e. scalar_shorter s p e)
  where
    other : Option (Json × List ℕ)
    other =
        literal_or (ascii "null") null s (literal_or (ascii "true") (bool true) s (literal_or (ascii "false") (bool false) s (option_map (λ rest. (number (number_text s rest), rest)) (number_behind s))))

    go : (b : Bool) → starts (code "\"") s ≡ b → ((p : Json × List ℕ) → cond b (made string (string_text (drop 1 s))) other ≡ Some p → length p.1 < length s)
        → Weighs weight (length s) (cond b (made string (string_text (drop 1 s))) other)
    go true e h =
        let z = starts_inside (code "\"") s (omega arith) e in
        made_weighs name_weight weight string 1 (length (drop 1 s)) (length s) (string_text (drop 1 s)) (λ x. omega arith) (omega (arith, length-drop 1 s))
        (weighed name_weight (length (drop 1 s)) (string_text (drop 1 s)) (λ p e. omega (arith, string_shorter (drop 1 s) p e)))
    go false e h =
        light_weighs (length s) other h
        (both_arms Light (begins (ascii "null") s) refl (both_arms Light (begins (ascii "true") s) refl (both_arms Light (begins (ascii "false") s) refl (number_light (number_text s) (number_behind s)))))

-- ---- all values

name_weighs : (s : List ℕ) → Weighs name_weight (length s) (member_name s)
name_weighs s = weighed name_weight (length s) (member_name s) (λ p e. omega (arith, member_shorter s p e))

mutual
  unfolding value weight

  value_weighs : (k : ℕ) (s : List ℕ) → Weighs weight (length s) (value k s)
  value_weighs zero s = tt
  value_weighs (suc k) s =
      by_cond (Weighs weight (length s)) (starts (code "[") s) _ _
      (λ e.
      let z = starts_inside (code "[") s (omega arith) e in
      made_weighs items_weight weight array 1 (length (drop 1 s)) (length s) _ (λ js. refl) (omega (arith, length-drop 1 s))
      (onward_weighs items_weight no_item refl (items k) (items_weighs k) (length (drop 1 s)) _ (first_shorter (code "]") (drop 1 s))))
      (λ _.
      by_cond (Weighs weight (length s)) (starts (code "{") s) _ _
      (λ e.
      let z = starts_inside (code "{") s (omega arith) e in
      made_weighs members_weight weight object 1 (length (drop 1 s)) (length s) _ (λ ms. refl) (omega (arith, length-drop 1 s))
      (onward_weighs members_weight no_member refl (members k) (members_weighs k) (length (drop 1 s)) _ (first_shorter (code "}") (drop 1 s))))
      (λ _. scalar_weighs s))

  items_weighs : (k : ℕ) (s : List ℕ) → Weighs items_weight (length s) (items k s)
  items_weighs zero s = tt
  items_weighs (suc k) s =
      then_weighs weight items_weight (length s) (length s) (value k s) (λ j r. made (item j) (onward_if no_item (items k) (next_part (code "]") r))) (value_weighs k s)
      (λ j r l.
      made_weighs items_weight items_weight (item j) (weight j) (length r) (length s) _ (λ js. refl) l (rest_weighs items_weight no_item refl (items k) (items_weighs k) (code "]") r (omega arith)))

  members_weighs : (k : ℕ) (s : List ℕ) → Weighs members_weight (length s) (members k s)
  members_weighs zero s = tt
  members_weighs (suc k) s =
      then_weighs name_weight members_weight (length s) (length s) (member_name s) (λ x r. then_read (value k r) (λ j t. made (member x j) (onward_if no_member (members k) (next_part (code "}") t)))) (name_weighs s)
      (λ x r l.
      then_weighs weight members_weight (length r) (length s) (value k r) (λ j t. made (member x j) (onward_if no_member (members k) (next_part (code "}") t))) (value_weighs k r)
      (λ j t h.
      made_weighs members_weight members_weight (member x j) (1 + length x + weight j) (length t) (length s) _ (λ ms. refl) (omega arith)
      (rest_weighs members_weight no_member refl (members k) (members_weighs k) (code "}") t (omega arith))))

pub value_weight : (s : List ℕ) (p : Json × List ℕ) → read_value s ≡ Some p → weight p.0 + length p.1 ≤ length s
value_weight s p e = let h = value_weighs (enough s) s in rw e at h
