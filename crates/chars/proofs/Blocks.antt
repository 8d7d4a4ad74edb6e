-- Blocks of bytes in a row: what holds of each byte of each block holds of each byte where the blocks stand.
-- Assumes nothing.
use Rattle.std.proofs.Common.{◌≡◌, Bool, true, List, ℕ, ◌+◌, ◌*◌, ◌-◌, ◌/◌, ◌≤◌, ◌<◌, Bor, length, get_or, drop, sym, ap, ◌∙◌, arith}
use Rattle.std.proofs.Math.Nat.{div-mul-le_self, lt-div-mul-add, div-lt_iff_lt-mul}
use Rattle.std.proofs.lemmas.Option.{none-some}
use Rattle.std.specs.Prelude.{None, Option, Some, IfSome, IsSomeAnd}
use Rattle.std.specs.Option.{option_map}
use Rattle.std.specs.List.{IsSubsliceAt}
use Prim.Native.Nat.{zero-le}
use lib.Seq.{get_or-drop}
use Rattle.chars.specs.Post.{AllBytes}

each_item : {A : Type 0} {P Q : A → Type 0} (o : Option A) → ((x : A) → P x → Q x) → IfSome o P → IfSome o Q
each_item None f h = h
each_item (Some x) f h = f x h

pub some_item : {A : Type 0} {P Q : A → Type 0} (o : Option A) → ((x : A) → P x → Q x) → IsSomeAnd o P → IsSomeAnd o Q
some_item None f h = h
some_item (Some x) f h = f x h

pub read_item : {A : Type 0} {P Q : A → Type 0} (o : Option A) (y : A) → option_map (λ z. z) o ≡ Some y → ((x : A) → P x → Q x) → IfSome o P → IsSomeAnd o Q
read_item None y e f h = absurd (none-some y e)
read_item (Some x) y e f h = f x h

-- the first `count` blocks behind a place are the items: what holds of each byte of these holds of each byte there
module _ (p : ℕ → Bool) (s rest : List ℕ) (at n size count : ℕ) (item : ℕ → Option (Bor (List ℕ)))
    (some : 0 < n) (sized : size ≡ n) (behind : rest ≡ drop at s)
    (cut : (k : ℕ) → IfSome (item k) (λ x. (length x.now ≡ size) × (k * size + size ≤ length rest) × IsSubsliceAt size rest (k * size) x.now))
    (each : (k : ℕ) → k < count → IsSomeAnd (item k) (λ x. AllBytes p x.now 0 (length x.now))) where
  block : (k : ℕ) → IfSome (item k) (λ x. (length x.now ≡ n) × ((j d : ℕ) → j < n → get_or x.now j d ≡ get_or (drop at s) (k * n + j) d))
  block k = each_item (item k) (λ x f. rw (← behind, ← sized) (f.0, f.2.2)) (cut k)

  pub in_blocks : AllBytes p s at (at + count * n)
  in_blocks = λ i l m.
      let k : ℕ = (i - at) / n in
      let low : k * n ≤ i - at = div-mul-le_self (i - at) n in
      let high : i - at < k * n + n = lt-div-mul-add some in
      let below : k < count = (div-lt_iff_lt-mul some).1 (omega arith) in
      go i k (i - at - k * n) (omega arith) (omega arith) (item k) (block k) (each k below)
    where
      go : (i k j : ℕ) → i ≡ at + (k * n + j) → j < n → (o : Option (Bor (List ℕ)))
          → IfSome o (λ x. (length x.now ≡ n) × ((j d : ℕ) → j < n → get_or x.now j d ≡ get_or (drop at s) (k * n + j) d))
          → IsSomeAnd o (λ x. AllBytes p x.now 0 (length x.now)) → p (get_or s i 0) ≡ true
      go i k j e h None f g = absurd g
      go i k j e h (Some x) f g =
          let long : length x.now ≡ n = f.0 in
          let here : get_or x.now j 0 ≡ get_or s i 0 = f.1 j 0 h ∙ get_or-drop at s (k * n + j) 0 ∙ ap (λ (m : ℕ). get_or s m 0) (sym e) in
          sym (ap p here) ∙ g j zero-le (omega arith)
