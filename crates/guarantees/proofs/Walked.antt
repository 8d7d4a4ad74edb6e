-- Where the walk over a log's lines ends says what reading each of them alone answers, and the other way round.
-- Assumes nothing.
use mathlib.Core.Path.{◌≡◌, refl, sym, ap, subst, ◌∙◌}
use mathlib.Core.List.{List, [], ◌∷◌}
use mathlib.Core.Logic.{inl, inr, ◌↔◌}
use Prim.Native.Nat.{ℕ, zero, suc, ◌+◌, ◌-◌, ◌<◌}
use native.Mathlib.Omega.{arith}
use lib.ListN.{length, get_or}
use Rattle.format.specs.declared.Refusal.{Refusal}
use Rattle.events.specs.Answer.{Answer, event, blank, refused, line_answer, read_line}
use Rattle.logs.specs.Lines.{Walked, behind, stopped, onward, walk_from}
use Rattle.logs.specs.Judge.{counted, count_line}
use Rattle.guarantees.specs.Lines.{ReadOrBlank, EachReadOrBlank, FirstRefused, events_in}
use Rattle.log_listing.specs.Night.{event_in}

-- ---- one line is not both

never_refused : (x : List ℕ) (n : Refusal) → read_line x ≡ refused n → ReadOrBlank x → ⊥
never_refused x n r (inl b) = let z : ◌≡◌ {A = ℕ} 0 1 = cc in absurd (omega arith)
never_refused x n r (inr (e, b)) = let z : ◌≡◌ {A = ℕ} 0 1 = cc in absurd (omega arith)

-- ---- the lines from the line k on, n events before them; places count from zero

pub record LinesPassed (n : ℕ) (xs : List (List ℕ)) (m : ℕ) : Type 0 where
  pub each : (i : ℕ) → i < length xs → ReadOrBlank (get_or xs i [])
  pub count : m ≡ n + events_in xs

pub record Halted (k : ℕ) (xs : List (List ℕ)) (x : Refusal) (line : ℕ) : Type 0 where
  pub place : ℕ
  pub is : line ≡ k + place
  pub inside : place < length xs
  pub here : read_line (get_or xs place []) ≡ refused x
  pub before : (i : ℕ) → i < place → ReadOrBlank (get_or xs i [])

abbrev pub Ended : ℕ → ℕ → List (List ℕ) → Walked ℕ → Type 0
Ended k n xs (behind m) = LinesPassed n xs m
Ended k n xs (stopped x line) = Halted k xs x line

-- reading each line alone answers what it gives in its log
abbrev pub Alike : List (List ℕ) → Type 0
Alike xs = (i : ℕ) → read_line (get_or xs i []) ≡ line_answer (get_or xs i [])

-- one line before them
longer : (k n m : ℕ) (x : List ℕ) (xs : List (List ℕ)) (w : Walked ℕ) → ReadOrBlank x → m ≡ n + event_in (read_line x) → Ended (suc k) m xs w → Ended k n (x ∷ xs) w
unfolding events_in
longer k n m x xs (behind c) r e o = record { each = λ i. go i; count = omega (arith, o.count) }
  where
    go : (i : ℕ) → i < suc (length xs) → ReadOrBlank (get_or (x ∷ xs) i [])
    go zero h = r
    go (suc i) h = o.each i (omega arith)
longer k n m x xs (stopped y line) r e o = record {
  place = suc o.place;
  is = omega (arith, o.is);
  inside = omega (arith, o.inside);
  here = o.here;
  before = λ i. go i;
}
  where
    go : (i : ℕ) → i < suc o.place → ReadOrBlank (get_or (x ∷ xs) i [])
    go zero h = r
    go (suc i) h = o.before i (omega arith)

pub ended : (k n : ℕ) (xs : List (List ℕ)) → Alike xs → Ended k n xs (walk_from count_line k n xs)
unfolding walk_from events_in
ended k n [] a = record { each = λ i h. absurd (omega arith); count = omega arith }
ended k n (x ∷ xs) a =
    subst (λ (r : Answer). Ended k n (x ∷ xs) (onward k (counted n r) (λ b. walk_from count_line (suc k) b xs))) (a 0)
    (go (read_line x) refl (λ m. ended (suc k) m xs (λ i. a (suc i))))
  where
    go : (r : Answer) → read_line x ≡ r → ((m : ℕ) → Ended (suc k) m xs (walk_from count_line (suc k) m xs))
        → Ended k n (x ∷ xs) (onward k (counted n r) (λ b. walk_from count_line (suc k) b xs))
    go (event e) h next = longer k n (suc n) x xs (walk_from count_line (suc k) (suc n) xs) (inr (e, h)) (omega (arith, ap event_in h)) (next (suc n))
    go blank h next = longer k n n x xs (walk_from count_line (suc k) n xs) (inl h) (omega (arith, ap event_in h)) (next n)
    go (refused y) h next = record { place = 0; is = omega arith; inside = omega arith; here = h; before = λ i l. absurd (omega arith) }

-- ---- from line one, no event before it

module _ (xs : List (List ℕ)) where
  from_one : ((i : ℕ) → i < length xs → ReadOrBlank (get_or xs i [])) → EachReadOrBlank xs
  from_one f n h = f (n - 1) (let a = h.0 in let b = h.1 in omega arith)

  from_zero : EachReadOrBlank xs → (i : ℕ) → i < length xs → ReadOrBlank (get_or xs i [])
  from_zero f i h = let e : suc i - 1 ≡ i = omega arith in rw e at (f (suc i) (omega arith, omega arith))

  pub behind_iff : (w : Walked ℕ) (n : ℕ) → Ended 1 0 xs w → (w ≡ behind n) ↔ (EachReadOrBlank xs × (n ≡ events_in xs))
  behind_iff (behind m) n o = (
    (λ e. let z : n ≡ m = cc in (from_one o.each, omega (arith, o.count))),
    (λ p. ap behind (let c = p.1 in omega (arith, o.count))),
  )
  behind_iff (stopped x line) n o = (
    (λ e. let z : ◌≡◌ {A = ℕ} 0 1 = cc in absurd (omega arith)),
    (λ p. absurd (never_refused _ x o.here (from_zero p.0 o.place o.inside))),
  )

  -- lines before the first refused one are not refused
  not_before : {x : Refusal} {line : ℕ} → FirstRefused xs line x → (i : ℕ) → suc i < line → ReadOrBlank (get_or xs i [])
  not_before f i h = let e : suc i - 1 ≡ i = omega arith in rw e at (f.before (suc i) (omega arith) h)

  halted_first : {x : Refusal} {line : ℕ} → Halted 1 xs x line → FirstRefused xs line x
  halted_first {x} {line} o =
      let i : line - 1 ≡ o.place = omega (arith, o.is) in
      record {
        numbered = (omega (arith, o.is), omega (arith, o.is, o.inside));
        here = rw i o.here;
        before = λ n a b. o.before (n - 1) (omega arith);
      }

  -- there is one first refused line
  module _ {x y : Refusal} {line at : ℕ} (o : Halted 1 xs y at) (f : FirstRefused xs line x) where
    same_place : line - 1 ≡ o.place
    same_place =
        let less : (o.place < line - 1) → ⊥ = λ h. never_refused _ y o.here (not_before f o.place (omega arith)) in
        let more : (line - 1 < o.place) → ⊥ = λ h. never_refused _ x f.here (o.before (line - 1) h) in
        omega arith

    same_line : at ≡ line
    same_line = let n = f.numbered in omega (arith, o.is, same_place)

    same_refusal : y ≡ x
    same_refusal = let r : refused y ≡ refused x = sym o.here ∙ ap (λ (i : ℕ). read_line (get_or xs i [])) (sym same_place) ∙ f.here in cc

  pub stopped_iff : (w : Walked ℕ) (x : Refusal) (line : ℕ) → Ended 1 0 xs w → (w ≡ stopped x line) ↔ FirstRefused xs line x
  stopped_iff (behind m) x line o = (
    (λ e. let z : ◌≡◌ {A = ℕ} 0 1 = cc in absurd (omega arith)),
    (λ f. absurd (never_refused _ x f.here (from_one o.each line f.numbered))),
  )
  stopped_iff (stopped y at) x line o = (
    (λ e. let p : y ≡ x = cc in let q : at ≡ line = cc in rw (← p, ← q) (halted_first o)),
    (λ f. rw (same_line o f, same_refusal o f)),
  )
