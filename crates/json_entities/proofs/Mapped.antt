-- What is made of an outcome tells the outcome: an answer is made of an answer, and a refusal is the one that was met.
-- Assumes nothing.
use mathlib.Core.Path.{◌≡◌, refl, sym, ap}
use Rattle.format.specs.Outcome.{Outcome, ok, refused, mapped}
use Rattle.format.specs.declared.Refusal.{Refusal}
use Rattle.format.proofs.Outcomes.{never, same_answer}

module _ {A B : Type 0} (f : A → B) where
  pub mapped_ok : (o : Outcome A) (b : B) → mapped f o ≡ ok b → (a : A) × ((o ≡ ok a) × (b ≡ f a))
  mapped_ok (ok a) b e = (a, (refl, sym (same_answer e)))
  mapped_ok (refused n) b e = absurd (never e)

  pub mapped_refused : (o : Outcome A) (n : Refusal) → mapped f o ≡ refused n → o ≡ refused n
  mapped_refused (ok a) n e = absurd (never (sym e))
  mapped_refused (refused m) n e = let z : m ≡ n = cc in ap refused z
