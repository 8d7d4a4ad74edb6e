-- `chars::is_blank` meets its contract: a byte past the space is no White_Space, and else what is left of the text when trimmed decides.
-- Assumes nothing.
use mathlib.Core.Path.{◌≡◌, refl, ap, ◌∙◌}
use mathlib.Core.List.{List, [], ◌∷◌}
use Prim.Native.Nat.{ℕ}
use lib.Dec.{eqb}
use lib.ListN.{length}
use borrow.Author.Tests.{ne_eqb}
use native.Mathlib.Omega.{arith}
use Rattle.chars.specs.White.{empty}
use Rattle.chars.proofs.Spacing.{trim_blank}
use Rattle.chars.proofs.is_blank.Goals as goal

none_left : (t : List ℕ) → eqb (length t) 0 ≡ empty t
none_left [] = refl
none_left (a ∷ r) = ne_eqb (length (a ∷ r)) 0 (λ (e : length (a ∷ r) ≡ 0). omega arith)

pub returns-then-not-is_past_space : goal.returns-then-not-is_past_space
returns-then-not-is_past_space c = c.is_empty.ensures ∙ none_left c.strip.result.now ∙ ap empty c.strip.ensures ∙ trim_blank _
