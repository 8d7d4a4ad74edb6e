-- `vectors::packs::Lent::refill` meets its contract: each table is filled over its whole length.
-- Assumes nothing.
use mathlib.Core.Path.{◌≡◌, ap, ◌∙◌}
use Prim.Native.Nat.{ℕ}
use native.Mathlib.Omega.{arith}
use lib.ListN.{length, replicate}
use Rattle.vectors.specs.declared.packs.TheConstants.{KINDS, NUMBERS, TEXTS}
use Rattle.vectors.proofs.packs.Lent.refill.Goals as goal

pub returns-clause-kinds : goal.returns-clause-kinds
returns-clause-kinds c =
    let n : length c.args.self.now.kinds ≡ KINDS = omega arith in
    c.fill.ensures.after (λ y e. e) ∙ ap (λ (n : ℕ). replicate n 77) n

pub returns-clause-numbers : goal.returns-clause-numbers
returns-clause-numbers c =
    let n : length c.args.self.now.numbers ≡ NUMBERS = omega arith in
    c.fill-2.ensures.after (λ y e. e) ∙ ap (λ (n : ℕ). replicate n 77) n

pub returns-clause-texts : goal.returns-clause-texts
returns-clause-texts c =
    let n : length c.args.self.now.texts ≡ TEXTS = omega arith in
    c.fill-3.ensures.after (λ y e. e) ∙ ap (λ (n : ℕ). replicate n 77) n
