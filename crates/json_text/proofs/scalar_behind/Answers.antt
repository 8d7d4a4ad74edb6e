-- `json_text::scalar_behind` meets its contract: the first byte decides.
-- Assumes nothing.
use mathlib.Core.Path.{sym, ap, ◌∙◌}
use mathlib.Core.List.{List}
use Prim.Native.Nat.{ℕ}
use native.Mathlib.Omega.{arith}
use Rattle.buffers.proofs.Appending.{take_rest}
use Rattle.json_text.specs.Text.{string}
use Rattle.json_text.specs.Post.{behind}
use Rattle.json_text.proofs.Scalars.{scalar_nothing, scalar_string, scalar_null, scalar_true, scalar_false, scalar_number}
use Rattle.json_text.proofs.scalar_behind.Goals as goal

pub returns-then-s-eq0 : goal.returns-then-s-eq0
returns-then-s-eq0 c = sym (scalar_nothing c.args.s.now c.if-s-eq0.true)

pub returns-in-34 : goal.returns-in-34
returns-in-34 c =
    let s = c.args.s.now in
    c.string_behind.ensures ∙ ap (λ (l : List ℕ). behind (string l)) (take_rest 1 s) ∙ sym (scalar_string s (omega arith))

pub returns-in-110 : goal.returns-in-110
returns-in-110 c = c.word_behind.ensures ∙ sym (scalar_null c.args.s.now (omega arith))

pub returns-in-116 : goal.returns-in-116
returns-in-116 c = c.word_behind-in-116.ensures ∙ sym (scalar_true c.args.s.now (omega arith))

pub returns-in-102 : goal.returns-in-102
returns-in-102 c = c.word_behind-in-102.ensures ∙ sym (scalar_false c.args.s.now (omega arith))

pub returns-in_default : goal.returns-in_default
returns-in_default c = c.number_behind.ensures ∙ sym (scalar_number c.args.s.now (omega arith) (omega arith) (omega arith) (omega arith))
