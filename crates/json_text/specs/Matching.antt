-- Of inner functions alone: a text that is held against a word piece by piece, and that `Match` keeps what a sink promises.
-- Assumes nothing.
use Rattle.std.specs.Prelude.{◌≡◌, Bool, ◌&&◌, List, ◌++◌, ℕ}
use mathlib.Core.Path.{refl, sym, ap, ◌∙◌}
use mathlib.Core.List.{append_assoc}
use Rattle.buffers.specs.Same.{same}
use Rattle.buffers.specs.Sink.{SinkLaws}
use Rattle.json_text.specs.declared.Match.{Match}

-- a text is what is left of the word, and nothing before it was another
abbrev pub takes : Match → List ℕ → Bool
takes m x = m.equal && same x m.left.now

abbrev pub match_room : Match → ℕ → Type 0
match_room m k = Unit {0}

-- behind a text that was put, what follows is taken exactly where both together were
abbrev pub Matched : Match → List ℕ → Match → Type 0
Matched o text n = (x : List ℕ) → takes n x ≡ takes o (text ++ x)

pub match_laws : SinkLaws match_room Matched
match_laws = record {
  less = λ h p. tt;
  rest = λ w p. tt;
  none = λ o x. refl;
  next = λ {a} {b} {c} {x} {y} p q z. q z ∙ p (y ++ z) ∙ ap (takes a) (sym (append_assoc x y z));
}
