-- The operators of an EBNF grammar over bytes, as tests.
-- A rule is handed a test of what follows: it holds of a text that starts with a text of the rule whose rest passes.
-- Every way to part the text is tried, so no rule depends on how greedy another one is. Assumes nothing.
use Rattle.std.specs.Prelude.{ℕ, Bool, true, false, ◌&&◌, ◌||◌, List, [], ◌∷◌}

abbrev pub Rule : Type 0
Rule = (List ℕ → Bool) → List ℕ → Bool

-- nothing follows
abbrev pub at_end : List ℕ → Bool
at_end [] = true
at_end (b ∷ r) = false

-- the whole text is one of the rule's
abbrev pub matches : Rule → List ℕ → Bool
matches p s = p at_end s

-- one byte that passes the test
abbrev pub one_byte : (ℕ → Bool) → Rule
one_byte t k [] = false
one_byte t k (b ∷ r) = t b && k r

infixr 25 ◌then◌
infixr 20 ◌or◌
-- X Y
abbrev pub ◌then◌ : Rule → Rule → Rule
(p then q) k s = p (q k) s

-- X | Y
abbrev pub ◌or◌ : Rule → Rule → Rule
(p or q) k s = p k s || q k s

-- X?
abbrev pub opt : Rule → Rule
opt p k s = p k s || k s

-- X* and X+, of a class of bytes
unfoldable pub many : (ℕ → Bool) → Rule
many t k [] = k []
many t k (b ∷ r) = k (b ∷ r) || (t b && many t k r)

abbrev pub one_or_more : (ℕ → Bool) → Rule
one_or_more t = one_byte t then many t
