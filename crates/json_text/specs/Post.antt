-- Of inner functions alone: what their answers, which borrow parts of the text, stand for.
-- Assumes nothing.
use Rattle.std.specs.Prelude.{cond, List, [], ℕ, length, drop, None, Option, Some, option_map}
use Rattle.std.specs.Borrow.{Bor}
use Rattle.chars.specs.Utf8.{encode}
use Rattle.json_text.specs.Parse.{begins}
use Rattle.json_text.specs.Text.{Char}
use Rattle.json_text.specs.Syntax.{Next, part, end}
use Rattle.json_text.specs.declared.Escape.{Escape}
use Rattle.json_text.specs.declared.Member.{Member}
use Rattle.json_text.specs.declared.Next as Declared

-- the text that an answer has
abbrev pub texts_of : Option (Bor (List ℕ)) → Option (List ℕ)
texts_of r = option_map (λ (t : Bor (List ℕ)). t.now) r

-- the text behind what is read
abbrev pub behind : {A : Type 0} → Option (A × List ℕ) → Option (List ℕ)
behind o = option_map (λ p. p.1) o

-- the text behind the word w, where s begins with it
abbrev pub behind_word : List ℕ → List ℕ → Option (List ℕ)
behind_word w s = cond (begins w s) (Some (drop (length w) s)) None

-- what is read, where it is a text, else an empty one
abbrev pub text_in : Option (List ℕ × List ℕ) → List ℕ
text_in (Some p) = p.0
text_in None = []

abbrev pub char_of : Escape → Char
char_of e = record { text = encode e.c; more = e.size }

abbrev pub next_of : Declared.Next → Next
next_of (Declared.TheVariants.Part t) = part t.now
next_of (Declared.TheVariants.End t) = end t.now

-- a member's name from behind the quotation mark on, and the text of its value
abbrev pub texts_of_member : Member → List ℕ × List ℕ
texts_of_member m = (m.name.now, m.value.now)

abbrev pub member_texts : List ℕ → Option (List ℕ × List ℕ) → Option (List ℕ × List ℕ)
member_texts s o = option_map (λ p. (drop 1 s, p.1)) o
