-- Of inner functions alone: what `is_json` walks by, a stack of open brackets in place of recursion, and what its functions answer.
-- Assumes nothing.
use Rattle.std.specs.Prelude.{◌≡◌, Bool, true, false, cond, List, ℕ, zero, suc, ◌+◌, ◌≤◌, ◌<◌, eqb, length, get_or, None, Option, Some}
use Prim.Native.Char.{code}
use Rattle.chars.specs.White.{empty}
use Rattle.json_text.specs.Json.{no_item, no_member}
use Rattle.json_text.specs.Syntax.{ws, Next, part, end, next_part, onward_if, read_value, read_items, read_members}
use Rattle.json_text.specs.declared.Step.{Step}

-- the text behind what is read goes on
abbrev pub goes : {A : Type 0} → Option (A × List ℕ) → (List ℕ → Bool) → Bool
goes (Some p) on = on p.1
goes None on = false

-- the bracket that closes what b opens
abbrev pub closing : ℕ → ℕ
closing b = cond (eqb b (code "[")) (code "]") (code "}")

-- in a bracket that b opened, from its next part on
abbrev pub within_bracket : ℕ → (List ℕ → Bool) → Option Next → Bool
within_bracket b on o = cond (eqb b (code "[")) (goes (onward_if no_item read_items o) on) (goes (onward_if no_member read_members o) on)

-- behind a value, with so many brackets open, the innermost last in `nesting`: is the rest right?
unfoldable pub closes : List ℕ → ℕ → List ℕ → Bool
closes nesting zero s = empty (ws s)
closes nesting (suc d) s = within_bracket (get_or nesting d 0) (closes nesting d) (next_part (closing (get_or nesting d 0)) s)

-- before a value, or behind one
abbrev pub right : Bool → List ℕ → ℕ → List ℕ → Bool
right true nesting d s = goes (read_value s) (closes nesting d)
right false nesting d s = closes nesting d s

-- A step goes to a place from which the rest is right exactly where `before` says so. Of l bytes it takes one at least, and a bracket that opens
-- is one of them.
abbrev pub StepsTo : Bool → ℕ → ℕ → List ℕ → Option Step → Type 0
StepsTo before d l nesting (Some n) =
    (before ≡ right n.value nesting n.depth n.rest.now) × (length n.rest.now < l) × (n.depth + length n.rest.now ≤ d + l)
StepsTo before d l nesting None = before ≡ false

-- how many bytes follow the bracket, or the comma, before the next part
abbrev pub bytes_ahead : Next → ℕ
bytes_ahead (part r) = length r
bytes_ahead (end r) = length r
