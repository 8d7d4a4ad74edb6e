-- The limits on a whole text that document 01's table of refusals begins with: 2 and 3.
-- Assumes nothing.
use Rattle.std.specs.Prelude.{cond, List, ℕ, leb, length}
use Rattle.std.specs.Prelude.{Err, Ok, Result, ⊤}
use Rattle.format.specs.Limits.{text_limit}
use Rattle.format.specs.Refusals.{text_too_long, not_utf8}
use Rattle.format.specs.declared.Refusal.{Refusal}
use Rattle.chars.specs.Utf8.{utf8}

abbrev pub text_checked : List ℕ → Result ⊤ Refusal
text_checked s = cond (leb (length s) text_limit) (cond (utf8 s) (Ok tt) (Err not_utf8)) (Err text_too_long)
