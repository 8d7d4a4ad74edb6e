-- The entry point *decode escapes* of document 01: its answer and its output, on every text and every output.
-- Assumes nothing.
use Rattle.std.specs.Prelude.{cond, List, ◌++◌, ℕ, leb, length, drop}
use Rattle.format.specs.Limits.{text_limit}
use Rattle.format.specs.Refusals.{text_too_long, not_utf8, output_too_short}
use Rattle.chars.specs.Utf8.{utf8}
use Rattle.escapes.specs.Unescape.{unescape}
use Rattle.std.specs.Prelude.{Err, Ok, Result}
use Rattle.format.specs.declared.Refusal.{Refusal}

-- how many bytes the text stands for, or the first refusal that is met: 2, 3, 5
unfoldable pub decoded : List ℕ → ℕ → Result ℕ Refusal
decoded text room =
    cond (leb (length text) text_limit)
    (cond (utf8 text)
    (cond (leb (length (unescape text)) room) (Ok (length (unescape text))) (Err output_too_short))
    (Err not_utf8))
    (Err text_too_long)

-- what the output then holds: the answer in its first bytes, and the rest as it was; all as it was after a refusal
abbrev pub filled : List ℕ → List ℕ → Result ℕ Refusal → List ℕ
filled text output (Ok n) = unescape text ++ drop n output
filled text output (Err number) = output

abbrev pub output_after : List ℕ → List ℕ → List ℕ
output_after text output = filled text output (decoded text (length output))
