-- The entry point's answer, test by test, and the output that goes with it.
-- Assumes nothing.
use mathlib.Core.Path.{◌≡◌, sym, ap, ◌∙◌}
use mathlib.Core.Bool.{true, false}
use mathlib.Core.List.{List, ◌++◌}
use Prim.Native.Nat.{ℕ, ◌≤◌, ◌<◌}
use native.Mathlib.Omega.{arith}
use lib.Dec.{leb}
use lib.ListN.{length, drop}
use borrow.Author.Tests.{le-leb, lt-leb}
use Rattle.buffers.specs.Wrote.{Wrote}
use Rattle.buffers.proofs.Appending.{wrote_all}
use Rattle.format.specs.Limits.{text_limit}
use Rattle.format.specs.Refusals.{text_too_long, output_too_short}
use Rattle.chars.specs.Checked.{text_checked}
use Rattle.chars.proofs.Checking.{stopped}
use Rattle.chars.specs.Utf8.{utf8}
use Rattle.escapes.specs.Unescape.{unescape}
use Rattle.escapes.specs.Entry.{decoded, filled, output_after}
use Rattle.format.specs.declared.Refusal.{Refusal}
use Rattle.std.specs.Prelude.{Err, Ok, Result}
use Rattle.format.specs.declared.Refusal.{Refusal}

-- the answer, and what the output holds
abbrev pub DecodeAnswers : List ℕ → List ℕ → Result ℕ Refusal → List ℕ → Type 0
DecodeAnswers text output answer after = (answer ≡ decoded text (length output)) × (after ≡ output_after text output)

module _ (text output : List ℕ) where
  refused : (k : Refusal) → decoded text (length output) ≡ Err k → DecodeAnswers text output (Err k) output
  refused k e = (sym e, sym (ap (filled text output) e))

  -- refused as any text is
  pub decode_stopped : {k : Refusal} → Err k ≡ text_checked text → DecodeAnswers text output (Err k) output
  unfolding decoded
  decode_stopped {k} h = refused k (sym (stopped text Err _ h))

  pub decode_too_long : leb (length text) text_limit ≡ false → DecodeAnswers text output (Err text_too_long) output
  unfolding decoded
  decode_too_long l = refused text_too_long (rw l)

  module _ (l : leb (length text) text_limit ≡ true) where
    module _ (u : utf8 text ≡ true) (n : ℕ) (e : n ≡ length (unescape text)) where
      pub decode_no_room : length output < n → DecodeAnswers text output (Err output_too_short) output
      unfolding decoded
      decode_no_room h = refused output_too_short (rw (l, u, lt-leb (length (unescape text)) (length output) (omega arith)))

      fits : n ≤ length output → decoded text (length output) ≡ Ok n
      unfolding decoded
      fits h = rw (l, u, le-leb (length (unescape text)) (length output) (omega arith)) (ap Ok (sym e))

      -- the text was written at the output's start
      pub decode_written : (after : List ℕ) (end : ℕ) → n ≤ length output → Wrote output 0 after end (unescape text) → DecodeAnswers text output (Ok n) after
      decode_written after end h w =
          (sym (fits h), wrote_all w ∙ ap (λ (m : ℕ). unescape text ++ drop m output) (omega (arith, w.ends)) ∙ sym (ap (filled text output) (fits h)))
