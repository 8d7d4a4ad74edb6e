-- `chars::strip_start` meets its contract: spaces are passed first. The loop's invariant: the rest gives the same when trimmed.
-- Assumes nothing.
use mathlib.Core.Path.{◌≡◌, sym, ap, ◌∙◌}
use mathlib.Core.List.{List}
use Prim.Native.Nat.{ℕ, zero, suc, ◌-◌, ◌<◌}
use native.Mathlib.Omega.{arith}
use lib.ListN.{length, take, drop}
use Rattle.buffers.proofs.Appending.{take_rest}
use Rattle.chars.specs.White.{white_at, trim_start}
use Rattle.chars.proofs.Spacing.{spaces_trimmed}
use Rattle.chars.proofs.Trimming.{trim_start_white}
use Rattle.chars.proofs.strip_start.Goals as goal

-- a White_Space character is passed
onward : (t : List ℕ) (n : ℕ) → 0 < n → white_at t ≡ n → trim_start t ≡ trim_start (take (length t - n) (drop n t))
onward t zero h e = absurd (omega arith)
onward t (suc n) h e = trim_start_white t n e ∙ ap trim_start (sym (take_rest (suc n) t))

pub loop-n-init : goal.loop-n-init
loop-n-init c =
    let s = c.args.s.now in
    let n = c.spaces_end.result in
    spaces_trimmed s n c.spaces_end.ensures.1 c.spaces_end.ensures.0 ∙ ap trim_start (sym (take_rest n s))

pub loop-n-preserved : goal.loop-n-preserved
loop-n-preserved c =
    c.loop-n.invariant ∙ onward c.loop-n.t.now c.in-Some.n c.in-Some.ensures.value.0 c.in-Some.ensures.value.1
