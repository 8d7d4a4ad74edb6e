-- `chars::strip_end` meets its contract. The loop's invariant: the text without its last characters gives the same when trimmed.
-- Assumes nothing.
use mathlib.Core.Path.{◌≡◌, refl, sym, ap, ◌∙◌}
use mathlib.Core.List.{List}
use Prim.Native.Nat.{ℕ, ◌-◌, ◌<◌}
use native.Mathlib.Omega.{arith}
use lib.ListN.{length, take, drop, length-drop, take-append-drop}
use Rattle.std.proofs.Common.{rules}
use Rattle.chars.specs.White.{trim_end}
use Rattle.chars.specs.Post.{EndsIn}
use Rattle.chars.proofs.Trimming.{trim_end_stays, trim_end_white}
use Rattle.chars.proofs.strip_end.Goals as goal

-- the last character is taken off
onward : (t : List ℕ) (n : ℕ) → 0 < n → EndsIn t n → trim_end t ≡ trim_end (take (length t - n) t)
onward t n h e =
    let p = e.nonempty h in
    let l : length (drop (length t - n) t) ≡ n = omega (arith, length-drop (length t - n) t, p.1) in
    sym (ap trim_end (take-append-drop (length t - n) t))
    ∙ trim_end_white (take (length t - n) t) (drop (length t - n) t) (p.2 ∙ sym l) (omega arith)

pub loop-n-preserved : goal.loop-n-preserved
loop-n-preserved c = sym (onward c.loop-n.t.now c.in-Some.n c.in-Some.ensures.0 c.in-Some.ensures.1) ∙ c.loop-n.invariant

pub returns : goal.returns
returns c =
    let t = c.loop-n.t.now in
    let e : EndsIn t 0 = search rules in
    sym (trim_end_stays t (e.nothing refl)) ∙ c.loop-n.invariant
