-- `json_text::is_text` meets its contract: a string that is one run is that run; else nothing is left of the word, and nothing differed.
-- Assumes nothing.
use mathlib.Core.Path.{◌≡◌, sym, ap, ◌∙◌}
use mathlib.Core.Bool.{Bool, ◌&&◌}
use mathlib.Core.List.{List, [], ◌++◌, append-nil}
use Prim.Native.Nat.{ℕ, ◌-◌}
use native.Mathlib.Omega.{arith}
use lib.Dec.{eqb}
use lib.ListN.{length, take}
use Rattle.std.specs.Prelude.{Option}
use Rattle.buffers.specs.Same.{same}
use Rattle.json_text.specs.Text.{string}
use Rattle.json_text.specs.Post.{text_in}
use Rattle.json_text.proofs.Matching.{held_all}
use Rattle.json_text.proofs.Strings.{read_piece, run_at, string_inside, quote_at}
use Rattle.json_text.proofs.is_text.Goals as goal

pub bounds-s-n : goal.bounds-s-n
bounds-s-n c =
    let s = c.args.s.now in
    let r = c.plain_end-n in
    string_inside s r.result (read_piece _ _ (run_at s 0 r.result r.ensures) c.requires).some

pub returns-then-s-n-eq34 : goal.returns-then-s-n-eq34
returns-then-s-n-eq34 c =
    let s = c.args.s.now in
    let r = c.plain_end-n in
    let p = read_piece _ _ (run_at s 0 r.result r.ensures) c.requires in
    let x = take (r.result - 0) s in
    let all : r.result - 0 ≡ r.result = omega arith in
    let whole = p.text ∙ ap (λ (o : Option (List ℕ × List ℕ)). x ++ text_in o) (quote_at s r.result (string_inside s r.result p.some) c.if-s-n-eq34.true)
    ∙ append-nil x ∙ ap (λ (n : ℕ). take n s) all in
    c.same.ensures ∙ sym (ap (λ (t : List ℕ). same t c.args.word.now) whole)

pub returns-then-matched : goal.returns-then-matched
returns-then-matched c =
    let m = c.decode.new.sink in
    sym (ap (λ (t : Bool). t && eqb (length m.left.now) 0) c.if-matched.true) ∙ held_all m.equal m.left.now (text_in (string c.args.s.now)) c.args.word.now (c.decode.ensures.wrote [])

pub returns-else-matched : goal.returns-else-matched
returns-else-matched c =
    let m = c.decode.new.sink in
    c.if-matched.false
    ∙ sym (ap (λ (t : Bool). t && eqb (length m.left.now) 0) c.if-matched.false)
    ∙ held_all m.equal m.left.now (text_in (string c.args.s.now)) c.args.word.now (c.decode.ensures.wrote [])
