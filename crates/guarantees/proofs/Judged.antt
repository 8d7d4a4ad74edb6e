-- From where the walk over the lines ends to the judgement of the log: the limits stand before it.
-- Assumes nothing.
use mathlib.Core.Path.{◌≡◌, refl, sym, ap, ◌∙◌}
use mathlib.Core.List.{List, []}
use mathlib.Core.Logic.{◌↔◌}
use Prim.Native.Nat.{ℕ}
use native.Mathlib.Omega.{arith}
use lib.ListN.{length, get_or}
use borrow.Author.Tests.{le-leb}
use Rattle.logs.specs.declared.LineRefusal.{LineRefusal}
use Rattle.format.specs.declared.Refusal.{Refusal}
use Rattle.format.specs.Limits.{text_limit}
use Rattle.logs.specs.Lines.{Walked, behind, stopped, walk}
use Rattle.logs.specs.Judge.{count_line, judged_by, judge_log}
use Rattle.logs.proofs.Judging.{within_limits, accepted_means}
use Rattle.guarantees.specs.Lines.{InLimits, log_lines, EachReadOrBlank, events_in, FirstRefused}
use Rattle.guarantees.proofs.LineTexts.{line_within, read_within}
use Rattle.guarantees.proofs.Walked.{Ended, ended, behind_iff, stopped_iff}
use Rattle.std.specs.Prelude.{Err, Ok}

judged_stopped : (w : Walked ℕ) (x : Refusal) (line : ℕ) → judged_by w ≡ Err (record { refusal = x; line = line }) → w ≡ stopped x line
judged_stopped (behind m) x line e = let z : ◌≡◌ {A = ℕ} 0 1 = cc in absurd (omega arith)
judged_stopped (stopped y at) x line e =
    let r : ◌≡◌ {A = LineRefusal} (record { refusal = y; line = at }) (record { refusal = x; line = line }) = cc in
    let a : y ≡ x = ap (λ (r : LineRefusal). r.refusal) r in
    let b : at ≡ line = ap (λ (r : LineRefusal). r.line) r in rw (a, b)

-- a log that is accepted is within the limits
pub accepted_within : (s : List ℕ) (n : ℕ) → judge_log s ≡ Ok n → InLimits s
accepted_within s n e = let a = accepted_means s n e in record { short = a.0; encoded = a.1 }

module _ (s : List ℕ) (w : InLimits s) where
  walked : judged_by (walk count_line 0 s) ≡ judge_log s
  walked = within_limits s (judged_by (walk count_line 0 s)) (le-leb (length s) text_limit w.short) w.encoded refl

  pub log_walked : (n : ℕ) → (judge_log s ≡ Ok n) ↔ (walk count_line 0 s ≡ behind n)
  log_walked n = ((λ e. (accepted_means s n e).2), (λ e. sym walked ∙ ap judged_by e))

  log_ended : Ended 1 0 (log_lines s) (walk count_line 0 s)
  log_ended = ended 1 0 (log_lines s) (λ i. read_within (get_or (log_lines s) i []) (line_within s w i))

  pub log_passed : (n : ℕ) → (judge_log s ≡ Ok n) ↔ (EachReadOrBlank (log_lines s) × (n ≡ events_in (log_lines s)))
  log_passed n =
      let i = behind_iff (log_lines s) (walk count_line 0 s) n log_ended in
      ((λ e. i.0 ((log_walked n).0 e)), (λ o. (log_walked n).1 (i.1 o)))

  pub log_stopped : (x : Refusal) (line : ℕ) → (judge_log s ≡ Err (record { refusal = x; line = line })) ↔ FirstRefused (log_lines s) line x
  log_stopped x line =
      let i = stopped_iff (log_lines s) (walk count_line 0 s) x line log_ended in
      ((λ e. i.0 (judged_stopped (walk count_line 0 s) x line (walked ∙ e))), (λ o. sym walked ∙ ap judged_by (i.1 o)))

pub log_accepted : (s : List ℕ) (n : ℕ) → (judge_log s ≡ Ok n) ↔ (InLimits s × EachReadOrBlank (log_lines s) × (n ≡ events_in (log_lines s)))
log_accepted s n =
    ((λ e. let w = accepted_within s n e in let o = (log_passed s w n).0 e in (w, o.0, o.1)), (λ o. (log_passed s o.0 n).1 (o.1, o.2)))
