-- The calls that list a log, from the last one to the first: at each place they write the events of the lines that are left, and the count.
-- Assumes nothing.
use mathlib.Core.Path.{◌≡◌, refl, sym, ap, ◌∙◌}
use mathlib.Core.Logic.{⊎_elim}
use mathlib.Core.List.{List, [], ◌∷◌, ◌++◌, append_assoc, append-nil}
use Prim.Native.Nat.{ℕ, zero, suc, ◌+◌, ◌%◌, ◌^◌, ◌≤◌, ◌<◌}
use native.Mathlib.Omega.{arith}
use borrow.Author.Tests.{ltb-true, ltb-false, lt-leb}
use lib.Dec.{ltb}
use lib.ListN.{length, take, drop}
use lib.Seq.{take_all, take-append_seam, length-take-le}
use Rattle.buffers.proofs.Choice.{decide}
use Rattle.format.specs.Limits.{text_limit}
use Rattle.format.specs.Refusals.{text_too_long}
use Rattle.events.specs.Answer.{Answer, event, blank, refused, line_answer}
use Rattle.logs.specs.Judge.{judge_log}
use Rattle.logs.specs.Cursor.{lines_at, first_line, next_cursor}
use Rattle.logs.specs.declared.Cursor.{Cursor}
use Rattle.logs.proofs.Cutting.{first_lines, lines_behind}
use Rattle.logs.proofs.Judging.{judge_too_long}
use Rattle.log_listing.specs.Night.{line_text, event_in, events_from, count_text, refusal_text, night_text, night_listing}
use Rattle.log_listing.specs.Stretch.{Piece, more, last, first_piece, line_piece, stretch_at, stretch_of, StretchWhole, left}
use Rattle.log_listing.specs.declared.Place.{Place}
use Rattle.log_listing.specs.declared.Place.TheVariants.{Start, Line}
use Rattle.log_listing.proofs.Pieces.{onward}
use Rattle.guarantees.proofs.Agreement.{accepted_iff}
use Rattle.guarantees.specs.Stretches.{Call, after_call, Run, wrote}
use Rattle.std.specs.Prelude.{Err, IfSome, None, Ok, Option, Result, Some}
use Rattle.logs.specs.declared.LineRefusal.{LineRefusal}

-- ---- one call

-- what a call wrote is its piece's text
text_of : (p : Piece) (c : Call) → StretchWhole p c.lent c.answer c.output → take c.answer.size c.output ≡ p.text
text_of p c w = rw (w.answer, w.output) (take-append_seam p.text (drop (length p.text) c.lent))

-- a line has one event at most
one_at_most : (a : Answer) → event_in a ≤ 1
one_at_most (event e) = omega arith
one_at_most blank = omega arith
one_at_most (refused x) = omega arith

-- ---- from the last call to the first

module _ (s : List ℕ) (short : length s ≤ text_limit) where
  -- what the calls from a place on write
  abbrev Lists : List Call → Cursor → ℕ → ℕ → Type 0
  Lists cs at k n = wrote cs ≡ events_from k (lines_at s at) ++ count_text n

  inside : (c : Call) (cs : List Call) (at : Cursor) (k n : ℕ) → k ≤ at.at + 1 → Run s (Line at k n) (c ∷ cs) → (x : List ℕ) (xs : List (List ℕ)) → lines_at s at ≡ x ∷ xs
      → ((at' : Cursor) (k' : ℕ) → k' ≤ at'.at + 1 → Run s (Line at' k' n) cs → Lists cs at' k' n) → Lists (c ∷ cs) at k n
  unfolding Run wrote stretch_at events_from
  inside c cs at k n few r x xs h on =
      let a = line_answer x in
      let next = next_cursor at x in
      let b = lines_behind s at x xs h in
      let w : StretchWhole (line_piece next k n a) c.lent c.answer c.output = rw h at r.0 in
      let m : (k + event_in a) % 2 ^ 64 ≡ k + event_in a = omega (arith, one_at_most a, few, short, b.inside) in
      let rest : Run s (Line next (k + event_in a) n) cs = rw (w.answer, m) at r.1 in
      let events : events_from k (lines_at s at) ≡ line_text k a ++ events_from (k + event_in a) (lines_at s next) =
      ap (events_from k) h ∙ ap (λ (ys : List (List ℕ)). line_text k a ++ events_from (k + event_in a) ys) b.rest in
      rw (text_of (line_piece next k n a) c w, on next (k + event_in a) (omega (arith, one_at_most a, few)) rest, events)
      (sym (append_assoc (line_text k a) (events_from (k + event_in a) (lines_at s next)) (count_text n)))

  ended : (c : Call) (cs : List Call) (at : Cursor) (k n : ℕ) → Run s (Line at k n) (c ∷ cs) → lines_at s at ≡ [] → Lists (c ∷ cs) at k n
  unfolding Run wrote stretch_at events_from
  ended c cs at k n r h =
      let w : StretchWhole (last (count_text n)) c.lent c.answer c.output = rw h at r.0 in
      let nothing : cs ≡ [] = rw w.answer at r.1 in
      rw (text_of (last (count_text n)) c w, nothing, h) (append-nil (count_text n))

  run_lines : (cs : List Call) (at : Cursor) (k n : ℕ) → k ≤ at.at + 1 → Run s (Line at k n) cs → Lists cs at k n
  unfolding Run
  run_lines [] at k n few r = absurd r
  run_lines (c ∷ cs) at k n few r = go (lines_at s at) refl (λ at' k'. run_lines cs at' k' n)
    where
      go : (xs : List (List ℕ)) → lines_at s at ≡ xs → ((at' : Cursor) (k' : ℕ) → k' ≤ at'.at + 1 → Run s (Line at' k' n) cs → Lists cs at' k' n) → Lists (c ∷ cs) at k n
      go [] h on = ended c cs at k n r h
      go (x ∷ xs) h on = inside c cs at k n few r x xs h on

module _ (s : List ℕ) where
  run_judged : (j : Result ℕ LineRefusal) → judge_log s ≡ j → (c : Call) (cs : List Call)
      → StretchWhole (first_piece s j) c.lent c.answer c.output → after_call c.answer (λ p. Run s p cs) (cs ≡ []) → wrote (c ∷ cs) ≡ night_text s j
  unfolding wrote
  run_judged (Ok n) e c cs w r =
      let on : Run s (Line (first_line s) 1 n) cs = rw w.answer at r in
      let rest = run_lines s ((accepted_iff s n).0 e).0.short cs (first_line s) 1 n (omega arith) on in
      rw (text_of (first_piece s (Ok n)) c w, rest, first_lines s)
  run_judged (Err refusal) e c cs w r =
      let nothing : cs ≡ [] = rw w.answer at r in
      rw (text_of (first_piece s (Err (record { refusal = refusal.refusal; line = refusal.line }))) c w, nothing) (append-nil (refusal_text refusal.refusal refusal.line))

  pub run_lists : (cs : List Call) → Run s Start cs → wrote cs ≡ night_listing s
  unfolding Run stretch_at night_listing
  run_lists [] r = absurd r
  run_lists (c ∷ cs) r = run_judged (judge_log s) refl c cs r.0 r.1

  -- a call that gives a piece
  abbrev call_of : Piece → Call
  call_of p = record { lent = []; answer = stretch_of p; output = p.text ++ drop (length p.text) [] }

  gives : (p : Piece) → StretchWhole p [] (stretch_of p) (p.text ++ drop (length p.text) [])
  gives p = record { answer = refl; output = refl }

  -- one call, where those behind it are at hand
  run_on : (p : Place) (t : List ℕ) (n : Option Place) → stretch_at s p ≡ record { text = t; next = n } → IfSome n (λ q. left s q < left s p)
      → ((q : Place) → left s q < left s p → (cs : List Call) × Run s q cs) → (cs : List Call) × Run s p cs
  unfolding Run
  run_on p t (Some q) e f on = let r = on q f in (call_of (more t q) ∷ r.0, (rw e (gives (more t q)), r.1))
  run_on p t None e f on = (call_of (last t) ∷ [], (rw e (gives (last t)), refl))

  -- less is left from call to call
  run_from : (most : ℕ) (p : Place) → left s p ≤ most → (cs : List Call) × Run s p cs
  run_from zero p h = run_on p (stretch_at s p).text (stretch_at s p).next refl (onward s p [] _ _ (gives (stretch_at s p))).falls (λ q less. absurd (omega (arith, less, h)))
  run_from (suc most) p h = run_on p (stretch_at s p).text (stretch_at s p).next refl (onward s p [] _ _ (gives (stretch_at s p))).falls (λ q less. run_from most q (omega (arith, less, h)))

  pub run_exists : (cs : List Call) × Run s Start cs
  run_exists = run_from (left s Start) Start (omega arith)

  -- past the limit every text lists alike
  refused_long : text_limit < length s → night_listing s ≡ refusal_text text_too_long 0
  unfolding night_listing
  refused_long h = rw (← judge_too_long s (lt-leb (length s) text_limit h))

pub listing_of_start : (s : List ℕ) (n : ℕ) → text_limit < n → night_listing (take n s) ≡ night_listing s
listing_of_start s n h = ⊎_elim
    (λ b. ap night_listing (take_all n s (omega (arith, ltb-true (length s) n b))))
    (λ b. let z = ltb-false (length s) n b in refused_long (take n s) (omega (arith, length-take-le n s z)) ∙ sym (refused_long s (omega (arith, z))))
    (decide (ltb (length s) n))
