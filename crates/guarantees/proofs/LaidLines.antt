-- Event lines, laid down one after the other, are read as they were: a line that was read is cut at line feeds and trimmed, begins with `@`,
-- and is read alike once more.
-- Assumes nothing.
use mathlib.Core.Path.{◌≡◌, refl, ap, ◌∙◌}
use mathlib.Core.Bool.{true}
use mathlib.Core.List.{List, [], ◌∷◌, ◌++◌, map}
use Prim.Native.Nat.{ℕ, suc, ◌+◌, ◌≤◌}
use Prim.Native.Char.{code}
use native.Mathlib.Omega.{arith}
use lib.ListN.{length, get_or}
use borrow.Author.Tests.{ne_eqb}
use Rattle.buffers.specs.Ascii.{ascii}
use Rattle.buffers.proofs.Choice.{and_both}
use Rattle.format.specs.Limits.{line_limit}
use Rattle.chars.specs.Utf8.{utf8_from, utf8}
use Rattle.chars.specs.White.{trim}
use Rattle.chars.proofs.Reading.{char_onward, ascii_char}
use Rattle.chars.proofs.Boundary.{starts_low, utf8_append}
use Rattle.chars.proofs.Trimming.{trim_idempotent}
use Rattle.cuts.specs.Split.{onto}
use Rattle.sorting.specs.Order.{Each}
use Rattle.sorting.proofs.EachLaws.{each_by_place}
use Rattle.events.specs.Event.{Event}
use Rattle.events.specs.Answer.{Answer, event, blank, refused, line_answer, read_line}
use Rattle.events.proofs.Answers.{answer_trimmed, answer_event, answer_time, parsed_time}
use Rattle.logs.specs.Lines.{lines_of, marked, unmarked, behind, onward, walk_from}
use Rattle.logs.specs.Judge.{counted, count_line}
use Rattle.logs.specs.Events.{EventLine, gathered, gather, event_lines}
use Rattle.event_lines.specs.Laid.{laid, line_texts}
use Rattle.guarantees.specs.Lines.{InLimits, log_lines}
use Rattle.guarantees.proofs.LineTexts.{line_within, read_within}
use Rattle.guarantees.proofs.TrimmedTexts.{Feedless, utf8_trim, lines_feedless, trim_feedless}

-- ---- what is known of an event line of a log within the limits

pub record Sound (l : EventLine) : Type 0 where
  feedless : Feedless l.text
  encoded : utf8 l.text ≡ true
  trimmed : trim l.text ≡ l.text
  first : get_or l.text 0 0 ≡ code "@"
  short : length l.text ≤ line_limit
  read : line_answer l.text ≡ event l.event

sound : (x : List ℕ) (e : Event) → Feedless x → utf8 x ≡ true → line_answer x ≡ event e → Sound (record { event = e; text = trim x })
sound x e f u h =
    let t = answer_time x e h in
    record {
      feedless = trim_feedless x f;
      encoded = utf8_trim x u;
      trimmed = trim_idempotent x;
      first = (parsed_time (trim x) t.0 t.1).0;
      short = (answer_event x e h).1;
      read = answer_trimmed x ∙ h;
    }

gathered_sound : (xs : List (List ℕ)) → Each Feedless xs → Each (λ (x : List ℕ). utf8 x ≡ true) xs → Each Sound (gather line_answer xs)
unfolding gather Each
gathered_sound [] f u = tt
gathered_sound (x ∷ xs) f u = go (line_answer x) refl (gathered_sound xs f.1 u.1)
  where
    go : (a : Answer) → line_answer x ≡ a → Each Sound (gather line_answer xs) → Each Sound (gathered x a (gather line_answer xs))
    go (event e) h rest = (sound x e f.0 u.0 h, rest)
    go blank h rest = rest
    go (refused n) h rest = rest

pub log_sound : (s : List ℕ) → InLimits s → Each Sound (event_lines s)
log_sound s w = gathered_sound (log_lines s) (lines_feedless (unmarked s)) (each_by_place (λ (x : List ℕ). utf8 x ≡ true) [] (log_lines s) (λ i. (line_within s w i).encoded))

-- ---- such lines, laid down

line_laid : (x rest : List ℕ) → Feedless x → lines_of (x ++ (code "\n" ∷ rest)) ≡ x ∷ lines_of rest
unfolding lines_of Each onto
line_laid [] rest h = refl
line_laid (a ∷ x) rest h = rw h.0 (ap (onto a) (line_laid x rest h.1))

feed_encoded : (x rest : List ℕ) → utf8 x ≡ true → utf8 rest ≡ true → utf8 (x ++ (code "\n" ∷ rest)) ≡ true
feed_encoded x rest u v =
    utf8_append x (code "\n" ∷ rest) (starts_low (code "\n") (omega arith))
    ∙ and_both (utf8 x) (utf8 (code "\n" ∷ rest)) u (char_onward (code "\n" ∷ rest) (code "\n") 1 (ascii_char (code "\n") rest (omega arith)) ∙ v)

pub laid_encoded : (ls : List EventLine) → Each Sound ls → utf8 (laid (line_texts ls)) ≡ true
unfolding laid Each utf8_from
laid_encoded [] h = refl
laid_encoded (l ∷ ls) h = feed_encoded l.text (laid (line_texts ls)) h.0.encoded (laid_encoded ls h.1)

lines_laid : (ls : List EventLine) → Each Sound ls → lines_of (laid (line_texts ls)) ≡ line_texts ls
unfolding laid Each lines_of
lines_laid [] h = refl
lines_laid (l ∷ ls) h = line_laid l.text (laid (line_texts ls)) h.0.feedless ∙ ap (λ (xs : List (List ℕ)). l.text ∷ xs) (lines_laid ls h.1)

first_kept : (x rest : List ℕ) → get_or x 0 0 ≡ code "@" → get_or (x ++ rest) 0 0 ≡ code "@"
first_kept [] rest e = absurd (omega arith)
first_kept (a ∷ x) rest e = e

-- no mark stands in front of them
laid_unmarked : (ls : List EventLine) → Each Sound ls → unmarked (laid (line_texts ls)) ≡ laid (line_texts ls)
unfolding laid Each unmarked marked
laid_unmarked [] h = refl
laid_unmarked (l ∷ ls) h =
    let e = first_kept l.text (ascii "\n" ++ laid (line_texts ls)) h.0.first in
    rw (ne_eqb (get_or (l.text ++ (ascii "\n" ++ laid (line_texts ls))) 0 0) 0xEF (λ z. omega arith))

pub laid_lines : (ls : List EventLine) → Each Sound ls → log_lines (laid (line_texts ls)) ≡ line_texts ls
laid_lines ls h = ap lines_of (laid_unmarked ls h) ∙ lines_laid ls h

-- ---- and read again

pub laid_answers : (ls : List EventLine) → Each Sound ls → map read_line (line_texts ls) ≡ map (λ (l : EventLine). event l.event) ls
unfolding Each
laid_answers [] h = refl
laid_answers (l ∷ ls) h =
    let s = h.0.short in
    let w : InLimits l.text = record { short = omega arith; encoded = h.0.encoded } in
    let first : read_line l.text ≡ event l.event = read_within l.text w ∙ h.0.read in
    rw (first, laid_answers ls h.1)

gather_laid : (ls : List EventLine) → Each Sound ls → gather line_answer (line_texts ls) ≡ ls
unfolding gather Each
gather_laid [] h = refl
gather_laid (l ∷ ls) h = rw (h.0.read, h.0.trimmed, gather_laid ls h.1)

pub laid_events : (ls : List EventLine) → Each Sound ls → event_lines (laid (line_texts ls)) ≡ ls
laid_events ls h = ap (gather line_answer) (laid_lines ls h) ∙ gather_laid ls h

-- ---- and counted

pub walk_counts : (k n : ℕ) (ls : List EventLine) → Each Sound ls → walk_from count_line k n (line_texts ls) ≡ behind (n + length ls)
unfolding walk_from Each
walk_counts k n [] h = let z : n ≡ n + 0 = omega arith in ap behind z
walk_counts k n (l ∷ ls) h = let z : suc n + length ls ≡ n + suc (length ls) = omega arith in rw h.0.read (walk_counts (suc k) (suc n) ls h.1 ∙ ap behind z)

-- the count of a walk is that of the lines that it gathers
pub walk_counted : (k n m : ℕ) (xs : List (List ℕ)) → walk_from count_line k n xs ≡ behind m → m ≡ n + length (gather line_answer xs)
unfolding walk_from gather
walk_counted k n m [] h = let z : n ≡ m = cc in omega arith
walk_counted k n m (x ∷ xs) h = go (line_answer x) h (λ c. walk_counted (suc k) c m xs)
  where
    go : (a : Answer) → onward k (counted n a) (λ c. walk_from count_line (suc k) c xs) ≡ behind m
        → ((c : ℕ) → walk_from count_line (suc k) c xs ≡ behind m → m ≡ c + length (gather line_answer xs)) → m ≡ n + length (gathered x a (gather line_answer xs))
    go (event e) h next = omega (arith, next (suc n) h)
    go blank h next = next n h
    go (refused y) h next = let z : ◌≡◌ {A = ℕ} 0 1 = cc in absurd (omega arith)
