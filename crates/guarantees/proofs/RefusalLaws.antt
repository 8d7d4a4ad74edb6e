-- Which refusals the answers of the entry points can be: a test on each answer by its cases, and then the library's membership.
-- Assumes nothing.
use mathlib.Core.Path.{◌≡◌, refl, sym, ap, subst}
use mathlib.Core.Bool.{true, not, ◌&&◌, ◌||◌}
use mathlib.Core.List.{List, [], ◌∷◌, Memᴰ}
use Prim.Native.Nat.{ℕ}
use borrow.Author.Tests.{leb-true, eq-eqb}
use lib.Dec.{leb, ltb, eqb}
use lib.ListN.{length}
use Rattle.buffers.proofs.Choice.{by_cond, both_arms, or_left, or_right}
use Rattle.format.specs.Limits.{text_limit, line_limit}
use Rattle.format.specs.Refusals.{number, table_too_short, text_too_long, not_utf8, times_fall_in_first, times_fall_in_second}
use Rattle.chars.specs.Utf8.{utf8}
use Rattle.cuts.specs.Body.{cut_body}
use Rattle.cuts.specs.Split.{cut_places}
use Rattle.escapes.specs.Entry.{decoded}
use Rattle.escapes.specs.Unescape.{unescape}
use Rattle.keys.specs.Entry.{spell_key}
use Rattle.keys.specs.Escape.{pinned, entity_uid}
use Rattle.pack.specs.Pack.{Pack}
use Rattle.events.specs.Answer.{Answer, event, blank, refused, read_line}
use Rattle.events.proofs.OutcomeLaws.{is_in, all_in, in_all, is_member}
use Rattle.events.proofs.EntityOutcomes.{DistinctEntries}
use Rattle.events.proofs.LineOutcomes.{read_refusals, read_refused}
use Rattle.lines.specs.Entry.{line_read_of, enough}
use Rattle.json_entities.specs.Entry.{sizes_or, read_entities}
use Rattle.entities.specs.Entries.{Entries}
use Rattle.format.specs.Outcome.{Outcome, ok}
use Rattle.logs.specs.Judge.{of_text, judge_log}
use Rattle.logs.specs.Judge as Judge
use Rattle.listing.specs.Lines.{list_event}
use Rattle.listing.specs.Entry.{list_answer}
use Rattle.listing.specs.Entry as Listing
use Rattle.event_lines.specs.Time.{fall_in}
use Rattle.merging.specs.Merge.{merged_text, unless_refused, unless_falls, merge_logs}
use Rattle.merging.specs.Merge as Merge
use Rattle.guarantees.specs.Lines.{log_lines, line_numbered}
use Rattle.guarantees.specs.Calls.{ReadInto, EntitiesInto}
use Rattle.guarantees.specs.RefusalTable.{OneOf, refusal_table, decode_rows, spell_key_rows, cut_body_rows, read_line_rows, read_entities_rows, judge_rows, list_line_rows, merge_rows, RowsOfTheTable}
use Rattle.guarantees.proofs.Agreement.{refused_iff}
use Rattle.guarantees.proofs.JsonOutcomes.{OrRow, read_entities_in}
use Rattle.std.specs.Prelude.{Err, None, Ok, Option, Result, Some}
use Rattle.format.specs.declared.Reach.{Reach}
use Rattle.logs.specs.declared.LineRefusal.{LineRefusal}
use Rattle.merging.specs.declared.MergeRefusal.{MergeRefusal}
use Rattle.format.specs.declared.Refusal.{Refusal}

-- ---- texts alone

abbrev DecodedIn : Result ℕ Refusal → Type 0
DecodedIn (Ok n) = Unit {0}
DecodedIn (Err n) = is_in n decode_rows ≡ true

decode_in : (text : List ℕ) (room : ℕ) → DecodedIn (decoded text room)
unfolding decoded is_in
decode_in text room =
    both_arms DecodedIn (leb (length text) text_limit) (both_arms DecodedIn (utf8 text) (both_arms DecodedIn (leb (length (unescape text)) room) tt refl) refl) refl

pub decode_refusals : (text : List ℕ) (room : ℕ) {n : Refusal} → decoded text room ≡ Err n → OneOf decode_rows n
decode_refusals text room {n} h = is_member n decode_rows (subst DecodedIn h (decode_in text room))

abbrev SpelledIn : Result ℕ Refusal → Type 0
SpelledIn (Ok n) = Unit {0}
SpelledIn (Err n) = is_in n spell_key_rows ≡ true

spell_in : (ty id : List ℕ) (room : ℕ) → SpelledIn (spell_key ty id room)
unfolding spell_key is_in
spell_in ty id room =
    both_arms SpelledIn (ltb text_limit (length ty) || ltb text_limit (length id)) refl
    (both_arms SpelledIn (not (utf8 ty && utf8 id)) refl
    (both_arms SpelledIn (ltb line_limit (length ty) || ltb line_limit (length id)) refl
    (both_arms SpelledIn (ltb room (length (entity_uid pinned ty id))) refl tt)))

pub spell_key_refusals : (ty id : List ℕ) (room : ℕ) {n : Refusal} → spell_key ty id room ≡ Err n → OneOf spell_key_rows n
spell_key_refusals ty id room {n} h = is_member n spell_key_rows (subst SpelledIn h (spell_in ty id room))

abbrev CutIn : Result ℕ Refusal → Type 0
CutIn (Ok n) = Unit {0}
CutIn (Err n) = is_in n cut_body_rows ≡ true

cut_in : (body : List ℕ) (room : ℕ) → CutIn (cut_body body room)
unfolding cut_body is_in
cut_in body room =
    both_arms CutIn (ltb text_limit (length body)) refl
    (both_arms CutIn (not (utf8 body)) refl
    (both_arms CutIn (ltb line_limit (length body)) refl
    (both_arms CutIn (ltb room (length (cut_places body))) refl tt)))

pub cut_body_refusals : (body : List ℕ) (room : ℕ) {n : Refusal} → cut_body body room ≡ Err n → OneOf cut_body_rows n
cut_body_refusals body room {n} h = is_member n cut_body_rows (subst CutIn h (cut_in body room))

-- ---- a line

-- whatever rows hold those of reading
module _ (ns : List Refusal) (w : all_in read_refusals ns ≡ true) where
  read_in : (s : List ℕ) (n : Refusal) → read_line s ≡ refused n → is_in n ns ≡ true
  read_in s n h = in_all n read_refusals ns w (read_refused s n h)

abbrev LineIn : Result (Option Reach) Refusal → Type 0
LineIn (Ok (Some f)) = Unit {0}
LineIn (Ok None) = Unit {0}
LineIn (Err n) = is_in n read_line_rows ≡ true

answer_in : (a : Answer) → ((n : Refusal) → a ≡ refused n → is_in n read_line_rows ≡ true) → LineIn (line_read_of a)
answer_in (event e) h = tt
answer_in blank h = tt
answer_in (refused n) h = h n refl

pub read_line_refusals : {s : List ℕ} {p q : Pack} {n : Refusal} → ReadInto s p (Err n) q → OneOf read_line_rows n
unfolding is_in all_in
read_line_refusals {s} {p} {q} {n} w = is_member n read_line_rows (subst LineIn (sym w.answer)
    (both_arms LineIn (enough p.kinds p.numbers p.texts) (answer_in (read_line s) (read_in read_line_rows refl s)) refl))

-- ---- entities JSON

abbrev EntitiesIn : Result Reach Refusal → Type 0
EntitiesIn (Ok f) = Unit {0}
EntitiesIn (Err n) = is_in n read_entities_rows ≡ true

sizes_in : (o : Outcome Entries) → OrRow DistinctEntries o → EntitiesIn (sizes_or o)
sizes_in (ok es) h = tt
sizes_in (Outcome.refused n) h = h

pub read_entities_refusals : {s : List ℕ} {p q : Pack} {n : Refusal} → EntitiesInto s p (Err n) q → OneOf read_entities_rows n
unfolding is_in
read_entities_refusals {s} {p} {q} {n} w = is_member n read_entities_rows (subst EntitiesIn (sym w.answer)
    (both_arms EntitiesIn (enough p.kinds p.numbers p.texts) (sizes_in (read_entities s) (read_entities_in s)) refl))

-- ---- a listing

abbrev ListedIn : Result (Option ℕ) Refusal → Type 0
ListedIn (Ok (Some n)) = Unit {0}
ListedIn (Ok None) = Unit {0}
ListedIn (Err n) = is_in n list_line_rows ≡ true

list_in : (number room : ℕ) (a : Answer) → ((n : Refusal) → a ≡ refused n → is_in n list_line_rows ≡ true) → ListedIn (list_answer number room a)
unfolding is_in
list_in number room (event e) h = both_arms ListedIn (leb (length (list_event number e)) room) tt refl
list_in number room blank h = tt
list_in number room (refused n) h = h n refl

pub list_line_refusals : {s k n t out k' n' t' out' : List ℕ} {number : ℕ} {x : Refusal} → Listing.ListWhole s number k n t out (Err x) k' n' t' out' → OneOf list_line_rows x
unfolding is_in all_in
list_line_refusals {s} {k} {n} {t} {out} {number = number} {x} w = is_member x list_line_rows (subst ListedIn (sym w.answer)
    (both_arms ListedIn (enough k n t) (list_in number (length out) (read_line s) (read_in list_line_rows refl s)) refl))

-- ---- logs

-- a log is refused as a whole, or as one of its lines is
module _ (ns : List Refusal) (w : all_in read_refusals ns ≡ true) (long : is_in text_too_long ns ≡ true) (bad : is_in not_utf8 ns ≡ true) where
  abbrev JudgedIn : Result ℕ LineRefusal → Type 0
  JudgedIn j = (x : Refusal) (line : ℕ) → j ≡ Err (record { refusal = x; line = line }) → is_in x ns ≡ true

  whole : (y : Refusal) → is_in y ns ≡ true → JudgedIn (Err (of_text y))
  whole y i x line h =
      let r : of_text y ≡ record { refusal = x; line = line } = cc in
      subst (λ (r : LineRefusal). is_in r.refusal ns ≡ true) r i

  judge_in : (s : List ℕ) → JudgedIn (judge_log s)
  unfolding judge_log
  judge_in s x line h =
      by_cond (λ (j : Result ℕ LineRefusal). j ≡ Err (record { refusal = x; line = line }) → is_in x ns ≡ true) (leb (length s) text_limit) _ (Err (of_text text_too_long))
      (λ short. by_cond (λ (j : Result ℕ LineRefusal). j ≡ Err (record { refusal = x; line = line }) → is_in x ns ≡ true) (utf8 s) _ (Err (of_text not_utf8))
      (λ u _. read_in ns w (line_numbered line (log_lines s)) x ((refused_iff s (record { short = leb-true (length s) text_limit short; encoded = u }) x line).0 h).here)
      (λ _. whole not_utf8 bad x line))
      (λ _. whole text_too_long long x line)
      h

pub judge_refusals : {s k n t k' n' t' : List ℕ} {x : Refusal} {line : ℕ} → Judge.JudgeWhole s k n t (Err (record { refusal = x; line = line })) k' n' t' → OneOf judge_rows x
unfolding is_in all_in
judge_refusals {s} {k} {n} {t} {x = x} {line} w = is_member x judge_rows (both_arms (JudgedIn judge_rows refl refl refl) (enough k n t) (judge_in judge_rows refl refl refl s) (whole judge_rows refl refl refl table_too_short refl) x line (sym w.answer))

abbrev MergedIn : Result ℕ MergeRefusal → Type 0
MergedIn (Ok n) = Unit {0}
MergedIn (Err refusal) = is_in refusal.refusal merge_rows ≡ true

judged_first : (log : ℕ) (j : Result ℕ LineRefusal) (next : Result ℕ MergeRefusal) → ((x : Refusal) (line : ℕ) → j ≡ Err (record { refusal = x; line = line }) → is_in x merge_rows ≡ true) → MergedIn next → MergedIn (unless_refused log j next)
judged_first log (Ok n) next h m = m
judged_first log (Err refusal) next h m = h refusal.refusal refusal.line refl

falls_next : (e : Refusal) (log : ℕ) (fall : Option ℕ) (next : Result ℕ MergeRefusal) → is_in e merge_rows ≡ true → MergedIn next → MergedIn (unless_falls e log fall next)
falls_next e log None next i m = m
falls_next e log (Some line) next i m = i

merge_in : (first second : List ℕ) (room : ℕ) → MergedIn (merge_logs first second room)
unfolding merge_logs is_in all_in
merge_in first second room =
    judged_first 1 (judge_log first) _ (judge_in merge_rows refl refl refl first)
    (judged_first 2 (judge_log second) _ (judge_in merge_rows refl refl refl second)
    (falls_next times_fall_in_first 1 (fall_in first) _ refl
    (falls_next times_fall_in_second 2 (fall_in second) _ refl
    (both_arms MergedIn (leb (length (merged_text first second)) text_limit) (both_arms MergedIn (leb (length (merged_text first second)) room) tt refl) refl))))

pub merge_refusals : {first second k n t out k' n' t' out' : List ℕ} {x : Refusal} {log line : ℕ} → Merge.MergeWhole first second k n t out (Err (record { refusal = x; log = log; line = line })) k' n' t' out'
    → OneOf merge_rows x
unfolding is_in
merge_refusals {first} {second} {k} {n} {t} {out} {x = x} w =
    is_member x merge_rows (subst MergedIn (sym w.answer) (both_arms MergedIn (enough k n t) (merge_in first second (length out)) refl))

-- ---- the table

is_one_of : (n : Refusal) (ns : List Refusal) → OneOf ns n → is_in n ns ≡ true
unfolding is_in
is_one_of n [] m = elim m [ ]
is_one_of n (x ∷ xs) (Memᴰ.head e) = or_left (eqb (number n) (number x)) (is_in n xs) (eq-eqb (number n) (number x) (ap number e))
is_one_of n (x ∷ xs) (Memᴰ.tail m) = or_right (eqb (number n) (number x)) (is_in n xs) (is_one_of n xs m)

rows : (ns : List Refusal) → all_in ns refusal_table ≡ true → RowsOfTheTable ns
rows ns w n m = is_member n refusal_table (in_all n ns refusal_table w (is_one_of n ns m))

pub in_the_table : RowsOfTheTable decode_rows × RowsOfTheTable spell_key_rows × RowsOfTheTable cut_body_rows × RowsOfTheTable read_line_rows × RowsOfTheTable read_entities_rows
    × RowsOfTheTable judge_rows × RowsOfTheTable list_line_rows × RowsOfTheTable merge_rows
unfolding is_in all_in
in_the_table =
    (rows decode_rows refl, rows spell_key_rows refl, rows cut_body_rows refl, rows read_line_rows refl, rows read_entities_rows refl, rows judge_rows refl, rows list_line_rows refl, rows merge_rows refl)
