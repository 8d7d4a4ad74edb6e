-- Answers are small: counts and a refusal's line, so that their numbers fit into 64 bits and can be taken apart. No success is as large as
-- a refusal, and where a line is listed only a blank one is 0.
-- Assumes nothing.
use mathlib.Core.Path.{◌≡◌, subst}
use mathlib.Core.Bool.{cond, not, ◌&&◌, ◌||◌}
use mathlib.Core.List.{List, [], ◌∷◌}
use Prim.Native.Nat.{ℕ, suc, ◌+◌, ◌*◌, ◌≤◌, ◌<◌}
use Prim.Native.Char.{code}
use native.Mathlib.Omega.{arith}
use borrow.Author.Tests.{leb-true, ltb-false}
use lib.Dec.{leb, ltb, eqb}
use lib.ListN.{length, length-append}
use Rattle.buffers.proofs.Choice.{by_cond, both_arms, or_none_left, or_none_right}
use Rattle.format.specs.Limits.{text_limit, line_limit}
use Rattle.format.specs.Refusals.{not_utf8}
use Rattle.format.proofs.Numbers.{number_same, number_small}
use Rattle.chars.specs.Utf8.{utf8}
use Rattle.cuts.specs.Split.{onto, cut_places}
use Rattle.cuts.specs.Body.{cut_body}
use Rattle.cuts.proofs.SplitLaws.{cut_places_le}
use Rattle.escapes.specs.Unescape.{unescape}
use Rattle.escapes.specs.Entry.{decoded}
use Rattle.escapes.proofs.Unescaping.{unescape_length}
use Rattle.keys.specs.Escape.{pinned, entity_uid}
use Rattle.keys.specs.Entry.{spell_key}
use Rattle.keys.proofs.Lengths.{escape_length}
use Rattle.events.specs.Event.{Event}
use Rattle.events.specs.Answer.{Answer, event, blank, line_answer, read_line}
use Rattle.lines.specs.Entry.{enough}
use Rattle.logs.specs.Lines.{lines_of, unmarked, Walked, behind, stopped, onward, walk_from}
use Rattle.logs.specs.Judge.{of_text, counted, count_line, judged_by, judge_log}
use Rattle.event_lines.proofs.Extent.{unmarked_within}
use Rattle.listing.specs.Lines.{event_line, list_sheet, list_event}
use Rattle.listing.specs.Entry.{list_answer}
use Rattle.listing.specs.SizeAt.{longest_listing}
use Rattle.listing.proofs.Longest.{ListsWithin, listing_short}
use Rattle.lulzhemor.specs.Answer.{refused_from, counted_answer, of_judged, judge_answer, of_listed, line_listed}
use Rattle.std.specs.Prelude.{Err, None, Ok, Option, Result, Some}
use Rattle.logs.specs.declared.LineRefusal.{LineRefusal}
use Rattle.format.specs.declared.Refusal.{Refusal}

-- ---- a log's count, and a refusal's line

abbrev pub SmallJudged : Result ℕ LineRefusal → Type 0
SmallJudged (Ok n) = n ≤ text_limit
SmallJudged (Err refusal) = refusal.line ≤ text_limit + 1

abbrev WalkWithin : ℕ → ℕ → Walked ℕ → Type 0
WalkWithin count m (behind n) = n ≤ count
WalkWithin count m (stopped e line) = line ≤ m

module _ (count m : ℕ) where
  onward_within : (n a : ℕ) (r : Answer) (next : ℕ → Walked ℕ) → n ≤ m → ((b : ℕ) → b ≤ suc a → WalkWithin count m (next b)) → WalkWithin count m (onward n (counted a r) next)
  onward_within n a (event e) next h i = i (suc a) (omega arith)
  onward_within n a blank next h i = i a (omega arith)
  onward_within n a (Answer.refused e) next h i = h

  -- a line counts once at most
  walk_within : (n a : ℕ) (l : List (List ℕ)) → n + length l ≤ m → a + length l ≤ count → WalkWithin count m (walk_from count_line n a l)
  unfolding walk_from
  walk_within n a [] h i = omega (arith, i)
  walk_within n a (x ∷ xs) h i =
      onward_within n a (line_answer x) (λ b. walk_from count_line (suc n) b xs) (omega arith) (λ b j. walk_within (suc n) b xs (omega arith) (omega (arith, i, j)))

onto_few : (a : ℕ) (l : List (List ℕ)) → length (onto a l) ≤ length l + 1
unfolding onto
onto_few a [] = omega arith
onto_few a (x ∷ xs) = omega arith

-- no more lines than bytes
lines_few : (s : List ℕ) → length (lines_of s) ≤ length s
unfolding lines_of
lines_few [] = omega arith
lines_few (a ∷ r) =
    let h = lines_few r in
    both_arms (λ (l : List (List ℕ)). length l ≤ suc (length r)) (eqb a (code "\n")) (omega (arith, h)) (omega (arith, h, onto_few a (lines_of r)))

walked_small : (w : Walked ℕ) → WalkWithin text_limit (text_limit + 1) w → SmallJudged (judged_by w)
walked_small (behind n) h = h
walked_small (stopped e line) h = h

-- no more lines than a log has bytes
pub log_lines_few : (s : List ℕ) → length s ≤ text_limit → length (lines_of (unmarked s)) ≤ text_limit
log_lines_few s l = omega (arith, l, lines_few (unmarked s), unmarked_within s)

judge_text_small : (s : List ℕ) → length s ≤ text_limit → SmallJudged (cond (utf8 s) (judged_by (walk_from count_line 1 0 (lines_of (unmarked s)))) (Err (of_text not_utf8)))
judge_text_small s l =
    let few = log_lines_few s l in
    both_arms SmallJudged (utf8 s)
    (walked_small (walk_from count_line 1 0 (lines_of (unmarked s))) (walk_within text_limit (text_limit + 1) 1 0 (lines_of (unmarked s)) (omega (arith, few)) (omega (arith, few))))
    (omega arith)

pub judge_log_small : (s : List ℕ) → SmallJudged (judge_log s)
unfolding judge_log
judge_log_small s =
    by_cond SmallJudged (leb (length s) text_limit) _ _ (λ h. judge_text_small s (leb-true (length s) text_limit h)) (λ h. omega arith)

pub judge_small : (s k n t : List ℕ) → SmallJudged (judge_answer s k n t)
judge_small s k n t = both_arms SmallJudged (enough k n t) (judge_log_small s) (omega arith)

-- ---- what was written: a count of places or bytes

abbrev pub SmallCut : Result ℕ Refusal → Type 0
SmallCut (Ok n) = n ≤ line_limit
SmallCut (Err n) = Unit {0}

-- no more places than bytes
pub cut_small : (s : List ℕ) (room : ℕ) → SmallCut (cut_body s room)
unfolding cut_body
cut_small s room =
    both_arms SmallCut (ltb text_limit (length s)) tt
    (both_arms SmallCut (not (utf8 s)) tt
    (by_cond SmallCut (ltb line_limit (length s)) _ _ (λ h. tt)
    (λ h. both_arms SmallCut (ltb room (length (cut_places s))) tt (omega (arith, ltb-false line_limit (length s) h, cut_places_le s)))))

abbrev pub SmallDecoded : Result ℕ Refusal → Type 0
SmallDecoded (Ok n) = n ≤ text_limit
SmallDecoded (Err n) = Unit {0}

-- decoding never lengthens
pub decode_small : (s : List ℕ) (room : ℕ) → SmallDecoded (decoded s room)
unfolding decoded
decode_small s room =
    by_cond SmallDecoded (leb (length s) text_limit) _ _
    (λ h. both_arms SmallDecoded (utf8 s)
    (both_arms SmallDecoded (leb (length (unescape s)) room) (omega (arith, leb-true (length s) text_limit h, unescape_length s)) tt) tt)
    (λ h. tt)

abbrev pub SmallSpelled : Result ℕ Refusal → Type 0
SmallSpelled (Ok n) = n ≤ line_limit + 4 + 6 * line_limit
SmallSpelled (Err n) = Unit {0}

-- a key is its type, four bytes around the escaped id, and at most six for each byte of the id
key_short : (ty id : List ℕ) → length (entity_uid pinned ty id) ≤ length ty + 4 + 6 * length id
key_short ty id = simp length-append (omega (arith, escape_length pinned id))

-- neither type nor id is longer than a line
pub spell_small : (ty id : List ℕ) (room : ℕ) → SmallSpelled (spell_key ty id room)
unfolding spell_key
spell_small ty id room =
    let t = ltb line_limit (length ty) in
    let i = ltb line_limit (length id) in
    both_arms SmallSpelled (ltb text_limit (length ty) || ltb text_limit (length id)) tt
    (both_arms SmallSpelled (not (utf8 ty && utf8 id)) tt
    (by_cond SmallSpelled (t || i) _ _ (λ h. tt)
    (λ h. both_arms SmallSpelled (ltb room (length (entity_uid pinned ty id))) tt
    (omega (arith, ltb-false line_limit (length ty) (or_none_left t i h), ltb-false line_limit (length id) (or_none_right t i h), key_short ty id)))))

abbrev pub SmallListed : Result (Option ℕ) Refusal → Type 0
SmallListed (Ok (Some n)) = (n ≤ longest_listing) × (1 ≤ n)
SmallListed (Ok None) = Unit {0}
SmallListed (Err n) = Unit {0}

-- a listing begins with the word `event`
listing_long : (number : ℕ) (e : Event) → 1 ≤ length (list_event number e)
unfolding list_event list_sheet event_line
listing_long number e = omega arith

answer_listed : (number room : ℕ) (a : Answer) → ListsWithin longest_listing number a → SmallListed (list_answer number room a)
answer_listed number room (event e) h = both_arms SmallListed (leb (length (list_event number e)) room) (h, listing_long number e) tt
answer_listed number room blank h = tt
answer_listed number room (Answer.refused n) h = tt

-- some bytes, and no more than the longest listing has
pub list_small : (s : List ℕ) (number : ℕ) (k n t out : List ℕ) → SmallListed (line_listed s number k n t out)
list_small s number k n t out = both_arms SmallListed (enough k n t) (answer_listed number (length out) (read_line s) (listing_short number s)) tt

-- ---- taking a number apart

-- a refusal and its line
pub refusal_apart : (e f : Refusal) (line other : ℕ) → of_judged (Err (record { refusal = e; line = line })) ≡ of_judged (Err (record { refusal = f; line = other })) → (e ≡ f) × (line ≡ other)
refusal_apart e f line other h = (number_same e f (omega (arith, number_small e, number_small f, h)), omega (arith, number_small e, number_small f, h))

-- ---- no success is as large as a refusal

-- the places that cut a body
pub cut_below : (s : List ℕ) (room n : ℕ) → cut_body s room ≡ Ok n → counted_answer (Ok n) < refused_from
cut_below s room n e = omega (arith, subst SmallCut e (cut_small s room))

-- the bytes that a text stands for
pub decode_below : (s : List ℕ) (room n : ℕ) → decoded s room ≡ Ok n → counted_answer (Ok n) < refused_from
decode_below s room n e = omega (arith, subst SmallDecoded e (decode_small s room))

-- the bytes of a key
pub spell_below : (ty id : List ℕ) (room n : ℕ) → spell_key ty id room ≡ Ok n → counted_answer (Ok n) < refused_from
spell_below ty id room n e = omega (arith, subst SmallSpelled e (spell_small ty id room))

-- the events of a log
pub count_below : (s k n t : List ℕ) (count : ℕ) → judge_answer s k n t ≡ Ok count → of_judged (Ok count) < refused_from
count_below s k n t count e = omega (arith, subst SmallJudged e (judge_small s k n t))

-- the bytes of a listing
pub list_below : (s : List ℕ) (number : ℕ) (k n t out : List ℕ) (count : ℕ) → line_listed s number k n t out ≡ Ok (Some count)
    → of_listed (Ok (Some count)) < refused_from
list_below s number k n t out count e = omega (arith, (subst SmallListed e (list_small s number k n t out)).0)

-- ---- no event lists in 0 bytes, the number of a blank line
pub listing_some : (s : List ℕ) (number : ℕ) (k n t out : List ℕ) (count : ℕ) → line_listed s number k n t out ≡ Ok (Some count)
    → 0 < of_listed (Ok (Some count))
listing_some s number k n t out count e = omega (arith, (subst SmallListed e (list_small s number k n t out)).1)
