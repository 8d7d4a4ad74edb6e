-- A line of a text that is UTF-8 and not too long is itself such a text: it is cut at line feeds, which are ASCII.
-- Assumes nothing.
use mathlib.Core.Path.{◌≡◌, refl, sym, ap, ◌∙◌}
use mathlib.Core.Bool.{true, ◌&&◌}
use mathlib.Core.List.{List, [], ◌∷◌}
use mathlib.Core.Logic.{⊎_elim}
use Prim.Native.Nat.{ℕ, zero, suc, ◌+◌, ◌≤◌, ◌<◌}
use Prim.Native.Char.{code}
use native.Mathlib.Nat.{eq-or-lt_of_le}
use native.Mathlib.Omega.{arith}
use lib.Dec.{eqb}
use lib.ListN.{length, get_or, take, drop, length-drop}
use lib.Seq.{take_all, length-take-le, drop-cons, drop-drop}
use borrow.Author.Tests.{eqb-true, le-leb}
use Rattle.buffers.proofs.Choice.{by_cond, and_left, and_right}
use Rattle.format.specs.Limits.{text_limit}
use Rattle.chars.specs.Utf8.{low, high, char_of, char_at, utf8_from, utf8}
use Rattle.chars.proofs.Reading.{char_onward, ascii_char}
use Rattle.chars.proofs.Boundary.{starts_low, utf8_cut}
use Rattle.events.specs.Answer.{line_answer, read_line}
use Rattle.logs.specs.Lines.{lines_of, marked, unmarked}
use Rattle.logs.specs.Post.{line_end}
use Rattle.logs.proofs.Cutting.{lines_none, lines_first}
use Rattle.logs.proofs.Feeds.{line_end_within, feed_there}
use Rattle.guarantees.specs.Lines.{InLimits, log_lines}
use Rattle.std.specs.Prelude.{Some}

-- ---- a text, cut at it

record Halves (s : List ℕ) (n : ℕ) : Type 0 where
  before : utf8 (take n s) ≡ true
  behind : utf8 (drop (n + 1) s) ≡ true

halves : (s : List ℕ) (n : ℕ) → n < length s → get_or s n 0 ≡ code "\n" → utf8 s ≡ true → Halves s n
halves s n h e u =
    let c : (utf8 (take n s) && utf8 (drop n s)) ≡ true = sym (utf8_cut n s (starts_low (get_or s n 0) (omega arith))) ∙ u in
    let d : drop n s ≡ get_or s n 0 ∷ drop (suc n) s = drop-cons s n 0 h in
    let w : utf8 (drop n s) ≡ utf8 (drop 1 (drop n s)) = char_onward (drop n s) (get_or s n 0) 1 (ap char_at d ∙ ascii_char (get_or s n 0) (drop (suc n) s) (omega arith)) in
    record {
      before = and_left (utf8 (take n s)) (utf8 (drop n s)) c;
      behind = sym (ap utf8 (drop-drop 1 n s)) ∙ sym w ∙ and_right (utf8 (take n s)) (utf8 (drop n s)) c;
    }

-- ---- its lines, counted from zero; where there is none, the empty text

record TextPiece (n : ℕ) (x : List ℕ) : Type 0 where
  short : length x ≤ n
  encoded : utf8 x ≡ true

empty_piece : (n : ℕ) → TextPiece n []
unfolding utf8_from
empty_piece n = record { short = omega arith; encoded = refl }

abbrev Pieces : List ℕ → Type 0
Pieces s = (i : ℕ) → TextPiece (length s) (get_or (lines_of s) i [])

-- a text with a byte, where the lines of shorter texts are such pieces
cut_pieces : (s : List ℕ) → 0 < length s → utf8 s ≡ true → ((r : List ℕ) → length r < length s → utf8 r ≡ true → Pieces r) → Pieces s
cut_pieces s h u shorter i = ⊎_elim
    (λ (e : line_end s ≡ length s). rw (lines_first s h) (alone e i))
    (λ (l : line_end s < length s). rw (lines_first s h) (more l (halves s (line_end s) l (feed_there s l) u) i))
    (eq-or-lt_of_le (line_end_within s))
  where
    alone : line_end s ≡ length s → (i : ℕ) → TextPiece (length s) (get_or (take (line_end s) s ∷ lines_of (drop (line_end s + 1) s)) i [])
    alone e zero = rw (take_all (line_end s) s (omega arith)) (record { short = omega arith; encoded = u })
    alone e (suc i) = rw (lines_none (drop (line_end s + 1) s) (omega (arith, length-drop (line_end s + 1) s))) (empty_piece (length s))

    more : line_end s < length s → Halves s (line_end s) → (i : ℕ) → TextPiece (length s) (get_or (take (line_end s) s ∷ lines_of (drop (line_end s + 1) s)) i [])
    more l o zero = record { short = omega (arith, length-take-le (line_end s) s (omega arith)); encoded = o.before }
    more l o (suc i) =
        let d = length-drop (line_end s + 1) s in
        let p = shorter (drop (line_end s + 1) s) (omega arith) o.behind i in
        record { short = omega (arith, p.short); encoded = p.encoded }

lines_pieces : (s : List ℕ) → utf8 s ≡ true → ((r : List ℕ) → length r < length s → utf8 r ≡ true → Pieces r) → Pieces s
unfolding lines_of
lines_pieces [] u shorter i = empty_piece 0
lines_pieces (a ∷ r) u shorter i = cut_pieces (a ∷ r) (omega arith) u shorter i

-- k bounds the length, for the recursion
pieces : (k : ℕ) (s : List ℕ) → length s ≤ k → utf8 s ≡ true → Pieces s
pieces zero s h u = lines_pieces s u (λ r l v. absurd (omega arith))
pieces (suc k) s h u = lines_pieces s u (λ r l v. pieces k r (omega arith) v)

-- ---- behind the mark, which is a character

mark_char : (a : ℕ) (r : List ℕ) → marked (a ∷ r) ≡ true → char_at (a ∷ r) ≡ Some (0xFEFF, 3)
unfolding marked char_of low high
mark_char a r m =
    let n = and_right (eqb a 0xEF) _ m in
    let x : a ≡ 0xEF = eqb-true a 0xEF (and_left (eqb a 0xEF) _ m) in
    let y : get_or r 0 0 ≡ 0xBB = eqb-true _ 0xBB (and_left (eqb (get_or r 0 0) 0xBB) _ n) in
    let z : get_or r 1 0 ≡ 0xBF = eqb-true _ 0xBF (and_right (eqb (get_or r 0 0) 0xBB) _ n) in
    rw (x, y, z)

unmarked_piece : (s : List ℕ) → utf8 s ≡ true → TextPiece (length s) (unmarked s)
unfolding unmarked marked
unmarked_piece [] u = empty_piece 0
unmarked_piece (a ∷ r) u = by_cond (TextPiece (length (a ∷ r))) (marked (a ∷ r)) (drop 3 (a ∷ r)) (a ∷ r)
    (λ m. record { short = omega (arith, length-drop 3 (a ∷ r)); encoded = sym (char_onward (a ∷ r) 0xFEFF 3 (mark_char a r m)) ∙ u })
    (λ _. record { short = omega arith; encoded = u })

-- ---- what reading a line of a log alone answers is what it gives in its log

pub line_within : (s : List ℕ) → InLimits s → (i : ℕ) → InLimits (get_or (log_lines s) i [])
line_within s w i =
    let a = unmarked_piece s w.encoded in
    let b = pieces (length (unmarked s)) (unmarked s) (omega arith) a.encoded i in
    let short = w.short in
    record { short = omega (arith, a.short, b.short); encoded = b.encoded }

pub read_within : (x : List ℕ) → InLimits x → read_line x ≡ line_answer x
unfolding read_line
read_within x w = rw (le-leb (length x) text_limit w.short, w.encoded)
