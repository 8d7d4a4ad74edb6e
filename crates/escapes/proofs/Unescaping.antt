-- What stands for a text, piece by piece: each escape and each run without a backslash is taken off.
-- Assumes nothing.
use mathlib.Core.Path.{◌≡◌, refl, sym, ap, ap₂, ◌∙◌}
use mathlib.Core.Bool.{Bool, true, false, cond}
use mathlib.Core.List.{List, [], ◌∷◌, ◌++◌, append_assoc, append-nil}
use Prim.Native.Nat.{ℕ, zero, suc, ◌+◌, ◌-◌, ◌≤◌, ◌<◌, zero-le}
use Prim.Native.Char.{code}
use native.Mathlib.Numerals.{add-one}
use native.Mathlib.Decide.{ℕ_discrete}
use native.Mathlib.Omega.{arith}
use lib.Dec.{eqb}
use lib.ListN.{length, get_or, take, drop, length-append, length-take, length-drop, drop_of_length-le}
use lib.Seq.{drop-cons, drop-drop, take-add}
use borrow.Author.Tests.{ne_eqb}
use Rattle.buffers.proofs.Choice.{both_arms}
use Rattle.buffers.proofs.Skipping.{skipped}
use Rattle.chars.specs.Utf8.{encode}
use Rattle.escapes.specs.Unescape.{escape_at, piece_at, stands_for, bytes_taken, unescape_from, unescape}
use Rattle.escapes.specs.Walk.{plain_run, short_of}
use Rattle.std.specs.Prelude.{Some}
use Rattle.escapes.specs.declared.Escape.{Escape}
use Rattle.escapes.specs.declared.Escape.TheVariants.{Char, Verbatim}
use Rattle.escapes.proofs.Escapes.{Held, held, held_char, held_verbatim, short_at, short_ascii}
use Rattle.chars.proofs.Writing.{encode_1}

pub unescape_skip : (k : ℕ) (s : List ℕ) → unescape_from k s ≡ unescape (drop k s)
unfolding unescape_from
unescape_skip k s = skipped unescape_from (λ k. refl) (λ k a r. refl) k s

-- one piece is taken off
pub unescape_at : (a : ℕ) (r : List ℕ) → unescape (a ∷ r) ≡ stands_for (a ∷ r) (piece_at a r) ++ unescape (drop (bytes_taken (piece_at a r)) r)
unfolding unescape_from
unescape_at a r = ap (λ (l : List ℕ). stands_for (a ∷ r) (piece_at a r) ++ l) (unescape_skip (bytes_taken (piece_at a r)) r)

-- an escape
pub unescape_at_escape : (r : List ℕ) (e : Escape) → escape_at r ≡ e → unescape (code "\\" ∷ r) ≡ stands_for (code "\\" ∷ r) e ++ unescape (drop (bytes_taken e) r)
unescape_at_escape r e h = unescape_at (code "\\") r ∙ ap (λ (e : Escape). stands_for (code "\\" ∷ r) e ++ unescape (drop (bytes_taken e) r)) h

-- a byte that is no backslash
pub unescape_plain : (a : ℕ) (r : List ℕ) → (a ≡ code "\\" → ⊥) → unescape (a ∷ r) ≡ a ∷ unescape r
unescape_plain a r h = unescape_at a r ∙ ap (λ (e : Escape). stands_for (a ∷ r) e ++ unescape (drop (bytes_taken e) r)) (none_here a r h)
  where
    none_here : (a : ℕ) (r : List ℕ) → (a ≡ code "\\" → ⊥) → piece_at a r ≡ Verbatim 0
    none_here a r h = rw (ne_eqb a (code "\\") h)

-- a run without a backslash
pub run_inside : (s : List ℕ) → plain_run s ≤ length s
unfolding plain_run
run_inside [] = zero-le
run_inside (a ∷ r) = go (eqb a (code "\\")) (run_inside r)
  where
    go : (t : Bool) → plain_run r ≤ length r → cond t 0 (suc (plain_run r)) ≤ suc (length r)
    go true h = zero-le
    go false h = omega arith

run_plain : (a : ℕ) (r : List ℕ) → (a ≡ code "\\" → ⊥) → plain_run (a ∷ r) ≡ suc (plain_run r)
unfolding plain_run
run_plain a r h = rw (ne_eqb a (code "\\") h)

run_stops : (r : List ℕ) → plain_run (code "\\" ∷ r) ≡ 0
unfolding plain_run
run_stops r = refl

-- the same at a place of the text
module _ (s : List ℕ) (i : ℕ) where
  pub run_plain_at : i < length s → (get_or s i 0 ≡ code "\\" → ⊥) → plain_run (drop i s) ≡ suc (plain_run (drop (i + 1) s))
  run_plain_at h n = rw (add-one i, drop-cons s i 0 h) (run_plain (get_or s i 0) (drop (suc i) s) n)

  pub run_stops_at : i < length s → get_or s i 0 ≡ code "\\" → plain_run (drop i s) ≡ 0
  run_stops_at h e = rw (drop-cons s i 0 h, e) (run_stops (drop (suc i) s))

  pub run_end_at : length s ≤ i → plain_run (drop i s) ≡ 0
  unfolding plain_run
  run_end_at h = rw (drop_of_length-le s h)

run_none : unescape [] ≡ take (plain_run []) [] ++ unescape (drop (plain_run []) [])
unfolding plain_run
run_none = refl

pub unescape_run : (s : List ℕ) → unescape s ≡ take (plain_run s) s ++ unescape (drop (plain_run s) s)
unescape_run [] = run_none
unescape_run (a ∷ r) = go (ℕ_discrete a (code "\\")) (unescape_run r)
  where
    go : Dec (a ≡ code "\\") → unescape r ≡ take (plain_run r) r ++ unescape (drop (plain_run r) r)
        → unescape (a ∷ r) ≡ take (plain_run (a ∷ r)) (a ∷ r) ++ unescape (drop (plain_run (a ∷ r)) (a ∷ r))
    go (yes e) ih = rw (e, run_stops r)
    go (no n) ih = rw (run_plain a r n) (unescape_plain a r n ∙ ap (λ (l : List ℕ). a ∷ l) ih)

-- a text without a backslash stands for itself
run_all : (s : List ℕ) → ((i : ℕ) → i < length s → get_or s i 0 ≡ code "\\" → ⊥) → plain_run s ≡ length s
unfolding plain_run
run_all [] f = refl
run_all (a ∷ r) f = run_plain a r (f 0 (omega arith)) ∙ ap suc (run_all r (λ i h. f (suc i) (omega arith)))

pub unescape_same : (s : List ℕ) → ((i : ℕ) → i < length s → get_or s i 0 ≡ code "\\" → ⊥) → unescape s ≡ s
unfolding unescape_from
unescape_same s f =
    unescape_run s
    ∙ rw (run_all s f, lib.Seq.take-length, lib.Seq.drop-length) (append-nil s)

-- the pieces at a place of the text
module _ (s : List ℕ) (i : ℕ) where
  pub run_at : (stop : ℕ) → stop ≡ i + plain_run (drop i s) → unescape (drop i s) ≡ take (stop - i) (drop i s) ++ unescape (drop stop s)
  run_at stop e =
      let n : stop - i ≡ plain_run (drop i s) = omega arith in
      unescape_run (drop i s) ∙ rw (n, e) (ap (λ (l : List ℕ). take (plain_run (drop i s)) (drop i s) ++ unescape l) (drop-drop (plain_run (drop i s)) i s))

  pub run_ends : (stop : ℕ) → stop ≡ i + plain_run (drop i s) → i ≤ length s → stop ≤ length s
  run_ends stop e h = omega (arith, run_inside (drop i s), length-drop i s)

  pub run_moves : (stop : ℕ) → stop ≡ i + plain_run (drop i s) → i < length s → (get_or s i 0 ≡ code "\\" → ⊥) → i < stop
  run_moves stop e h b = omega (arith, run_plain_at s i h b)

  module _ (h : i < length s) (b : get_or s i 0 ≡ code "\\") where
    escape_here : (e : Escape) → escape_at (drop (i + 1) s) ≡ e → unescape (drop i s) ≡ stands_for (drop i s) e ++ unescape (drop (i + 1 + bytes_taken e) s)
    escape_here e f =
        rw (drop-cons s i 0 h, b, ← add-one i)
        (unescape_at_escape (drop (i + 1) s) e f ∙ ap (λ (l : List ℕ). stands_for (code "\\" ∷ drop (i + 1) s) e ++ unescape l) (drop-drop (bytes_taken e) (i + 1) s))

    pub char_stands_at : (v n : ℕ) → escape_at (drop (i + 1) s) ≡ Char v n → unescape (drop i s) ≡ encode v ++ unescape (drop (i + 1 + n) s)
    char_stands_at v n f = escape_here (Char v n) f

    pub char_ends : (v n : ℕ) → escape_at (drop (i + 1) s) ≡ Char v n → i + 1 + n ≤ length s
    char_ends v n f = let k = (held_char (drop (i + 1) s) v n f).2 in omega (arith, length-drop (i + 1) s)

    -- a short escape, by its code
    pub short_piece : (c : ℕ) → short_of (get_or s (i + 1) 0) ≡ Some c → unescape (drop i s) ≡ (c ∷ []) ++ unescape (drop (i + 2) s)
    short_piece c e =
        let k : i + 1 + 1 ≡ i + 2 = omega arith in
        char_stands_at c 1 (short_at s (i + 1) c e) ∙ ap₂ (λ (x : List ℕ) (n : ℕ). x ++ unescape (drop n s)) (encode_1 c (short_ascii _ c e)) k

    pub short_ends : (c : ℕ) → short_of (get_or s (i + 1) 0) ≡ Some c → i + 2 ≤ length s
    short_ends c e = omega (arith, char_ends c 1 (short_at s (i + 1) c e))

    pub verbatim_at : (n stop : ℕ) → stop ≡ i + 1 + n → escape_at (drop (i + 1) s) ≡ Verbatim n
        → unescape (drop i s) ≡ take (stop - i) (drop i s) ++ unescape (drop stop s)
    verbatim_at n stop e f = let k : stop - i ≡ suc n = omega arith in rw (k, e) (escape_here (Verbatim n) f)

    pub verbatim_ends : (n : ℕ) → escape_at (drop (i + 1) s) ≡ Verbatim n → i + 1 + n ≤ length s
    verbatim_ends n f = let k = held_verbatim (drop (i + 1) s) n f in omega (arith, length-drop (i + 1) s)

-- what is no escape, and the run behind it
runs_joined : (s : List ℕ) (i p stop : ℕ) → i ≤ p → p ≤ stop → take (p - i) (drop i s) ++ take (stop - p) (drop p s) ≡ take (stop - i) (drop i s)
runs_joined s i p stop h l =
    let k : p - i + (stop - p) ≡ stop - i = omega arith in
    let m : p ≡ i + (p - i) = omega arith in
    ap (λ (q : ℕ). take (p - i) (drop i s) ++ take (stop - p) (drop q s)) m
    ∙ ap (λ (l : List ℕ). take (p - i) (drop i s) ++ take (stop - p) l) (sym (drop-drop (p - i) i s))
    ∙ sym (take-add (p - i) (stop - p) (drop i s))
    ∙ ap (λ (q : ℕ). take q (drop i s)) k

pub verbatim_run : (s : List ℕ) (i : ℕ) → i < length s → get_or s i 0 ≡ code "\\" → (n stop : ℕ) → stop ≡ i + 1 + n + plain_run (drop (i + 1 + n) s)
    → escape_at (drop (i + 1) s) ≡ Verbatim n → unescape (drop i s) ≡ take (stop - i) (drop i s) ++ unescape (drop stop s)
verbatim_run s i h b n stop e f =
    verbatim_at s i h b n (i + 1 + n) refl f
    ∙ ap (λ (l : List ℕ). take (i + 1 + n - i) (drop i s) ++ l) (run_at s (i + 1 + n) stop e)
    ∙ sym (append_assoc (take (i + 1 + n - i) (drop i s)) (take (stop - (i + 1 + n)) (drop (i + 1 + n) s)) (unescape (drop stop s)))
    ∙ ap (λ (l : List ℕ). l ++ unescape (drop stop s)) (runs_joined s i (i + 1 + n) stop (omega arith) (omega arith))

pub unescape_end : (s : List ℕ) (i : ℕ) → length s ≤ i → unescape (drop i s) ≡ []
unfolding unescape_from
unescape_end s i h = rw (drop_of_length-le s h)

-- a text never stands for a longer one
shorter : (k : ℕ) (s : List ℕ) → length (unescape_from k s) ≤ length s - k
unfolding unescape_from
shorter k [] = zero-le
shorter (suc k) (a ∷ r) = omega (arith, shorter k r)
shorter zero (a ∷ r) = go (piece_at a r) (piece_held a r) (λ k. shorter k r)
  where
    piece_held : (a : ℕ) (r : List ℕ) → Held r (piece_at a r)
    piece_held a r = both_arms (Held r) (eqb a (code "\\")) (held r) zero-le

    go : (t : Escape) → Held r t → ((k : ℕ) → length (unescape_from k r) ≤ length r - k)
        → length (stands_for (a ∷ r) t ++ unescape_from (bytes_taken t) r) ≤ suc (length r) - 0
    go (Char v n) f ih = omega (arith, f.1, f.2, ih n, length-append (encode v) (unescape_from n r))
    go (Verbatim n) f ih = omega (arith, ih n, length-append (a ∷ take n r) (unescape_from n r), length-take n r)

pub unescape_length : (s : List ℕ) → length (unescape s) ≤ length s
unescape_length s = omega (arith, shorter 0 s)
