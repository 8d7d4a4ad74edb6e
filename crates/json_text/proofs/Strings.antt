-- What a string stands for, piece by piece: each run of bytes that stand for themselves and each escape is taken off.
-- Assumes nothing.
use mathlib.Core.Path.{◌≡◌, refl, sym, ap, ◌∙◌}
use mathlib.Core.Bool.{false, false≢true}
use mathlib.Core.List.{List, [], ◌∷◌, ◌++◌, append_assoc}
use Prim.Native.Nat.{ℕ, suc, ◌+◌, ◌-◌, ◌≤◌, ◌<◌}
use Prim.Native.Char.{code}
use native.Mathlib.Decide.{dec_lt}
use native.Mathlib.Omega.{arith}
use lib.Dec.{eqb, ltb}
use lib.ListN.{length, get_or, take, drop, drop_of_length-le}
use lib.Seq.{drop-drop}
use borrow.Author.Tests.{lt-ltb, ne_eqb, eqb-false}
use Rattle.std.specs.Prelude.{None, Option, Some, IsSome, option_and_then}
use Rattle.buffers.proofs.Choice.{by_cond, or_none_left, or_none_right}
use Rattle.buffers.proofs.Skipping.{skipped}
use Rattle.numbers.proofs.Scans.{byte_and_rest}
use Rattle.json_text.specs.Text.{Char, escape, char, onto, string_from, string, plain_run}
use Rattle.json_text.specs.Post.{behind, text_in}
use Rattle.json_text.proofs.PlainRuns.{ends_run, run_goes_on}

-- ---- a text before what a string stands for

onto_nothing : (o : Option (List ℕ × List ℕ)) → onto [] o ≡ o
onto_nothing (Some p) = refl
onto_nothing None = refl

onto_onto : (x y : List ℕ) (o : Option (List ℕ × List ℕ)) → onto x (onto y o) ≡ onto (x ++ y) o
onto_onto x y (Some p) = ap (λ (l : List ℕ). Some (l, p.1)) (sym (append_assoc x y p.0))
onto_onto x y None = refl

-- a piece x of a string was read, and `rest` behind it
pub record Read (o : Option (List ℕ × List ℕ)) (x : List ℕ) (rest : Option (List ℕ × List ℕ)) : Type 0 where
  pub some : IsSome rest
  pub ends : behind rest ≡ behind o
  pub text : text_in o ≡ x ++ text_in rest

pub read_piece : {o : Option (List ℕ × List ℕ)} (x : List ℕ) (rest : Option (List ℕ × List ℕ)) → o ≡ onto x rest → IsSome o → Read o x rest
read_piece x (Some p) e h = record { some = refl; ends = rw e; text = rw e }
read_piece x None e h = absurd (false≢true (rw e at h))

pub behind_onto : (x : List ℕ) (o : Option (List ℕ × List ℕ)) → behind (onto x o) ≡ behind o
behind_onto x (Some p) = refl
behind_onto x None = refl

-- ---- one piece

pub string_at : (k : ℕ) (s : List ℕ) → string_from k s ≡ string (drop k s)
unfolding string_from
string_at k s = skipped string_from (λ k. refl) (λ k a r. refl) k s

-- the char that b begins, and what follows it
pub string_char : (b : ℕ) (r : List ℕ) → (b ≡ code "\"" → ⊥) → string (b ∷ r) ≡ option_and_then (λ c. onto c.text (string (drop c.more r))) (char b r)
unfolding string_from
string_char b r n = rw (ne_eqb b (code "\"") n) (go (char b r))
  where
    go : (o : Option Char) → option_and_then (λ c. onto c.text (string_from c.more r)) o ≡ option_and_then (λ c. onto c.text (string (drop c.more r))) o
    go (Some c) = ap (onto c.text) (string_at c.more r)
    go None = refl

string_quote : (r : List ℕ) → string (code "\"" ∷ r) ≡ Some ([], r)
unfolding string_from
string_quote r = refl

string_escape : (r : List ℕ) {o : Option Char} → escape r ≡ o → string (code "\\" ∷ r) ≡ option_and_then (λ c. onto c.text (string (drop c.more r))) o
unfolding char
string_escape r e = string_char (code "\\") r (omega arith) ∙ ap (option_and_then (λ c. onto c.text (string (drop c.more r)))) e

string_control : (b : ℕ) (r : List ℕ) → b < 0x20 → string (b ∷ r) ≡ None
unfolding char
string_control b r h =
    string_char b r (omega arith)
    ∙ let n : b ≡ code "\\" → ⊥ = omega arith in
    rw (ne_eqb b (code "\\") n, lt-ltb b 0x20 h)

string_plain : (b : ℕ) (r : List ℕ) → ends_run b ≡ false → string (b ∷ r) ≡ onto (b ∷ []) (string r)
unfolding char
string_plain b r e =
    let c : ltb b 0x20 ≡ false = or_none_left (ltb b 0x20) _ e in
    let q : eqb b (code "\"") ≡ false = or_none_left (eqb b (code "\"")) _ (or_none_right (ltb b 0x20) _ e) in
    let x : eqb b (code "\\") ≡ false = or_none_right (eqb b (code "\"")) _ (or_none_right (ltb b 0x20) _ e) in
    string_char b r (eqb-false b (code "\"") q) ∙ rw (x, c)

-- a run, which may be empty
pub string_run : (s : List ℕ) → string s ≡ onto (take (plain_run s) s) (string (drop (plain_run s) s))
unfolding plain_run string_from
string_run [] = refl
string_run (b ∷ r) =
    by_cond (λ (n : ℕ). string (b ∷ r) ≡ onto (take n (b ∷ r)) (string (drop n (b ∷ r)))) (ends_run b) 0 (suc (plain_run r))
    (λ _. sym (onto_nothing (string (b ∷ r)))) (λ e.
    string_plain b r e ∙ ap (onto (b ∷ [])) (string_run r) ∙ onto_onto (b ∷ []) (take (plain_run r) r) (string (drop (plain_run r) r)))

-- ---- the pieces at a place of the text

module _ (s : List ℕ) (i : ℕ) where
  pub run_at : (stop : ℕ) → stop ≡ i + plain_run (drop i s) → string (drop i s) ≡ onto (take (stop - i) (drop i s)) (string (drop stop s))
  run_at stop e =
      let n : stop - i ≡ plain_run (drop i s) = omega arith in
      string_run (drop i s) ∙ rw (n, e) (ap (λ (l : List ℕ). onto (take (plain_run (drop i s)) (drop i s)) (string l)) (drop-drop (plain_run (drop i s)) i s))

  pub string_ends : length s ≤ i → string (drop i s) ≡ None
  unfolding string_from
  string_ends h = rw (drop_of_length-le s h)

  module _ (h : i < length s) where
    pub quote_at : get_or s i 0 ≡ code "\"" → string (drop i s) ≡ Some ([], drop (i + 1) s)
    quote_at e = rw (byte_and_rest s i h, e) (string_quote (drop (i + 1) s))

    pub control_at : get_or s i 0 < 0x20 → string (drop i s) ≡ None
    control_at l = rw (byte_and_rest s i h) (string_control (get_or s i 0) (drop (i + 1) s) l)

    module _ (b : get_or s i 0 ≡ code "\\") where
      escape_read : {o : Option Char} → escape (drop (i + 1) s) ≡ o → string (drop i s) ≡ option_and_then (λ c. onto c.text (string (drop c.more (drop (i + 1) s)))) o
      escape_read e = rw (byte_and_rest s i h, b) (string_escape (drop (i + 1) s) e)

      pub no_escape_at : escape (drop (i + 1) s) ≡ None → string (drop i s) ≡ None
      no_escape_at e = escape_read e

      pub escape_at : (c : Char) → escape (drop (i + 1) s) ≡ Some c → string (drop i s) ≡ onto c.text (string (drop (i + 1 + c.more) s))
      escape_at c e = escape_read e ∙ ap (λ (l : List ℕ). onto c.text (string l)) (drop-drop c.more (i + 1) s)

  -- what is a string goes on
  pub string_inside : IsSome (string (drop i s)) → i < length s
  string_inside f = go (dec_lt i (length s))
    where
      go : Dec (i < length s) → i < length s
      go (yes l) = l
      go (no n) = absurd (false≢true (rw (string_ends (omega arith)) at f))

  module _ (h : i < length s) (f : IsSome (string (drop i s))) where
    pub plain_here : (get_or s i 0 ≡ code "\"" → ⊥) → (get_or s i 0 ≡ code "\\" → ⊥) → ends_run (get_or s i 0) ≡ false
    plain_here q b = go (dec_lt (get_or s i 0) 0x20)
      where
        go : Dec (get_or s i 0 < 0x20) → ends_run (get_or s i 0) ≡ false
        go (yes l) = absurd (false≢true (rw (control_at h l) at f))
        go (no n) = run_goes_on (get_or s i 0) (omega arith) q b

    pub escape_some : get_or s i 0 ≡ code "\\" → (o : Option Char) → escape (drop (i + 1) s) ≡ o → IsSome o
    escape_some b (Some c) e = refl
    escape_some b None e = absurd (false≢true (rw (no_escape_at h b e) at f))
