-- White space at the start of a text, byte by byte.
-- Assumes nothing.
use mathlib.Core.Path.{◌≡◌, refl}
use mathlib.Core.Bool.{true, false}
use mathlib.Core.List.{List, [], ◌∷◌}
use Prim.Native.Nat.{ℕ, ◌+◌, ◌≤◌, ◌<◌}
use lib.ListN.{length, get_or, drop, drop_of_length-le}
use Rattle.buffers.proofs.Choice.{by_cond}
use Rattle.numbers.proofs.Scans.{byte_and_rest}
use Rattle.json_text.specs.Syntax.{is_space, ws}

module _ (s : List ℕ) (i : ℕ) where
  pub ws_passes : i < length s → is_space (get_or s i 0) ≡ true → ws (drop i s) ≡ ws (drop (i + 1) s)
  unfolding ws
  ws_passes h e = rw (byte_and_rest s i h, e)

  pub ws_stops : i < length s → is_space (get_or s i 0) ≡ false → ws (drop i s) ≡ drop i s
  unfolding ws
  ws_stops h e = rw (byte_and_rest s i h, e)

  pub ws_ends : length s ≤ i → ws (drop i s) ≡ drop i s
  unfolding ws
  ws_ends h = rw (drop_of_length-le s h)

-- behind white space there is none
pub ws_once : (s : List ℕ) → ws (ws s) ≡ ws s
unfolding ws
ws_once [] = refl
ws_once (b ∷ r) = by_cond (λ (t : List ℕ). ws t ≡ t) (is_space b) (ws r) (b ∷ r) (λ _. ws_once r) (λ e. rw e)
