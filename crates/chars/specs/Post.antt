-- Of inner functions alone: what they promise. No rule of a document stands here.
-- Assumes nothing.
use Rattle.std.specs.Prelude.{◌≡◌, Bool, true, List, ℕ, ◌+◌, ◌-◌, ◌≤◌, ◌<◌, length, get_or, drop}
use Prim.Native.Char.{code}
use Rattle.chars.specs.Utf8.{char_at, utf8}
use Rattle.chars.specs.White.{white_at}
use Rattle.std.specs.Prelude.{None}

-- the bytes from `at` to `end` pass a test
abbrev pub AllBytes : (ℕ → Bool) → List ℕ → ℕ → ℕ → Type 0
AllBytes p s at end = (i : ℕ) → at ≤ i → i < end → p (get_or s i 0) ≡ true

-- the bytes from `at` to `end` are ASCII
pub record Plain (s : List ℕ) (at end : ℕ) : Type 0 where
  pub forward : at ≤ end
  pub ascii : (i : ℕ) → at ≤ i → i < end → get_or s i 0 < 128

-- n bytes can be passed over at the place `at`: the text is UTF-8 from there on just where it is behind them; n is 0 only where no
-- character stands there
pub record Advances (s : List ℕ) (at n : ℕ) : Type 0 where
  pub inside : at + n ≤ length s
  pub onward : utf8 (drop at s) ≡ utf8 (drop (at + n) s)
  pub stuck : n ≡ 0 → char_at (drop at s) ≡ None

-- a White_Space character of n bytes ends s
abbrev pub EndsAt : List ℕ → ℕ → Type 0
EndsAt s n = (0 < n) × (n ≤ length s) × (white_at (drop (length s - n) s) ≡ n)

-- the last n bytes of s are a White_Space character, or n is 0 and s ends in none
pub record EndsIn (s : List ℕ) (n : ℕ) : Type 0 where
  pub nonempty : 0 < n → EndsAt s n
  pub nothing : n ≡ 0 → (m : ℕ) → EndsAt s m → ⊥

-- the first n bytes are spaces
abbrev pub Spaces : List ℕ → ℕ → Type 0
Spaces s n = (i : ℕ) → i < n → get_or s i 0 ≡ code " "
