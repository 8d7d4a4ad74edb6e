-- The bytes of a character, by its size.
-- Assumes nothing.
use mathlib.Core.Path.{◌≡◌}
use mathlib.Core.List.{[], ◌∷◌}
use Prim.Native.Nat.{ℕ, ◌+◌, ◌/◌, ◌%◌, ◌≤◌, ◌<◌}
use native.Mathlib.Omega.{arith}
use borrow.Author.Tests.{lt-ltb, le-ltb}
use Rattle.chars.specs.Utf8.{encode}

module _ (c : ℕ) where
  pub encode_1 : c < 0x80 → encode c ≡ c ∷ []
  unfolding encode
  encode_1 h = rw (lt-ltb c 0x80 h)

  pub encode_2 : 0x80 ≤ c → c < 0x800 → encode c ≡ (0xC0 + c / 64) ∷ (0x80 + c % 64) ∷ []
  unfolding encode
  encode_2 h l = rw (le-ltb c 0x80 h, lt-ltb c 0x800 l)

  pub encode_3 : 0x800 ≤ c → c < 0x10000 → encode c ≡ (0xE0 + c / 4096) ∷ (0x80 + c / 64 % 64) ∷ (0x80 + c % 64) ∷ []
  unfolding encode
  encode_3 h l = let g : 0x80 ≤ c = omega arith in rw (le-ltb c 0x80 g, le-ltb c 0x800 h, lt-ltb c 0x10000 l)

  pub encode_4 : 0x10000 ≤ c → encode c ≡ (0xF0 + c / 262144) ∷ (0x80 + c / 4096 % 64) ∷ (0x80 + c / 64 % 64) ∷ (0x80 + c % 64) ∷ []
  unfolding encode
  encode_4 h =
      let g : 0x80 ≤ c = omega arith in
      let k : 0x800 ≤ c = omega arith in
      rw (le-ltb c 0x80 g, le-ltb c 0x800 k, le-ltb c 0x10000 h)

pub ruleset encodings = (encode_1, encode_2, encode_3, encode_4)
