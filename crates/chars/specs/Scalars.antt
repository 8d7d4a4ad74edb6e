-- A text as the bytes of its characters: what UTF-8 is by section 3 of RFC 3629. `proofs/Utf8Meaning` proves that `utf8` tests just this.
-- Assumes nothing.
use Rattle.std.specs.Prelude.{◌≡◌, true, List, [], ◌++◌, ℕ}
use Rattle.chars.specs.Utf8.{scalar, encode}

-- the bytes of scalar values, one behind the other
pub data Encoded : List ℕ → Type 0 where
  end : Encoded []
  char : (c : ℕ) {r : List ℕ} → scalar c ≡ true → Encoded r → Encoded (encode c ++ r)
