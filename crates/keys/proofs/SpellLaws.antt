-- Spelling a key: the answer, one law for each return.
-- Assumes nothing.
use Rattle.std.proofs.Common.{◌≡◌, ℕ, ◌≤◌, ◌<◌, max, leb, ltb, ◌&&◌, ◌||◌, true, false, List, length, arith, Ok, Err}
use native.Mathlib.Decide.{dec_le}
use borrow.Author.Tests.{lt-ltb, le-ltb, leb-true, leb-false}
use Rattle.format.specs.Limits.{text_limit, line_limit}
use Rattle.format.specs.Refusals.{text_too_long, not_utf8, line_too_long, output_too_short}
use Rattle.chars.specs.Utf8.{utf8}
use Rattle.keys.specs.Escape.{pinned, entity_uid}
use Rattle.keys.specs.Entry.{spell_key}

-- m is the longer text's length
module _ (ty id : List ℕ) (n m : ℕ) (is : m ≡ max (length ty) (length id)) where
  -- one is too long
  either : (l : ℕ) → leb m l ≡ false → (ltb l (length ty) || ltb l (length id)) ≡ true
  either l h = go (dec_le (length ty) l)
    where
      long : l < m
      long = leb-false m l h

      go : Dec (length ty ≤ l) → (ltb l (length ty) || ltb l (length id)) ≡ true
      go (yes a) = simp (le-ltb l (length ty) a, lt-ltb l (length id) (omega (arith, long, is)))
      go (no a) = simp (lt-ltb l (length ty) (omega arith))

  -- none is
  neither : (l : ℕ) → leb m l ≡ true → (ltb l (length ty) || ltb l (length id)) ≡ false
  neither l h = simp (le-ltb l (length ty) (omega (arith, short, is)), le-ltb l (length id) (omega (arith, short, is)))
    where
      short : m ≤ l
      short = leb-true m l h

  pub key_text : leb m text_limit ≡ false → Err text_too_long ≡ spell_key ty id n
  unfolding spell_key
  key_text a = simp (either text_limit a)

  module _ (a : leb m text_limit ≡ true) where
    pub key_bytes : (utf8 ty && utf8 id) ≡ false → Err not_utf8 ≡ spell_key ty id n
    unfolding spell_key
    key_bytes b = simp (neither text_limit a, b)

    module _ (b : utf8 ty ≡ true) (d : utf8 id ≡ true) where
      pub key_line : leb m line_limit ≡ false → Err line_too_long ≡ spell_key ty id n
      unfolding spell_key
      key_line c = simp (neither text_limit a, b, d, either line_limit c)

      module _ (c : leb m line_limit ≡ true) where
        pub key_short : leb (length (entity_uid pinned ty id)) n ≡ false → Err output_too_short ≡ spell_key ty id n
        unfolding spell_key
        key_short e = simp (neither text_limit a, b, d, neither line_limit c, lt-ltb _ _ (leb-false _ _ e))

        pub key_spelled : leb (length (entity_uid pinned ty id)) n ≡ true → Ok (length (entity_uid pinned ty id)) ≡ spell_key ty id n
        unfolding spell_key
        key_spelled e = simp (neither text_limit a, b, d, neither line_limit c, le-ltb _ _ (leb-true _ _ e))
