-- The definitions on short texts.
-- Assumes nothing.
use mathlib.Core.Path.{◌≡◌, refl}
use mathlib.Core.Bool.{true, false}
use mathlib.Core.List.{List, [], ◌∷◌}
use Prim.Native.Nat.{ℕ, ◌+◌, ◌*◌, ◌^◌}
use Rattle.buffers.specs.Ascii.{ascii}
use Rattle.pack.specs.Walk.{text_at, place_key}
use Rattle.sorting.specs.Order.{precedes, insert_by, sort_by}
use Rattle.sorting.specs.Places.{sorted_part}

-- the names of document 01's listing example
listed : sort_by (λ (name : List ℕ). name) (ascii "depth" ∷ ascii "cell" ∷ []) ≡ ascii "cell" ∷ ascii "depth" ∷ []
unfolding sort_by insert_by precedes
listed = refl

-- `ce` before `cell`, and nothing before the empty text
prefix_first : precedes (ascii "ce") (ascii "cell") ≡ true
unfolding precedes
prefix_first = refl

prefix_last : precedes (ascii "cell") (ascii "ce") ≡ false
unfolding precedes
prefix_last = refl

empty_first : precedes [] (0 ∷ []) ≡ true
unfolding precedes
empty_first = refl

not_itself : precedes (ascii "cell") (ascii "cell") ≡ false
unfolding precedes
not_itself = refl

-- `Z` before `a`: capitals come first
case : precedes (ascii "Z") (ascii "a") ≡ true
unfolding precedes
case = refl

-- `z` before `é`, which starts with the byte 195; and U+FFFF before U+10000, which UTF-16 would turn round
bytes_not_letters : precedes (ascii "z") (195 ∷ 169 ∷ []) ≡ true
unfolding precedes
bytes_not_letters = refl

bytes_not_units : precedes (239 ∷ 191 ∷ 191 ∷ []) (240 ∷ 144 ∷ 128 ∷ 128 ∷ []) ≡ true
unfolding precedes
bytes_not_units = refl

-- the places 2, 1, 0 have the texts `b`, `a`, `b`: 2 stays before 0, and the places around them stay
sorted_places_example : sorted_part (place_key (1 ∷ (2 ^ 32 + 1) ∷ (2 * 2 ^ 32 + 1) ∷ []) (ascii "bab")) 1 3 (9 ∷ 2 ∷ 1 ∷ 0 ∷ 8 ∷ []) ≡ 9 ∷ 1 ∷ 2 ∷ 0 ∷ 8 ∷ []
unfolding sorted_part place_key text_at sort_by insert_by precedes
sorted_places_example = refl
