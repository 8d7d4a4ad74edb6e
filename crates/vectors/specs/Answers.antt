-- What an answer of the oracle says, by its bytes.
-- Assumes nothing.
use Rattle.std.specs.Prelude.{◌≡◌, ◌==◌, if◌then◌else◌, ℕ, ◌+◌, ◌*◌, List, [], ◌∷◌, length, take, drop, slice_index, Option, None, Some, Result, Ok, Err}
use Rattle.std.specs.Int.{w32, w64, from_le_bytes}
use Rattle.format.specs.Refusals.{number}
use Rattle.format.specs.declared.Reach.{Reach}
use Rattle.format.specs.declared.Refusal.{Refusal}
use Rattle.logs.specs.declared.LineRefusal.{LineRefusal}
use Rattle.merging.specs.declared.MergeRefusal.{MergeRefusal}

-- so many bytes, at most nine: a first one, and a number in the others
abbrev pub IsAnswer : List ℕ → ℕ → ℕ → ℕ → Type 0
IsAnswer answer size first n = (length answer ≡ size) × (slice_index answer 0 ≡ first) × (from_le_bytes w64 (drop 1 answer) ≡ n)

-- 0, or so many bytes: 1 and a number in the others
abbrev pub IsNumber : List ℕ → ℕ → Option ℕ → Type 0
IsNumber answer size (Some n) = IsAnswer answer size 1 n
IsNumber answer size None = IsAnswer answer 1 0 0

-- 0 and a refusal
abbrev pub Refuses : List ℕ → Refusal → Type 0
Refuses answer e = IsAnswer answer 2 0 (number e)

-- 1 and a text of this length
abbrev pub HasText : List ℕ → ℕ → Type 0
HasText answer n = (slice_index answer 0 ≡ 1) × (length (drop 1 answer) ≡ n)

-- what is to be written: what the answer has behind a first byte 1, or nothing
abbrev pub text_of : List ℕ → List ℕ
text_of answer = if slice_index answer 0 == 1 then drop 1 answer else []

-- 1 and a pack: the counts of its nodes and bytes of text in four bytes each, then kinds, numbers and texts
abbrev pub HasPack : List ℕ → Reach → Type 0
HasPack answer sizes = (slice_index answer 0 ≡ 1) × (from_le_bytes w32 (drop 1 answer) ≡ sizes.nodes)
    × (from_le_bytes w32 (drop 5 answer) ≡ sizes.texts) × (length answer ≡ 9 + sizes.nodes * 9 + sizes.texts)

-- ---- the answers of the groups

abbrev pub IsChar : List ℕ → Option (ℕ × ℕ) → Type 0
IsChar answer (Some c) = IsAnswer (take 5 answer) 5 1 c.0 × IsAnswer (drop 5 answer) 1 c.1 0
IsChar answer None = IsAnswer answer 1 0 0

-- what is expected of a call that writes entries of so many bytes: this text, or the refusal of this number
abbrev pub IsWritten : ℕ → Result ℕ Refusal → Result (List ℕ) (Option ℕ) → Type 0
IsWritten size (Ok n) (Ok text) = n * size ≡ length text
IsWritten size (Err e) (Err n) = n ≡ Some (number e)
IsWritten size _ _ = ⊥

-- what is expected of a call that is to be refused: the refusal of the answer's one byte; of no byte, that nothing is written; of more, what no
-- call gives
abbrev pub expected_refusal : List ℕ → Result (List ℕ) (Option ℕ)
expected_refusal [] = Ok []
expected_refusal (n ∷ []) = Err (Some n)
expected_refusal (n ∷ m ∷ r) = Err None

abbrev pub IsRead : List ℕ → Result (Option Reach) Refusal → Type 0
IsRead answer (Ok (Some sizes)) = HasPack answer sizes
IsRead answer (Ok None) = IsAnswer answer 1 2 0
IsRead answer (Err e) = Refuses answer e

abbrev pub IsCells : List ℕ → Result Reach Refusal → Type 0
IsCells answer (Ok sizes) = HasPack answer sizes
IsCells answer (Err e) = Refuses answer e

abbrev pub IsListed : List ℕ → Result (Option ℕ) Refusal → Type 0
IsListed answer (Ok (Some n)) = HasText answer n
IsListed answer (Ok None) = IsAnswer answer 1 2 0
IsListed answer (Err e) = Refuses answer e

abbrev pub IsJudged : List ℕ → Result ℕ LineRefusal → Type 0
IsJudged answer (Ok count) = IsAnswer answer 5 1 count
IsJudged answer (Err r) = (slice_index answer 0 ≡ 0) × IsAnswer (drop 1 answer) 5 (number r.refusal) r.line

abbrev pub IsMerged : List ℕ → Result ℕ MergeRefusal → Type 0
IsMerged answer (Ok n) = HasText answer n
IsMerged answer (Err r) = Refuses (take 2 answer) r.refusal × IsAnswer (drop 2 answer) 5 r.log r.line
