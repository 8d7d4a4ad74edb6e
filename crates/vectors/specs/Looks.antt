-- What is to be seen in a lent table, or in an output.
-- Assumes nothing.
use Rattle.std.specs.Prelude.{◌≡◌, ◌==◌, ◌&&◌, if◌then◌else◌, nat_lt, ℕ, ◌+◌, ◌*◌, ◌/◌, ◌≤◌, List, length, take, drop, slice_index, slice_index_or, EachIndex, Result, Ok, Err}
use Rattle.std.specs.Int.{w32, w64, from_le_bytes}
use Rattle.format.specs.Limits.{nodes_used, texts_used}
use Rattle.format.specs.Refusals.{table_too_short, number}
use Rattle.format.specs.declared.Reach.{Reach}
use Rattle.format.specs.declared.Refusal.{Refusal}
use Rattle.vectors.specs.Answers.{HasPack, Refuses, text_of}
use Rattle.vectors.specs.declared.control.Look.{Look}

-- an entry that was not written: zero before the place `used`, from there on what was lent; each is one more where the control asks for it
abbrev pub unwritten : Look → ℕ → ℕ
unwritten look at =
    if nat_lt at look.used then (if look.wrong == look.table then 1 else 0) else (if look.wrong == look.table + 4 then 78 else 77)

-- the table holds these entries and nothing else
pub record HoldsBytes (s text : List ℕ) (look : Look) : Type 0 where
  pub room : length text ≤ length s
  pub entries : EachIndex s (λ i. slice_index s i ≡ slice_index_or text i (unwritten look i))

-- what an entry of a table of numbers is to be: the text has those that were written, in eight bytes each
unfoldable pub number_there : List ℕ → Look → ℕ → ℕ
number_there text look i = if nat_lt i (length text / 8) then from_le_bytes w64 (drop (i * 8) text) else unwritten look i

pub record HoldsNumbers (s text : List ℕ) (look : Look) : Type 0 where
  pub room : length text / 8 ≤ length s
  pub entries : EachIndex s (λ i. slice_index s i ≡ number_there text look i)

abbrev pub look_at : ℕ → ℕ → ℕ → Look
look_at table used wrong = record { table = table; used = used; wrong = wrong }

-- an output, whose number is 4 and of which nothing is cleared
abbrev pub HoldsOutput : List ℕ → List ℕ → ℕ → Type 0
HoldsOutput out text wrong = HoldsBytes out text (look_at 4 0 wrong)

-- the tables, by their numbers 1, 2 and 3, hold this pack, zeros as far as they are used, and behind that what was lent; an empty text is a
-- pack of no nodes
abbrev pub HoldsPack : List ℕ → List ℕ → List ℕ → List ℕ → Reach → ℕ → Type 0
HoldsPack kinds numbers texts pack used wrong =
    HoldsBytes kinds (take nodes (drop 8 pack)) (look_at 1 used.nodes wrong)
    × HoldsNumbers numbers (take (nodes * 8) (drop (8 + nodes) pack)) (look_at 2 used.nodes wrong)
    × HoldsBytes texts (drop (8 + nodes * 9) pack) (look_at 3 used.texts wrong)
  where
    nodes : ℕ
    nodes = from_le_bytes w32 pack

-- the tables hold a value's pack as far as the value reaches: of what stands behind it nothing is promised
abbrev pub IsValue : List ℕ → List ℕ → List ℕ → ℕ → List ℕ → Result Reach Refusal → Type 0
IsValue kinds numbers texts wrong answer (Ok r) =
    HasPack answer r × HoldsPack (take r.nodes kinds) (take r.nodes numbers) (take r.texts texts) (text_of answer) r wrong
IsValue kinds numbers texts wrong answer (Err e) = Refuses answer e

-- how far a call with this answer uses the tables: not at all where it refuses them as too short
abbrev pub used_by : List ℕ → Reach
used_by answer =
    if (slice_index answer 0 == 0) && (slice_index answer 1 == number table_too_short)
    then record { nodes = 0; texts = 0 }
    else record { nodes = nodes_used; texts = texts_used }
