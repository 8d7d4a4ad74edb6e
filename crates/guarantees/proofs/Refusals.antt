-- Every refusal that an entry point can give is in the refusal table: one statement for each entry point, over what its contract says of the
-- answer. 3 is met exactly where a text is not the bytes of scalar values.
-- Assumes nothing.
use mathlib.Core.Path.{◌≡◌, refl}
use mathlib.Core.Bool.{true}
use mathlib.Core.List.{List, [], ◌∷◌, map}
use mathlib.Core.Logic.{◌↔◌}
use Prim.Native.Nat.{ℕ, ◌<◌}
use Rattle.format.proofs.Numbers.{number_same, number_small}
use Rattle.format.specs.Refusals.{number}
use Rattle.format.specs.declared.Refusal.{Refusal}
use Rattle.chars.specs.Utf8.{utf8}
use Rattle.chars.specs.Scalars.{Encoded}
use Rattle.chars.proofs.Utf8Meaning.{utf8_iff}
use Rattle.cuts.specs.Body.{cut_body}
use Rattle.escapes.specs.Entry.{decoded}
use Rattle.keys.specs.Entry.{spell_key}
use Rattle.pack.specs.Pack.{Pack}
use Rattle.logs.specs.Judge as Judge
use Rattle.listing.specs.Entry as Listing
use Rattle.merging.specs.Merge as Merge
use Rattle.guarantees.specs.Calls.{ReadInto, EntitiesInto}
use Rattle.guarantees.specs.RefusalTable.{OneOf, refusal_table, decode_rows, spell_key_rows, cut_body_rows, read_line_rows, read_entities_rows, judge_rows, list_line_rows, merge_rows, RowsOfTheTable}
use Rattle.guarantees.proofs.RefusalLaws
use Rattle.std.specs.Prelude.{Err}

-- 1. Decode escapes: 2, 3, 5.
pub decode_refusals : (text : List ℕ) (room : ℕ) {n : Refusal} → decoded text room ≡ Err n → OneOf decode_rows n
decode_refusals = RefusalLaws.decode_refusals

-- 2. Spell a key, and 3. cut a body: 2, 3, 4, 5.
pub spell_key_refusals : (ty id : List ℕ) (room : ℕ) {n : Refusal} → spell_key ty id room ≡ Err n → OneOf spell_key_rows n
spell_key_refusals = RefusalLaws.spell_key_refusals

pub cut_body_refusals : (body : List ℕ) (room : ℕ) {n : Refusal} → cut_body body room ≡ Err n → OneOf cut_body_rows n
cut_body_refusals = RefusalLaws.cut_body_refusals

-- 4. Read one line into a pack, and 5. judge a log: 1, 2, 3, 4, 10 to 35.
pub read_line_refusals : {s : List ℕ} {p q : Pack} {n : Refusal} → ReadInto s p (Err n) q → OneOf read_line_rows n
read_line_refusals = RefusalLaws.read_line_refusals

pub judge_refusals : {s k n t k' n' t' : List ℕ} {x : Refusal} {line : ℕ} → Judge.JudgeWhole s k n t (Err (record { refusal = x; line = line })) k' n' t' → OneOf judge_rows x
judge_refusals = RefusalLaws.judge_refusals

-- 6. Read cells from entities JSON: 1, 2, 3, 4, 24, 26, 34, 36, 37.
pub read_entities_refusals : {s : List ℕ} {p q : Pack} {n : Refusal} → EntitiesInto s p (Err n) q → OneOf read_entities_rows n
read_entities_refusals = RefusalLaws.read_entities_refusals

-- 7. List one line's event: those of reading it, and 5.
pub list_line_refusals : {s k n t out k' n' t' out' : List ℕ} {number : ℕ} {x : Refusal} → Listing.ListWhole s number k n t out (Err x) k' n' t' out' → OneOf list_line_rows x
list_line_refusals = RefusalLaws.list_line_refusals

-- 8. Merge two logs: those of judging them, 5, and 45 to 47.
pub merge_refusals : {first second k n t out k' n' t' out' : List ℕ} {x : Refusal} {log line : ℕ} → Merge.MergeWhole first second k n t out (Err (record { refusal = x; log = log; line = line })) k' n' t' out'
    → OneOf merge_rows x
merge_refusals = RefusalLaws.merge_refusals

-- All of these are rows of the table.
pub in_the_table : RowsOfTheTable decode_rows × RowsOfTheTable spell_key_rows × RowsOfTheTable cut_body_rows × RowsOfTheTable read_line_rows × RowsOfTheTable read_entities_rows
    × RowsOfTheTable judge_rows × RowsOfTheTable list_line_rows × RowsOfTheTable merge_rows
in_the_table = RefusalLaws.in_the_table

-- The rows' numbers, in the order of the table.
pub table_numbers : map number refusal_table
    ≡ 1 ∷ 2 ∷ 3 ∷ 4 ∷ 5 ∷ 10 ∷ 11 ∷ 12 ∷ 13 ∷ 14 ∷ 15 ∷ 16 ∷ 17 ∷ 18 ∷ 19 ∷ 20 ∷ 21 ∷ 22 ∷ 23 ∷ 24 ∷ 25 ∷ 26 ∷ 27 ∷ 28 ∷ 29 ∷ 35 ∷ 30 ∷ 31 ∷ 32 ∷ 33 ∷ 34 ∷ 36 ∷ 37 ∷ 45 ∷ 46 ∷ 47 ∷ []
table_numbers = refl

-- Each row has a number of its own, and a row's number is a byte.
pub numbers_apart : (e f : Refusal) → number e ≡ number f → e ≡ f
numbers_apart = number_same

pub number_is_byte : (e : Refusal) → number e < 256
number_is_byte = number_small

-- 9. A text is UTF-8, as 3 tests it, exactly where it is the bytes of scalar values, one behind the other.
pub utf8_means : (s : List ℕ) → (utf8 s ≡ true) ↔ Encoded s
utf8_means = utf8_iff
