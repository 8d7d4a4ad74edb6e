-- What each function that C calls ensures: its answer as a number, and the whole of what it was lent to write. A prime marks what a table
-- or an output holds afterwards.
-- Assumes nothing.
use Rattle.std.specs.Prelude.{◌≡◌, List, ℕ, length}
use Rattle.cuts.specs.Body.{cut_body, cut_output}
use Rattle.escapes.specs.Entry.{decoded, output_after}
use Rattle.keys.specs.Entry.{spell_key, spell_output}
use Rattle.lines.specs.Entry as Lines
use Rattle.logs.specs.Judge as Logs
use Rattle.merging.specs.Merge as Merging
use Rattle.merging.specs.Merge.{merge_answer}
use Rattle.listing.specs.Entry as Listing
use Rattle.json_entities.specs.Entry as Cells
use Rattle.lulzhemor.specs.Answer.{counted_answer, of_read, sizes_after, read_answer, of_entities, entities_sizes_after, entities_answer, of_judged, judge_answer, of_merged, of_listed, line_listed}

pub record CutCall (body out : List ℕ) (r : ℕ) (out' : List ℕ) : Type 0 where
  pub answer : r ≡ counted_answer (cut_body body (length out))
  pub output : out' ≡ cut_output (cut_body body (length out)) body out

pub record DecodeCall (text out : List ℕ) (r : ℕ) (out' : List ℕ) : Type 0 where
  pub answer : r ≡ counted_answer (decoded text (length out))
  pub output : out' ≡ output_after text out

pub record SpellCall (ty id out : List ℕ) (r : ℕ) (out' : List ℕ) : Type 0 where
  pub answer : r ≡ counted_answer (spell_key ty id (length out))
  pub output : out' ≡ spell_output (spell_key ty id (length out)) ty id out

-- ---- with tables k, n and t

pub record ReadCall (line k n t sizes : List ℕ) (r : ℕ) (k' n' t' sizes' : List ℕ) : Type 0 where
  pub answer : r ≡ of_read (read_answer line k n t)
  pub tables : Lines.LineWhole line k n t (read_answer line k n t) k' n' t'
  pub written : sizes' ≡ sizes_after (read_answer line k n t) sizes

pub record EntitiesCall (text k n t sizes : List ℕ) (r : ℕ) (k' n' t' sizes' : List ℕ) : Type 0 where
  pub answer : r ≡ of_entities (entities_answer text k n t)
  pub tables : Cells.EntitiesWhole text k n t (entities_answer text k n t) k' n' t'
  pub written : sizes' ≡ entities_sizes_after (entities_answer text k n t) sizes

pub record JudgeCall (log k n t : List ℕ) (r : ℕ) (k' n' t' : List ℕ) : Type 0 where
  pub answer : r ≡ of_judged (judge_answer log k n t)
  pub tables : Logs.JudgeWhole log k n t (judge_answer log k n t) k' n' t'

pub record MergeCall (first second k n t out : List ℕ) (r : ℕ) (k' n' t' out' : List ℕ) : Type 0 where
  pub answer : r ≡ of_merged (merge_answer first second k n t out)
  pub tables : Merging.MergeWhole first second k n t out (merge_answer first second k n t out) k' n' t' out'

pub record ListCall (line : List ℕ) (number : ℕ) (k n t out : List ℕ) (r : ℕ) (k' n' t' out' : List ℕ) : Type 0 where
  pub answer : r ≡ of_listed (line_listed line number k n t out)
  pub tables : Listing.ListWhole line number k n t out (line_listed line number k n t out) k' n' t' out'
