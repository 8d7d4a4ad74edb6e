-- *Read cells from entities JSON* (document 02, A2): its answer, and all that the tables hold then.
-- Assumes nothing.
use Rattle.std.specs.Prelude.{◌≡◌, cond, List, [], ℕ, ◌≤◌, length, leb, Err, None, Ok, Option, Result, Some}
use Rattle.format.specs.Kinds.{absent_kind, array_kind, record_kind, text_kind}
use Rattle.format.specs.Limits.{text_limit, json_limit, nodes_used, texts_used}
use Rattle.format.specs.Outcome.{Outcome, ok, refused, mapped}
use Rattle.format.specs.Reaching.{empty_reach}
use Rattle.format.specs.Refusals.{table_too_short, text_too_long, not_utf8, line_too_long, not_json}
use Rattle.format.specs.declared.Reach.{Reach}
use Rattle.format.specs.declared.Refusal.{Refusal}
use Rattle.chars.specs.Utf8.{utf8}
use Rattle.json_text.specs.Json.{Json}
use Rattle.json_text.specs.Syntax.{json}
use Rattle.pack.specs.Pack.{Pack, empty_pack, node, append_text}
use Rattle.pack.specs.Padded.{padded}
use Rattle.pack.specs.Post.{pack_before}
use Rattle.pack.specs.declared.Tables.{Tables}
use Rattle.entities.specs.Entries.{Entries, append_entities}
use Rattle.lines.specs.Entry.{enough, holding, sizes_of}
use Rattle.json_entities.specs.Shape.{entries_of}

abbrev pub entries_if_json : Option Json → Outcome Entries
entries_if_json (Some j) = entries_of j
entries_if_json None = refused not_json

-- 2, 3, 4; 36 on the whole text; and then 37, 24, 26 and 34 by place
unfoldable pub read_entities : List ℕ → Outcome Entries
read_entities s =
    cond (leb (length s) text_limit)
    (cond (utf8 s) (cond (leb (length s) json_limit) (entries_if_json (json s)) (refused line_too_long)) (refused not_utf8))
    (refused text_too_long)

-- an absent time, principal and resource; no namespace, an empty action and kind, no logged fields and no context
abbrev pub before_entities : Pack
before_entities =
    node record_kind 0 (node record_kind 0 (append_text text_kind [] (append_text text_kind []
    (node array_kind 0 (node absent_kind 0 (node absent_kind 0 (node absent_kind 0 empty_pack)))))))

-- the pack of document 02
abbrev pub cells_pack : Entries → Pack
cells_pack es = append_entities es before_entities

-- the pack that is kept
abbrev pub pack_of : Outcome Entries → Pack
pack_of (ok es) = cells_pack es
pack_of (refused n) = empty_pack

-- the answer: the pack's sizes, or the refusal
abbrev pub sizes_or : Outcome Entries → Result Reach Refusal
sizes_or (ok es) = Ok (sizes_of (cells_pack es))
sizes_or (refused n) = Err n

pub record EntitiesWhole (s k n t : List ℕ) (r : Result Reach Refusal) (k' n' t' : List ℕ) : Type 0 where
  pub answer : r ≡ cond (enough k n t) (sizes_or (read_entities s)) (Err table_too_short)
  pub kinds : k' ≡ cond (enough k n t) (holding nodes_used (pack_of (read_entities s)).kinds k) k
  pub numbers : n' ≡ cond (enough k n t) (holding nodes_used (pack_of (read_entities s)).numbers n) n
  pub texts : t' ≡ cond (enough k n t) (holding texts_used (pack_of (read_entities s)).texts t) t

-- ---- of the inner functions

-- the cells of a text that is JSON or not, from the start of the tables
abbrev pub cells_laid : Option Json → Outcome Pack
cells_laid o = mapped cells_pack (entries_if_json o)

-- the sizes of the pack that is kept
abbrev pub kept : Result Reach Refusal → Reach
kept (Ok f) = f
kept (Err n) = empty_reach

-- what an answer shows before its reach; nothing is said of what lies behind
pub record Prefix (o : Outcome Entries) (r : Result Reach Refusal) (t : Tables) : Type 0 where
  pub answer : r ≡ sizes_or o
  pub pack : pack_before (kept r) t ≡ pack_of o
  pub nodes : (kept r).nodes ≤ nodes_used
  pub texts : (kept r).texts ≤ texts_used

-- the used parts of the tables, after an answer
pub record Shown (o : Outcome Entries) (r : Result Reach Refusal) (t : Tables) : Type 0 where
  pub answer : r ≡ sizes_or o
  pub kinds : t.kinds.now ≡ padded nodes_used (pack_of o).kinds
  pub numbers : t.numbers.now ≡ padded nodes_used (pack_of o).numbers
  pub texts : t.texts.now ≡ padded texts_used (pack_of o).texts
