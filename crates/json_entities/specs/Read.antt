-- Of inner functions alone. Reading and laying down in one: what the answers of the readers show together with the tables.
-- Assumes nothing.
use Rattle.std.specs.Prelude.{List, [], ℕ}
use Rattle.format.specs.Outcome.{Outcome, mapped}
use Rattle.json_text.specs.Json.{Json, Items, Members}
use Rattle.pack.specs.Pack.{Pack, append_value}
use Rattle.pack.specs.LaidDown.{laid_down}
use Rattle.pack.specs.Value.{array}
use Rattle.values.specs.Read.{append_record}
use Rattle.entities.specs.Entries.{append_entities}
use Rattle.entities.specs.Read.{append_key, append_entry}
use Rattle.json_entities.specs.Shape.{uid_of, reference_of, items_by, fields_by, object_by, value_of, attributes_of, parents_of, entry_of, entries_of}

-- a value, with so many levels left; an array's items and an object's members, with the levels that their own values have left
unfoldable pub value_laid : ℕ → Json → Pack → Outcome Pack
value_laid k j p = laid_down append_value p (value_of k j)

unfoldable pub array_laid : ℕ → Items → Pack → Outcome Pack
array_laid k js p = laid_down append_value p (mapped array (items_by (value_of k) js))

unfoldable pub object_laid : ℕ → Members → Pack → Outcome Pack
object_laid k ms p = laid_down append_value p (object_by (value_of k) ms)

unfoldable pub record_laid : ℕ → Members → Pack → Outcome Pack
record_laid k ms p = laid_down append_record p (fields_by (value_of k) [] ms)

-- the record of an entry
unfoldable pub attributes_laid : Json → Pack → Outcome Pack
attributes_laid j p = laid_down append_record p (attributes_of j)

-- a uid as a reference, and as the stored key of an entry
unfoldable pub reference_laid : Json → Pack → Outcome Pack
reference_laid j p = laid_down append_value p (reference_of j)

unfoldable pub key_laid : Json → Pack → Outcome Pack
key_laid j p = laid_down append_key p (uid_of j)

-- an entry's parents
unfoldable pub parents_laid : Json → Pack → Outcome Pack
parents_laid j p = laid_down append_value p (mapped array (parents_of j))

-- an entry, behind those with the stored keys `before`, and all of them
unfoldable pub entry_laid : List (List ℕ) → Json → Pack → Outcome Pack
entry_laid before j p = laid_down append_entry p (entry_of before j)

unfoldable pub entities_laid : Json → Pack → Outcome Pack
entities_laid j p = laid_down append_entities p (entries_of j)
