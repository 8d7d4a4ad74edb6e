-- What an entry of a line is: of any trimmed line that is read.
-- Assumes nothing.
use mathlib.Core.Path.{◌≡◌, sym, ◌∙◌}
use mathlib.Core.List.{List, ◌++◌}
use Prim.Native.Nat.{ℕ, ◌<◌}
use lib.ListN.{length}
use Rattle.buffers.specs.Ascii.{ascii}
use Rattle.format.specs.Limits.{levels}
use Rattle.format.specs.Outcome.{ok}
use Rattle.chars.specs.White.{trim}
use Rattle.escapes.specs.Unescape.{unescape}
use Rattle.keys.proofs.Accepted.{accepted}
use Rattle.pack.specs.Value.{entity}
use Rattle.values.specs.Text.{parts}
use Rattle.values.specs.Parse.{parse}
use Rattle.entities.specs.Entries.{count_entries}
use Rattle.entities.specs.Parse.{parse_entities}
use Rattle.events.specs.Event.{Event}
use Rattle.guarantees.specs.Keys.{AcceptedLine, entry_type, entry_id, entities_body, written_key}
use Rattle.guarantees.proofs.EntryReading.{entity_read, key_text_trimmed, line_body, line_entered}

-- The entries of an event are those of its line's entities body, one for each comma part,
pub entities_of_the_line : {s : List ℕ} {e : Event} → AcceptedLine s e → parse_entities (entities_body s) ≡ ok e.entities
entities_of_the_line {s} {e} a = line_body s e a.read

pub entry_for_each_part : {s : List ℕ} {e : Event} → AcceptedLine s e → length (parts (entities_body s)) ≡ count_entries e.entities
entry_for_each_part {s} {e} a = (line_entered s e a.read).count

-- and an entry's type text and decoded id are those of the entity that its key text, as the line has it, is read as by the value rules.
pub entry_read : {s : List ℕ} {e : Event} → AcceptedLine s e → (i : ℕ) → i < count_entries e.entities
    → parse levels (written_key i s) ≡ ok (entity (entry_type i e.entities) (entry_id i e.entities))
entry_read {s} {e} a i h = (line_entered s e a.read).reads i h

-- That key text is the type text verbatim, ::", a text that is decoded to the id, and ".
pub entry_spelled : {s : List ℕ} {e : Event} → AcceptedLine s e → (i : ℕ) → i < count_entries e.entities
    → (raw : List ℕ) × (written_key i s ≡ entry_type i e.entities ++ (ascii "::\"" ++ (raw ++ ascii "\""))) × (unescape raw ≡ entry_id i e.entities)
entry_spelled {s} a i h =
    let k = accepted (trim (written_key i s)) _ _ (entity_read (written_key i s) _ _ (entry_read a i h)) in
    (k.raw, sym (key_text_trimmed _) ∙ k.is, k.stands)
