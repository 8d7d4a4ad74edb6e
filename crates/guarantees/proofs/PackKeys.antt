-- Keys meet, over the tables that calls of `read_line` and of `read_entities` left: whichever the source, stored keys meet exactly where entities do,
-- and read back. Each theorem is a few words that cite the file with the work.
-- Assumes nothing.
use mathlib.Core.Path.{◌≡◌, ap, ◌∙◌}
use mathlib.Core.Bool.{true}
use mathlib.Core.List.{List}
use mathlib.Core.Logic.{◌⊎◌}
use Prim.Native.Nat.{ℕ, ◌<◌}
use lib.ListN.{length}
use contract.Lifetimes.{Lfts}
use denote.Triple.Clauses.{AtExit}
use denote.Triple.Entry.{Args}
use Rattle.format.specs.Limits.{levels}
use Rattle.format.specs.Outcome.{ok}
use Rattle.format.specs.declared.Reach.{Reach}
use Rattle.chars.specs.White.{trim}
use Rattle.json_text.specs.Json.{Json}
use Rattle.json_text.specs.Syntax.{json}
use Rattle.pack.specs.Value.{entity}
use Rattle.pack.specs.Pack.{Pack}
use Rattle.values.specs.Text.{parts}
use Rattle.values.specs.Parse.{parse}
use Rattle.entities.specs.Entries.{Entries, count_entries}
use Rattle.events.specs.Event.{Event}
use Rattle.events.specs.Answer.{event, line_answer, read_line}
use Rattle.lines.specs.Entry.{enough}
use Rattle.lines.specs.contracts.read_line
use Rattle.lines.proofs.read_line.Symbol as ReadLineCode
use Rattle.json_entities.specs.Entry as Json
use Rattle.json_entities.specs.contracts.read_entities
use Rattle.json_entities.proofs.read_entities.Symbol as ReadEntitiesCode
use Rattle.logs.specs.Judge.{judge_log}
use Rattle.guarantees.specs.Promised.{Promised}
use Rattle.guarantees.specs.Keys.{keys_in, entry_type, entry_id, Holds, KeysMeet, KeysReadBack, KeysStoredAgain, entities_body, written_key}
use Rattle.guarantees.specs.Given.{EntriesGiven}
use Rattle.guarantees.specs.Lines.{InLimits, log_lines, line_numbered, Numbered, IsRead}
use Rattle.guarantees.specs.Calls.{ReadInto, EntitiesInto, Source, from_line, from_json, entries_of_answer, entries_of_outcome, GivesEntries, PackInto, KeysLeft, KeysAfter, JsonKeysAfter}
use Rattle.guarantees.proofs.Agreement.{line_alone, accepted_iff}
use Rattle.guarantees.proofs.Consequence.{promised_less}
use Rattle.guarantees.proofs.EntryPoints.{read_line_promised, read_entities_promised}
use Rattle.guarantees.proofs.JsonReading as JsonReading
use Rattle.guarantees.proofs.Left as Left
use Rattle.guarantees.proofs.LineEntries
use Rattle.guarantees.proofs.StoredKeys
use Rattle.std.specs.Prelude.{Err, None, Ok, Option, Result, Some}
use Rattle.format.specs.declared.Refusal.{Refusal}

-- 1. A call that answered with a pack was one on a source that is read: the line stands for one event,
pub call_read : {s : List ℕ} {p q : Pack} {f : Reach} → ReadInto s p (Ok (Some f)) q → IsRead s
call_read w = Left.event_read w

-- and either source gives entries: a line those of its event, a text of entities JSON those that it is read as.
pub call_gives : (x : Source) {p q : Pack} {f : Reach} → PackInto x p f q → (es : Entries) × GivesEntries x es
call_gives = Left.call_gives

pub line_gives : (s : List ℕ) {e : Event} → read_line s ≡ event e → GivesEntries (from_line s) e.entities
line_gives s h = ap entries_of_answer h

pub json_gives : (s : List ℕ) {es : Entries} → Json.read_entities s ≡ ok es → GivesEntries (from_json s) es
json_gives s h = ap entries_of_outcome h

-- The tables that it left hold these entries.
pub call_holds : (x : Source) {p q : Pack} {f : Reach} {es : Entries} → PackInto x p f q → GivesEntries x es → Holds q es
call_holds = Left.call_holds

-- 2. What an entry is. A line's event has an entry for each comma part of the line's entities body,
pub entry_for_each_part : (s : List ℕ) {e : Event} → read_line s ≡ event e → length (parts (entities_body (trim s))) ≡ count_entries e.entities
entry_for_each_part s h = LineEntries.entry_for_each_part (Left.read_accepted s h)

-- and its type text and decoded id are those of the entity that its key text, as the line has it, is read as by the value rules.
pub entry_read : (s : List ℕ) {e : Event} → read_line s ≡ event e → (i : ℕ) → i < count_entries e.entities
    → parse levels (written_key i (trim s)) ≡ ok (entity (entry_type i e.entities) (entry_id i e.entities))
entry_read s h i l = LineEntries.entry_read (Left.read_accepted s h) i l

-- A text of entities JSON is an array with an item for each entry, and an entry's type text and decoded id are the strings that its item's `uid` has
-- for `type` and `id`.
pub entry_given : (s : List ℕ) {es : Entries} → Json.read_entities s ≡ ok es → (j : Json) × (json s ≡ Some j) × EntriesGiven j es
entry_given s {es} h = let r = JsonReading.entities_read s es h in (r.tree, r.is, JsonReading.entries_given r.tree es r.read)

-- The entities node that a call left has as many stored keys as there are entries, so what follows is said of all of them.
pub key_for_each_entry : (x : Source) {p q : Pack} {f : Reach} {es : Entries} → PackInto x p f q → GivesEntries x es → length (keys_in q) ≡ count_entries es
key_for_each_entry x w g = StoredKeys.key_for_each_entry (call_holds x w g)

-- 3. Two calls, on any two sources and into any tables: the stretches of the two text tables that are the stored keys of two entries are equal,
-- byte for byte, exactly when the entries' type texts are equal and their decoded ids are.
pub keys_meet : (x x' : Source) {p q p' q' : Pack} {f f' : Reach} {es es' : Entries} → PackInto x p f q → PackInto x' p' f' q' → GivesEntries x es → GivesEntries x' es' → KeysMeet q es q' es'
keys_meet x x' w w' g g' = StoredKeys.keys_meet (call_holds x w g) (call_holds x' w' g')

-- 4. A stored key, its bytes alone read again by the value rules, is the entity of exactly its entry's type text and decoded id,
pub key_reads_back : (x : Source) {p q : Pack} {f : Reach} {es : Entries} → PackInto x p f q → GivesEntries x es → KeysReadBack q es
key_reads_back x w g = StoredKeys.key_reads_back (call_holds x w g)

-- and whatever entity it is read as is stored again as the same bytes.
pub key_stored_again : (x : Source) {p q : Pack} {f : Reach} {es : Entries} → PackInto x p f q → GivesEntries x es → KeysStoredAgain q es
key_stored_again x w g = StoredKeys.key_stored_again (call_holds x w g)

-- 5. All of it as one record of a call on either source, whatever the tables were: they hold the entries that it gives, and each stored key in them
-- meets those of any entries from any source, reads back, and is stored again the same. Of two calls, each leaves tables that the other's keys meet.
pub keys_left : (x : Source) {p q : Pack} {f : Reach} → PackInto x p f q → KeysLeft x q
keys_left x w =
    let g = call_gives x w in
    let o = call_holds x w g.1 in
    record {
      entries = g.0;
      gives = g.1;
      holds = o;
      each = StoredKeys.key_for_each_entry o;
      meet = λ q' es' o'. StoredKeys.keys_meet o o';
      reads_back = StoredKeys.key_reads_back o;
      stored_again = StoredKeys.key_stored_again o;
    }

-- As a promise of `read_line`, of every run on any line and into any tables, where the answer is an event,
line_keys_left : {s : List ℕ} {p q : Pack} (r : Result (Option Reach) Refusal) → ReadInto s p r q → KeysAfter s r q
line_keys_left {s} (Ok (Some f)) w = keys_left (from_line s) (record { call = w })
line_keys_left (Ok None) w = tt
line_keys_left (Err n) w = tt

abbrev lent_tables : (κs : Lfts (read_line.ended).signature.lifetimes) → Args (read_line.ended).signature κs → Pack
lent_tables κs a = record { kinds = a.0.now; numbers = a.1.0.now; texts = a.1.1.0.now }

abbrev left_tables : (κs : Lfts (read_line.ended).signature.lifetimes) → AtExit read_line.ended κs → Pack
left_tables κs s = record { kinds = s.0.now; numbers = s.1.0.now; texts = s.1.1.0.now }

pub keys_promised : {M : Type 1} → Promised read_line.ended ReadLineCode.code ReadLineCode.name M (λ κs a r s.
    KeysAfter a.1.1.1.0.now r (record { kinds = s.0.now; numbers = s.1.0.now; texts = s.1.1.0.now }))
keys_promised {M} = promised_less read_line.ended ReadLineCode.code ReadLineCode.name M
    (λ κs a r s. ReadInto a.1.1.1.0.now (lent_tables κs a) r (left_tables κs s))
    (λ κs a r s. KeysAfter a.1.1.1.0.now r (left_tables κs s))
    (λ κs a r s w. line_keys_left {s = a.1.1.1.0.now} {p = lent_tables κs a} {q = left_tables κs s} r w)
    read_line_promised

-- and as a promise of `read_entities`, where the answer is a pack.
json_keys_left : {s : List ℕ} {p q : Pack} (r : Result Reach Refusal) → EntitiesInto s p r q → JsonKeysAfter s r q
json_keys_left {s} (Ok f) w = keys_left (from_json s) (record { call = w })
json_keys_left (Err n) w = tt

abbrev json_lent : (κs : Lfts (read_entities.ended).signature.lifetimes) → Args (read_entities.ended).signature κs → Pack
json_lent κs a = record { kinds = a.0.now; numbers = a.1.0.now; texts = a.1.1.0.now }

abbrev json_left : (κs : Lfts (read_entities.ended).signature.lifetimes) → AtExit read_entities.ended κs → Pack
json_left κs s = record { kinds = s.0.now; numbers = s.1.0.now; texts = s.1.1.0.now }

pub json_keys_promised : {M : Type 1} → Promised read_entities.ended ReadEntitiesCode.code ReadEntitiesCode.name M (λ κs a r s.
    JsonKeysAfter a.1.1.1.0.now r (record { kinds = s.0.now; numbers = s.1.0.now; texts = s.1.1.0.now }))
json_keys_promised {M} = promised_less read_entities.ended ReadEntitiesCode.code ReadEntitiesCode.name M
    (λ κs a r s. EntitiesInto a.1.1.1.0.now (json_lent κs a) r (json_left κs s))
    (λ κs a r s. JsonKeysAfter a.1.1.1.0.now r (json_left κs s))
    (λ κs a r s w. json_keys_left {s = a.1.1.1.0.now} {p = json_lent κs a} {q = json_left κs s} r w)
    read_entities_promised

-- 6. A line of an accepted log, read alone into tables that are long enough, is blank or leaves a pack as above.
pub log_line : (l : List ℕ) {c : ℕ} → judge_log l ≡ Ok c → (line : ℕ) → Numbered line (log_lines l) → {p q : Pack} {r : Result (Option Reach) Refusal}
    → enough p.kinds p.numbers p.texts ≡ true → ReadInto (line_numbered line (log_lines l)) p r q → (r ≡ (Ok None)) ⊎ ((f : Reach) × (r ≡ Ok (Some f)))
log_line l {c} a line n b w = Left.taken_line (((accepted_iff l c).0 a).1 line n) b w

-- The event of such a line is the one that it gives in its log, be the log's other lines read or refused: it is enough that the log is within the
-- limits. So 3 and 4 hold of its entries, and of those of a line of another log, or of entities JSON.
pub log_line_gives : (l : List ℕ) → InLimits l → (line : ℕ) → {e : Event} → line_answer (line_numbered line (log_lines l)) ≡ event e
    → GivesEntries (from_line (line_numbered line (log_lines l))) e.entities
log_line_gives l a line h = line_gives _ (line_alone l a line ∙ h)

pub log_keys_meet : (l l' : List ℕ) → InLimits l → InLimits l' → (line line' : ℕ) → {p q p' q' : Pack} {f f' : Reach} {e e' : Event}
    → ReadInto (line_numbered line (log_lines l)) p (Ok (Some f)) q → ReadInto (line_numbered line' (log_lines l')) p' (Ok (Some f')) q'
    → line_answer (line_numbered line (log_lines l)) ≡ event e → line_answer (line_numbered line' (log_lines l')) ≡ event e' → KeysMeet q e.entities q' e'.entities
log_keys_meet l l' a a' line line' w w' h h' = keys_meet (from_line _) (from_line _) (record { call = w }) (record { call = w' }) (log_line_gives l a line h) (log_line_gives l' a' line' h')

pub log_key_reads_back : (l : List ℕ) → InLimits l → (line : ℕ) → {p q : Pack} {f : Reach} {e : Event} → ReadInto (line_numbered line (log_lines l)) p (Ok (Some f)) q
    → line_answer (line_numbered line (log_lines l)) ≡ event e → KeysReadBack q e.entities × KeysStoredAgain q e.entities
log_key_reads_back l a line {f = f} w h = let g = log_line_gives l a line h in let c : PackInto _ _ f _ = record { call = w } in (key_reads_back (from_line _) c g, key_stored_again (from_line _) c g)
