-- Keys meet: of any two tables that hold accepted entries, whichever calls left them. Stored keys are equal exactly where type texts and
-- decoded ids are, and each reads back to exactly these and is stored again the same. `PackKeys` says it of calls.
-- Assumes nothing.
use mathlib.Core.Path.{◌≡◌, sym, ap, ◌∙◌}
use mathlib.Core.List.{List, []}
use Prim.Native.Nat.{ℕ, ◌<◌}
use lib.ListN.{length, get_or}
use Rattle.keys.specs.Escape.{pinned, entity_uid}
use Rattle.keys.proofs.Theorems.{key_iff}
use Rattle.pack.specs.Pack.{Pack}
use Rattle.values.proofs.KeyLaws.{parse_key}
use Rattle.entities.specs.Entries.{Entries, count_entries}
use Rattle.guarantees.specs.Keys.{keys_in, key_in, entry_type, entry_id, Holds, KeysMeet, KeysReadBack, KeysStoredAgain}
use Rattle.guarantees.proofs.EntryReading.{same_key, stored_at, stored_count}

-- 1. One stored key for each entry, so that what follows is said of all of them.
pub key_for_each_entry : {q : Pack} {es : Entries} → Holds q es → length (keys_in q) ≡ count_entries es
key_for_each_entry {q} {es} h = ap length h.keys ∙ stored_count es

-- The stretch of the text table that is an entry's stored key spells its type text and its decoded id in `escape_debug` form.
pub key_spelled : {q : Pack} {es : Entries} → Holds q es → (i : ℕ) → i < count_entries es → key_in i q ≡ entity_uid pinned (entry_type i es) (entry_id i es)
key_spelled {q} {es} h i l = ap (λ (ks : List (List ℕ)). get_or ks i []) h.keys ∙ stored_at es i l

-- 2. Two stored keys are equal, byte for byte, exactly when the type texts and the decoded ids of their entries are.
pub keys_meet : {q q' : Pack} {es es' : Entries} → Holds q es → Holds q' es' → KeysMeet q es q' es'
keys_meet h h' i j l l' = rw (key_spelled h i l, key_spelled h' j l') (key_iff pinned _ _ _ _)

-- 3. A stored key, read again by the value rules, is the entity of exactly its entry's type text and decoded id,
pub key_reads_back : {q : Pack} {es : Entries} → Holds q es → KeysReadBack q es
key_reads_back h i l = rw (key_spelled h i l) (parse_key 128 pinned _ _ (h.types i l))

-- and whatever entity it is read as is stored again as the same bytes.
pub key_stored_again : {q : Pack} {es : Entries} → Holds q es → KeysStoredAgain q es
key_stored_again h i l ty id r = same_key (sym r ∙ key_reads_back h i l) ∙ sym (key_spelled h i l)
