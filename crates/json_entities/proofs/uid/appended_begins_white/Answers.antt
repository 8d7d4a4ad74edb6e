-- `json_entities::uid::appended_begins_white` meets its contract. Assumes nothing.
use Rattle.buffers.proofs.Appending.{take_rest}
use Rattle.json_entities.proofs.uid.appended_begins_white.Goals as goal

pub returns : goal.returns
returns c = rw (take_rest _ _) at c.begins_white.ensures
