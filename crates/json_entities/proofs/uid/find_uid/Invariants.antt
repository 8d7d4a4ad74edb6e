-- `json_entities::uid::find_uid` meets its contract: what was found of the object so far, and how far it was walked.
-- Assumes nothing.
use Rattle.json_text.specs.Post.{next_of}
use Rattle.json_text.specs.Walk.{bytes_ahead}
use Rattle.json_entities.proofs.UidLaws.{FoundIn}
use Rattle.json_entities.proofs.uid.find_uid.Given as goal

abbrev pub invariant-loop-found : goal.invariant-loop-found
invariant-loop-found l = FoundIn l.s l.found

abbrev pub decreases-loop-found : goal.decreases-loop-found
decreases-loop-found l = bytes_ahead (next_of l.found.next)
