-- `json_entities::read_members` meets its contract: each time around, the members read so far were found and laid, and the others are ahead. Assumes nothing.
use mathlib.Core.Path.{◌≡◌}
use lib.ListN.{length}
use Rattle.json_text.specs.Post.{next_of}
use Rattle.json_text.specs.Walk.{bytes_ahead}
use Rattle.json_entities.specs.Walk.{members_behind}
use Rattle.json_entities.proofs.EntryMembers.{MembersGoing}
use Rattle.json_entities.proofs.read_members.Given as goal

abbrev pub invariant-loop-next : goal.invariant-loop-next
invariant-loop-next l = record {
  going : MembersGoing (members_behind l.s) (length l.s) l.initial.tables l.tables l.found (next_of l.next);
  scratch_kept : length l.scratch ≡ length l.initial.scratch;
}

abbrev pub decreases-loop-next : goal.decreases-loop-next
decreases-loop-next l = bytes_ahead (next_of l.next)
