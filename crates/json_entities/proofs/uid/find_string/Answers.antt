-- `json_entities::uid::find_string` meets its contract: a text that starts with a quotation mark, and is JSON, starts with a string.
-- Assumes nothing.
use Rattle.std.proofs.Common.{rules, refl, ◌≡◌, true}
use mathlib.Core.Logic.{◌⊎◌, inl, inr}
use Prim.Native.Char.{code}
use Prim.Native.Nat.{◌<◌}
use native.Mathlib.Omega.{arith}
use lib.ListN.{length, get_or}
use Rattle.buffers.proofs.Appending.{take_rest}
use Rattle.json_text.specs.Parse.{starts}
use Rattle.json_entities.proofs.JsonSteps.{starts_not}
use Rattle.json_entities.proofs.UidLaws.{no_string, string_ends, string_followed, string_in}
use Rattle.json_entities.proofs.uid.find_string.Goals.{in_default-via-then-s-lt1, in_default-via-else-s-lt1+in_default-1}
use Rattle.json_entities.proofs.uid.find_string.Goals as goal

pub returns-in_default : goal.returns-in_default
returns-in_default c =
    let other : (length c.args.s.now < 1) ⊎ (get_or c.args.s.now 0 0 ≡ code "\"" → ⊥) =
    elim c.in_default.branch [ in_default-via-then-s-lt1 w ↦ inl (search rules) | in_default-via-else-s-lt1+in_default-1 w ↦ inr (search rules) ] in
    no_string c.args.s.now (starts_not (code "\"") c.args.s.now (omega arith) other)

pub returns-in_default-string_behind : goal.returns-in_default-string_behind
returns-in_default-string_behind c =
    let e : starts (code "\"") c.args.s.now ≡ true = search rules in
    absurd (string_ends c.args.s.now _ e c.requires (take_rest 1 c.args.s.now) c.in_default-string_behind.ensures)

pub returns-in_default-next_part : goal.returns-in_default-next_part
returns-in_default-next_part c =
    let e : starts (code "\"") c.args.s.now ≡ true = search rules in
    absurd (string_followed c.args.s.now _ e c.requires (take_rest 1 c.args.s.now) c.in-Some.rest.now c.in-Some.ensures c.in_default-next_part.ensures)

pub returns : goal.returns
returns c =
    let e : starts (code "\"") c.args.s.now ≡ true = search rules in
    string_in c.args.s.now _ e c.requires (take_rest 1 c.args.s.now) c.in-Some.rest.now c.in-Some.ensures _ refl c.in-Some-next_part.ensures
