-- `ranges::look_of` meets its contract: each return is a law of Looks.
-- Assumes nothing.
use mathlib.Core.Path.{◌≡◌, refl, sym, subst}
use mathlib.Core.List.{List}
use Prim.Native.Nat.{ℕ}
use Rattle.ranges.specs.Ranges.{Ascending}
use Rattle.ranges.specs.Common.{common}
use Rattle.ranges.specs.declared.TheConstants.{COMMON}
use Rattle.ranges.proofs.Stretches.{delete_hidden, common_anywhere, common_first, common_ascending}
use Rattle.ranges.proofs.BothAscending.{escaped_anywhere_ascending, first_only_ascending}
use Rattle.ranges.proofs.Looks.{anywhere_number, neither_itself, as_first_number, later_itself, lent_test, lent_both}
use Rattle.ranges.proofs.look_of.Goals.{else-first-via-then-first+else-in_ranges-3, else-first-via-else-first}
use Rattle.ranges.proofs.look_of.Goals as goal

pub returns-then-c-lt161 : goal.returns-then-c-lt161
returns-then-c-lt161 c =
    let a = c.args in
    sym (anywhere_number a.first a.c (delete_hidden a.c c.requires.1 c.if-c-lt161.true))

-- the table of the code is that of the definition
common_here : COMMON ≡ common
unfolding common
common_here = refl

pub in_ranges-requires : goal.in_ranges-requires
in_ranges-requires c = subst (λ (l : List ℕ). Ascending l) (sym common_here) common_ascending

pub returns-then-in_ranges : goal.returns-then-in_ranges
returns-then-in_ranges c =
    let a = c.args in
    let m = lent_test a.c common_here c.in_ranges.ensures c.if-in_ranges.true in
    sym (neither_itself a.first a.c (common_anywhere a.c m) (common_first a.c m))

pub in_ranges-requires-2 : goal.in_ranges-requires-2
in_ranges-requires-2 c = rw (lent_both c.args.tables.now _ c.requires.0 c.in_ok-hidden.was).0 escaped_anywhere_ascending

pub returns-then-in_ranges-2 : goal.returns-then-in_ranges-2
returns-then-in_ranges-2 c =
    let a = c.args in
    let t = lent_both a.tables.now _ c.requires.0 c.in_ok-hidden.was in
    sym (anywhere_number a.first a.c (lent_test a.c t.0 c.in_ranges-2.ensures c.if-in_ranges-2.true))

pub in_ranges-requires-then-first : goal.in_ranges-requires-then-first
in_ranges-requires-then-first c = rw (lent_both c.args.tables.now _ c.requires.0 c.in_ok-hidden.was).1 first_only_ascending

pub returns-then-in_ranges-3 : goal.returns-then-in_ranges-3
returns-then-in_ranges-3 c =
    let a = c.args in
    let t = lent_both a.tables.now _ c.requires.0 c.in_ok-hidden.was in
    let m = lent_test a.c t.0 c.in_ranges-2.ensures c.if-in_ranges-2.false in
    let f = lent_test a.c t.1 c.in_ranges-then-first.ensures c.if-in_ranges-3.true in
    rw c.if-first.true (sym (as_first_number a.c m f))

pub returns : goal.returns
returns c =
    let a = c.args in
    let t = lent_both a.tables.now _ c.requires.0 c.in_ok-hidden.was in
    let m = lent_test a.c t.0 c.in_ranges-2.ensures c.if-in_ranges-2.false in
    elim c.else-first.branch [
      | else-first-via-then-first+else-in_ranges-3 w ↦ sym (neither_itself a.first a.c m (lent_test a.c t.1 w.in_ranges-then-first.ensures w.if-in_ranges-3.false))
      | else-first-via-else-first w ↦ rw w.if-first.false (sym (later_itself a.c m))
    ]
