-- `sorting::sort_places` meets its contract: the two halves sorted, then merged, or left as they are where they are in order already.
-- Assumes nothing.
use Prim.Native.Nat.{ℕ, ◌-◌, ◌/◌}
use native.Mathlib.Omega.{arith}
use lib.ListN.{take}
use Rattle.pack.specs.Walk.{place_key}
use Rattle.sorting.proofs.PartLaws.{sorted_short, saved, merged_halves, halves_in_order}
use Rattle.sorting.proofs.+sort_places.Goals as goal

pub returns-then-n-lt2 : goal.returns-then-n-lt2
returns-then-n-lt2 t c =
    let a = c.args in
    sorted_short (place_key a.numbers.now a.texts.now) a.order.now a.from a.n c.if-n-lt2.true

pub returns-then-place_precedes : goal.returns-then-place_precedes
returns-then-place_precedes t c =
    let a = c.args in
    let q = c.sort_places in
    let r = c.sort_places-2 in
    let h : ℕ = a.n / 2 in
    let m : ℕ = a.n - a.n / 2 in
    let key = place_key a.numbers.now a.texts.now in
    merged_halves key a.order.now a.from h m (omega arith) a.n (omega arith) q.new.order r.new.order q.ensures r.ensures c.merge_runs.new.order (take h c.save.new.spare)
    (saved r.new.order c.save.new.spare a.from h (omega (arith, q.auto.order, r.auto.order)) c.save.ensures) c.merge_runs.ensures

pub returns-else-place_precedes : goal.returns-else-place_precedes
returns-else-place_precedes t c =
    let a = c.args in
    let q = c.sort_places in
    let r = c.sort_places-2 in
    let h : ℕ = a.n / 2 in
    let m : ℕ = a.n - a.n / 2 in
    let key = place_key a.numbers.now a.texts.now in
    halves_in_order key a.order.now a.from h m (omega arith) a.n (omega arith) q.new.order r.new.order q.ensures r.ensures (omega arith) (omega arith) c.place_precedes.result c.place_precedes.ensures c.if-place_precedes.false
