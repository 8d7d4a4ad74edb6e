-- How the tables say a character is written, by the tests that lead there.
-- Assumes nothing.
use mathlib.Core.Path.{◌≡◌, sym, subst, ◌∙◌}
use mathlib.Core.Bool.{Bool, true, false}
use mathlib.Core.List.{List}
use Prim.Native.Nat.{ℕ, ◌<◌, zero-le, suc-le-suc}
use lib.ListN.{length}
use Rattle.std.specs.Prelude.{IfSome, Option, Some}
use Rattle.buffers.proofs.Choice.{and_false}
use Rattle.ranges.specs.Ranges.{member}
use Rattle.ranges.specs.EscapedAnywhere.{escaped_anywhere}
use Rattle.ranges.specs.FirstOnly.{first_only}
use Rattle.ranges.specs.Hidden.{pinned, hidden}
use Rattle.ranges.specs.Look.{look_of, HiddenLent, TablesLent}
use Rattle.ranges.specs.declared.EscapeTables.{EscapeTables}
use Rattle.ranges.specs.declared.HiddenTables.{HiddenTables}
use Rattle.ranges.specs.declared.Look.TheVariants.{Number, Itself}

pub hidden_never : (first : Bool) (c : ℕ) → member escaped_anywhere c ≡ false → member first_only c ≡ false → hidden pinned first c ≡ false
unfolding hidden
hidden_never first c e f = rw (e, f) (and_false first)

pub hidden_always : (first : Bool) (c : ℕ) → member escaped_anywhere c ≡ true → hidden pinned first c ≡ true
unfolding hidden
hidden_always first c e = rw e

hidden_as_first : (c : ℕ) → member escaped_anywhere c ≡ false → hidden pinned true c ≡ member first_only c
unfolding hidden
hidden_as_first c e = rw e

pub anywhere_number : (first : Bool) (c : ℕ) → member escaped_anywhere c ≡ true → look_of pinned first c ≡ Number
anywhere_number first c e = rw (hidden_always first c e)

pub neither_itself : (first : Bool) (c : ℕ) → member escaped_anywhere c ≡ false → member first_only c ≡ false → look_of pinned first c ≡ Itself
neither_itself first c e f = rw (hidden_never first c e f)

pub as_first_number : (c : ℕ) → member escaped_anywhere c ≡ false → member first_only c ≡ true → look_of pinned true c ≡ Number
as_first_number c e f = rw (hidden_as_first c e, f)

pub later_itself : (c : ℕ) → member escaped_anywhere c ≡ false → look_of pinned false c ≡ Itself
unfolding hidden
later_itself c e = rw e

-- a test of a lent table is one of the table itself
pub lent_test : {xs ys : List ℕ} {r b : Bool} (c : ℕ) → xs ≡ ys → r ≡ member xs c → r ≡ b → member ys c ≡ b
lent_test c e m f = rw (← e) (sym m ∙ f)

-- where the hidden tables are lent, they are those of here, and the first has boundaries
pub lent_both : (t : EscapeTables) (h : HiddenTables) → TablesLent t → t.hidden ≡ Some h → (h.anywhere.now ≡ escaped_anywhere) × (h.firsts.now ≡ first_only)
lent_both t h (e, l) s = subst (λ (o : Option HiddenTables). IfSome o HiddenLent) s l

pub table_filled : 0 < length escaped_anywhere
unfolding escaped_anywhere
table_filled = suc-le-suc zero-le
