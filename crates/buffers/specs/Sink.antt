-- Where a text goes: what a sink promises, and the two sinks, a lent buffer and a count.
-- Assumes nothing.
use Rattle.std.specs.Prelude.{◌≡◌, List, [], ◌++◌, ℕ, ◌+◌, ◌≤◌, length, take, drop}
use mathlib.Core.Path.{refl, ◌∙◌}
use native.Mathlib.Omega.{arith}
use lib.ListN.{length-append}
use Rattle.buffers.specs.Wrote.{Wrote}
use Rattle.buffers.specs.Joining.{nothing, then}
use Rattle.buffers.specs.declared.Writer.{Writer}
use Rattle.buffers.specs.declared.Count.{Count}

-- room o k: k bytes more have room behind o; put o text n: the text was put behind o, which is then n
pub record SinkLaws {S : Type 0} (room : S → ℕ → Type 0) (put : S → List ℕ → S → Type 0) : Type 0 where
  pub less : {o : S} {j k : ℕ} → j ≤ k → room o k → room o j
  pub rest : {o n : S} {x : List ℕ} {k : ℕ} → put o x n → room o (length x + k) → room n k
  pub none : (o : S) → put o [] o
  pub next : {a b c : S} {x y : List ℕ} → put a x b → put b y c → put a (x ++ y) c

-- the buffer has room behind its text
abbrev pub writer_room : Writer → ℕ → Type 0
writer_room o k = o.end + k ≤ length o.out.now

-- the text was written behind the one that was there, into the same buffer
pub record Writes (o : Writer) (text : List ℕ) (n : Writer) : Type 0 where
  pub stands : take n.end n.out.now ≡ take o.end o.out.now ++ text
  pub ends : n.end ≡ o.end + length text
  pub kept : drop n.end n.out.now ≡ drop n.end o.out.now
  pub long : length n.out.now ≡ length o.out.now
  pub lent : n.out.ghost_name ≡ o.out.ghost_name

-- the same of the list
pub wrote : {o n : Writer} {x : List ℕ} → Writes o x n → Wrote o.out.now o.end n.out.now n.end x
wrote w = record { stands = w.stands; ends = w.ends; kept = w.kept }

pub writes : {o n : Writer} {x : List ℕ} → Wrote o.out.now o.end n.out.now n.end x → length n.out.now ≡ length o.out.now → n.out.ghost_name ≡ o.out.ghost_name → Writes o x n
writes w l g = record { stands = w.stands; ends = w.ends; kept = w.kept; long = l; lent = g }

pub writer_laws : SinkLaws writer_room Writes
writer_laws = record {
  less = λ h p. omega arith;
  rest = λ {o} {n} {x} w p. omega (arith, w.ends, w.long);
  none = λ o. writes (nothing o.out.now o.end) refl refl;
  next = λ p q. writes (then (wrote p) (wrote q)) (q.long ∙ p.long) (q.lent ∙ p.lent);
}

-- no text that is counted is longer
abbrev pub count_room : Count → ℕ → Type 0
count_room o k = o.count + k ≤ 9223372036854775807

-- nothing is written: only the count goes on
abbrev pub Counts : Count → List ℕ → Count → Type 0
Counts o text n = n.count ≡ o.count + length text

pub count_laws : SinkLaws count_room Counts
count_laws = record {
  less = λ h p. omega arith;
  rest = λ {o} {n} {x} w p. omega (arith, w);
  none = λ o. omega arith;
  next = λ {a} {b} {c} {x} {y} p q. omega (arith, length-append x y, p, q);
}

-- a part of the whole was put, and what is left makes up the rest
pub record PutPart {S : Type 0} (put : S → List ℕ → S → Type 0) (old : S) (whole : List ℕ) (new : S) (left : List ℕ) : Type 0 where
  pub part : List ℕ
  pub stands : put old part new
  pub splits : whole ≡ part ++ left
