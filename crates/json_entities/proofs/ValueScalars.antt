-- A value that is no array and no object, by its first byte: which it is, and what it lays down.
-- Assumes nothing.
use mathlib.Core.Path.{◌≡◌, refl, ap, ◌∙◌}
use mathlib.Core.Bool.{Bool, true, false, cond}
use mathlib.Core.List.{List}
use Prim.Native.Char.{code}
use Prim.Native.Nat.{ℕ, ◌+◌, ◌-◌, ◌≤◌, ◌<◌}
use native.Mathlib.Omega.{arith}
use lib.ListN.{length, get_or, take, drop, length-drop, length-take}
use borrow.Author.Tests.{ne_eqb}
use Rattle.std.specs.Prelude.{None, Option, Some, IsSome}
use Rattle.buffers.specs.Ascii.{ascii}
use Rattle.buffers.proofs.Equal.{same_true}
use Rattle.format.specs.Kinds.{null_kind, false_kind, true_kind, integer_kind, string_kind}
use Rattle.format.specs.Outcome.{ok, refused}
use Rattle.format.specs.Refusals.{not_entities}
use Rattle.numbers.specs.Integer.{i64_of}
use Rattle.json_text.specs.Json.{Json, null, bool, number, string}
use Rattle.json_text.specs.Parse.{made, begins}
use Rattle.json_text.specs.Number as Number
use Rattle.json_text.specs.Text as Text
use Rattle.json_text.specs.Post.{behind, text_in}
use Rattle.json_text.specs.Syntax.{scalar, literal_or, read_number}
use Rattle.pack.specs.Pack.{Pack, node, append_text, append_value}
use Rattle.pack.specs.LaidDown.{laid_down}
use Rattle.pack.specs.declared.Tables.{Tables}
use Rattle.pack.specs.Added.{Added}
use Rattle.pack.specs.Post.{pack_of}
use Rattle.pack.proofs.Appended.{node_added}
use Rattle.json_entities.specs.Shape.{value_of, value_by}
use Rattle.json_entities.specs.Read.{value_laid}
use Rattle.json_entities.specs.Post.{json_in, rest_in}
use Rattle.json_text.proofs.Scalars.{begins_other, number_letter}
use Rattle.json_text.proofs.Lengths.{string_shorter, number_shorter, scalar_shorter}

-- ---- by its first byte

-- one that is there has a first byte, and is longer than what follows it
pub scalar_long : (s : List ℕ) → IsSome (scalar s) → length (rest_in (scalar s)) < length s
scalar_long s is = go (scalar s) refl is
  where
    go : (o : Option (Json × List ℕ)) → scalar s ≡ o → IsSome o → length (rest_in o) < length s
    go (Some p) e h = scalar_shorter s p e
    go None e h = absurd cc

-- a word that is there, and no other value
pub record WordRead (w : List ℕ) (j : Json) (s : List ℕ) : Type 0 where
  pub is : scalar s ≡ Some (j, drop (length w) s)
  pub inside : length w ≤ length s

word_read : (w : List ℕ) (j : Json) (s : List ℕ) → scalar s ≡ literal_or w j s None → IsSome (scalar s) → WordRead w j s
word_read w j s e is = go (begins w s) refl (rw e at is)
  where
    go : (t : Bool) → begins w s ≡ t → IsSome (cond {A = Option (Json × List ℕ)} t (Some (j, drop (length w) s)) None) → WordRead w j s
    go true b h = record {
      is = e ∙ rw b refl;
      inside = omega (arith, ap length (same_true (take (length w) s) w b), length-take (length w) s);
    }
    go false b h = absurd cc

module _ (s : List ℕ) where
  pub scalar_string : get_or s 0 0 ≡ code "\"" → scalar s ≡ made string (Text.string (drop 1 s))
  unfolding scalar
  scalar_string e = rw e refl

  module _ (is : IsSome (scalar s)) where
    pub scalar_null : get_or s 0 0 ≡ code "n" → WordRead (ascii "null") null s
    unfolding scalar
    scalar_null e =
        let q : get_or s 0 0 ≡ code "\"" → ⊥ = omega arith in
        word_read (ascii "null") null s
        (rw (ne_eqb (get_or s 0 0) (code "\"") q, begins_other (code "t") (ascii "rue") s (omega arith), begins_other (code "f") (ascii "alse") s (omega arith), number_letter s (omega arith)) refl)
        is

    pub scalar_true : get_or s 0 0 ≡ code "t" → WordRead (ascii "true") (bool true) s
    unfolding scalar
    scalar_true e =
        let q : get_or s 0 0 ≡ code "\"" → ⊥ = omega arith in
        word_read (ascii "true") (bool true) s
        (rw (ne_eqb (get_or s 0 0) (code "\"") q, begins_other (code "n") (ascii "ull") s (omega arith), begins_other (code "f") (ascii "alse") s (omega arith), number_letter s (omega arith)) refl)
        is

    pub scalar_false : get_or s 0 0 ≡ code "f" → WordRead (ascii "false") (bool false) s
    unfolding scalar
    scalar_false e =
        let q : get_or s 0 0 ≡ code "\"" → ⊥ = omega arith in
        word_read (ascii "false") (bool false) s
        (rw (ne_eqb (get_or s 0 0) (code "\"") q, begins_other (code "n") (ascii "ull") s (omega arith), begins_other (code "t") (ascii "rue") s (omega arith), number_letter s (omega arith)) refl)
        is

  pub scalar_number : (get_or s 0 0 ≡ code "\"" → ⊥) → (get_or s 0 0 ≡ code "n" → ⊥) → (get_or s 0 0 ≡ code "t" → ⊥) → (get_or s 0 0 ≡ code "f" → ⊥) → scalar s ≡ read_number s
  unfolding scalar
  scalar_number q n t f =
      rw (ne_eqb (get_or s 0 0) (code "\"") q, begins_other (code "n") (ascii "ull") s n, begins_other (code "t") (ascii "rue") s t, begins_other (code "f") (ascii "alse") s f) refl

-- ---- a string and a number: what is read, and where it ends

pub record StringIn (s : List ℕ) : Type 0 where
  pub there : IsSome (Text.string (drop 1 s))
  pub tree : json_in (scalar s) ≡ string (text_in (Text.string (drop 1 s)))
  pub ends : behind (Text.string (drop 1 s)) ≡ Some (rest_in (scalar s))
  pub fits : length (text_in (Text.string (drop 1 s))) + length (rest_in (scalar s)) < length s

pub string_in : (s : List ℕ) → IsSome (scalar s) → get_or s 0 0 ≡ code "\"" → StringIn s
string_in s is e = go (Text.string (drop 1 s)) refl (rw (scalar_string s e) at is)
  where
    go : (o : Option (List ℕ × List ℕ)) → Text.string (drop 1 s) ≡ o → IsSome (made string o) → StringIn s
    go (Some p) f h =
        let whole : scalar s ≡ Some (string p.0, p.1) = scalar_string s e ∙ rw f refl in
        let ends : rest_in (scalar s) ≡ p.1 = rw whole refl in
        let text : text_in (Text.string (drop 1 s)) ≡ p.0 = rw f refl in
        record {
          there = rw f refl;
          tree = rw (whole, f) refl;
          ends = rw (f, whole) refl;
          fits = omega (arith, string_shorter (drop 1 s) p f, length-drop 1 s, ap length ends, ap length text);
        }
    go None f h = absurd cc

-- the text of a number, and the text behind it
pub record NumberIn (s rest : List ℕ) : Type 0 where
  pub whole : read_number s ≡ Some (number (take (length s - length rest) s), rest)
  pub fits : length rest < length s

pub number_in : (s rest : List ℕ) → Number.number s ≡ Some rest → NumberIn s rest
number_in s rest e = record { whole = rw e refl; fits = number_shorter s rest e }

-- ---- what is laid down

module _ (p : Pack) where
  pub null_laid : ok (node null_kind 0 p) ≡ value_laid 1 null p
  unfolding value_laid value_of value_by laid_down append_value
  null_laid = refl

  pub bool_laid : (b : Bool) → ok (node (cond b true_kind false_kind) 0 p) ≡ value_laid 1 (bool b) p
  unfolding value_laid value_of value_by laid_down append_value
  bool_laid b = refl

  pub string_laid : (x : List ℕ) (q : Pack) → q ≡ append_text string_kind x p → ok q ≡ value_laid 1 (string x) p
  unfolding value_laid value_of value_by laid_down append_value
  string_laid x q e = ap ok e

  pub number_laid : (x : List ℕ) (n : ℕ) → i64_of x ≡ Some n → ok (node integer_kind n p) ≡ value_laid 1 (number x) p
  unfolding value_laid value_of value_by laid_down append_value
  number_laid x n e = rw e refl

  pub number_wide : (x : List ℕ) → i64_of x ≡ None → refused not_entities ≡ value_laid 1 (number x) p
  unfolding value_laid value_of value_by laid_down append_value
  number_wide x e = rw e refl

-- ---- a word: it is read, and takes a node

-- a word of the node kind `kind`, at the start of s; its node was appended to the tables o, which gave n, and t stands behind it
pub word_laid : (w : List ℕ) (j : Json) (kind : ℕ) {o n : Tables} (s t : List ℕ) → WordRead w j s → ((p : Pack) → ok (node kind 0 p) ≡ value_laid 1 j p)
    → Added kind 0 o.reach.texts o n → t ≡ drop (length w) s
    → (ok (pack_of n) ≡ value_laid 1 (json_in (scalar s)) (pack_of o)) × (t ≡ rest_in (scalar s))
word_laid w j kind {o} {n} s t word laid added e = rw word.is (ap ok (node_added added) ∙ laid (pack_of o), e)
