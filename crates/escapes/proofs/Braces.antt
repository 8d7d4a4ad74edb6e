-- The braces of \u{..}, read byte by byte: what each byte makes of what is still to be named.
-- Assumes nothing.
use mathlib.Core.Path.{◌≡◌, refl, sym, ap, ap₂, ◌∙◌}
use mathlib.Core.Bool.{Bool, true, false, cond}
use mathlib.Core.List.{List, [], ◌∷◌}
use Prim.Native.Nat.{ℕ, suc, ◌+◌, ◌*◌, ◌≤◌, ◌<◌}
use Prim.Native.Char.{code}
use native.Mathlib.Numerals.{add-one}
use native.Mathlib.Omega.{arith}
use lib.Dec.{eqb}
use lib.ListN.{length, get_or, drop, drop_of_length-le}
use lib.Seq.{drop-cons}
use borrow.Author.Tests.{ne_eqb, lt-ltb, le-ltb}
use Rattle.chars.specs.Utf8.{scalar}
use Rattle.escapes.specs.Unescape.{hex_digit, digit_then, digits_from, hex_number, without_underscore, if_scalar, named, onto_body, braced, char_or, unicode_of}
use Rattle.escapes.specs.Walk.{braces_of, braces, unnamed, more_digits, numbered}
use Rattle.escapes.specs.declared.Escape.TheVariants.{Verbatim}
use Rattle.std.specs.Prelude.{None, Option, Some, unwrap_or}

abbrev pub BodyReads : Type 0
BodyReads = List ℕ → Option ℕ

-- the braces as the definition has them
pub braces_named : (r : List ℕ) → braces named 2 r ≡ unicode_of r (braced r)
unfolding braces
braces_named r = go (braced r)
  where
    go : (o : Option (List ℕ)) → braces_of named 2 r o ≡ unicode_of r o
    go (Some body) = refl
    go None = refl

-- a byte that is no } is read
pub braces_next : (f g : BodyReads) (n b : ℕ) (r : List ℕ) → (b ≡ code "}" → ⊥) → ((h : List ℕ) → f (b ∷ h) ≡ g h) → braces f n (b ∷ r) ≡ braces g (n + 1) r
unfolding braces braced
braces_next f g n b r h e = rw (ne_eqb b (code "}") h) (go (braced r))
  where
    along : (k : ℕ) → n + suc k ≡ n + 1 + k
    along k = omega arith

    go : (o : Option (List ℕ)) → braces_of f n (b ∷ r) (onto_body b o) ≡ braces_of g (n + 1) r o
    go (Some body) = ap₂ char_or (e body) (along (suc (length body)))
    go None = ap Verbatim (along (length r))

pub close : (f : BodyReads) (n : ℕ) (r : List ℕ) → braces f n (code "}" ∷ r) ≡ char_or (f []) (n + 1)
unfolding braces braced
close f n r = refl

-- readings that agree behind the first byte
pub same_first : (f g : BodyReads) (n b : ℕ) (r : List ℕ) → f [] ≡ g [] → ((h : List ℕ) → f (b ∷ h) ≡ g (b ∷ h)) → braces f n (b ∷ r) ≡ braces g n (b ∷ r)
unfolding braces braced
same_first f g n b r e e' = go (eqb b (code "}")) (braced r)
  where
    go : (t : Bool) (o : Option (List ℕ)) → braces_of f n (b ∷ r) (cond t (Some []) (onto_body b o)) ≡ braces_of g n (b ∷ r) (cond t (Some []) (onto_body b o))
    go true o = ap (λ (v : Option ℕ). char_or v (n + 1)) e
    go false (Some body) = ap (λ (v : Option ℕ). char_or v (n + suc (suc (length body)))) (e' body)
    go false None = refl

-- the same at a place of the text
module _ (s : List ℕ) (i n : ℕ) where
  pub next_digit_at : (f g : BodyReads) → i < length s → (get_or s i 0 ≡ code "}" → ⊥) → ((h : List ℕ) → f (get_or s i 0 ∷ h) ≡ g h)
      → braces f n (drop i s) ≡ braces g (n + 1) (drop (i + 1) s)
  next_digit_at f g h b e = rw (add-one i, drop-cons s i 0 h) (braces_next f g n (get_or s i 0) (drop (suc i) s) b e)

  pub close_at : (f : BodyReads) → i < length s → get_or s i 0 ≡ code "}" → braces f n (drop i s) ≡ char_or (f []) (n + 1)
  close_at f h e = rw (drop-cons s i 0 h, e) (close f n (drop (suc i) s))

  -- what is no name with this byte is none with any that follow
  pub no_name_at : (f : BodyReads) → i < length s → (get_or s i 0 ≡ code "}" → ⊥) → ((h : List ℕ) → f (get_or s i 0 ∷ h) ≡ None)
      → braces f n (drop i s) ≡ braces unnamed n (drop i s)
  no_name_at f h b e = next_digit_at f unnamed h b e ∙ sym (next_digit_at unnamed unnamed h b (λ h. refl))

  pub end_at : (f : BodyReads) → length s ≤ i → braces f n (drop i s) ≡ Verbatim n
  unfolding braces braced
  end_at f h = rw (drop_of_length-le s h) (ap Verbatim (none_left n))
    where
      none_left : (n : ℕ) → n + 0 ≡ n
      none_left n = omega arith

-- what is named behind the number so far: None before the first digit
abbrev pub read_on : Option ℕ → BodyReads
read_on (Some v) = numbered true v
read_on None = numbered false 0

-- the digits end at the }
pub close_seen : (t : Bool) (v n : ℕ) → t ≡ true → char_or (numbered t v []) n ≡ char_or (if_scalar (Some v)) n
unfolding numbered without_underscore digits_from
close_seen t v n e = rw e

pub close_unseen : (t : Bool) (v n : ℕ) → t ≡ false → char_or (numbered t v []) n ≡ Verbatim n
unfolding numbered without_underscore
close_unseen t v n e = rw e

-- what a byte makes of the digits still to be read
module _ (b : ℕ) where
  no_underscore : {v : ℕ} → hex_digit b ≡ Some v → b ≡ code "_" → ⊥
  unfolding hex_digit
  no_underscore {v} h e = let z : ◌≡◌ {A = ℕ} 0 1 = cc in omega arith

  pub digit : (t : Bool) (v d : ℕ) → hex_digit b ≡ Some d → (h : List ℕ) → numbered t v (b ∷ h) ≡ numbered true (v * 16 + d) h
  unfolding numbered without_underscore digits_from
  digit true v d e h = rw (ne_eqb b (code "_") (no_underscore e), e)
  digit false v d e h = rw (ne_eqb b (code "_") (no_underscore e), e)

  pub underscore : (t : Bool) (v : ℕ) → b ≡ code "_" → (h : List ℕ) → numbered t v (b ∷ h) ≡ numbered t v h
  unfolding numbered without_underscore
  underscore t v e h = rw e

  pub no_digit : (t : Bool) (v : ℕ) → (b ≡ code "_" → ⊥) → hex_digit b ≡ None → (h : List ℕ) → numbered t v (b ∷ h) ≡ None
  unfolding numbered without_underscore digits_from
  no_digit true v n e h = rw (ne_eqb b (code "_") n, e)
  no_digit false v n e h = rw (ne_eqb b (code "_") n, e)

  -- the first byte: _ names nothing, + is passed over, and any other is read as a digit
  pub first_underscore : b ≡ code "_" → (h : List ℕ) → named (b ∷ h) ≡ None
  unfolding named
  first_underscore e h = rw e

  pub first_plus : b ≡ code "+" → (h : List ℕ) → named (b ∷ h) ≡ numbered false 0 h
  unfolding named numbered without_underscore
  first_plus e h = rw e (ap if_scalar (go (without_underscore h)))
    where
      go : (l : List ℕ) → hex_number l ≡ more_digits false 0 l
      go [] = refl
      go (x ∷ l) = refl

  pub first_other : (b ≡ code "_" → ⊥) → (b ≡ code "+" → ⊥) → (h : List ℕ) → named (b ∷ h) ≡ numbered false 0 (b ∷ h)
  unfolding named numbered without_underscore
  first_other n p h = rw (ne_eqb b (code "_") n, ne_eqb b (code "+") p)

pub first_at : (s : List ℕ) (i n : ℕ) → i < length s → (get_or s i 0 ≡ code "_" → ⊥) → (get_or s i 0 ≡ code "+" → ⊥)
    → braces named n (drop i s) ≡ braces (numbered false 0) n (drop i s)
unfolding named numbered without_underscore
first_at s i n h u p =
    rw (drop-cons s i 0 h) (same_first named (numbered false 0) n (get_or s i 0) (drop (suc i) s) refl (first_other (get_or s i 0) u p))

-- the same behind the number so far
module _ (b : ℕ) where
  pub digit_on : (o : Option ℕ) (d : ℕ) → hex_digit b ≡ Some d → (h : List ℕ) → read_on o (b ∷ h) ≡ numbered true (unwrap_or o 0 * 16 + d) h
  digit_on (Some v) d e = digit b true v d e
  digit_on None d e = digit b false 0 d e

  pub underscore_on : (o : Option ℕ) → b ≡ code "_" → (h : List ℕ) → read_on o (b ∷ h) ≡ read_on o h
  underscore_on (Some v) = underscore b true v
  underscore_on None = underscore b false 0

  pub no_digit_on : (o : Option ℕ) → (b ≡ code "_" → ⊥) → hex_digit b ≡ None → (h : List ℕ) → read_on o (b ∷ h) ≡ None
  no_digit_on (Some v) = no_digit b true v
  no_digit_on None = no_digit b false 0

-- a number that is too large stays so
no_scalar : (v : ℕ) → 0x110000 ≤ v → scalar v ≡ false
unfolding scalar
no_scalar v h =
    let a : 0xD800 ≤ v = omega arith in
    let b : 0xDFFF < v = omega arith in
    rw (le-ltb v 0xD800 a, lt-ltb 0xDFFF v b, le-ltb v 0x110000 h)

too_large : (v : ℕ) (l : List ℕ) → 0x110000 ≤ v → if_scalar (digits_from v l) ≡ None
unfolding digits_from
too_large v [] h = rw (no_scalar v h)
too_large v (b ∷ r) h = go (hex_digit b) (λ d. too_large (v * 16 + d) r (omega arith))
  where
    go : (o : Option ℕ) → ((d : ℕ) → if_scalar (digits_from (v * 16 + d) r) ≡ None) → if_scalar (digit_then o (λ d. digits_from (v * 16 + d) r)) ≡ None
    go (Some d) ih = ih d
    go None ih = refl

pub large : (v : ℕ) → 0x110000 ≤ v → (h : List ℕ) → numbered true v h ≡ None
unfolding numbered
large v h l = too_large v (without_underscore l) h
