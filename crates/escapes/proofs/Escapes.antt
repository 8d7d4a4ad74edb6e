-- What a backslash begins, by the byte behind it; and that an escape stands for a character, is no longer than its text, and ends in it.
-- Assumes nothing.
use mathlib.Core.Path.{◌≡◌, refl, sym, ap, ◌∙◌}
use mathlib.Core.Bool.{Bool, true, false, cond, ◌&&◌}
use mathlib.Core.List.{List, [], ◌∷◌}
use Prim.Native.Nat.{ℕ, suc, ◌+◌, ◌-◌, ◌*◌, ◌≤◌, ◌<◌, zero-le}
use Prim.Native.Char.{code}
use native.Mathlib.Nat.{add-zero}
use native.Mathlib.Omega.{arith}
use lib.Dec.{leb, eqb}
use lib.ListN.{length, get_or, drop, length-drop, drop_of_length-le}
use lib.Seq.{drop-drop, get_or-drop}
use borrow.Author.Tests.{ne_eqb, eqb-true, leb-true, lt-ltb}
use Rattle.buffers.proofs.Choice.{by_cond, both_arms, and_left, and_right}
use Rattle.chars.specs.Utf8.{scalar, encode}
use Rattle.chars.proofs.Reading.{byte_inside}
use Rattle.chars.specs.White.{within}
use Rattle.escapes.specs.Unescape.{hex_digit, if_scalar, radix16, without_underscore, named, onto_body, braced, char_or, unicode_of, byte_of, short_or, escape_at}
use Rattle.escapes.specs.Walk.{short_of, braces, unicode_at}
use Rattle.escapes.specs.declared.Escape.{Escape}
use Rattle.escapes.specs.declared.Escape.TheVariants.{Char, Verbatim}
use Rattle.escapes.proofs.Braces.{braces_named}
use Rattle.escapes.proofs.Encoding.{encoded}
use Rattle.std.specs.Prelude.{None, Option, Some}

-- the letters of the short escapes
abbrev pub code_or : Option ℕ → Escape → Escape
code_or (Some c) o = Char c 1
code_or None o = o

pub short_code : (b : ℕ) (o : Escape) → short_or b o ≡ code_or (short_of b) o
unfolding short_or short_of
short_code b o = go (eqb b (code "0")) (eqb b (code "t")) (eqb b (code "n")) (eqb b (code "r")) (eqb b (code "\"")) (eqb b (code "'")) (eqb b (code "\\"))
  where
    meant : (t1 t2 t3 t4 t5 t6 t7 : Bool) → Option ℕ
    meant t1 t2 t3 t4 t5 t6 t7 = cond t1 (Some 0) (cond t2 (Some (code "\t")) (cond t3 (Some (code "\n")) (cond t4 (Some (code "\r")) (cond t5 (Some (code "\"")) (cond t6 (Some (code "'")) (cond t7 (Some (code "\\")) None))))))

    go : (t1 t2 t3 t4 t5 t6 t7 : Bool)
        → cond t1 (Char 0 1) (cond t2 (Char (code "\t") 1) (cond t3 (Char (code "\n") 1) (cond t4 (Char (code "\r") 1) (cond t5 (Char (code "\"") 1) (cond t6 (Char (code "'") 1) (cond t7 (Char (code "\\") 1) o))))))
        ≡ code_or (meant t1 t2 t3 t4 t5 t6 t7) o
    go true t2 t3 t4 t5 t6 t7 = refl
    go false true t3 t4 t5 t6 t7 = refl
    go false false true t4 t5 t6 t7 = refl
    go false false false true t5 t6 t7 = refl
    go false false false false true t6 t7 = refl
    go false false false false false true t7 = refl
    go false false false false false false true = refl
    go false false false false false false false = refl

-- a short escape stands for an ASCII character
pub short_ascii : (b c : ℕ) → short_of b ≡ Some c → c < 128
unfolding short_of
short_ascii b c e = grind arith

-- the first byte behind the backslash decides
abbrev by_letter : ℕ → List ℕ → Escape
by_letter b r =
    short_or b (cond (eqb b (code "x")) (byte_of (hex_digit (get_or r 1 0)) (hex_digit (get_or r 2 0)))
    (cond (eqb b (code "u") && eqb (get_or r 1 0) (code "{")) (unicode_of (drop 2 r) (braced (drop 2 r))) (Verbatim 0)))

letter : (s : List ℕ) (n b : ℕ) → get_or s n 0 ≡ b → escape_at (drop n s) ≡ by_letter b (drop n s)
unfolding escape_at
letter s n b e = ap (λ (x : ℕ). by_letter x (drop n s)) (get_or-drop n s 0 0 ∙ ap (λ (k : ℕ). get_or s k 0) (add-zero n) ∙ e)

module _ (s : List ℕ) (n : ℕ) where
  pub short_at : (c : ℕ) → short_of (get_or s n 0) ≡ Some c → escape_at (drop n s) ≡ Char c 1
  short_at c e = letter s n (get_or s n 0) refl ∙ short_code (get_or s n 0) _ ∙ rw e

  pub byte_at : get_or s n 0 ≡ code "x" → escape_at (drop n s) ≡ byte_of (hex_digit (get_or s (n + 1) 0)) (hex_digit (get_or s (n + 2) 0))
  unfolding short_or
  byte_at e = letter s n (code "x") e ∙ rw (get_or-drop, get_or-drop)

  pub unicode_escape_at : get_or s n 0 ≡ code "u" → escape_at (drop n s) ≡ unicode_at (drop n s)
  unfolding short_or
  unicode_escape_at e = letter s n (code "u") e

  pub no_brace : (get_or s (n + 1) 0 ≡ code "{" → ⊥) → unicode_at (drop n s) ≡ Verbatim 0
  no_brace h = rw (get_or-drop, ne_eqb (get_or s (n + 1) 0) (code "{") h)

  pub brace : get_or s (n + 1) 0 ≡ code "{" → unicode_at (drop n s) ≡ braces named 2 (drop (n + 2) s)
  brace e = rw (get_or-drop, e) (rw drop-drop (sym (braces_named (drop (n + 2) s))))

  pub no_escape : short_of (get_or s n 0) ≡ None → (get_or s n 0 ≡ code "x" → ⊥) → (get_or s n 0 ≡ code "u" → ⊥) → escape_at (drop n s) ≡ Verbatim 0
  no_escape h x u =
      letter s n (get_or s n 0) refl
      ∙ short_code (get_or s n 0) _
      ∙ rw (h, ne_eqb (get_or s n 0) (code "x") x, ne_eqb (get_or s n 0) (code "u") u)

  -- a backslash that ends the text
  pub lone : length s ≤ n → escape_at (drop n s) ≡ Verbatim 0
  unfolding escape_at short_or
  lone h = rw (drop_of_length-le s h)

-- a hex digit is an ASCII byte that stands in the text
pub record Hex (b v : ℕ) : Type 0 where
  pub small : v < 16
  pub some_byte : 1 ≤ b
  pub ascii : b < 0x80

abbrev IsHex : ℕ → Option ℕ → Type 0
IsHex b (Some v) = Hex b v
IsHex b None = Unit {0}

pub is_hex : (b : ℕ) → IsHex b (hex_digit b)
unfolding hex_digit
is_hex b =
    by_cond P (within (code "0") (code "9") b) _ _ (λ e. ok (code "0") (code "9") (code "0") e (omega arith) (omega arith) (omega arith)) (λ _.
    by_cond P (within (code "a") (code "f") b) _ _ (λ e. ok (code "a") (code "f") (code "a" - 10) e (omega arith) (omega arith) (omega arith)) (λ _.
    by_cond P (within (code "A") (code "F") b) _ _ (λ e. ok (code "A") (code "F") (code "A" - 10) e (omega arith) (omega arith) (omega arith)) (λ _. tt)))
  where
    P : Option ℕ → Type 0
    P o = IsHex b o

    ok : (lo hi k : ℕ) → within lo hi b ≡ true → 1 ≤ lo → hi < 0x80 → hi < k + 16 → Hex b (b - k)
    ok lo hi k e h l m =
        let p = leb-true lo b (and_left (leb lo b) (leb b hi) e) in
        let q = leb-true b hi (and_right (leb lo b) (leb b hi) e) in
        record { small = omega arith; some_byte = omega arith; ascii = omega arith }

pub hex : (b v : ℕ) → hex_digit b ≡ Some v → Hex b v
hex b v e = rw e at (is_hex b)

-- what an escape's text and its character are bound by
abbrev pub Held : List ℕ → Escape → Type 0
Held r (Char v n) = (scalar v ≡ true) × (length (encode v) ≤ suc n) × (n ≤ length r)
Held r (Verbatim n) = n ≤ length r

low_scalar : (v : ℕ) → v < 0xD800 → scalar v ≡ true
unfolding scalar
low_scalar v h = rw (lt-ltb v 0xD800 h)

here : (r : List ℕ) (i k : ℕ) → 1 ≤ k → eqb (get_or r i 0) k ≡ true → i < length r
here r i k h e = byte_inside r i (omega (arith, eqb-true (get_or r i 0) k e))

held_short : (r : List ℕ) (o : Escape) → Held r o → Held r (short_or (get_or r 0 0) o)
unfolding short_or scalar encode
held_short r o h =
    let P = Held r in
    by_cond P (eqb (get_or r 0 0) (code "0")) _ _ (λ e. (refl, omega arith, here r 0 (code "0") (omega arith) e)) (λ _.
    by_cond P (eqb (get_or r 0 0) (code "t")) _ _ (λ e. (refl, omega arith, here r 0 (code "t") (omega arith) e)) (λ _.
    by_cond P (eqb (get_or r 0 0) (code "n")) _ _ (λ e. (refl, omega arith, here r 0 (code "n") (omega arith) e)) (λ _.
    by_cond P (eqb (get_or r 0 0) (code "r")) _ _ (λ e. (refl, omega arith, here r 0 (code "r") (omega arith) e)) (λ _.
    by_cond P (eqb (get_or r 0 0) (code "\"")) _ _ (λ e. (refl, omega arith, here r 0 (code "\"") (omega arith) e)) (λ _.
    by_cond P (eqb (get_or r 0 0) (code "'")) _ _ (λ e. (refl, omega arith, here r 0 (code "'") (omega arith) e)) (λ _.
    by_cond P (eqb (get_or r 0 0) (code "\\")) _ _ (λ e. (refl, omega arith, here r 0 (code "\\") (omega arith) e)) (λ _. h)))))))

held_byte : (r : List ℕ) → Held r (byte_of (hex_digit (get_or r 1 0)) (hex_digit (get_or r 2 0)))
held_byte r = go (hex_digit (get_or r 1 0)) (hex_digit (get_or r 2 0)) (is_hex (get_or r 1 0)) (is_hex (get_or r 2 0))
  where
    two : (v : ℕ) → v < 0x100 → length (encode v) ≤ 2
    two v h = (encoded v).two (omega arith)

    go : (o p : Option ℕ) → IsHex (get_or r 1 0) o → IsHex (get_or r 2 0) p → Held r (byte_of o p)
    go (Some v) (Some w) h k =
        let a = h.small in
        let b = k.small in
        (low_scalar (v * 16 + w) (omega arith), omega (arith, two (v * 16 + w) (omega arith)), byte_inside r 2 k.some_byte)
    go (Some v) None h k = let a = h.small in (low_scalar v (omega arith), omega (arith, two v (omega arith)), byte_inside r 1 h.some_byte)
    go None p h k = zero-le

-- the braces end in the text
braced_inside : (r body : List ℕ) → braced r ≡ Some body → suc (length body) ≤ length r
unfolding braced
braced_inside [] body e = let z : ◌≡◌ {A = ℕ} 0 1 = cc in absurd (omega arith)
braced_inside (b ∷ r) body e = go (eqb b (code "}")) (braced r) body (λ body e. braced_inside r body e) e
  where
    go : (t : Bool) (o : Option (List ℕ)) (body : List ℕ) → ((body : List ℕ) → o ≡ Some body → suc (length body) ≤ length r)
        → cond t (Some []) (onto_body b o) ≡ Some body → suc (length body) ≤ suc (length r)
    go true o body ih e = let z : [] ≡ body = cc in rw (← z) (omega arith)
    go false (Some rest) body ih e = let z : b ∷ rest ≡ body = cc in rw (← z) (omega (arith, ih rest refl))
    go false None body ih e = let z : ◌≡◌ {A = ℕ} 0 1 = cc in absurd (omega arith)

-- what is named is a scalar value
abbrev IsScalar : Option ℕ → Type 0
IsScalar (Some v) = scalar v ≡ true
IsScalar None = Unit {0}

named_scalar : (body : List ℕ) → IsScalar (named body)
unfolding named
named_scalar [] = tt
named_scalar (b ∷ r) = both_arms IsScalar (eqb b (code "_")) tt (go (radix16 (without_underscore (b ∷ r))))
  where
    go : (o : Option ℕ) → IsScalar (if_scalar o)
    go (Some v) = by_cond IsScalar (scalar v) _ _ (λ e. e) (λ _. tt)
    go None = tt

held_unicode : (r : List ℕ) → 1 < length r → Held r (unicode_of (drop 2 r) (braced (drop 2 r)))
held_unicode r h = go (braced (drop 2 r)) (λ body e. braced_inside (drop 2 r) body e)
  where
    ends : (body : List ℕ) → suc (length body) ≤ length (drop 2 r) → 2 + suc (length body) ≤ length r
    ends body l = omega (arith, length-drop 2 r)

    as_char : (body : List ℕ) (o : Option ℕ) → IsScalar o → suc (length body) ≤ length (drop 2 r) → Held r (char_or o (2 + suc (length body)))
    as_char body (Some v) s l = (s, omega (arith, (encoded v).few), ends body l)
    as_char body None s l = ends body l

    go : (o : Option (List ℕ)) → ((body : List ℕ) → o ≡ Some body → suc (length body) ≤ length (drop 2 r)) → Held r (unicode_of (drop 2 r) o)
    go (Some body) f = as_char body (named body) (named_scalar body) (f body refl)
    go None f = omega (arith, length-drop 2 r)

pub held : (r : List ℕ) → Held r (escape_at r)
unfolding escape_at
held r =
    let P = Held r in
    held_short r _
    (by_cond P (eqb (get_or r 0 0) (code "x")) _ _ (λ _. held_byte r) (λ _.
    by_cond P (eqb (get_or r 0 0) (code "u") && eqb (get_or r 1 0) (code "{")) _ _
    (λ e. held_unicode r (here r 1 (code "{") (omega arith) (and_right (eqb (get_or r 0 0) (code "u")) (eqb (get_or r 1 0) (code "{")) e))) (λ _. zero-le)))

pub held_char : (r : List ℕ) (v n : ℕ) → escape_at r ≡ Char v n → Held r (Char v n)
held_char r v n e = rw e at (held r)

pub held_verbatim : (r : List ℕ) (n : ℕ) → escape_at r ≡ Verbatim n → n ≤ length r
held_verbatim r n e = rw e at (held r)
