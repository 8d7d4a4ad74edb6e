-- Wherever Cedar accepts a text, decoding gives the same bytes.
-- Assumes nothing.
use mathlib.Core.Path.{◌≡◌, refl, sym, ap, ◌∙◌}
use mathlib.Core.Bool.{Bool, true, false, cond, ◌&&◌, ◌||◌}
use mathlib.Core.List.{List, [], ◌∷◌, ◌++◌}
use Prim.Native.Nat.{ℕ, zero, suc, ◌+◌, ◌*◌}
use Prim.Native.Char.{code}
use native.Mathlib.Decide.{ℕ_discrete}
use native.Mathlib.Omega.{arith}
use lib.Dec.{leb, eqb}
use lib.ListN.{get_or, drop}
use borrow.Author.Tests.{eqb-true, eqb-false, le-leb}
use Rattle.buffers.proofs.Choice.{by_cond, and_left, and_right}
use Rattle.chars.specs.Utf8.{scalar, encode}
use Rattle.escapes.specs.Unescape.{hex_digit, without_underscore, digits_from, named, braced, char_or, unicode_of, byte_of, short_or, escape_at, unescape_from, unescape}
use Rattle.escapes.specs.Walk.{braces, numbered}
use Rattle.escapes.specs.Cedar.{Literal, char, wrong, ascii_of, next_digit, unicode_from, literal_at, before_rest, literally, cedar_from, cedar}
use Rattle.escapes.specs.declared.Escape.{Escape}
use Rattle.escapes.specs.declared.Escape.TheVariants.{Char}
use Rattle.escapes.proofs.Braces.{braces_named, braces_next, close, same_first, digit, underscore, first_other}
use Rattle.std.specs.Prelude.{None, Option, Some}

-- an escape that Cedar accepts is the same escape in decoding
abbrev Agrees : Literal → Escape → Type 0
Agrees (char v n) e = e ≡ Char v n
Agrees wrong e = Unit {0}

both : (t : Bool) (x y : Literal) (e f : Escape) → Agrees x e → Agrees y f → Agrees (cond t x y) (cond t e f)
both true x y e f p q = p
both false x y e f p q = q

ascii_agrees : (o p : Option ℕ) → Agrees (ascii_of o p) (byte_of o p)
ascii_agrees (Some v) (Some w) = go (leb (v * 16 + w) 0x7F)
  where
    go : (t : Bool) → Agrees (cond t (char (v * 16 + w) 3) wrong) (Char (v * 16 + w) 3)
    go true = refl
    go false = tt
ascii_agrees (Some v) None = tt
ascii_agrees None p = tt

-- the digits between the braces
closed : (v n : ℕ) → scalar v ≡ true → char_or (numbered true v []) n ≡ Char v n
unfolding numbered without_underscore digits_from
closed v n e = rw e

digits_agree : (count v n : ℕ) (r : List ℕ) → Agrees (unicode_from count v n r) (braces (numbered (leb 1 count) v) n r)
unfolding unicode_from
digits_agree count v n [] = tt
digits_agree count v n (b ∷ r) =
    by_cond P (eqb b (code "}")) _ _ (λ e. at_close (eqb-true b (code "}") e)) (λ e.
    by_cond P (eqb b (code "_")) _ _ (λ u. at_underscore (eqb-false b (code "}") e) (eqb-true b (code "_") u) (λ c v. digits_agree c v (n + 1) r)) (λ u.
    at_digit (hex_digit b) refl (eqb-false b (code "}") e) (λ c v. digits_agree c v (n + 1) r)))
  where
    P : Literal → Type 0
    P l = Agrees l (braces (numbered (leb 1 count) v) n (b ∷ r))

    at_close : b ≡ code "}" → P (cond (leb 1 count && (leb count 6 && scalar v)) (char v (n + 1)) wrong)
    at_close e = by_cond P (leb 1 count && (leb count 6 && scalar v)) _ _ (λ t. accepted t) (λ _. tt)
      where
        accepted : (leb 1 count && (leb count 6 && scalar v)) ≡ true → braces (numbered (leb 1 count) v) n (b ∷ r) ≡ Char v (n + 1)
        accepted t =
            rw (e, and_left (leb 1 count) (leb count 6 && scalar v) t)
            (close (numbered true v) n r
            ∙ closed v (n + 1) (and_right (leb count 6) (scalar v) (and_right (leb 1 count) (leb count 6 && scalar v) t)))

    onward : (c : ℕ) (u : ℕ) (l : Literal) → Agrees l (braces (numbered (leb 1 c) u) (n + 1) r)
        → braces (numbered (leb 1 count) v) n (b ∷ r) ≡ braces (numbered (leb 1 c) u) (n + 1) r → P l
    onward c u (char w m) a e = e ∙ a
    onward c u wrong a e = tt

    at_underscore : (b ≡ code "}" → ⊥) → b ≡ code "_" → ((c v : ℕ) → Agrees (unicode_from c v (n + 1) r) (braces (numbered (leb 1 c) v) (n + 1) r))
        → P (cond (leb 1 count) (unicode_from count v (n + 1) r) wrong)
    at_underscore m e ih =
        by_cond P (leb 1 count) _ _
        (λ _. onward count v (unicode_from count v (n + 1) r) (ih count v)
        (braces_next (numbered (leb 1 count) v) (numbered (leb 1 count) v) n b r m (underscore b (leb 1 count) v e)))
        (λ _. tt)

    at_digit : (o : Option ℕ) → hex_digit b ≡ o → (b ≡ code "}" → ⊥)
        → ((c v : ℕ) → Agrees (unicode_from c v (n + 1) r) (braces (numbered (leb 1 c) v) (n + 1) r))
        → P (next_digit o (λ d. unicode_from (suc count) (v * 16 + d) (n + 1) r))
    at_digit (Some d) e m ih =
        onward (suc count) (v * 16 + d) (unicode_from (suc count) (v * 16 + d) (n + 1) r) (ih (suc count) (v * 16 + d))
        (rw (le-leb 1 (suc count) (omega arith))
        (braces_next (numbered (leb 1 count) v) (numbered true (v * 16 + d)) n b r m (digit b (leb 1 count) v d e)))
    at_digit None e m ih = tt

carried : (l : Literal) (e f : Escape) → e ≡ f → Agrees l e → Agrees l f
carried (char v n) e f p a = sym p ∙ a
carried wrong e f p a = tt

-- neither _ nor + comes first
unicode_agrees : (r : List ℕ) → Agrees (unicode_from 0 0 2 r) (unicode_of r (braced r))
unfolding unicode_from hex_digit named numbered without_underscore
unicode_agrees [] = tt
unicode_agrees (b ∷ r) = go (ℕ_discrete b (code "_")) (ℕ_discrete b (code "+"))
  where
    go : Dec (b ≡ code "_") → Dec (b ≡ code "+") → Agrees (unicode_from 0 0 2 (b ∷ r)) (unicode_of (b ∷ r) (braced (b ∷ r)))
    go (yes e) p = rw e tt
    go (no u) (yes e) = rw e tt
    go (no u) (no p) =
        carried (unicode_from 0 0 2 (b ∷ r)) (braces (numbered false 0) 2 (b ∷ r)) (unicode_of (b ∷ r) (braced (b ∷ r)))
        (sym (same_first named (numbered false 0) 2 b r refl (first_other b u p)) ∙ braces_named (b ∷ r))
        (digits_agree 0 0 2 (b ∷ r))

escape_agrees : (r : List ℕ) → Agrees (literal_at r) (escape_at r)
unfolding literal_at escape_at short_or
escape_agrees r =
    let b = get_or r 0 0 in
    both (eqb b (code "0")) _ _ _ _ refl
    (both (eqb b (code "t")) _ _ _ _ refl
    (both (eqb b (code "n")) _ _ _ _ refl
    (both (eqb b (code "r")) _ _ _ _ refl
    (both (eqb b (code "\"")) _ _ _ _ refl
    (both (eqb b (code "'")) _ _ _ _ refl
    (both (eqb b (code "\\")) _ _ _ _ refl
    (both (eqb b (code "x")) _ _ _ _ (ascii_agrees (hex_digit (get_or r 1 0)) (hex_digit (get_or r 2 0)))
    (both (eqb b (code "u") && eqb (get_or r 1 0) (code "{")) _ _ _ _ (unicode_agrees (drop 2 r)) tt))))))))

-- what stands in front is taken off
split : (x : List ℕ) (o : Option (List ℕ)) (out : List ℕ) → before_rest x o ≡ Some out → (y : List ℕ) × (o ≡ Some y) × (x ++ y ≡ out)
split x (Some y) out e = (y, refl, cc)
split x None out e = let z : ◌≡◌ {A = ℕ} 0 1 = cc in absurd (omega arith)

-- the whole text: behind the first k bytes
agrees_from : (k : ℕ) (s out : List ℕ) → cedar_from k s ≡ Some out → unescape_from k s ≡ out
unfolding cedar_from unescape_from
agrees_from k [] out e = cc
agrees_from (suc k) (a ∷ r) out e = agrees_from k r out e
agrees_from zero (a ∷ r) out e = go (eqb a (code "\\")) refl (eqb a (code "\"") || eqb a (code "\r")) (literal_at r) (escape_agrees r) (λ k out e. agrees_from k r out e) e
  where
    go : (t : Bool) → eqb a (code "\\") ≡ t → (u : Bool) (l : Literal) → Agrees l (escape_at r)
        → ((k : ℕ) (out : List ℕ) → cedar_from k r ≡ Some out → unescape_from k r ≡ out)
        → cond t (literally l (λ k. cedar_from k r)) (cond u None (before_rest (a ∷ []) (cedar_from 0 r))) ≡ Some out
        → unescape_from zero (a ∷ r) ≡ out
    go true p u (char v n) g ih e =
        let j = split (encode v) (cedar_from n r) out e in
        rw (p, g) (ap (λ (y : List ℕ). encode v ++ y) (ih n j.0 j.1) ∙ j.2)
    go true p u wrong g ih e = let z : ◌≡◌ {A = ℕ} 0 1 = cc in absurd (omega arith)
    go false p true l g ih e = let z : ◌≡◌ {A = ℕ} 0 1 = cc in absurd (omega arith)
    go false p false l g ih e =
        let j = split (a ∷ []) (cedar_from 0 r) out e in
        rw p (ap (λ (y : List ℕ). a ∷ y) (ih 0 j.0 j.1) ∙ j.2)

-- wherever Cedar accepts a text, decoding gives the same bytes
pub cedar_agrees : (s out : List ℕ) → cedar s ≡ Some out → unescape s ≡ out
cedar_agrees s out e = agrees_from 0 s out e
