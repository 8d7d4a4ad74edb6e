-- Of inner functions alone: how the code walks a text. No rule of document 01 stands here: the laws that tie these to `Unescape`
-- are in `proofs/Braces` (`braces_named`), `proofs/Escapes` (`short_code`) and `proofs/Unescaping` (`unescape_run`).
-- Assumes nothing.
use Rattle.std.specs.Prelude.{Bool, true, false, cond, List, [], ◌∷◌, ℕ, suc, ◌+◌, eqb, length, get_or, drop}
use Prim.Native.Char.{code}
use Rattle.escapes.specs.Unescape.{digits_from, without_underscore, if_scalar, braced, char_or, unicode_of}
use Rattle.escapes.specs.declared.Escape.{Escape}
use Rattle.escapes.specs.declared.Escape.TheVariants.{Verbatim}
use Rattle.std.specs.Prelude.{None, Option, Some}

-- how many bytes stand before the first backslash
unfoldable pub plain_run : List ℕ → ℕ
plain_run [] = 0
plain_run (b ∷ r) = cond (eqb b (code "\\")) 0 (suc (plain_run r))

-- what the short escape with the letter b stands for
unfoldable pub short_of : ℕ → Option ℕ
short_of b =
    cond (eqb b (code "0")) (Some 0)
    (cond (eqb b (code "t")) (Some (code "\t"))
    (cond (eqb b (code "n")) (Some (code "\n"))
    (cond (eqb b (code "r")) (Some (code "\r"))
    (cond (eqb b (code "\"")) (Some (code "\""))
    (cond (eqb b (code "'")) (Some (code "'"))
    (cond (eqb b (code "\\")) (Some (code "\\")) None))))))

-- What \u{..} comes to where n bytes behind the backslash were read, r follows, and `reads` says what the bytes before the } name.
abbrev pub braces_of : (List ℕ → Option ℕ) → ℕ → List ℕ → Option (List ℕ) → Escape
braces_of reads n r (Some body) = char_or (reads body) (n + suc (length body))
braces_of reads n r None = Verbatim (n + length r)

unfoldable pub braces : (List ℕ → Option ℕ) → ℕ → List ℕ → Escape
braces reads n r = braces_of reads n r (braced r)

-- nothing is named any more
abbrev pub unnamed : List ℕ → Option ℕ
unnamed body = None

-- hex digits behind the number v, at least one where there was none yet
abbrev pub more_digits : Bool → ℕ → List ℕ → Option ℕ
more_digits true v body = digits_from v body
more_digits false v [] = None
more_digits false v (b ∷ r) = digits_from v (b ∷ r)

-- the scalar value that these digits name, _ among them
unfoldable pub numbered : Bool → ℕ → List ℕ → Option ℕ
numbered seen v body = if_scalar (more_digits seen v (without_underscore body))

-- what a backslash begins with r behind it, where r begins with u: without { it is no escape
abbrev pub unicode_at : List ℕ → Escape
unicode_at r = cond (eqb (get_or r 1 0) (code "{")) (unicode_of (drop 2 r) (braced (drop 2 r))) (Verbatim 0)
