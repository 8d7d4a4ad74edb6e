-- Document 01, "Proof set": the twelve facts, each over the definitions that the entry points' contracts name.
-- Assumes nothing.
use Rattle.std.specs.Prelude.{◌≡◌, List, [], ◌∷◌, ◌++◌, ℕ}
use Rattle.buffers.specs.Ascii.{ascii}
use Rattle.format.specs.Limits.{levels}
use Rattle.format.specs.Outcome.{ok}
use Rattle.format.specs.Refusals.{event_out_of_order}
use Rattle.cuts.specs.Split.{split_top_level, cut_places}
use Rattle.escapes.specs.Unescape.{unescape}
use Rattle.keys.specs.Escape.{pinned, entity_uid}
use Rattle.pack.specs.Value.{integer, decimal, string}
use Rattle.values.specs.Parse.{parse}
use Rattle.events.specs.Answer.{refused, read_line, pack_of}
use Rattle.guarantees.specs.Keys.{keys_in}

-- 1 `\u{4_1}` decodes to A
abbrev pub Fact1 : Type 0
Fact1 = unescape (ascii "\\u{4_1}") ≡ ascii "A"

-- 2 `\u{_41}` stays
abbrev pub Fact2 : Type 0
Fact2 = unescape (ascii "\\u{_41}") ≡ ascii "\\u{_41}"

-- 3 `\u{+41}` decodes to A
abbrev pub Fact3 : Type 0
Fact3 = unescape (ascii "\\u{+41}") ≡ ascii "A"

-- 4 `\x4` gives U+0004
abbrev pub Fact4 : Type 0
Fact4 = unescape (ascii "\\x4") ≡ 4 ∷ []

-- 5 an empty body gives one empty piece
abbrev pub Fact5 : Type 0
Fact5 = split_top_level [] ≡ [] ∷ []

-- 6 `a,(b,c),"d,e"` is cut at places 1 and 7
abbrev pub Fact6 : Type 0
Fact6 = cut_places (ascii "a,(b,c),\"d,e\"") ≡ 1 ∷ 7 ∷ []

-- 7 `),a` has no cut
abbrev pub Fact7 : Type 0
Fact7 = cut_places (ascii "),a") ≡ []

-- 8 line `@0 )(` gives 18
abbrev pub Fact8 : Type 0
Fact8 = read_line (ascii "@0 )(") ≡ refused event_out_of_order

-- 9 `K'7` and `K\'7` of type `Cell` give key `Cell::"K\'7"`: spelled from what each decodes to, and as the one stored key in the pack of the
-- line `@0 entities(Cell::"..":{})::""::k()`, with the id as it is written
abbrev pub cell : List ℕ
cell = ascii "Cell"

abbrev pub cell_key : List ℕ
cell_key = cell ++ (ascii "::\"K\\'7\"")

abbrev pub cell_line : List ℕ → List ℕ
cell_line id = ascii "@0 entities(" ++ (cell ++ (ascii "::\"" ++ (id ++ ascii "\":{})::\"\"::k()")))

abbrev pub GivesKey : List ℕ → Type 0
GivesKey id = (entity_uid pinned cell (unescape id) ≡ cell_key) × (keys_in (pack_of (read_line (cell_line id))) ≡ cell_key ∷ [])

abbrev pub Fact9 : Type 0
Fact9 = GivesKey (ascii "K'7") × GivesKey (ascii "K\\'7")

-- 10 `"x::"` is a string
abbrev pub Fact10 : Type 0
Fact10 = parse levels (ascii "\"x::\"") ≡ ok (string (ascii "x::"))

-- 11 `9223372036854775808` is a string, `+5` the integer 5
abbrev pub past_i64 : List ℕ
past_i64 = ascii "9223372036854775808"

abbrev pub Fact11 : Type 0
Fact11 = (parse levels past_i64 ≡ ok (string past_i64)) × (parse levels (ascii "+5") ≡ ok (integer 5))

-- 12 `.5` is a decimal, `.` a string
abbrev pub Fact12 : Type 0
Fact12 = (parse levels (ascii ".5") ≡ ok (decimal (ascii ".5"))) × (parse levels (ascii ".") ≡ ok (string (ascii ".")))

abbrev pub ProofSet : Type 0
ProofSet = Fact1 × Fact2 × Fact3 × Fact4 × Fact5 × Fact6 × Fact7 × Fact8 × Fact9 × Fact10 × Fact11 × Fact12
