-- Answers as numbers.
-- Assumes nothing.
use mathlib.Core.Path.{◌≡◌, refl}
use mathlib.Core.List.{[], ◌∷◌}
use Rattle.format.specs.Refusals.{output_too_short, event_out_of_order, not_json, times_fall_in_second}
use Rattle.lulzhemor.specs.Answer.{counted_answer, of_read, sizes_after, of_entities, entities_sizes_after, of_judged, of_merged, of_listed}
use Rattle.std.specs.Prelude.{Err, None, Ok, Some}

-- two commas cut
two_places : counted_answer (Ok 2) ≡ 2
two_places = refl

-- refusal 5: the output is too short
spelled_too_short : counted_answer (Err output_too_short) ≡ 4294967301
spelled_too_short = refl

-- a pack of 13 nodes and 5 text bytes
event_read : of_read (Ok (Some (record { nodes = 13; texts = 5 }))) ≡ 1
event_read = refl

pack_sizes : sizes_after (Ok (Some (record { nodes = 13; texts = 5 }))) (7 ∷ 7 ∷ []) ≡ 13 ∷ 5 ∷ []
pack_sizes = refl

-- of a blank line nothing is written
blank_sizes : sizes_after (Ok None) (7 ∷ 7 ∷ []) ≡ 7 ∷ 7 ∷ []
blank_sizes = refl

-- entities JSON without an entity: a pack of 9 nodes and no text byte
entities_read : of_entities (Ok (record { nodes = 9; texts = 0 })) ≡ 1
entities_read = refl

entities_sizes : entities_sizes_after (Ok (record { nodes = 9; texts = 0 })) (7 ∷ 7 ∷ []) ≡ 9 ∷ 0 ∷ []
entities_sizes = refl

-- refusal 36: the sizes stay
no_json : of_entities (Err not_json) ≡ 4294967332
no_json = refl

no_json_sizes : entities_sizes_after (Err not_json) (7 ∷ 7 ∷ []) ≡ 7 ∷ 7 ∷ []
no_json_sizes = refl

-- refusal 18 at line 3
refused_at_line : of_judged (Err (record { refusal = event_out_of_order; line = 3 })) ≡ 4294968082
refused_at_line = refl

-- refusal 46 at line 3 of the second log
times_fall : of_merged (Err (record { refusal = times_fall_in_second; log = 2; line = 3 })) ≡ 4429185838
times_fall = refl

-- nothing is listed of a blank line
blank_listed : of_listed (Ok None) ≡ 0
blank_listed = refl
