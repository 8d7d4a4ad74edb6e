-- Document 01's proof set, one theorem over all twelve facts.
-- Assumes nothing.
use Rattle.cuts.proofs.Examples.{body_places, empty_pieces, below_zero}
use Rattle.escapes.proofs.Examples.{fact_1, fact_2, fact_3, fact_4}
use Rattle.guarantees.specs.ProofSet.{ProofSet}
use Rattle.guarantees.proofs.Facts.{out_of_order, one_key, values_read}

pub proof_set : ProofSet
proof_set = (fact_1, fact_2, fact_3, fact_4, empty_pieces, body_places, below_zero, out_of_order, one_key, values_read.0, values_read.1, values_read.2)
