-- Readers that tell a meter how far they are. Pinned by the test `a_metered_reader_reads_on`.
use Rattle.std.specs.Prelude.{ℕ, List, Option}
use Rattle.vp_hints.specs.declared.metered.Metered.{Metered}
use Rattle.vp_hints.specs.declared.witness.Witness.{Witness}
use Rattle.vp_hints.specs.Witness.{witness_remaining}

-- the inner reader, with what was seen of it
abbrev pub metered_witness : {R H : Type 0} → Metered R H → Witness R
metered_witness m = m.witness

-- the bytes that the inner reader has left, if known
abbrev pub metered_remaining : {R H : Type 0} → (R → Option (List ℕ)) → Metered R H → Option (List ℕ)
metered_remaining remaining m = witness_remaining remaining m.witness
