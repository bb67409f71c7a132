use Rattle.vp_decode.proofs.PastEndLemmas.{corrupt-past, corrupt-within, corrupt-told, corrupt-not_told}
use Rattle.vp_decode.proofs.laws.corrupt_is_read_past_the_end.Goals as goal

pub returns : goal.returns
returns c =
    let law = c.end_of_partition.ensures in record { past = corrupt-past law; within = corrupt-within law; told = corrupt-told law; not_told = corrupt-not_told law }
