use Rattle.vp_head.proofs.TagLemmas.{tag_of-key, tag_of-inter}
use Rattle.vp_head.proofs.laws.first_byte_says_kind.Goals as goal

pub returns : goal.returns
returns c = record { key = tag_of-key; inter = tag_of-inter }
