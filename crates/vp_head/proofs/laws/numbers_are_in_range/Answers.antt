use Rattle.vp_head.proofs.TagLemmas.{tag_in_range}
use Rattle.vp_head.proofs.HeaderLemmas.{header_in_range, header-key, defaults_in_range}
use Rattle.vp_head.proofs.laws.numbers_are_in_range.Goals as goal

pub returns : goal.returns
returns c = record { tags = tag_in_range; headers = header_in_range; defaults = defaults_in_range; kinds = header-key }
