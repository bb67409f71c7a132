use Rattle.std.proofs.Common.{◌∙◌, ◌+◌, ◌*◌, sym, arith}
use Rattle.std.proofs.lemmas.List.{get_or-replicate}
use Rattle.vp_inter.proofs.filtered.FilteredRows.new.Goals as goal

pub invariant_of-result : goal.invariant_of-result
invariant_of-result c x t xin tin =
    get_or-replicate 608 (2 * x + t) 0 0 (omega arith) ∙ sym (get_or-replicate 352 (x + 48 * t) 0 0 (omega arith))

pub returns : goal.returns
returns c k h = get_or-replicate 352 k 0 0 h
