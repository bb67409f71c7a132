use Rattle.std.proofs.Common.{◌∙◌, ℕ, ℤ, ◌+◌, ◌*◌, List, ap, get_or, refl, arith}
use Rattle.vp_inter.specs.Filter.{filter_six}
use Rattle.vp_inter.specs.Patches.{weights_of}
use Rattle.vp_inter.proofs.FilteredLemmas.{paired_six}
use Rattle.vp_inter.proofs.filtered.FilteredRows.filtered_rows.Goals as goal

pub returns : goal.returns
returns c r k rin kin =
    c.vertical_wide_rows.ensures r k rin kin
    ∙ paired_six (weights_of c.filter.inside.weights) c.self.inside.rows c.self.inside.pairs r k (32 * r) c.self.invariant (omega arith) kin refl
    ∙ ap (λ (rows : List ℕ). filter_six (weights_of c.filter.inside.weights) (λ (j : ℕ). get_or rows ((r + j) * 16 + k) 0)) c.self.view_is
    ∙ ap (λ (weights : List ℤ). filter_six weights (λ (j : ℕ). get_or c.args.self.now ((r + j) * 16 + k) 0)) c.filter.view_is
