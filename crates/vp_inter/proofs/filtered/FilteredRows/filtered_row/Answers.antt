use Rattle.std.proofs.Common.{◌∙◌, ℕ, ℤ, ◌+◌, ◌*◌, List, ap, get_or, refl}
use Rattle.vp_inter.specs.Filter.{filter_six}
use Rattle.vp_inter.specs.Patches.{weights_of}
use Rattle.vp_inter.proofs.FilteredLemmas.{paired_six}
use Rattle.vp_inter.proofs.filtered.FilteredRows.filtered_row.Goals as goal

pub returns : goal.returns
returns c k kin =
    c.vertical_sixteen.ensures k kin
    ∙ paired_six (weights_of c.filter.inside.weights) c.self.inside.rows c.self.inside.pairs c.args.r k (32 * c.args.r) c.self.invariant c.requires kin refl
    ∙ ap (λ (rows : List ℕ). filter_six (weights_of c.filter.inside.weights) (λ (j : ℕ). get_or rows ((c.args.r + j) * 16 + k) 0)) c.self.view_is
    ∙ ap (λ (weights : List ℤ). filter_six weights (λ (j : ℕ). get_or c.args.self.now ((c.args.r + j) * 16 + k) 0)) c.filter.view_is
