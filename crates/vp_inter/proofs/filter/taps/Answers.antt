use Rattle.std.proofs.Common.{List, ℤ, ap, length, sym, subst, ◌∙◌}
use Rattle.vp_inter.specs.Narrow.{SumsFitI16}
use Rattle.vp_inter.proofs.NarrowLemmas.{six_taps-gentle}
use Rattle.vp_inter.proofs.filter.taps.Goals as goal

pub invariant_of-result : goal.invariant_of-result
invariant_of-result c =
    let known = six_taps-gentle c.args.eighths c.requires.some c.requires.bound in
    record { count = ap length c.six_taps.ensures ∙ known.0; gentle = subst (λ (w : List ℤ). SumsFitI16 w) (sym c.six_taps.ensures) known.1 }
