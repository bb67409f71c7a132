use Rattle.std.proofs.Common.{◌∙◌, ◌++◌, sym, ap, append_assoc}
use Rattle.vp_lines.proofs.ListingLemmas.{both_true, more_faults}
use Rattle.vp_lines.proofs.listing.print_faults.Goals as goal

pub loop-rest-preserved : goal.loop-rest-preserved
loop-rest-preserved g c =
    let inv = c.loop-rest.invariant in
    let some = c.split_at.result.0.now in
    let others = c.split_at.result.1.now in (
      inv.0 ++ some,
      inv.1 ∙ (ap (λ faults. inv.0 ++ faults) c.split_at.ensures.by_index.0 ∙ sym (append_assoc inv.0 some others)),
      λ well.
          let both = both_true _ _ well in
          more_faults _ _ _ inv.0 some (inv.2 both.0) (c.put_faults-well.ensures both.1),
    )
