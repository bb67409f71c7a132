use Rattle.std.proofs.Common.{◌+◌, ◌<◌, ◌^◌, ap, ◌∙◌, subst, sym, map, pos, ◌+ℤ◌}
use Rattle.vp_transform.specs.Fits.{row_size}
use Rattle.vp_transform.specs.Transform.{iwht, times_hadamard, times_hadamard_rounded}
use Rattle.vp_transform.proofs.Signs.{rows_fit}
use Rattle.vp_transform.proofs.hadamard.wide_iwht.Goals as goal
use lib.Signed.{shr_z as floor_div}

pub by_rows-requires : goal.by_rows-requires
by_rows-requires c r l = subst (λ v. row_size v r + 3 < 2 ^ 63) (sym c.by_columns.ensures) (rows_fit c.args.block.now r l c.requires)

pub returns : goal.returns
unfolding iwht times_hadamard times_hadamard_rounded
returns c =
    c.all_rounded.ensures ∙ ap (λ v. map (λ z. floor_div (z +ℤ pos 3) 8) v) (c.by_rows.ensures.value ∙ ap (λ v. times_hadamard v) c.by_columns.ensures)
