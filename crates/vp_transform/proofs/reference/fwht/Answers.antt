use Rattle.std.proofs.Common.{◌*◌, ◌+◌, ◌<◌, ◌^◌, ap, ◌∙◌, subst, sym, map, pos, ◌+ℤ◌}
use Rattle.vp_transform.specs.Fits.{row_size}
use Rattle.vp_transform.proofs.Waves.{fwht-within}
use Rattle.vp_transform.specs.Fits.{EachWithin}
use Rattle.vp_transform.specs.Forward.{fwht, times_hadamard_halved}
use Rattle.vp_transform.specs.Transform.{times_hadamard}
use Rattle.vp_transform.proofs.Signs.{rows_fit}
use Rattle.vp_transform.proofs.reference.fwht.Goals as goal
use lib.Signed.{shr_z as floor_div}

pub by_rows-requires : goal.by_rows-requires
by_rows-requires c r l = subst (λ v. row_size v r + 3 < 2 ^ 63) (sym c.by_columns.ensures) (rows_fit c.args.block.now r l c.requires)

pub returns : goal.returns
unfolding fwht times_hadamard times_hadamard_halved
returns c =
    let e = c.all_halved.ensures ∙ ap (λ v. map (λ z. floor_div (z +ℤ pos 1) 2) v) (c.by_rows.ensures.value ∙ ap (λ v. times_hadamard v) c.by_columns.ensures) in
    record { value = e; within = λ b h. subst (λ v. EachWithin (8 * b) v) (sym e) (fwht-within b c.args.block.now h) }
