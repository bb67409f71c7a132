use Rattle.std.proofs.Common.{subst, sym, ◌*◌, ◌^◌, ap, ◌∙◌}
use Rattle.vp_transform.specs.Fits.{EachWithin}
use Rattle.vp_transform.specs.Forward.{fdct, column_pass}
use Rattle.vp_transform.proofs.Waves.{transpose-within, fdct-within}
use Rattle.vp_transform.proofs.reference.fdct.Goals as goal

pub columns-requires : goal.columns-requires
columns-requires c = subst (λ v. EachWithin (2 ^ 49) v) (sym c.rows.ensures) (transpose-within (2 ^ 44) c.args.block.now c.requires)

pub returns : goal.returns
unfolding fdct
returns c =
    let e = c.columns.ensures ∙ ap (λ v. column_pass v) c.rows.ensures in
    record { value = e; within = λ b h. subst (λ v. EachWithin (8 * b) v) (sym e) (fdct-within b c.args.block.now h) }
