use Rattle.std.proofs.Common.{subst, sym, ◌*◌}
use Rattle.vp_transform.proofs.Bounds.{idct-within}
use Rattle.vp_transform.specs.Fits.{EachWithin}
use Rattle.vp_transform.proofs.reference.idct.Goals as goal

pub returns-then-is_narrow-clause-within : goal.returns-then-is_narrow-clause-within
returns-then-is_narrow-clause-within c b h = subst (λ v. EachWithin (4 * b) v) (sym c.narrow_idct.ensures) (idct-within b c.args.block.now h)

pub returns-else-is_narrow-clause-within : goal.returns-else-is_narrow-clause-within
returns-else-is_narrow-clause-within c b h = subst (λ v. EachWithin (4 * b) v) (sym c.wide_idct.ensures) (idct-within b c.args.block.now h)
