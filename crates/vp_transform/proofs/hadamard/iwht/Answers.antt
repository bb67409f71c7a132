use Rattle.std.proofs.Common.{◌*◌, subst, sym}
use Rattle.vp_transform.specs.Fits.{EachWithin}
use Rattle.vp_transform.proofs.Bounds.{iwht-within}
use Rattle.vp_transform.proofs.hadamard.iwht.Goals as goal

pub returns-then-is_narrow-clause-within : goal.returns-then-is_narrow-clause-within
returns-then-is_narrow-clause-within c b h = subst (λ v. EachWithin (2 * b) v) (sym c.narrow_iwht.ensures) (iwht-within b c.args.block.now h)

pub returns-else-is_narrow-clause-within : goal.returns-else-is_narrow-clause-within
returns-else-is_narrow-clause-within c b h = subst (λ v. EachWithin (2 * b) v) (sym c.wide_iwht.ensures) (iwht-within b c.args.block.now h)
