use Rattle.std.proofs.Common.{◌∙◌}
use Rattle.vp_motion.specs.Near.{same}
use Rattle.vp_motion.proofs.PackedLemmas.{same-bits}
use Rattle.vp_motion.proofs.packed.PackedVector.is_same.Goals as goal

pub returns : goal.returns
returns c = same-bits c.self.inside.bits c.other.inside.bits c.self.invariant.0 c.other.invariant.0 ∙ (λ i. same (c.self.view_is i) (c.other.view_is i))
