use Rattle.std.proofs.Common.{ℕ, ◌+◌, ◌*◌, ◌≤◌, List, get_or, subst}
use Rattle.vp_inter.specs.Inter.{nearest, reference_pixel}
use Rattle.vp_inter.proofs.patch.Patch.at.Goals as goal

pub returns-clause-bytes : goal.returns-clause-bytes
unfolding reference_pixel
returns-clause-bytes c column row =
    let p = c.args.plane.now in
    let at : ℕ = nearest p.height row * p.width + nearest p.width column in
    subst (λ (s : List ℕ). get_or s at 0 ≤ 255) c.pixels-pixels.ensures.value (c.are_bytes.ensures at)
