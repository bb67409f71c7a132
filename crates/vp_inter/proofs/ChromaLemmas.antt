-- Lemmas on the blocks of both chroma planes.
use Rattle.std.proofs.Common.{◌≡◌, ◌∙◌, ℕ, ℤ, pos, ◌+ℤ◌, ap, sym}
use Rattle.vp_base.specs.Raster.{Raster}
use Rattle.vp_inter.specs.declared.patch.Patch.{Patch}
use Rattle.vp_inter.specs.declared.vector.PlaneVector.{PlaneVector}
use Rattle.vp_inter.specs.declared.weights.HorizontalFilter.{HorizontalFilter}
use Rattle.vp_inter.specs.Inter.{nearest}
use Rattle.vp_inter.specs.Patches.{IsAt, Selects}

-- a filter of the rows of U is one of the rows of V
pub other_plane : (f : HorizontalFilter) (q s : Patch) (p r : Raster) (x y : ℕ) (v : PlaneVector) → IsAt q p x y v → IsAt s r x y v → p.width ≡ r.width
    → Selects f q 0 → Selects f s 0
other_plane f q s p r x y v at beside alike selects i h = let a = selects i h in (a.0 ∙ same _, a.1 ∙ same _, a.2 ∙ same _)
  where
    same : (n : ℕ) → nearest q.width (q.left +ℤ pos n) ≡ nearest s.width (s.left +ℤ pos n)
    same n =
        ap (λ (k : ℕ). nearest k (q.left +ℤ pos n)) (ap (λ (t : Raster). t.width) at.0 ∙ alike ∙ sym (ap (λ (t : Raster). t.width) beside.0))
        ∙ ap (λ (z : ℤ). nearest s.width (z +ℤ pos n)) (at.1 ∙ sym beside.1)
