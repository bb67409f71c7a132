-- The prediction of a macroblock whose blocks have one vector.
use Rattle.std.proofs.Common.{◌≡◌, ◌∙◌, ℕ, ◌+◌, ◌*◌, ◌/◌, ◌%◌, ◌<◌, List, length, get_or, replicate, sym, arith}
use Rattle.std.proofs.lemmas.List.{get_or-replicate}
use Rattle.vp_base.specs.Raster.{Raster}
use Rattle.vp_motion.specs.Vector.{Vector, MacroblockMotion, zero_vector}
use Rattle.vp_intra.specs.Edges.{block}
use Rattle.vp_intra.proofs.BlockLemmas.{is_block}
use Rattle.vp_inter.specs.declared.vector.PlaneVector.{PlaneVector}
use Rattle.vp_inter.specs.Inter.{inter_pixel}
use Rattle.vp_inter.specs.Vectors.{luma_vector, chroma_vector}
use Rattle.vp_recon.specs.Prediction.{luma_moved, chroma_moved, moved_pixel}
use Rattle.vp_recon.proofs.Parts.{sub_at, sub_below}
use Rattle.vp_recon.proofs.MovedLemmas.{moved_alike}

module _ (e : MacroblockMotion) (v : Vector) (are : e.vectors ≡ replicate 16 v) where
  vector_at : (j : ℕ) → j < 16 → get_or e.vectors j zero_vector ≡ v
  vector_at j below = rw are (get_or-replicate 16 j v zero_vector below)

  pub luma_is : (k : ℕ) → k < 16 → luma_moved e k ≡ luma_vector v.row v.column
  unfolding luma_moved
  luma_is k below = rw (vector_at k below)

  pub chroma_is : (k : ℕ) → k < 4 → chroma_moved 0 e k ≡ chroma_vector 0 (replicate 4 v.row) (replicate 4 v.column)
  unfolding chroma_moved
  chroma_is k below =
      let first : ℕ = 8 * (k / 2) + 2 * (k % 2) in
      rw (
        vector_at (8 * (k / 2) + 2 * (k % 2) + 0) (omega arith),
        vector_at (8 * (k / 2) + 2 * (k % 2) + 1) (omega arith),
        vector_at (8 * (k / 2) + 2 * (k % 2) + 4) (omega arith),
        vector_at (8 * (k / 2) + 2 * (k % 2) + 5) (omega arith),
      )

-- a block whose `across * across` parts have the vector that its pixels are predicted by
pub moved_listed : (across : ℕ) (reference : Raster) (x y : ℕ) (vector : ℕ → PlaneVector) (v : PlaneVector) (xs : List ℕ) → 0 < across * across
    → length xs ≡ 4 * across * (4 * across) → ((k : ℕ) → k < across * across → vector k ≡ v)
    → ((r c : ℕ) → r < 4 * across → c < 4 * across → get_or xs (r * (4 * across) + c) 0 ≡ inter_pixel 0 reference x y v r c)
    → xs ≡ block (4 * across) (moved_pixel 0 reference x y across vector)
moved_listed across reference x y vector v xs some len are same = is_block (4 * across) (moved_pixel 0 reference x y across vector) xs len (λ r c rin cin.
    same r c rin cin ∙ rw (← are 0 some)
    (moved_alike 0 reference x y across vector r c (are (sub_at across r c) (sub_below across r c rin cin) ∙ sym (are 0 some))))
