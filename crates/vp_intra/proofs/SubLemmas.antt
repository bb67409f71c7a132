-- Lemmas on the pixels of a subblock.
use Rattle.std.proofs.Common.{◌≡◌, ℕ, List, [], ◌∷◌, length, map, refl, ap₂}
use Rattle.vp_base.specs.Raster.{Raster}
use Rattle.vp_tables.specs.declared.modes.SubMode.{SubMode}
use Rattle.vp_tables.specs.declared.modes.SubMode.TheVariants.{Dc, Tm, Ve, He, Ld, Rd, Vr, Vl, Hd, Hu}
use Rattle.vp_intra.specs.Edges.{block}
use Rattle.vp_intra.specs.Sub.{predicted, around, sub_pixel}
use Rattle.vp_intra.proofs.BlockLemmas.{is_block}

pub length-predicted : (m : SubMode) (es : List ℕ) → length (predicted m es) ≡ 16
length-predicted Dc es = refl
length-predicted Tm es = refl
length-predicted Ve es = refl
length-predicted He es = refl
length-predicted Ld es = refl
length-predicted Rd es = refl
length-predicted Vr es = refl
length-predicted Vl es = refl
length-predicted Hd es = refl
length-predicted Hu es = refl

pub sub_block : (m : SubMode) (p : Raster) (x y : ℕ) → predicted m (around p x y) ≡ block 4 (sub_pixel m p x y)
unfolding sub_pixel
sub_block m p x y =
    is_block 4 (sub_pixel m p x y) (predicted m (around p x y)) (length-predicted m (around p x y)) (λ r c rin cin. refl)

-- the same of several modes
pub all_blocks : (ms : List SubMode) (p : Raster) (x y : ℕ) → map (λ m. predicted m (around p x y)) ms ≡ map (λ m. block 4 (sub_pixel m p x y)) ms
all_blocks [] p x y = refl
all_blocks (m ∷ ms) p x y = ap₂ (λ (b : List ℕ) (bs : List (List ℕ)). b ∷ bs) (sub_block m p x y) (all_blocks ms p x y)

-- lists of equal items
pub items_same : {A : Type 0} {x y : A} {xs ys : List A} → x ≡ y → xs ≡ ys → x ∷ xs ≡ y ∷ ys
items_same {A = A} first rest = ap₂ (λ (z : A) (zs : List A). z ∷ zs) first rest
