-- What is chosen for the pixels of a macroblock is one.
use Rattle.std.proofs.Common.{◌≡◌, ◌∙◌, ℕ, zero, suc, ◌<◌, ◌≤◌, Bool, true, false, refl, sym, ap, subst, arith, below_more}
use Rattle.vp_base.specs.declared.place.Place.{Place}
use Rattle.vp_base.specs.Raster.{Raster}
use Rattle.vp_base.specs.Near.{block_place}
use Rattle.vp_base.specs.Image.{Image}
use Rattle.vp_tables.specs.declared.modes.SubMode.{SubMode}
use Rattle.vp_tables.specs.declared.modes.LumaMode.{LumaMode}
use Rattle.vp_tables.specs.declared.modes.ChromaMode.{ChromaMode}
use Rattle.vp_quant.specs.declared.factors.Factors.{Factors}
use Rattle.vp_search.specs.FirstLeast.{IsFirstLeast}
use Rattle.vp_search.proofs.RefinedLemmas.{first_is_one}
use Rattle.vp_search.proofs.SumLemmas.{sum_below-same}
use Rattle.vp_choose.specs.declared.subblocks.Subblocks.{Subblocks}
use Rattle.vp_choose.specs.Costs.{sub_cost, chroma_cost}
use Rattle.vp_choose.specs.Levels.{part}
use Rattle.vp_choose.specs.Subblocks.{IsBestMode, AreSubblocksChosen, mode_at, mode_of, levels_in, after_subblocks}
use Rattle.vp_choose.specs.Intra.{LumaChoice, IsLuma, IsChroma, luma_cost, luma_at, chroma_at}
use Rattle.vp_choose.proofs.SubblockChoice.{AreAlike, after_alike, cost_at, cost_alike}

pub either : {A : Type 0} (b : Bool) → (b ≡ true → A) → (b ≡ false → A) → A
either true on off = on refl
either false on off = off refl

mode_is_one : (f : ℕ → ℕ → ℕ) (p : Raster) (place : Place) (a b : SubMode) → IsBestMode f p place a → IsBestMode f p place b → a ≡ b
mode_is_one f p place a b h k =
    h.is ∙ ap mode_at (first_is_one 10 (λ i. sub_cost f p place (mode_at i)) h.number k.number h.first k.first) ∙ sym k.is

module _ (f : ℕ → ℕ → ℕ) (factors : Factors) (place : Place) (p : Raster) (s t : Subblocks) (a : AreSubblocksChosen f factors place p s) (b : AreSubblocksChosen f factors place p t) where
  alike : (n : ℕ) → n ≤ 16 → AreAlike n s t
  alike zero most = record { modes = λ k h. absurd (omega arith); levels = λ k h. absurd (omega arith) }
  alike (suc n) most =
      let below : n < 16 = omega arith in
      let old : AreAlike n s t = alike n (omega arith) in
      let after = after_alike factors place p s t n n (let e : n ≤ n = omega arith in e) old in
      let mode = mode_is_one (part 4 f n) (after_subblocks factors place p t n) (block_place 4 place n) (mode_of s n) (mode_of t n) (rw after at (a.modes n below)) (b.modes n below) in
      record {
        modes = λ k h. below_more (λ i. mode_of s i ≡ mode_of t i) n old.modes mode k (omega arith);
        levels = λ k h. below_more (λ i. levels_in s i ≡ levels_in t i) n old.levels (rw (after, mode) at (a.levels n below) ∙ sym (b.levels n below)) k (omega arith);
      }

  cost_is_one : s.cost ≡ t.cost
  cost_is_one =
      let all = alike 16 (omega arith) in
      a.cost ∙ sum_below-same 16 (cost_at f factors place p s) (cost_at f factors place p t) (λ k h. cost_alike f factors place p s t 16 k h all) ∙ sym b.cost

pub record AreSameLuma (l m : LumaChoice) : Type 0 where
  pub mode : l.mode ≡ m.mode
  pub cost : l.cost ≡ m.cost
  pub subblocks : AreAlike 16 l.subblocks m.subblocks

pub luma_is_one : (f : ℕ → ℕ → ℕ) (factors : Factors) (place : Place) (p : Raster) (l m : LumaChoice) → IsLuma f factors place p l → IsLuma f factors place p m → AreSameLuma l m
luma_is_one f factors place p l m a b =
    let c : l.subblocks.cost ≡ m.subblocks.cost = cost_is_one f factors place p l.subblocks m.subblocks a.subblocks b.subblocks in
    let first : IsFirstLeast 5 (λ i. luma_cost f p place m.subblocks.cost (luma_at i)) a.number =
    subst (λ (x : ℕ). IsFirstLeast 5 (λ i. luma_cost f p place x (luma_at i)) a.number) c a.first in
    let number : a.number ≡ b.number = first_is_one 5 (λ i. luma_cost f p place m.subblocks.cost (luma_at i)) a.number b.number first b.first in
    let mode : l.mode ≡ m.mode = a.mode ∙ ap luma_at number ∙ sym b.mode in
    record {
      mode = mode;
      cost = a.cost ∙ ap (λ (x : ℕ). luma_cost f p place x l.mode) c ∙ ap (λ (x : LumaMode). luma_cost f p place m.subblocks.cost x) mode ∙ sym b.cost;
      subblocks = alike f factors place p l.subblocks m.subblocks a.subblocks b.subblocks 16 (omega arith);
    }

pub chroma_is_one : (source : Image) (place : Place) (p : Image) (a b : ChromaMode) → IsChroma source place p a → IsChroma source place p b → a ≡ b
chroma_is_one source place p a b h k =
    h.is ∙ ap chroma_at (first_is_one 4 (λ i. chroma_cost source p place (chroma_at i)) h.number k.number h.first k.first) ∙ sym k.is
