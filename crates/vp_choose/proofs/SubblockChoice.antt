-- The choice of the subblocks, one after another. One that is left because it costs too much could be completed.
use Rattle.std.proofs.Common.{◌≡◌, ◌∙◌, ℕ, zero, suc, ◌+◌, ◌-◌, ◌<◌, ◌≤◌, List, length, replicate, set, length-set, refl, sym, ap, subst, arith, inl, inr, below_more}
use Rattle.std.proofs.lemmas.Bool.{cases_lt}
use Rattle.std.proofs.lemmas.List.{get_or-set_same, get_or-set_other}
use Rattle.vp_base.specs.declared.place.Place.{Place}
use Rattle.vp_base.specs.Raster.{Raster}
use Rattle.vp_base.specs.Near.{block_place}
use Rattle.vp_base.proofs.OverLemmas.{over-more, over-same}
use Rattle.vp_tables.specs.declared.modes.SubMode.{SubMode}
use Rattle.vp_tables.specs.declared.modes.SubMode.TheVariants.{Dc}
use Rattle.vp_tokens.specs.Block.{Block, no_tokens}
use Rattle.vp_quant.specs.declared.factors.Factors.{Factors}
use Rattle.vp_recon.specs.Residue.{residue}
use Rattle.vp_recon.specs.Rebuilt.{with_sub}
use Rattle.vp_search.specs.FirstLeast.{IsFirstLeast}
use Rattle.vp_search.specs.Sums.{sum_below}
use Rattle.vp_search.proofs.SumLemmas.{sum_below-none, sum_below-same, sum_below-more}
use Rattle.vp_choose.specs.declared.subblocks.Subblocks.{Subblocks}
use Rattle.vp_choose.specs.Costs.{sub_cost}
use Rattle.vp_choose.specs.Levels.{part}
use Rattle.vp_choose.specs.Subblocks.{IsBestMode, sub_levels, mode_at, mode_of, levels_in, sub_rebuilt, after_subblocks}
use Rattle.vp_choose.specs.Below.{AreSubblocksOver}

-- what is chosen so far, but for its cost
abbrev pub made : List SubMode → List Block → Subblocks
made modes blocks = record { modes = modes; blocks = blocks; cost = 0 }

-- the first n subblocks have the same modes and levels
pub record AreAlike (n : ℕ) (s t : Subblocks) : Type 0 where
  pub modes : (k : ℕ) → k < n → mode_of s k ≡ mode_of t k
  pub levels : (k : ℕ) → k < n → levels_in s k ≡ levels_in t k

-- the plane after some subblocks does not look at later ones
pub after_alike : (factors : Factors) (place : Place) (p : Raster) (s t : Subblocks) (n k : ℕ) → k ≤ n → AreAlike n s t
    → after_subblocks factors place p s k ≡ after_subblocks factors place p t k
after_alike factors place p s t n k most h =
    over-same k (sub_rebuilt factors place s) (sub_rebuilt factors place t) p (λ j below q. rw (h.modes j (omega arith), h.levels j (omega arith)))

module _ (f : ℕ → ℕ → ℕ) (factors : Factors) (place : Place) (p : Raster) where
  -- subblock k is chosen
  pub record IsOne (s : Subblocks) (k : ℕ) : Type 0 where
    pub mode : IsBestMode (part 4 f k) (after_subblocks factors place p s k) (block_place 4 place k) (mode_of s k)
    pub levels : levels_in s k ≡ sub_levels (part 4 f k) (after_subblocks factors place p s k) (block_place 4 place k) (mode_of s k) factors

  abbrev pub cost_at : Subblocks → ℕ → ℕ
  cost_at s k = sub_cost (part 4 f k) (after_subblocks factors place p s k) (block_place 4 place k) (mode_of s k)

  -- the first k subblocks are chosen
  pub record AreFirstChosen (k cost : ℕ) (s : Subblocks) : Type 0 where
    pub each : (j : ℕ) → j < k → IsOne s j
    pub sum : cost ≡ sum_below k (cost_at s)

  pub cost_alike : (s t : Subblocks) (n k : ℕ) → k < n → AreAlike n s t → cost_at s k ≡ cost_at t k
  cost_alike s t n k below h = rw (after_alike factors place p s t n k (omega arith) h, h.modes k below)

  one_alike : (s t : Subblocks) (n k : ℕ) → k < n → AreAlike n s t → IsOne t k → IsOne s k
  one_alike s t n k below h is =
      let after = after_alike factors place p s t n k (omega arith) h in
      record { mode = rw (after, h.modes k below) is.mode; levels = rw (h.levels k below, after, h.modes k below) is.levels }

-- subblock k is put
module _ (factors : Factors) (place : Place) (p : Raster) (modes : List SubMode) (blocks : List Block) (k : ℕ) (mode : SubMode) (own : Block)
    (m : k < length modes) (l : 1 + k < length blocks) where
  abbrev old : Subblocks
  old = made modes blocks

  abbrev new : Subblocks
  new = made (set modes k mode) (set blocks (1 + k) own)

  others : AreAlike k new old
  others = record {
    modes = λ j below. get_or-set_other modes k j mode Dc (omega arith);
    levels = λ j below. ap (λ (b : Block). b.levels) (get_or-set_other blocks (1 + k) (1 + j) own no_tokens (omega arith));
  }

  after_others : after_subblocks factors place p new k ≡ after_subblocks factors place p old k
  after_others = after_alike factors place p new old k k (let e : k ≤ k = omega arith in e) others

  own_levels : levels_in new k ≡ own.levels
  own_levels = ap (λ (b : Block). b.levels) (get_or-set_same blocks (1 + k) own no_tokens l)

  pub after_new : after_subblocks factors place p new (k + 1)
      ≡ with_sub (after_subblocks factors place p old k) (block_place 4 place k) mode (residue own.levels factors.y_dc factors.y_ac)
  after_new = over-more k (sub_rebuilt factors place new) p ∙ rw (after_others, get_or-set_same modes k mode Dc m, own_levels)

  pub one_more : (f : ℕ → ℕ → ℕ) (cost d : ℕ) → AreFirstChosen f factors place p k cost old
      → IsBestMode (part 4 f k) (after_subblocks factors place p old k) (block_place 4 place k) mode
      → own.levels ≡ sub_levels (part 4 f k) (after_subblocks factors place p old k) (block_place 4 place k) mode factors
      → d ≡ sub_cost (part 4 f k) (after_subblocks factors place p old k) (block_place 4 place k) mode
      → AreFirstChosen f factors place p (k + 1) (cost + d) new
  one_more f cost d h best has is =
      let mode_here = get_or-set_same modes k mode Dc m in
      let same = sum_below-same k (cost_at f factors place p new) (cost_at f factors place p old) (λ j below. cost_alike f factors place p new old k j below others) in
      let here : cost_at f factors place p new k ≡ d = rw (after_others, mode_here) (sym is) in
      let more = sum_below-more k (cost_at f factors place p new) in
      record {
        each = below_more (IsOne f factors place p new) k (λ j below. one_alike f factors place p new old k j below others (h.each j below))
            (record { mode = rw (after_others, mode_here) best; levels = own_levels ∙ rw (after_others, mode_here) has });
        sum = let before = h.sum in omega arith;
      }

-- ---- a first least number

-- of one number more, which is not less
pub first_before : (n : ℕ) (f : ℕ → ℕ) (k : ℕ) → IsFirstLeast n f k → f k ≤ f n → IsFirstLeast (suc n) f k
first_before n f k is most =
    let w = is.within in
    record { within = omega arith; least = λ j below. below_more (λ i. f k ≤ f i) n is.least most j (omega arith); first = is.first }

-- .. which is less
pub first_behind : (n : ℕ) (f : ℕ → ℕ) (k : ℕ) → IsFirstLeast n f k → f n < f k → IsFirstLeast (suc n) f n
first_behind n f k is less = record {
  within = omega arith;
  least = λ j below. below_more (λ i. f n ≤ f i) n (λ i b. let l = is.least i b in omega arith) (omega arith) j (omega arith);
  first = λ j below. let l = is.least j below in omega arith;
}

pub record HasFirst (n : ℕ) (f : ℕ → ℕ) : Type 0 where
  pub number : ℕ
  pub is : IsFirstLeast n f number

pub has_first : (n : ℕ) (f : ℕ → ℕ) → HasFirst (suc n) f
has_first zero f = record { number = 0; is = record { within = omega arith; least = λ k below. grind arith; first = λ k below. absurd (omega arith) } }
has_first (suc n) f =
    let old : HasFirst (suc n) f = has_first n f in
    elim (cases_lt (f (suc n)) (f old.number)) [
      | inl less ↦ record { number = suc n; is = first_behind (suc n) f old.number old.is less }
      | inr most ↦ record { number = old.number; is = first_before (suc n) f old.number old.is most }
    ]

-- ---- the subblocks that are left

module _ (f : ℕ → ℕ → ℕ) (factors : Factors) (place : Place) (p : Raster) where
  -- the other n are chosen
  completed : (n k cost : ℕ) (modes : List SubMode) (blocks : List Block) → k + n ≡ 16 → length modes ≡ 16 → length blocks ≡ 25
      → AreFirstChosen f factors place p k cost (made modes blocks) → AreSubblocksOver f factors place p cost
  completed zero k cost modes blocks e m l h =
      let all : AreFirstChosen f factors place p 16 cost (made modes blocks) =
      subst (λ (i : ℕ). AreFirstChosen f factors place p i cost (made modes blocks)) (let e : k ≡ 16 = omega arith in e) h in
      record {
        subblocks = record { modes = modes; blocks = blocks; cost = cost };
        chosen = record { modes = λ j below. (all.each j below).mode; levels = λ j below. (all.each j below).levels; cost = all.sum };
        over = omega arith;
      }
  completed (suc n) k cost modes blocks e m l h =
      let q : Raster = after_subblocks factors place p (made modes blocks) k in
      let here : Place = block_place 4 place k in
      let best : HasFirst 10 (λ i. sub_cost (part 4 f k) q here (mode_at i)) = has_first 9 (λ i. sub_cost (part 4 f k) q here (mode_at i)) in
      let mode : SubMode = mode_at best.number in
      let own : Block = record { levels = sub_levels (part 4 f k) q here mode factors; end = 0 } in
      let d : ℕ = sub_cost (part 4 f k) q here mode in
      let rest : AreSubblocksOver f factors place p (cost + d) =
      completed n (k + 1) (cost + d) (set modes k mode) (set blocks (1 + k) own) (omega arith) (length-set modes k mode ∙ m) (length-set blocks (1 + k) own ∙ l)
      (one_more factors place p modes blocks k mode own (omega arith) (omega arith) f cost d h (record { number = best.number; first = best.is; is = refl }) refl refl) in
      let over = rest.over in
      record { subblocks = rest.subblocks; chosen = rest.chosen; over = omega arith }

  -- the first k cost too much
  pub left : (limit k cost : ℕ) (modes : List SubMode) (blocks : List Block) → k ≤ 16 → limit ≤ cost → length modes ≡ 16 → length blocks ≡ 25
      → AreFirstChosen f factors place p k cost (made modes blocks) → AreSubblocksOver f factors place p limit
  left limit k cost modes blocks most enough m l h =
      let all = completed (16 - k) k cost modes blocks (omega arith) m l h in
      let over = all.over in
      record { subblocks = all.subblocks; chosen = all.chosen; over = omega arith }

  -- none is chosen yet
  pub none_chosen : (s : Subblocks) → AreFirstChosen f factors place p 0 0 s
  none_chosen s = record { each = λ j below. absurd (omega arith); sum = sym (sum_below-none (cost_at f factors place p s)) }

  -- no choice costs less than nothing
  pub free_subblocks : (limit : ℕ) → limit ≡ 0 → AreSubblocksOver f factors place p limit
  free_subblocks limit free =
      left limit 0 0 (replicate 16 Dc) (replicate 25 no_tokens) (omega arith) (omega arith) refl refl (none_chosen (made (replicate 16 Dc) (replicate 25 no_tokens)))
