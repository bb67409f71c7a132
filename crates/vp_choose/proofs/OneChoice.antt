-- Two choices for one macroblock are one.
use Rattle.std.proofs.Common.{◌≡◌, ◌∙◌, ℕ, zero, suc, ◌+◌, ◌-◌, ◌<◌, ◌≤◌, Option, Some, None, sym, subst, arith, inl, inr, ext_get_or, true≢false}
use Rattle.std.proofs.lemmas.Bool.{cases_lt}
use Rattle.vp_base.specs.declared.place.Place.{Place}
use Rattle.vp_base.specs.Grid.{Grid}
use Rattle.vp_base.specs.Image.{Image}
use Rattle.vp_tables.specs.declared.modes.SubMode.TheVariants as sub_is
use Rattle.vp_tables.specs.Modes.{is_by_subblocks}
use Rattle.vp_modes.specs.Entry.{Modes}
use Rattle.vp_motion.specs.Vector.{MacroblockMotion}
use Rattle.vp_motion.specs.Near.{candidates}
use Rattle.vp_tokens.specs.declared.contexts.Tokens.{Tokens}
use Rattle.vp_tokens.specs.Block.{Block, IsBlock, IsTight, no_tokens}
use Rattle.vp_tokens.specs.Blocks.{block_of as tokens_of}
use Rattle.vp_tokens.specs.Spelled.{AreTight}
use Rattle.vp_quant.specs.declared.factors.Factors.{Factors}
use Rattle.vp_refs.specs.References.{reference_picture}
use Rattle.vp_recon.specs.Predictor.{Predictor, Intra, Inter}
use Rattle.vp_recon.specs.Prediction.{luma_prediction, chroma_prediction}
use Rattle.vp_choose.specs.declared.motion.Moved.{Moved}
use Rattle.vp_choose.specs.declared.frame.Choice.{Choice}
use Rattle.vp_choose.specs.Costs.{block_pixels}
use Rattle.vp_choose.specs.Levels.{HasLumaAndY2, HasChroma}
use Rattle.vp_choose.specs.Frame.{FrameSearch, Search, no_biases}
use Rattle.vp_choose.specs.Intra.{LumaChoice, IsIntra}
use Rattle.vp_choose.specs.Inter.{IsInter, moved_source, vector_of}
use Rattle.vp_choose.specs.Choice.{IsChoice, IsTaken, IsIntraChoice}
use Rattle.vp_choose.specs.One.{IsWellFormedChoice, AreSameChoice, ChoiceIsOne}
use Rattle.vp_choose.proofs.OneLuma.{either, AreSameLuma, luma_is_one, chroma_is_one}
use Rattle.vp_choose.proofs.OneMotion.{moved_is_one, giving_is_one}

-- ---- tokens by their levels

counts : (a b : Block) → IsBlock a → IsTight b → a.levels ≡ b.levels → b.end ≤ a.end
counts a b behind tight same = elim (cases_lt a.end b.end) [
  | inl less ↦ absurd (tight (omega arith) (rw (← same) (behind.behind (b.end - 1) (omega arith))))
  | inr most ↦ most
]

block_is : (a b : Block) → a.levels ≡ b.levels → a.end ≡ b.end → a ≡ b
block_is a b l t = λ i. record { levels = l i; end = t i }

tokens_are : (t u : Tokens) → t.blocks ≡ u.blocks → t ≡ u
tokens_are t u e = λ i. record { blocks = e i }

-- the levels of block k are the same
abbrev IsSame : Tokens → Tokens → ℕ → Type 0
IsSame t u k = (tokens_of t k).levels ≡ (tokens_of u k).levels

tokens_by_levels : (a b : Choice) → IsWellFormedChoice a → IsWellFormedChoice b → AreTight a.tokens.blocks → AreTight b.tokens.blocks
    → ((k : ℕ) → k < 25 → IsSame a.tokens b.tokens k) → a.tokens ≡ b.tokens
tokens_by_levels a b wa wb ta tb same =
    tokens_are a.tokens b.tokens (ext_get_or no_tokens a.tokens.blocks b.tokens.blocks (wa.number ∙ sym wb.number) (λ k h.
    let n = wa.number in
    let below : k < 25 = omega arith in
    let most = counts (tokens_of a.tokens k) (tokens_of b.tokens k) (wa.blocks k below) (tb k) (same k below) in
    let least = counts (tokens_of b.tokens k) (tokens_of a.tokens k) (wb.blocks k below) (ta k) (sym (same k below)) in
    block_is (tokens_of a.tokens k) (tokens_of b.tokens k) (same k below) (omega arith)))

module _ (t u : Tokens) where
  with_luma : IsSame t u 0 → ((k : ℕ) → k < 16 → IsSame t u (1 + k)) → (k : ℕ) → k < 17 → IsSame t u k
  with_luma y2 luma zero below = y2
  with_luma y2 luma (suc k) below = let e : 1 + k ≡ suc k = omega arith in subst (IsSame t u) e (luma k (omega arith))

  with_chroma : (f g f' g' : ℕ → ℕ → ℕ) (factors : Factors) → ((k : ℕ) → k < 17 → IsSame t u k) → HasChroma f g factors t 1 → HasChroma f g factors u 1
      → HasChroma f' g' factors t 2 → HasChroma f' g' factors u 2 → (k : ℕ) → k < 25 → IsSame t u k
  with_chroma f g f' g' factors luma a b a' b' k below = elim (cases_lt k 17) [
    | inl first ↦ luma k first
    | inr behind ↦ elim (cases_lt k 21) [
      | inl second ↦ (let e : 17 + (k - 17) ≡ k = omega arith in subst (IsSame t u) e (a (k - 17) (omega arith) ∙ sym (b (k - 17) (omega arith))))
      | inr third ↦ (let e : 21 + (k - 21) ≡ k = omega arith in subst (IsSame t u) e (a' (k - 21) (omega arith) ∙ sym (b' (k - 21) (omega arith))))
    ]
  ]

  at_once : (f g : ℕ → ℕ → ℕ) (factors : Factors) → HasLumaAndY2 f g factors t → HasLumaAndY2 f g factors u → (k : ℕ) → k < 17 → IsSame t u k
  at_once f g factors a b = with_luma (a.y2 ∙ sym b.y2) (λ k h. a.luma k h ∙ sym (b.luma k h))

-- ---- intra

modes_are : (m n : Modes) → m.segment ≡ n.segment → m.skip ≡ n.skip → m.reference ≡ n.reference → m.luma ≡ n.luma → m.subs ≡ n.subs → m.chroma ≡ n.chroma → m ≡ n
modes_are m n s k r l b c = λ i. record { segment = s i; skip = k i; reference = r i; luma = l i; subs = b i; chroma = c i }

module _ (source : Image) (factors : Factors) (place : Place) (p : Image) (l m : LumaChoice) (same : AreSameLuma l m) (a b : Choice)
    (wa : IsWellFormedChoice a) (wb : IsWellFormedChoice b) (h : IsIntra source factors place p l a.modes a.tokens) (k : IsIntra source factors place p m b.modes b.tokens) where
  luma_mode : a.modes.luma ≡ b.modes.luma
  luma_mode = h.luma ∙ same.mode ∙ sym k.luma

  chroma_mode : a.modes.chroma ≡ b.modes.chroma
  chroma_mode = chroma_is_one source place p a.modes.chroma b.modes.chroma h.chroma k.chroma

  subs : a.modes.subs ≡ b.modes.subs
  subs = either (is_by_subblocks l.mode)
      (λ on. ext_get_or sub_is.Dc a.modes.subs b.modes.subs (wa.subs ∙ sym wb.subs) (λ j below.
      let n = wa.subs in
      rw (h.subs, k.subs, ← same.mode, on) (same.subblocks.modes j (omega arith))))
      (λ off. rw (h.subs, k.subs, ← same.mode, off))

  luma_levels : (j : ℕ) → j < 17 → IsSame a.tokens b.tokens j
  luma_levels = either (is_by_subblocks l.mode)
      (λ on.
      let x = h.by_subblocks on in
      let y = k.by_subblocks (rw (← same.mode) on) in
      with_luma a.tokens b.tokens (x.y2 ∙ sym y.y2) (λ j below. x.luma j below ∙ same.subblocks.levels j below ∙ sym (y.luma j below)))
      (λ off. at_once a.tokens b.tokens (block_pixels 16 source.luma place) (luma_prediction (Intra b.modes) place p.luma) factors
      (rw (luma_mode, subs) at (h.at_once off)) (k.at_once (rw (← same.mode) off)))

  pub intra_levels : (j : ℕ) → j < 25 → IsSame a.tokens b.tokens j
  intra_levels = with_chroma a.tokens b.tokens (block_pixels 8 source.u place) (chroma_prediction (Intra b.modes) 1 place p.u)
      (block_pixels 8 source.v place) (chroma_prediction (Intra b.modes) 2 place p.v) factors
      luma_levels (rw chroma_mode at h.u) k.u (rw chroma_mode at h.v) k.v

  pub intra_modes : a.modes.segment ≡ b.modes.segment → a.modes.skip ≡ b.modes.skip → a.modes ≡ b.modes
  intra_modes segment skip = modes_are a.modes b.modes segment skip (h.reference ∙ sym k.reference) luma_mode subs chroma_mode

-- ---- inter

module _ (source : Image) (factors : Factors) (s : Search) (g : Grid MacroblockMotion) (place : Place) (p : Image) (m : Moved) (a b : Choice)
    (h : IsInter source factors s g place p m a) (k : IsInter source factors s g place p m b) where
  pub inter_motion : a.motion ≡ b.motion
  inter_motion =
      let mode = giving_is_one (candidates g place m.reference no_biases) (vector_of m) a.motion.mode b.motion.mode h.mode k.mode in
      λ i. record { mode = mode i; vectors = (h.vectors ∙ sym k.vectors) i }

  -- the predictors are equal
  by : moved_source s m a ≡ moved_source s m b
  by =
      let reference : a.modes.reference ≡ b.modes.reference = rw (h.modes, k.modes) in
      λ i. Inter (record { reference = reference i; mode = (inter_motion i).mode; vectors = (inter_motion i).vectors }) (reference_picture s.references m.reference) 0

  pub inter_levels : (j : ℕ) → j < 25 → IsSame a.tokens b.tokens j
  inter_levels = with_chroma a.tokens b.tokens (block_pixels 8 source.u place) (chroma_prediction (moved_source s m b) 1 place p.u)
      (block_pixels 8 source.v place) (chroma_prediction (moved_source s m b) 2 place p.v) factors
      (at_once a.tokens b.tokens (block_pixels 16 source.luma place) (luma_prediction (moved_source s m b) place p.luma) factors
      (subst (λ (x : Predictor). HasLumaAndY2 (block_pixels 16 source.luma place) (luma_prediction x place p.luma) factors a.tokens) by h.luma) k.luma)
      (subst (λ (x : Predictor). HasChroma (block_pixels 8 source.u place) (chroma_prediction x 1 place p.u) factors a.tokens 1) by h.u) k.u
      (subst (λ (x : Predictor). HasChroma (block_pixels 8 source.v place) (chroma_prediction x 2 place p.v) factors a.tokens 2) by h.v) k.v

-- ---- both

module _ (frame : FrameSearch) (p : Image) (g : Grid MacroblockMotion) (place : Place) (a b : Choice) (wa : IsWellFormedChoice a) (wb : IsWellFormedChoice b)
    (h : IsChoice frame p g place a) (k : IsChoice frame p g place b) where
  tokens_of_levels : ((j : ℕ) → j < 25 → IsSame a.tokens b.tokens j) → a.tokens ≡ b.tokens
  tokens_of_levels = tokens_by_levels a b wa wb h.tight k.tight

  skips : a.tokens ≡ b.tokens → a.modes.skip ≡ b.modes.skip
  skips e = h.skip ∙ rw e (sym k.skip)

  if_intra : (l m : LumaChoice) → AreSameLuma l m → IsIntraChoice frame p place l a → IsIntraChoice frame p place m b → AreSameChoice a b
  if_intra l m same x y =
      let tokens = tokens_of_levels (intra_levels frame.source frame.factors place p l m same a b wa wb x y) in
      record {
        modes = intra_modes frame.source frame.factors place p l m same a b wa wb x y (h.segment ∙ sym k.segment) (skips tokens);
        tokens = tokens;
        motion = λ off. absurd (true≢false (rw x.reference at off));
      }

  if_inter : (s : Search) (m : Moved) → IsInter frame.source frame.factors s g place p m a → IsInter frame.source frame.factors s g place p m b → AreSameChoice a b
  if_inter s m x y =
      let tokens = tokens_of_levels (inter_levels frame.source frame.factors s g place p m a b x y) in
      record {
        modes = x.modes ∙ rw (skips tokens) (sym y.modes);
        tokens = tokens;
        motion = λ _. inter_motion frame.source frame.factors s g place p m a b x y;
      }

  if_taken : (o : Option Search) (l m : LumaChoice) → AreSameLuma l m → IsTaken o frame p g place l a → IsTaken o frame p g place m b → AreSameChoice a b
  if_taken None l m same x y = if_intra l m same x y
  if_taken (Some s) l m same x y =
      let moved : x.moved ≡ y.moved = moved_is_one s frame.source.luma place x.moved y.moved x.is y.is in
      let costs : x.moved.cost ≡ y.moved.cost = rw moved in
      let lumas : l.cost ≡ m.cost = same.cost in
      elim (cases_lt l.cost x.moved.cost) [
        | inl less ↦ if_intra l m same (x.intra less) (y.intra (omega arith))
        | inr more ↦ if_inter s y.moved (rw moved at (x.inter (omega arith))) (y.inter (omega arith))
      ]

pub choice_is_one : ChoiceIsOne
choice_is_one frame p g place a b wa wb h k = if_taken frame p g place a b wa wb h k frame.search h.luma k.luma
    (luma_is_one (block_pixels 16 frame.source.luma place) frame.factors place p.luma h.luma k.luma h.best k.best) h.taken k.taken
