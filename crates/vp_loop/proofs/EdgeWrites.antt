-- Lines that are written across an edge, but for the pixels that the step keeps.
use Rattle.std.proofs.Common.{◌≡◌, ◌∙◌, ℕ, zero, suc, ◌+◌, ◌-◌, ◌<◌, ◌≤◌, Bool, true, false, cond, ◌&&◌, refl, ap, ap₂, sym, subst, arith, inl, inr}
use Rattle.std.proofs.lemmas.Bool.{cases_lt}
use Rattle.std.proofs.lemmas.Bool.Decides.{nat_tests}
use Rattle.vp_base.specs.Raster.{Raster, pixel}
use Rattle.vp_base.specs.Block.{with_block, is_in_block, IsWhole}
use Rattle.vp_base.specs.Image.{Image}
use Rattle.vp_base.proofs.BlockLemmas.{pixel-with_block, IsWhole-with_block, with_block_none, same_raster}
use Rattle.vp_loop.specs.declared.edges.Orientation.{Orientation}
use Rattle.vp_loop.specs.declared.edges.Orientation.TheVariants.{Vertical, Horizontal}
use Rattle.vp_loop.specs.declared.edges.Edge.{Edge}
use Rattle.vp_loop.specs.declared.lines.Line.{Line}
use Rattle.vp_loop.specs.declared.lines.LineStep.{LineStep}
use Rattle.vp_loop.specs.declared.lanes.Lines.{Lines}
use Rattle.vp_loop.specs.declared.limits.EdgeLimits.{EdgeLimits}
use Rattle.vp_loop.specs.declared.limits.FilterKind.{FilterKind}
use Rattle.vp_loop.specs.declared.limits.FilterKind.TheVariants as filter_is
use Rattle.vp_loop.specs.LineSteps.{is_small_step, is_smooth, is_high, common_adjusted, subblock_edge_filtered, stepped}
use Rattle.vp_loop.specs.Lanes.{KeepsEnds, line_of, own_line, IsEdgeIn, HasLines, EachPlane, on_planes, with_lines, unwritten}
use Rattle.vp_loop.specs.Edges.{pick, pixel_at, edge_lines, subblock_step}
use Rattle.vp_loop.proofs.EdgeLemmas.{on_planes-none, on_planes-same}
use Rattle.vp_loop.proofs.StepLemmas.{cond_both, stepped_ends, pixel_at-line_at, edge_pixel, at_once}

-- ---- what the steps keep

pub keeps_last : (step : LineStep) → KeepsEnds 1 step
keeps_last step l zero h = stepped_ends step l
keeps_last step l (suc n) h = absurd (omega arith)

-- a step inside a macroblock
inside_kept : (kind : FilterKind) (limits : EdgeLimits) (limit : ℕ) (l : Line) → let step = subblock_step (record limits { kind = kind }) limit in
    ((stepped step l).p2 ≡ l.p2) × ((stepped step l).q2 ≡ l.q2)
unfolding stepped
inside_kept filter_is.Simple limits limit l = cond_both (λ m. (m.p2 ≡ l.p2) × (m.q2 ≡ l.q2)) (is_small_step limit l) (common_adjusted true l) l (refl, refl) (refl, refl)
inside_kept filter_is.Normal limits limit l =
    cond_both (λ m. (m.p2 ≡ l.p2) × (m.q2 ≡ l.q2)) (is_small_step limit l && is_smooth limits.interior l) (subblock_edge_filtered (is_high limits.hev l) l) l (refl, refl) (refl, refl)

pub keeps_two : (limits : EdgeLimits) (limit : ℕ) → KeepsEnds 2 (subblock_step limits limit)
keeps_two limits limit l zero h = stepped_ends (subblock_step limits limit) l
keeps_two limits limit l (suc zero) h = inside_kept limits.kind limits limit l
keeps_two limits limit l (suc (suc n)) h = absurd (omega arith)

end_kept : (k : ℕ) (step : LineStep) → KeepsEnds k step → (l : Line) (r : ℕ) → r < 8 → (k ≤ r → 8 - k ≤ r) → pixel_at (stepped step l) r ≡ pixel_at l r
end_kept k step keeps l r small outside =
    elim (cases_lt r k) [
      | inl first ↦ (keeps l r first).0
      | inr later ↦
          let late : 8 - k ≤ r = outside later in
          let place : 7 - (7 - r) ≡ r = omega arith in
          subst (λ (i : ℕ). pixel_at (stepped step l) i ≡ pixel_at l i) place (keeps l (7 - r) (omega arith)).1
    ]

pub keeps_outer : (orientation : Orientation) (step : LineStep) → KeepsEnds (unwritten false orientation) step
keeps_outer Vertical step l n h = absurd (omega arith)
keeps_outer Horizontal step l n h = keeps_last step l n h

-- ---- a part of a block

in_both : (x y w h s t u v i j : ℕ) → x ≤ s → s + u ≤ x + w → y ≤ t → t + v ≤ y + h → is_in_block s t u v i j ≡ true
    → (is_in_block x y w h i j ≡ true) × (s ≤ i) × (i < s + u) × (t ≤ j) × (j < t + v)
in_both x y w h s t u v i j left right top bottom e = grind (arith, nat_tests)

-- the part of u columns and v rows that begins at column s of row t, of the block of w columns and h rows at x y
module _ (p : Raster) (x y w h s t u v : ℕ) (f g : ℕ → ℕ → ℕ) (left : x ≤ s) (right : s + u ≤ x + w) (top : y ≤ t) (bottom : t + v ≤ y + h)
    (same : (i j : ℕ) → is_in_block s t u v i j ≡ true → g (j - t) (i - s) ≡ f (j - y) (i - x))
    (kept : (i j : ℕ) → is_in_block x y w h i j ≡ true → is_in_block s t u v i j ≡ false → f (j - y) (i - x) ≡ pixel p i j) where
  part_pixel : (i j : ℕ) (m n : Bool) → is_in_block s t u v i j ≡ m → is_in_block x y w h i j ≡ n
      → cond m (g (j - t) (i - s)) (pixel p i j) ≡ cond n (f (j - y) (i - x)) (pixel p i j)
  part_pixel i j true n inside whole =
      same i j inside
      ∙ ap (λ (b : Bool). cond b (f (j - y) (i - x)) (pixel p i j)) (sym (in_both x y w h s t u v i j left right top bottom inside).0 ∙ whole)
  part_pixel i j false true outside whole = sym (kept i j whole outside)
  part_pixel i j false false outside whole = refl

  pub kept_part : with_block p s t u v g ≡ with_block p x y w h f
  kept_part =
      same_raster (with_block p s t u v g) (with_block p x y w h f) refl refl (IsWhole-with_block p s t u v g) (IsWhole-with_block p x y w h f) (λ i j iin jin.
      pixel-with_block p s t u v g i j iin jin
      ∙ (part_pixel i j (is_in_block s t u v i j) (is_in_block x y w h i j) refl refl
      ∙ sym (pixel-with_block p x y w h f i j iin jin)))

-- ---- the block of an edge

in_edge : (orientation : Orientation) (n x y i j : ℕ) → is_in_block x y (pick orientation 8 n) (pick orientation n 8) i j ≡ true
    → (pick orientation (j - y) (i - x) < n) × (pick orientation (i - x) (j - y) < 8) × (x ≤ i) × (y ≤ j)
in_edge orientation n x y i j e = grind (arith, nat_tests)

edge_place : (o : Orientation) (x y i j : ℕ) → x ≤ i → y ≤ j
    → (pick o (pick o x (x + pick o (j - y) (i - x)) + pick o (i - x) (j - y)) (pick o x (x + pick o (j - y) (i - x))) ≡ i)
    × (pick o (pick o (y + pick o (j - y) (i - x)) y) (pick o (y + pick o (j - y) (i - x)) y + pick o (i - x) (j - y)) ≡ j)
edge_place o x y i j left top = (grind arith, grind arith)

in_part : (orientation : Orientation) (n x y k i j : ℕ) → is_in_block (pick orientation (x + k) x) (pick orientation y (y + k)) (pick orientation (8 - k - k) n) (pick orientation n (8 - k - k)) i j ≡ true
    → (pick orientation (j - y) (i - x) < n) × (pick orientation (j - pick orientation y (y + k)) (i - pick orientation (x + k) x) ≡ pick orientation (j - y) (i - x))
    × (pick orientation (i - pick orientation (x + k) x) (j - pick orientation y (y + k)) + k ≡ pick orientation (i - x) (j - y))
in_part orientation n x y k i j e = grind (arith, nat_tests)

not_in_part : (orientation : Orientation) (n x y k i j : ℕ) → is_in_block x y (pick orientation 8 n) (pick orientation n 8) i j ≡ true
    → is_in_block (pick orientation (x + k) x) (pick orientation y (y + k)) (pick orientation (8 - k - k) n) (pick orientation n (8 - k - k)) i j ≡ false
    → k ≤ pick orientation (i - x) (j - y) → 8 - k ≤ pick orientation (i - x) (j - y)
not_in_part orientation n x y k i j e d low = grind (arith, nat_tests)

part_fits : (orientation : Orientation) (n x y k : ℕ) → k ≤ 4
    → (x ≤ pick orientation (x + k) x) × (pick orientation (x + k) x + pick orientation (8 - k - k) n ≤ x + pick orientation 8 n)
    × (y ≤ pick orientation y (y + k)) × (pick orientation y (y + k) + pick orientation n (8 - k - k) ≤ y + pick orientation n 8)
part_fits orientation n x y k few = grind arith

in_no_block : (x y i j : ℕ) → is_in_block x y 0 0 i j ≡ true → ⊥
in_no_block x y i j e = grind (arith, nat_tests)

module _ (orientation : Orientation) (step : LineStep) (n x y : ℕ) (p : Raster) (whole : IsWhole p) (fits : IsEdgeIn orientation n x y p) where
  own_pixel : (i j : ℕ) → is_in_block x y (pick orientation 8 n) (pick orientation n 8) i j ≡ true
      → pixel_at (own_line orientation p x y (pick orientation (j - y) (i - x))) (pick orientation (i - x) (j - y)) ≡ pixel p i j
  own_pixel i j e =
      let here = in_edge orientation n x y i j e in
      pixel_at-line_at orientation p (pick orientation x (x + pick orientation (j - y) (i - x))) (pick orientation (y + pick orientation (j - y) (i - x)) y) (pick orientation (i - x) (j - y)) here.1
      ∙ ap₂ (pixel p) (edge_place orientation x y i j here.2 here.3).0 (edge_place orientation x y i j here.2 here.3).1

  -- an edge of which the step changes no line
  pub still : ((k : ℕ) → k < n → stepped step (own_line orientation p x y k) ≡ own_line orientation p x y k) → p ≡ edge_lines orientation step n x y p
  still same =
      sym (with_block_none p x y 0 (λ r c. 0) whole)
      ∙ (kept_part p x y (pick orientation 8 n) (pick orientation n 8) x y 0 0 (edge_pixel orientation step x y p) (λ r c. 0) (omega arith) (omega arith) (omega arith) (omega arith)
      (λ i j e. absurd (in_no_block x y i j e))
      (λ i j e d. ap (λ (l : Line). pixel_at l (pick orientation (i - x) (j - y))) (same (pick orientation (j - y) (i - x)) (in_edge orientation n x y i j e).0) ∙ own_pixel i j e)
      ∙ sym (at_once orientation step x y p n whole fits))

  -- an edge whose lines are written
  pub stored : (k : ℕ) → k ≤ 4 → KeepsEnds k step → (l : Lines) (lane : ℕ → ℕ)
      → ((m : ℕ) → m < n → line_of l (lane m) ≡ stepped step (own_line orientation p x y m))
      → with_lines orientation x y k l n lane p ≡ edge_lines orientation step n x y p
  stored k few keeps l lane same =
      let room = part_fits orientation n x y k few in
      kept_part p x y (pick orientation 8 n) (pick orientation n 8) (pick orientation (x + k) x) (pick orientation y (y + k)) (pick orientation (8 - k - k) n) (pick orientation n (8 - k - k))
      (edge_pixel orientation step x y p) (λ r c. pixel_at (line_of l (lane (pick orientation r c))) (pick orientation c r + k)) room.0 room.1 room.2 room.3
      (λ i j e.
      let here = in_part orientation n x y k i j e in
      ap₂ (λ (a b : ℕ). pixel_at (line_of l (lane a)) b) here.1 here.2
      ∙ ap (λ (m : Line). pixel_at m (pick orientation (i - x) (j - y))) (same (pick orientation (j - y) (i - x)) here.0))
      (λ i j e d.
      end_kept k step keeps (own_line orientation p x y (pick orientation (j - y) (i - x))) (pick orientation (i - x) (j - y)) (in_edge orientation n x y i j e).1 (not_in_part orientation n x y k i j e d)
      ∙ own_pixel i j e)
      ∙ sym (at_once orientation step x y p n whole fits)

-- ---- the edges of a picture's planes

few_unwritten : (inside : Bool) (orientation : Orientation) → unwritten inside orientation ≤ 4
few_unwritten inside orientation = grind arith

module _ (edge : Edge) (step : LineStep) (l : Lines) where
  abbrev filtered_planes : Image → Image
  filtered_planes = on_planes edge.planes (λ n lane. edge_lines edge.orientation step n edge.x edge.y)

  still_plane : ((j : ℕ) → j < 16 → line_of l j ≡ stepped step (line_of l j)) → (n : ℕ) (lane : ℕ → ℕ) (p : Raster) → ((k : ℕ) → k < n → lane k < 16) → HasLines edge l n lane p
      → p ≡ edge_lines edge.orientation step n edge.x edge.y p
  still_plane same n lane p few has =
      still edge.orientation step n edge.x edge.y p has.whole has.fits (λ k h. subst (λ (m : Line). stepped step m ≡ m) (has.lines k h) (sym (same (lane k) (few k h))))

  pub still_edge : (p : Image) → ((j : ℕ) → j < 16 → line_of l j ≡ stepped step (line_of l j)) → EachPlane edge.planes (HasLines edge l) p → p ≡ filtered_planes p
  still_edge p same has =
      on_planes-none edge.planes p
      ∙ on_planes-same edge.planes (HasLines edge l) (λ n lane q. q) (λ n lane. edge_lines edge.orientation step n edge.x edge.y) p has (still_plane same)

  module _ (m : Lines) (inside : Bool) (keeps : KeepsEnds (unwritten inside edge.orientation) step) (same : (j : ℕ) → j < 16 → line_of m j ≡ stepped step (line_of l j)) where
    stored_plane : (n : ℕ) (lane : ℕ → ℕ) (p : Raster) → ((k : ℕ) → k < n → lane k < 16) → HasLines edge l n lane p
        → with_lines edge.orientation edge.x edge.y (unwritten inside edge.orientation) m n lane p ≡ edge_lines edge.orientation step n edge.x edge.y p
    stored_plane n lane p few has =
        stored edge.orientation step n edge.x edge.y p has.whole has.fits (unwritten inside edge.orientation) (few_unwritten inside edge.orientation) keeps m lane
        (λ k h. same (lane k) (few k h) ∙ ap (stepped step) (has.lines k h))

    pub stored_edge : (p : Image) → EachPlane edge.planes (HasLines edge l) p → on_planes edge.planes (with_lines edge.orientation edge.x edge.y (unwritten inside edge.orientation) m) p ≡ filtered_planes p
    stored_edge p has =
        on_planes-same edge.planes (HasLines edge l) (with_lines edge.orientation edge.x edge.y (unwritten inside edge.orientation) m) (λ n lane. edge_lines edge.orientation step n edge.x edge.y) p has stored_plane
