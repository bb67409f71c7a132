-- How the modes and the motion of a frame's macroblocks are written, one after another.
use Rattle.std.proofs.Common.{◌≡◌, ◌∙◌, ◌≢◌, ℕ, ◌+◌, true, false, refl, sym, ap, subst, arith, inl, inr}
use Rattle.std.specs.Prelude.{Some, unwrap_or, if◌then◌else◌}
use Rattle.vp_base.specs.declared.place.Place.{Place}
use Rattle.vp_base.specs.Grid.{Grid, Has, at, entry, with_entry}
use Rattle.vp_bool.specs.Intervals.{Interval}
use Rattle.vp_bool.specs.Writing.{Writes}
use Rattle.vp_bool.proofs.WritingLemmas.{Writes-then, Continues-none}
use Rattle.vp_head.specs.declared.fields.Header.{Header}
use Rattle.vp_head.specs.Reference.{is_intra}
use Rattle.vp_modes.specs.Entry.{Modes, plain}
use Rattle.vp_modes.specs.Modes.{modes_at}
use Rattle.vp_modes.specs.Spelled.{AreWritableModes}
use Rattle.vp_motion.specs.Vector.{MacroblockMotion, Candidates}
use Rattle.vp_motion.specs.Motion.{motion_at}
use Rattle.vp_motion.specs.Near.{candidates}
use Rattle.vp_motion.specs.Spelled.{CanBeWritten}
use Rattle.vp_decode.specs.MacroblockMaps.{place, macroblock_read, motion_read}
use Rattle.vp_choose.specs.declared.frame.Choice.{Choice}
use Rattle.vp_choose.specs.Frame.{choice_motion}
use Rattle.vp_encode.specs.declared.coded_frame.CodedFrame.{CodedFrame}
use Rattle.vp_encode.specs.CodedFrame.{coded_choice, nothing, AreModesSpelled, IsMotionSpelled}
use Rattle.vp_encode.specs.PacketContents.{AreMapsOf}
use Rattle.vp_encode.specs.FrameChoices.{IsMotionOf}
use Rattle.vp_encode.specs.Written.{AreWrittenBefore, IsOnlyMotionBefore, maps_at, motion_before, with_motion}
use Rattle.vp_encode.proofs.RasterOrder.{none_before, before_next, apart, earlier_next, not_last, row_over, earlier_row, in_rows}
use Rattle.vp_encode.proofs.Candidates.{motion_before-none, motion_before-next, motion_before-row, motion_candidates, motion_until, only_none, only_next, only_row, written_over}

pub written_none : (c : CodedFrame) (columns rows : ℕ) (m : Grid Modes) → m.columns ≡ columns → m.rows ≡ rows → c.macroblocks.columns ≡ columns → c.macroblocks.rows ≡ rows
    → AreModesSpelled c m → AreWrittenBefore c (place 0 0) m
written_none c columns rows m m_wide m_high wide high spelled = record {
  columns = m_wide ∙ sym wide;
  rows = m_high ∙ sym high;
  motion = only_none c.macroblocks _ (motion_before-none c.macroblocks);
  modes = λ q has earlier. absurd (none_before q earlier);
  ahead = λ q has later. spelled q has;
}

-- ---- a macroblock

writable_kept : (h : Header) (m g : Grid Modes) (q : Place) (x : Modes) → at plain g q ≡ at plain m q → AreWritableModes h m q x → AreWritableModes h g q x
writable_kept h m g q x same is = record {
  segment = λ none. is.segment none ∙ ap (λ (z : Modes). if h.key then 0 else z.segment) (sym same);
  skip = is.skip;
  reference = is.reference;
  inter = is.inter;
  subs = is.subs;
}

-- its vectors are told over those of the macroblocks before it
pub gives : (c : CodedFrame) (p : Place) (x : Choice) (k : Grid MacroblockMotion) → entry c.macroblocks p ≡ Some x → Has c.macroblocks p → IsMotionOf c.macroblocks k
    → IsMotionSpelled c → is_intra x.modes.reference ≡ false → CanBeWritten (candidates k p x.modes.reference c.header.biases) x.motion
gives c p x k is has all spelled =
    subst (λ (y : Choice). is_intra y.modes.reference ≡ false → CanBeWritten (candidates k p y.modes.reference c.header.biases) y.motion) (ap (λ o. unwrap_or o nothing) is)
    (λ away. subst (λ (z : Candidates). CanBeWritten z (coded_choice c p).motion)
    (sym (motion_candidates c.macroblocks p k (coded_choice c p).modes.reference c.header.biases has (motion_until c.macroblocks p k all))) (spelled p has away))

-- what the code makes of the macroblock behind those that are written: g has its modes
module _ (c : CodedFrame) (row n : ℕ) (x : Choice) (m g : Grid Modes) (inside : Has c.macroblocks (place row n)) (is : entry c.macroblocks (place row n) ≡ Some x)
    (before : AreWrittenBefore c (place row n) m) (changed : g ≡ with_entry m (place row n) x.modes) (here : entry g (place row n) ≡ Some x.modes)
    (elsewhere : (q : Place) → q ≢ place row n → entry g q ≡ entry m q) where
  abbrev p : Place
  p = place row n

  same : x ≡ coded_choice c p
  same = sym (ap (λ o. unwrap_or o nothing) is)

  -- the motion before it and after it
  abbrev k : Grid MacroblockMotion
  k = motion_before c.macroblocks p

  abbrev moved_by : Choice → Grid MacroblockMotion
  moved_by y = if is_intra y.modes.reference then k else with_entry k p (choice_motion y)

  moved : motion_before c.macroblocks (place row (n + 1)) ≡ with_motion c.macroblocks p k
  moved = motion_before-next c.macroblocks row n

  kept : (q : Place) → q ≢ p → at plain g q ≡ at plain m q
  kept q far = ap (λ o. unwrap_or o plain) (elsewhere q far)

  pub written_next : AreWrittenBefore c (place row (n + 1)) g
  written_next = record {
    columns = ap (λ (z : Grid Modes). z.columns) changed ∙ before.columns;
    rows = ap (λ (z : Grid Modes). z.rows) changed ∙ before.rows;
    motion = subst (IsOnlyMotionBefore c.macroblocks (place row (n + 1))) (sym moved) (only_next c.macroblocks row n _ inside before.motion);
    modes = λ q has earlier. elim (before_next q row n earlier) [
      | inl old ↦ kept q (apart q p old) ∙ before.modes q has old
      | inr last ↦ subst (λ (r : Place). at plain g r ≡ (coded_choice c r).modes) (sym last) (ap (λ o. unwrap_or o plain) here ∙ ap (λ (y : Choice). y.modes) same)
    ];
    ahead = λ q has later. writable_kept c.header m g q _ (kept q (not_last q row n later)) (before.ahead q has (λ old. later (earlier_next q row n old)));
  }

  pub intra_written : {first last : Interval} → is_intra x.modes.reference ≡ true → Writes (modes_at c.header m p) first last x.modes
      → Writes (macroblock_read c.header p (maps_at c p m)) first last (maps_at c (place row (n + 1)) g)
  unfolding macroblock_read
  intra_written {first = first} {last = last} own w =
      let stays : k ≡ motion_before c.macroblocks (place row (n + 1)) = sym (moved ∙ ap (λ (y : Choice). moved_by y) (sym same) ∙ rw own refl) in
      subst (λ (l : Grid MacroblockMotion). Writes (macroblock_read c.header p (maps_at c p m)) first last (record { modes = g; motion = l })) stays
      (rw changed (Writes-then _ w (rw own (Continues-none _ _))))

  -- its motion is written over a map of all motion
  pub inter_written : (a : Grid MacroblockMotion) {first mid last : Interval} → IsMotionOf c.macroblocks a → IsMotionSpelled c → is_intra x.modes.reference ≡ false
      → Writes (modes_at c.header m p) first mid x.modes → Writes (motion_at c.header a p x.modes.reference) mid last x.motion
      → Writes (macroblock_read c.header p (maps_at c p m)) first last (maps_at c (place row (n + 1)) g)
  unfolding macroblock_read motion_read
  inter_written a {first = first} {mid = mid} {last = last} all spelled away w u =
      let r = x.modes.reference in
      let as_seen = motion_candidates c.macroblocks p a r c.header.biases inside (motion_until c.macroblocks p a all) in
      let as_read = motion_candidates c.macroblocks p k r c.header.biases inside before.motion.before in
      let read : Writes (motion_at c.header k p r) mid last x.motion =
      written_over c.header a k p r x.motion (as_read ∙ sym as_seen) (gives c p x a is inside all spelled away) u in
      let put : with_entry k p (choice_motion x) ≡ motion_before c.macroblocks (place row (n + 1)) = sym (moved ∙ ap (λ (y : Choice). moved_by y) (sym same) ∙ rw away refl) in
      subst (λ (l : Grid MacroblockMotion). Writes (macroblock_read c.header p (maps_at c p m)) first last (record { modes = g; motion = l })) put
      (rw changed (Writes-then _ w (rw away (Writes-then _ read (Continues-none _ _)))))

-- ---- rows

pub written_row : (c : CodedFrame) (row n : ℕ) (m : Grid Modes) → n ≡ c.macroblocks.columns → AreWrittenBefore c (place row n) m → AreWrittenBefore c (place (row + 1) 0) m
written_row c row n m all before = record {
  columns = before.columns;
  rows = before.rows;
  motion = subst (IsOnlyMotionBefore c.macroblocks (place (row + 1) 0)) (ap (λ (j : ℕ). motion_before c.macroblocks (place row j)) all ∙ sym (motion_before-row c.macroblocks row))
      (only_row c.macroblocks row n _ all before.motion);
  modes = λ q has earlier. before.modes q has (row_over q row n (omega (arith, has.column)) earlier);
  ahead = λ q has later. before.ahead q has (λ old. later (earlier_row q row n old));
}

pub written_all : (c : CodedFrame) (m : Grid Modes) → AreWrittenBefore c (place c.macroblocks.rows 0) m → AreMapsOf c (maps_at c (place c.macroblocks.rows 0) m)
written_all c m all = record {
  columns = all.columns;
  rows = all.rows;
  motion_columns = all.motion.before.columns;
  motion_rows = all.motion.before.rows;
  modes = λ p has. all.modes p has (in_rows p c.macroblocks.rows has.row);
  motion = λ p has. all.motion.before.moved p has (in_rows p c.macroblocks.rows has.row);
}
