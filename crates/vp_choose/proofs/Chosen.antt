-- The coding of a macroblock, and the choice that completes it.
use Rattle.std.proofs.Common.{◌≡◌, ◌∙◌, ◌<◌, ◌≤◌, true, Option, Some, None, refl, sym, ap, subst, arith}
use Rattle.vp_base.specs.declared.place.Place.{Place}
use Rattle.vp_base.specs.Grid.{Grid}
use Rattle.vp_base.specs.Image.{Image}
use Rattle.vp_head.specs.Reference.{is_intra}
use Rattle.vp_modes.specs.Entry.{Modes}
use Rattle.vp_motion.specs.Vector.{MacroblockMotion}
use Rattle.vp_recon.specs.Predictor.{Predictor, Intra, has_y2}
use Rattle.vp_choose.specs.declared.coding.Coding.{Coding}
use Rattle.vp_choose.specs.declared.frame.Choice.{Choice}
use Rattle.vp_choose.specs.declared.motion.Moved.{Moved}
use Rattle.vp_choose.specs.Frame.{FrameSearch, Search, source_by}
use Rattle.vp_choose.specs.Intra.{LumaChoice}
use Rattle.vp_choose.specs.Inter.{IsInter, moved_source}
use Rattle.vp_choose.specs.Choice.{IsChoice, IsIntraChoice, IsTaken}
use Rattle.vp_choose.specs.Searched.{IsSearched}
use Rattle.vp_choose.proofs.BlockLevels.{are_spelled, none_written}
use Rattle.vp_choose.specs.Coding.{AreWritable, Completes, HasLevels, HasPrediction, IsCodedBy, IsCoding}

by_reference : (o : Option Search) (c : Choice) → is_intra c.modes.reference ≡ true → source_by o c ≡ Intra c.modes
by_reference None c e = refl
by_reference (Some s) c e = rw e

module _ (frame : FrameSearch) (p : Image) (g : Grid MacroblockMotion) (place : Place) (coding : Coding) where
  coded_as : (by : Choice → Predictor) (Is Other : Choice → Type 0) → IsCodedBy frame.source frame.factors place p by Is coding
      → ((c : Choice) → Completes coding c → source_by frame.search c ≡ by c) → ((c : Choice) → Is c → Other c)
      → IsCodedBy frame.source frame.factors place p (source_by frame.search) Other coding
  coded_as by Is Other h same more = record {
    segment = h.segment;
    predicted = λ c is. subst (λ (a : Predictor). HasPrediction a frame.factors place p coding) (sym (same c is)) (h.predicted c is);
    completed = λ c is levels. more c (h.completed c is (subst (λ (a : Predictor). HasLevels frame.source a frame.factors place p coding c.tokens) (same c is) levels));
  }

  module _ (l : LumaChoice) where
    intra_taken : (o : Option Search) (m : Option Moved) (c : Choice) → IsSearched o frame.source.luma place m → ((x : Moved) → m ≡ Some x → l.cost < x.cost)
        → IsIntraChoice frame p place l c → IsTaken o frame p g place l c
    intra_taken None m c searched less h = h
    intra_taken (Some s) None c searched less h = absurd searched
    intra_taken (Some s) (Some x) c searched less h =
        let below = less x refl in
        record { moved = x; is = searched.is; inter = λ most. absurd (omega arith); intra = λ _. h }

    pub intra_coded : (m : Option Moved) → IsSearched frame.search frame.source.luma place m → ((x : Moved) → m ≡ Some x → l.cost < x.cost)
        → is_intra coding.modes.reference ≡ true → IsCodedBy frame.source frame.factors place p (λ c. Intra c.modes) (IsIntraChoice frame p place l) coding
        → IsCodedBy frame.source frame.factors place p (source_by frame.search) (IsTaken frame.search frame p g place l) coding
    intra_coded m searched less intra h = coded_as (λ c. Intra c.modes) (IsIntraChoice frame p place l) (IsTaken frame.search frame p g place l) h
        (λ c is. by_reference frame.search c (ap (λ (a : Modes). is_intra a.reference) is.modes ∙ intra))
        (λ c. intra_taken frame.search m c searched less)

    pub inter_coded : (s : Search) (x : Moved) → IsSearched frame.search frame.source.luma place (Some x) → frame.search ≡ Some s → x.cost ≤ l.cost
        → coding.modes.reference ≡ x.reference → IsCodedBy frame.source frame.factors place p (moved_source s x) (IsInter frame.source frame.factors s g place p x) coding
        → IsCodedBy frame.source frame.factors place p (source_by frame.search) (IsTaken frame.search frame p g place l) coding
    inter_coded s x searched some most same h =
        let known = subst (λ (o : Option Search). IsSearched o frame.source.luma place (Some x)) some searched in
        coded_as (moved_source s x) (IsInter frame.source frame.factors s g place p x) (IsTaken frame.search frame p g place l) h
        (λ c is.
        let reference = ap (λ (a : Modes). a.reference) is.modes ∙ same in
        rw (some, reference, known.inter))
        (λ c inter. subst (λ (o : Option Search). IsTaken o frame p g place l c) (sym some) (record { moved = x; is = known.is; inter = λ _. inter; intra = λ less. absurd (omega arith) }))

  pub is_choice : (c : Choice) → IsCoding frame p g place coding → Completes coding c → HasLevels frame.source (source_by frame.search c) frame.factors place p coding c.tokens
      → AreWritable (has_y2 (source_by frame.search c)) c.tokens.blocks → IsChoice frame p g place c
  is_choice c h is levels writable = record {
    luma = h.luma;
    best = h.best;
    taken = h.coded.completed c is levels;
    segment = ap (λ (a : Modes). a.segment) is.modes ∙ h.coded.segment;
    skip = ap (λ (a : Modes). a.skip) is.modes;
    none = none_written (has_y2 (source_by frame.search c)) c.tokens writable;
    tight = λ k. (writable.ended k).tight;
    spelled = are_spelled (has_y2 (source_by frame.search c)) c.tokens.blocks writable;
  }
