-- Frames of one kind of macroblock.
use Rattle.std.proofs.Common.{◌≡◌, ◌∙◌, [], ◌∷◌, map, ◌<◌, ◌+◌, ◌*◌, ℕ, zero, suc, Bool, false, get_or, refl, ap, arith, replicate}
use Rattle.std.specs.Prelude.{pos, unwrap_or, slice_get}
use Rattle.std.proofs.lemmas.Bool.{lt-ltb}
use Rattle.std.proofs.lemmas.List.{get_or-replicate}
use Rattle.std.proofs.lemmas.Option.{unwrap_or-slice_get}
use Rattle.vp_base.specs.declared.place.Place.{Place}
use Rattle.vp_base.specs.Grid.{Grid, Has, at, entry, repeated, all}
use Rattle.vp_base.proofs.GridLemmas.{number_fits}
use Rattle.vp_choose.specs.declared.frame.Choice.{Choice}
use Rattle.vp_encode.specs.declared.coded_frame.CodedFrame.{CodedFrame}
use Rattle.vp_encode.specs.CodedFrame.{nothing, coded_choice, saved_motions, choice_has_y2, CanBeEncoded}
use Rattle.vp_head.specs.declared.fields.Header.{Header}
use Rattle.vp_head.specs.Reference.{is_intra}
use Rattle.vp_head.specs.Saved.{defaults}
use Rattle.vp_head.specs.Spelled as head
use Rattle.vp_modes.specs.Entry.{Modes, plain, plain_of}
use Rattle.vp_modes.specs.Map.{of_segments}
use Rattle.vp_modes.specs.Spelled as modes
use Rattle.vp_motion.specs.Vector.{Candidates}
use Rattle.vp_motion.specs.Near.{candidates}
use Rattle.vp_motion.specs.Spelled.{CanBeWritten}
use Rattle.vp_tokens.specs.Block.{no_tokens}
use Rattle.vp_tokens.specs.Blocks.{no_blocks}
use Rattle.vp_tokens.specs.Spelled.{AreSpelled}

all_at : (columns rows : ℕ) (m : Choice) (p : Place) → p.column < columns → p.row < rows → at nothing (all columns rows m) p ≡ m
unfolding entry repeated
all_at columns rows m p h k =
    rw (lt-ltb p.column columns h)
    (unwrap_or-slice_get (replicate (rows * columns) m) (p.row * columns + p.column) nothing ∙ get_or-replicate (rows * columns) (p.row * columns + p.column) m nothing (number_fits columns rows p h k))

none_at : (n i : ℕ) → get_or (replicate n (pos 0)) i (pos 0) ≡ pos 0
none_at zero i = refl
none_at (suc n) zero = refl
none_at (suc n) (suc i) = none_at n i

-- blocks without tokens can be told
none_spelled : (y2 : Bool) → AreSpelled y2 no_blocks
none_spelled y2 = record {
  each = λ k below. rw (get_or-replicate 25 k no_tokens no_tokens below) (record {
    before = λ i h. none_at 16 i;
    begun = λ h. absurd (omega arith);
    ended = λ h. absurd (omega arith);
  });
  no_y2 = λ e. get_or-replicate 25 0 no_tokens no_tokens (omega arith);
}

-- a frame of one macroblock without levels, at each place
pub flat_told : (columns rows : ℕ) (key : Bool) (before : Grid Modes) (h : Header) (m : Choice) (g : Grid Choice) → g ≡ all columns rows m → head.IsWritableHeader key defaults h
    → ((p : Place) → p.column < columns → p.row < rows → modes.AreWritableModes h before p m.modes) → m.tokens.blocks ≡ no_blocks
    → (is_intra m.modes.reference ≡ false → (c : Candidates) → CanBeWritten c m.motion) → CanBeEncoded key defaults before (record { header = h; macroblocks = g })
flat_told columns rows key before h m g grid spelled told none still =
    let coded : CodedFrame = record { header = h; macroblocks = g } in
    let column : (p : Place) → Has g p → p.column < columns = λ p inside. omega (arith, inside.column, ap (λ (g : Grid Choice). g.columns) grid) in
    let row : (p : Place) → Has g p → p.row < rows = λ p inside. omega (arith, inside.row, ap (λ (g : Grid Choice). g.rows) grid) in
    let at_p : (p : Place) → Has g p → coded_choice coded p ≡ m = λ p inside.
    ap (λ (g : Grid Choice). at nothing g p) grid ∙ all_at columns rows m p (column p inside) (row p inside) in
    record {
      header = spelled;
      modes = λ p inside. rw (at_p p inside) (told p (column p inside) (row p inside));
      motion = λ p inside away. let away_too = rw (at_p p inside) at away in rw (at_p p inside) (still away_too (candidates (saved_motions g) p m.modes.reference h.biases));
      tokens = record {
        blocks = λ p inside. rw (at_p p inside, none) (none_spelled (choice_has_y2 m));
        skipped = λ p inside e. rw (at_p p inside) none;
      };
    }

-- All segments are 0.
pub zero_segment : (p : Place) → p.column < 1 → p.row < 1 → (at plain (of_segments (all 1 1 0)) p).segment ≡ 0
unfolding entry repeated plain
zero_segment p h k =
    let here : p.row * 1 + p.column ≡ 0 = omega (arith, h, k) in
    rw (lt-ltb p.column 1 h) (ap (λ (n : ℕ). (unwrap_or (slice_get (map plain_of (0 ∷ [])) n) plain).segment) here)
