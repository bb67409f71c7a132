use Rattle.std.proofs.Common.{◌≡◌, ◌∙◌, List, [], refl, sym, ap, arith, lit<, ℕ, true, false}
use Rattle.std.specs.Prelude.{ℤ, pos, slice_index, slice_index_or}
use Rattle.vp_head.specs.declared.fields.Saved.{Saved}
use Rattle.vp_head.specs.Spelled.{AreSigned}
use Rattle.vp_encoder_tests.proofs.encoding.header.Goals as goal
use Rattle.vp_encoder_tests.proofs.encoding.header.Goals.{then-key, else-key}

as_kept : (n : ℕ) (old new : List ℤ) → new ≡ old → AreSigned n old new
as_kept n old new e = record {
  first = λ ne. absurd (ne (ap (λ (l : List ℤ). slice_index_or l 0 (pos 0)) e));
  second = λ ne. absurd (ne (ap (λ (l : List ℤ). slice_index_or l 1 (pos 0)) e));
  third = λ ne. absurd (ne (ap (λ (l : List ℤ). slice_index_or l 2 (pos 0)) e));
  fourth = λ ne. absurd (ne (ap (λ (l : List ℤ). slice_index_or l 3 (pos 0)) e));
}

pub returns-clause-spelled : goal.returns-clause-spelled
returns-clause-spelled c =
    let d = c.defaults-saved.ensures in
    record {
      kind = refl;
      color_space = λ e. refl;
      clamping_type = λ e. refl;
      segmentation = record {
        off = λ e. (refl, ap (λ (s : Saved). s.segments) d);
        on = λ ne. absurd (ne (ap (λ (s : Saved). s.segments) d));
        no_map = λ e. refl;
      };
      filter = record { level = lit< tt; sharpness = lit< tt };
      deltas = record {
        off = λ e. ap (λ (s : Saved). s.deltas) d;
        reference = as_kept 6 _ _ (ap (λ (s : Saved). s.deltas.reference) d);
        mode = as_kept 6 _ _ (ap (λ (s : Saved). s.deltas.mode) d);
      };
      log2_partitions = omega arith;
      quantiser = record {
        y_ac = lit< tt;
        y_dc = λ ne. absurd (ne refl);
        y2_dc = λ ne. absurd (ne refl);
        y2_ac = λ ne. absurd (ne refl);
        uv_dc = λ ne. absurd (ne refl);
        uv_ac = λ ne. absurd (ne refl);
      };
      updates = record { golden = λ e. e; alt = λ e. e; last = λ e. refl; no_copy_to_golden = λ e. refl; no_copy_to_alt = λ e. refl };
      biases = λ e. ap (λ (s : Saved). s.biases) d;
      references = λ e. let zero : c.if-key.even ≡ 0 = elim c.if-key.branch [ then-key w ↦ w.even-is | else-key w ↦ absurd (let never : true ≡ false = sym e ∙ w.if-key.false in cc) ] in rw zero refl;
      luma = λ e. ap (λ (s : Saved). s.probabilities.luma) d;
      chroma = λ e. ap (λ (s : Saved). s.probabilities.chroma) d;
      vectors = λ e. ap (λ (s : Saved). s.probabilities.vectors) d;
      vector = λ e i j ne. absurd (ne (ap (λ (s : Saved). slice_index (slice_index_or s.probabilities.vectors i []) j) d));
    }
