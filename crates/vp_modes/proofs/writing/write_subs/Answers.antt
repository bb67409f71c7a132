use Rattle.std.proofs.Common.{◌≡◌, ◌∙◌, refl, sym, ap, arith, add-one, get_or, replicate, ℕ, List}
use Rattle.std.specs.Prelude.{slice_set}
use Rattle.vp_base.specs.Grid.{Grid}
use Rattle.vp_base.specs.declared.place.Place.{Place}
use Rattle.vp_bool.specs.Intervals.{Interval}
use Rattle.vp_bool.specs.Writing.{Writes}
use Rattle.vp_bool.proofs.WritingLemmas.{Writes-then, Continues-given}
use Rattle.vp_tables.specs.declared.modes.SubMode.{SubMode}
use Rattle.vp_tables.specs.declared.modes.SubMode.TheVariants as sub_is
use Rattle.vp_head.specs.declared.fields.Header.{Header}
use Rattle.vp_head.proofs.Mixed.{mixed, mixed-more, mixed-all}
use Rattle.vp_modes.specs.Entry.{Modes}
use Rattle.vp_modes.specs.Modes.{sub_row, sub_modes, sub_probabilities}
use Rattle.vp_modes.specs.Pieces.{sub_mode}
use Rattle.vp_bool.proofs.WritingLemmas.{rows-written, rows-unwritten}
use Rattle.vp_modes.proofs.writing.write_subs.Goals as goal

row_written : (h : Header) (g : Grid Modes) (p : Place) (k : ℕ) (found : List SubMode) (ps : List ℕ) (m : SubMode) {old new : Interval} → ps ≡ sub_probabilities h g p found k
    → Writes (sub_mode ps) old new m → Writes (sub_row h g p k found) old new (slice_set found k m)
unfolding sub_row
row_written h g p k found ps m e w = let v = rw e at w in Writes-then _ v (Continues-given refl _)

pub loop-k-init : goal.loop-k-init
loop-k-init c = record { written = refl; so_far = rows-unwritten _ _ _ }

pub loop-k-preserved : goal.loop-k-preserved
loop-k-preserved c =
    let k = c.loop-k.k in
    let m = get_or c.args.modes.now k sub_is.Dc in
    let more = mixed-more sub_is.Dc k c.args.modes.now (replicate 16 sub_is.Dc) (omega arith) (omega arith) in
    record {
      written = ap (λ l. slice_set l k m) c.loop-k.invariant.written ∙ more ∙ ap (λ n. mixed n c.args.modes.now (replicate 16 sub_is.Dc)) (sym (add-one k));
      so_far = rows-written k (sub_row c.args.header.now c.args.map.now c.args.place) _ _ _ c.loop-k.invariant.so_far
          (row_written c.args.header.now c.args.map.now c.args.place k c.loop-k.written _ m c.probabilities_of-probabilities.ensures c.in_ok-write_sub.ensures);
    }

pub returns : goal.returns
unfolding sub_modes
returns c =
    let e : c.loop-k.k ≡ 16 = omega arith in
    let all = mixed-all 16 c.args.modes.now (replicate 16 sub_is.Dc) c.told-modes refl in
    let same : c.loop-k.written ≡ c.args.modes.now = c.loop-k.invariant.written ∙ ap (λ n. mixed n c.args.modes.now (replicate 16 sub_is.Dc)) e ∙ all in
    let w = rw (e, same) at c.loop-k.invariant.so_far in
    w
