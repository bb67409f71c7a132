use Rattle.std.proofs.Common.{[]}
use Rattle.vp_decode.proofs.Words.{◌≡◌, ◌∙◌, ℕ, ◌+◌, ◌-◌, ◌%◌, ◌<◌, List, length, refl, sym, ap, subst, arith, length-set, slice_index_or, State, initial_state, Grid, Image, macroblocks, over, over-none, rebuilt, Blocks, place, FrameInfo, frame_of, tokens_of, macroblock_at, readings, row_partition, FrameDecoder, IsRow, IsOneFrame, IsAfterRows, IsSameFrame, get_or_default}
use Rattle.vp_decode.proofs.TokenGrid.{rests_in_turn}
use Rattle.vp_decode.proofs.ReadingLemmas.{same_frame, then_same, IsRowRead, rows_none, rows_next, rows_kept, row_of_frame, readings-sized}
use Rattle.vp_decode.proofs.RowsLemmas.{filter_is_above, Rebuilds, row_filter, row_builder, row_is_below, row_keeps_shape, filtered_by_levels, frame_made}
use Rattle.vp_decode.proofs.BandLemmas.{window_next, window_end}
use Rattle.vp_decode.proofs.frame_decoder.FrameDecoder.decode_rows.Goals as goal
use Rattle.vp_decode.proofs.frame_decoder.FrameDecoder.decode_rows.Goals.{After-rows-rows}

rows_are : (g : _) (c : After-rows-rows g) → c.rows-rows.result ≡ c.args.self.now.info.maps.modes.rows
rows_are g c = c.rows-rows.ensures.value ∙ ap (λ (b : FrameDecoder). b.info.maps.modes.rows) c.self.view_is

pub loop-row-init : goal.loop-row-init
loop-row-init g c = record {
  same = same_frame c.args.self.now;
  some = refl;
  rows = rows_none c.args.self.now.info c.args.decoders.now c.args.self.now c.requires.contexts;
  picture = sym (over-none _ _ ∙ over-none _ _);
}

pub decode_row-requires : goal.decode_row-requires
decode_row-requires g c =
    let end = rows_are g (goal.at.decode_row-requires g c).After-rows-rows in
    let now = ap (λ (f : FrameInfo). f.maps.modes.rows) c.loop-row.invariant.same.info in
    omega (arith, c.loop-row-test.true, end, now)

pub filter_row_above-requires : goal.filter_row_above-requires
filter_row_above-requires g c =
    let end = rows_are g (goal.at.filter_row_above-requires g c).After-rows-rows in
    let now = ap (λ (f : FrameInfo). f.maps.modes.rows) (c.decode_row.ensures.same.info ∙ c.loop-row.invariant.same.info) in
    omega (arith, c.loop-row-test.true, end, now)

pub filter_row_above-requires-2 : goal.filter_row_above-requires-2
filter_row_above-requires-2 g c =
    let end = rows_are g (goal.at.filter_row_above-requires-2 g c).After-rows-rows in
    let now = ap (λ (f : FrameInfo). f.maps.modes.rows) c.loop-row.invariant.same.info in
    omega (arith, end, now)

pub loop-row-preserved : goal.loop-row-preserved
loop-row-preserved g c =
    let shape = c.rebuilding_keeps_shape.ensures in
    let laws : Rebuilds = record { size = shape.size; aligned = shape.aligned; whole = shape.whole; above = c.rebuilding_keeps_rows_above.ensures; reads = c.rebuilding_reads_one_row_above.ensures.any } in
    let f : FrameInfo = c.args.self.now.info in
    let ps : List State = c.args.decoders.now in
    let p : Image = c.args.self.now.picture in
    let row : ℕ = c.loop-row.row in
    let ds : List State = c.loop-row.decoders in
    let before : IsAfterRows f ps row ds c.loop-row.self = c.loop-row.invariant.rows in
    let now : FrameDecoder = c.decode_row.new.self in
    let same : IsSameFrame c.args.self.now now = then_same c.args.self.now c.loop-row.self now c.loop-row.invariant.same c.decode_row.ensures.same in
    let one : IsOneFrame c.args.self.now = subst IsOneFrame c.self.view_is c.self.invariant in
    let columns = one.columns in
    let rows = one.rows in
    let end = rows_are g (goal.at.loop-row-preserved g c).After-rows-rows in
    let within : row < macroblocks p.height = omega (arith, c.loop-row-test.true, end, rows) in
    let here : row < f.maps.modes.rows = omega (arith, c.loop-row-test.true, end) in
    let state : State = slice_index_or ds (row % length ds) c.index-decoders-at.result in
    let own : state ≡ row_partition row (readings f ps row) =
    get_or_default ds (row % length ds) c.index-decoders-at.result (initial_state []) (omega (arith, c.requires.some, c.loop-row.invariant.some))
    ∙ ap (λ (z : List State). slice_index_or z (row % length z) (initial_state [])) before.rests in
    let seen : Grid Blocks = (readings f ps row).seen in
    let sized = readings-sized f ps row in
    let wide : seen.columns ≡ c.loop-row.self.info.maps.modes.columns = rw c.loop-row.invariant.same.info sized.columns_are in
    let inside : row < seen.rows = omega (arith, sized.rows_are, here) in
    let made : IsRowRead f ps row c.decode_row.new.d c.loop-row.self now =
    rw (← own) (subst (λ (z : FrameInfo). IsRow z row z.maps.modes.columns seen state c.decode_row.new.d c.loop-row.self now) c.loop-row.invariant.same.info
    (c.decode_row.ensures.row seen wide inside before.contexts)) in
    let next : IsAfterRows f ps (row + 1) _ now = rows_next f ps ds row c.decode_row.new.d c.loop-row.self now before here made in
    record {
      same = then_same c.args.self.now now c.filter_row_above.new.self same c.filter_row_above.ensures.same;
      some = length-set _ _ _ ∙ c.loop-row.invariant.some;
      rows = rows_kept f ps _ (row + 1) now c.filter_row_above.new.self c.filter_row_above.ensures.contexts c.filter_row_above.ensures.levels next;
      picture =
          window_next p.width p.height (macroblocks p.height) row (row_filter f ps p.width p.height) (row_builder f ps p.width) p c.loop-row.self.picture now.picture c.filter_row_above.new.self.picture
          (λ k below. filter_is_above p.width p.height k _ below)
          (λ s k below earlier. row_is_below laws p.width p.height s k (frame_of f ps 0 0).macroblock below earlier)
          (λ k below q shaped. row_keeps_shape laws p.width p.height k (frame_of f ps 0 0).macroblock q shaped)
          c.requires.shaped within c.loop-row.invariant.picture
          (row_of_frame f ps row c.decode_row.new.d c.loop-row.self now here made
          ∙ ap (λ (n : ℕ). over n (λ column. rebuilt (macroblock_at f (place row column) (tokens_of f ps (place row column))) (place row column)) c.loop-row.self.picture) columns)
          c.filter_row_above.ensures.none
          (λ k e. c.filter_row_above.ensures.one k e
          ∙ filtered_by_levels f ps p.width p.height k now.levels now.picture (same.level_columns ∙ one.level_columns) same.width
          (λ column below. next.levels (place k column) (omega arith) (omega (arith, columns))));
    }

pub returns : goal.returns
returns g c =
    let f : FrameInfo = c.args.self.now.info in
    let ps : List State = c.args.decoders.now in
    let p : Image = c.args.self.now.picture in
    let same = c.loop-row.invariant.same in
    let one : IsOneFrame c.args.self.now = subst IsOneFrame c.self.view_is c.self.invariant in
    let columns = one.columns in
    let rows = one.rows in
    let end = rows_are g (goal.at.returns g c).After-rows-rows in
    let all : c.loop-row.row ≡ macroblocks p.height = omega (arith, c.loop-row-test.false, c.loop-row.auto.row-end, end, rows) in
    let rows_all : c.rows-rows.result ≡ macroblocks p.height = end ∙ rows in
    let made : IsAfterRows f ps c.loop-row.row c.loop-row.decoders c.loop-row.self = c.loop-row.invariant.rows in
    let law = c.unfiltered_picture_solves_its_equation.ensures in
    record {
      picture =
          window_end (macroblocks p.height) (row_filter f ps p.width p.height) (over (macroblocks p.height) (row_builder f ps p.width) p) c.loop-row.self.picture c.filter_row_above-2.new.self.picture
          (c.loop-row.invariant.picture ∙ ap (λ (n : ℕ). over (n - 1) (row_filter f ps p.width p.height) (over n (row_builder f ps p.width) p)) all)
          (λ none. c.filter_row_above-2.ensures.none (rows_all ∙ none))
          (λ k e. c.filter_row_above-2.ensures.one k (rows_all ∙ e)
          ∙ filtered_by_levels f ps p.width p.height k c.loop-row.self.levels c.loop-row.self.picture (same.level_columns ∙ one.level_columns) same.width
          (λ column below. made.levels (place k column) (omega arith) (omega (arith, columns))))
          ∙ frame_made (record { size = law.size; aligned = law.aligned; whole = law.whole }) law.solves c.unfiltered_picture_is_the_one_solution.ensures.one f ps p.width p.height p c.requires.shaped;
      rests = made.rests ∙ ap (λ (n : ℕ). (readings f ps n).rests) (all ∙ sym rows) ∙ sym (rests_in_turn f ps);
    }
