use Rattle.std.proofs.Common.{◌≡◌, ◌+◌, arith, sym, subst}
use Rattle.vp_decode.specs.MacroblockMaps.{place}
use Rattle.vp_encode.specs.Written.{IsOnlyMotionBefore}
use Rattle.vp_encode.proofs.Candidates.{only_next, only_row}
use Rattle.vp_encode.proofs.modes_and_motion.store_row.Goals as goal

pub loop-column-preserved : goal.loop-column-preserved
loop-column-preserved c =
    let g = c.args.coded.now.macroblocks in
    subst (IsOnlyMotionBefore g (place c.args.row (c.loop-column.column + 1))) (sym c.store_motion.ensures)
    (only_next g c.args.row c.loop-column.column c.loop-column.motion (record { column = omega arith; row = c.requires.row }) c.loop-column.invariant)

pub returns : goal.returns
returns c =
    let all : c.loop-column.column ≡ c.args.coded.now.macroblocks.columns = omega arith in
    only_row c.args.coded.now.macroblocks c.args.row c.loop-column.column c.loop-column.motion all c.loop-column.invariant
