use Rattle.std.proofs.Common.{◌≡◌, ◌∙◌, ◌+◌, ℕ, ap, sym, subst, arith}
use Rattle.vp_base.specs.Grid.{Grid}
use Rattle.vp_bool.specs.Reader.{Reader, rows}
use Rattle.vp_bool.specs.Writing.{Writes}
use Rattle.vp_motion.specs.Vector.{MacroblockMotion}
use Rattle.vp_bool.proofs.WritingLemmas.{rows-written, rows-unwritten}
use Rattle.vp_decode.specs.MacroblockMaps.{MacroblockMaps, macroblock_read, row_read, place}
use Rattle.vp_encode.specs.Written.{maps_at, motion_before}
use Rattle.vp_encode.proofs.Candidates.{motion_before-row}
use Rattle.vp_encode.proofs.ContentLemmas.{written_row}
use Rattle.vp_encode.proofs.modes_and_motion.write_row_of_modes.Goals as goal

pub loop-column-init : goal.loop-column-init
loop-column-init c = record { so_far = rows-unwritten _ _ _; before = c.requires.before }

pub loop-column-preserved : goal.loop-column-preserved
loop-column-preserved c = record {
  so_far = rows-written c.loop-column.column _ _ _ _ c.loop-column.invariant.so_far c.in_ok-write_modes_and_motion_at.ensures.writes;
  before = c.in_ok-write_modes_and_motion_at.ensures.written;
}

pub returns : goal.returns
unfolding row_read
returns c =
    let all : c.loop-column.column ≡ c.args.coded.now.macroblocks.columns = omega arith in
    let g = c.args.coded.now.macroblocks in
    let over_row : motion_before g (place c.args.row c.loop-column.column) ≡ motion_before g (place (c.args.row + 1) 0) =
    ap (λ (n : ℕ). motion_before g (place c.args.row n)) all ∙ sym (motion_before-row g c.args.row) in
    let read : Reader MacroblockMaps = rows g.columns (λ column. macroblock_read c.args.coded.now.header (place c.args.row column)) (maps_at c.args.coded.now (place c.args.row 0) c.args.modes.now) in
    let so_far = subst (λ (n : ℕ). Writes (rows n (λ column. macroblock_read c.args.coded.now.header (place c.args.row column)) (maps_at c.args.coded.now (place c.args.row 0) c.args.modes.now))
    c.args.e.now c.loop-column.e (maps_at c.args.coded.now (place c.args.row c.loop-column.column) c.loop-column.modes)) all c.loop-column.invariant.so_far in
    record {
      writes = subst (λ (k : Grid MacroblockMotion). Writes read c.args.e.now c.loop-column.e (record { modes = c.loop-column.modes; motion = k })) over_row so_far;
      written = written_row _ _ _ _ all c.loop-column.invariant.before;
    }
