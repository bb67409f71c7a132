use Rattle.std.proofs.Common.{◌≡◌, ℕ, sym, subst, arith}
use Rattle.vp_bool.specs.Reader.{Reader, rows}
use Rattle.vp_bool.specs.Writing.{Writes}
use Rattle.vp_bool.proofs.WritingLemmas.{rows-written, rows-unwritten}
use Rattle.vp_decode.specs.MacroblockMaps.{MacroblockMaps, row_read, maps_read}
use Rattle.vp_decode.specs.MacroblockMaps.{place}
use Rattle.vp_encode.specs.Written.{maps_at}
use Rattle.vp_encode.proofs.modes_and_motion.write_modes_and_motion.Goals as goal

pub loop-row-init : goal.loop-row-init
loop-row-init c = record { so_far = rows-unwritten _ _ _; before = c.requires.before }

pub loop-row-preserved : goal.loop-row-preserved
loop-row-preserved c = record {
  so_far = rows-written c.loop-row.row _ _ _ _ c.loop-row.invariant.so_far c.in_ok-write_row_of_modes.ensures.writes;
  before = c.in_ok-write_row_of_modes.ensures.written;
}

pub returns-clause-writes : goal.returns-clause-writes
unfolding maps_read
returns-clause-writes c =
    let all : c.loop-row.row ≡ c.args.modes.now.rows = omega (arith, c.requires.before.rows) in
    let here : c.loop-row.row ≡ c.args.coded.now.macroblocks.rows = omega arith in
    subst (λ (n : ℕ). Writes (maps_read c.args.coded.now.header (maps_at c.args.coded.now (place 0 0) c.args.modes.now)) c.args.e.now c.loop-row.e (maps_at c.args.coded.now (place n 0) c.loop-row.modes)) here
    (subst (λ (r : Reader MacroblockMaps). Writes r c.args.e.now c.loop-row.e (maps_at c.args.coded.now (place c.loop-row.row 0) c.loop-row.modes))
    (λ i. rows (all i) (row_read c.args.coded.now.header (sym c.requires.before.columns i)) (maps_at c.args.coded.now (place 0 0) c.args.modes.now)) c.loop-row.invariant.so_far)
