use Rattle.std.proofs.Common.{◌≡◌, ◌≤◌, ◌+◌, ◌*◌}
use Rattle.vp_base.specs.Counted.{counted_remaining, counted_failures, counted_reads}
use Rattle.vp_y4m.specs.Reads.{TakesInReads}
use Rattle.vp_y4m.specs.Pixels.{ReadsRows}
use Rattle.vp_y4m.proofs.pixels.read_plane.Given as goal

abbrev pub invariant-loop-y : goal.invariant-loop-y
invariant-loop-y g l =
    (counted_failures l.reader ≡ counted_failures l.fn.reader)
    × TakesInReads 0 (counted_remaining g.R.Read.remaining l.fn.reader) (counted_remaining g.R.Read.remaining l.reader) (counted_reads l.fn.reader) (counted_reads l.reader)
    × (counted_reads l.reader ≤ counted_reads l.fn.reader + l.y * l.w)
    × ReadsRows l.w l.y l.k l.fn.picture l.picture (counted_remaining g.R.Read.remaining l.fn.reader) (counted_remaining g.R.Read.remaining l.reader)
