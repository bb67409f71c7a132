use Rattle.std.proofs.Common.{◌≡◌, ◌<◌, ℕ, length, slice_index, slice_index_or}
use Rattle.clap.specs.Words.{found_of, rows_of}
use Rattle.vp_args.specs.Tables.{IsNumberOf}
use Rattle.vp_args.specs.declared.numbers.Number.{Number}
use Rattle.vp_args.proofs.numbers.numbers.Given as goal

-- the numbers so far
abbrev pub invariant-loop-i : goal.invariant-loop-i
invariant-loop-i g l =
    (length l.all ≡ g.row.N) × ((k : ℕ) (d : Number) → k < l.i → IsNumberOf (rows_of (found_of l.found)) (slice_index_or l.table k d) (slice_index l.all k))
