use Rattle.std.proofs.Common.{◌≡◌, ◌≤◌, ◌-◌, ◌+◌, ◌*◌, ℕ, List, length}
use Rattle.std.specs.Io.KnownBytes.{Consumes}
use Rattle.vp_base.specs.Counted.{counted_remaining, counted_failures, counted_reads}
use Rattle.vp_y4m.specs.declared.source.Progress.TheVariants.{Open}
use Rattle.vp_y4m.specs.Shown.{head_model}
use Rattle.vp_y4m.specs.Source.{reader_name, bytes_left, failures_of, reads_of, head_of, progress_of}
use Rattle.vp_y4m.specs.Text.{i420_length}
use Rattle.vp_y4m.specs.Reads.{TakesInReads}
use Rattle.vp_encode.specs.Encoded.{EncodedFrame}
use Rattle.vp_encode.specs.File.{IsWrittenFurther, progress_of_frames}
use Rattle.vp_encode.specs.EncodeProgress.{IsAt}
use Rattle.vp_encode.proofs.encoding.encode_pictures.Given as goal

abbrev pub invariant-loop-picture : goal.invariant-loop-picture
invariant-loop-picture g l =
    (bytes : List ℕ) × (frames : List EncodedFrame)
    × Consumes (counted_remaining g.R.Read.remaining l.fn.reader) (bytes_left g.R.Read.remaining l.source) bytes
    × IsAt (head_model l.head) l.fn.run l.run bytes frames
    × (reader_name l.source ≡ reader_name l.initial.source)
    × (head_of l.source ≡ head_model l.head)
    × (progress_of l.source ≡ Open)
    × (failures_of l.source ≡ counted_failures l.fn.reader)
    × IsWrittenFurther (g.T.Watcher.told l.fn.watcher) (g.T.Watcher.told l.watcher) (progress_of_frames frames)
    × TakesInReads 0 (counted_remaining g.R.Read.remaining l.fn.reader) (bytes_left g.R.Read.remaining l.source) (counted_reads l.fn.reader) (reads_of l.source)
    × (reads_of l.source ≤ counted_reads l.fn.reader + length l.run.packets * (1025 + i420_length l.head.dim.w l.head.dim.h))

abbrev pub decreases-loop-picture : goal.decreases-loop-picture
decreases-loop-picture g l = l.fn.run.limits.packets - length l.run.packets
