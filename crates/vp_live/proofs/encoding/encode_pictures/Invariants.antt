use Rattle.std.proofs.Common.{◌≡◌, ◌≤◌, ◌-◌, ◌+◌, ◌*◌, ◌++◌, ℕ, List, [], length}
use Rattle.std.specs.Io.KnownBytes.{Appends, Consumes}
use Rattle.vp_base.specs.Counted.{counted_remaining, counted_contents, counted_failures, counted_reads}
use Rattle.vp_y4m.specs.declared.source.Progress.TheVariants.{Open}
use Rattle.vp_y4m.specs.Shown.{head_model}
use Rattle.vp_y4m.specs.Source.{reader_name, bytes_left, failures_of, reads_of, head_of, progress_of}
use Rattle.vp_y4m.specs.Text.{i420_length}
use Rattle.vp_y4m.specs.Reads.{TakesInReads}
use Rattle.vp_encode.specs.declared.settings.Settings.{Settings}
use Rattle.vp_encode.specs.Encoded.{EncodedFrame}
use Rattle.vp_encode.specs.File.{IsWrittenFurther, progress_of_frames}
use Rattle.vp_live.specs.Progress.{IsLiveAt, frames_text}
use Rattle.vp_live.proofs.encoding.encode_pictures.Given as goal

abbrev pub invariant-loop-picture : goal.invariant-loop-picture
invariant-loop-picture g l =
    (bytes : List ℕ) × (frames : List EncodedFrame)
    × Consumes (counted_remaining g.R.Read.remaining l.fn.reader) (bytes_left g.R.Read.remaining l.source) bytes
    × ((settings : Settings) (line : List ℕ) → IsLiveAt settings (head_model l.head) line [] l.fn.run
    → IsLiveAt settings (head_model l.head) (line ++ bytes) frames l.run)
    × Appends (counted_contents g.W.Write.contents l.fn.writer) (counted_contents g.W.Write.contents l.writer) (frames_text frames)
    × (l.run.frames ≡ length frames)
    × (l.run.limits ≡ l.fn.run.limits)
    × (l.run.encoder.dim ≡ l.fn.run.encoder.dim)
    × (reader_name l.source ≡ reader_name l.initial.source)
    × (head_of l.source ≡ head_model l.head)
    × (progress_of l.source ≡ Open)
    × (failures_of l.source ≡ counted_failures l.fn.reader)
    × (counted_failures l.writer ≡ counted_failures l.fn.writer)
    × ((settings : Settings) (line : List ℕ) → IsLiveAt settings (head_model l.head) line [] l.fn.run
    → IsWrittenFurther (g.T.Watcher.told l.fn.watcher) (g.T.Watcher.told l.watcher) (progress_of_frames frames))
    × TakesInReads 0 (counted_remaining g.R.Read.remaining l.fn.reader) (bytes_left g.R.Read.remaining l.source) (counted_reads l.fn.reader) (reads_of l.source)
    × (reads_of l.source ≤ counted_reads l.fn.reader + l.run.frames * (1025 + i420_length l.head.dim.w l.head.dim.h))
    × (l.run.frames ≤ l.fn.run.limits.packets)

abbrev pub decreases-loop-picture : goal.decreases-loop-picture
decreases-loop-picture g l = l.fn.run.limits.packets - l.run.frames
