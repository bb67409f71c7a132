-- The model of a source of pictures: its reader, header and progress, and the result of each call.
use Rattle.std.specs.Prelude.{ℕ, List, Option, Some, None, Result, Ok, Err}
use Rattle.vp_base.specs.Counted.{counted_remaining, counted_failures, counted_reads}
use Rattle.vp_y4m.specs.declared.fault.SourceFault.{SourceFault}
use Rattle.vp_y4m.specs.declared.source.Source.{Source}
use Rattle.vp_y4m.specs.declared.source.Progress.{Progress}
use Rattle.vp_y4m.specs.declared.source.Progress.TheVariants.{Open, Ended, Failed}
use Rattle.vp_base.specs.Image.{Image}
use Rattle.vp_y4m.specs.Reads.{ShowsAtEnd, Fails}
use Rattle.vp_y4m.specs.Pictures.{next_of}
use Rattle.vp_y4m.specs.Frames.{GivesPicture}
use Rattle.vp_y4m.specs.Header.{Head}
use Rattle.vp_y4m.specs.Shown.{head_model}

-- the identity of the mutable reference to the reader
abbrev pub reader_name : {R : Type 0} → Source R → ℕ
reader_name source = source.reader.ghost_name

-- the remaining bytes of its reader, if known
abbrev pub bytes_left : {R : Type 0} → (R → Option (List ℕ)) → Source R → Option (List ℕ)
bytes_left remaining source = counted_remaining remaining source.reader.now

-- the number of failed calls of its reader
abbrev pub failures_of : {R : Type 0} → Source R → ℕ
failures_of source = counted_failures source.reader.now

-- the number of reads of its reader
abbrev pub reads_of : {R : Type 0} → Source R → ℕ
reads_of source = counted_reads source.reader.now

-- the header of a source
abbrev pub head_of : {R : Type 0} → Source R → Head
head_of source = head_model source.head

-- whether more pictures may follow, or the input ended, or a fault is permanent
abbrev pub progress_of : {R : Type 0} → Source R → Progress
progress_of source = source.progress

-- the progress of an open source after a result
abbrev pub progress_after : {P : Type 0} → Result (Option P) SourceFault → Progress
progress_after (Ok (Some picture)) = Open
progress_after (Ok None) = Ended
progress_after (Err fault) = Failed fault

-- a result is determined by the bytes: the next picture, the end, or a fault
abbrev pub AnswersNextPicture : ℕ → ℕ → Result (Option Image) SourceFault → Option (List ℕ) → Option (List ℕ) → Type 0
AnswersNextPicture w h (Ok (Some picture)) before after = GivesPicture w h picture before after
AnswersNextPicture w h (Ok None) before after = ShowsAtEnd (next_of w h) (Ok None) before after
AnswersNextPicture w h (Err fault) before after = Fails (next_of w h) fault before after
