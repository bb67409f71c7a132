-- Private to the crate: a whole file is read into a stream, piece by piece.
use Rattle.std.specs.Prelude.{◌≡◌, ◌≢◌, ◌⊎◌, ◌<◌, ℕ, Bool, true, false, List, [], length, Option, None, Some, IsSome}
use Rattle.std.specs.Prelude.{Result, Ok, Err}
use Rattle.std.specs.Io.KnownBytes.{IsAtEnd}
use Rattle.vp_base.specs.declared.limits.Limits.{Limits}
use Rattle.vp_ivf.specs.declared.fault.FileFault.{FileFault}
use Rattle.vp_ivf.specs.declared.fault.FileFault.TheVariants.{Torn}
use Rattle.vp_ivf.specs.Reader.{finish_answer}
use Rattle.vp_stream.specs.declared.fault.SurveyFault.{SurveyFault}
use Rattle.vp_stream.specs.declared.fault.SurveyFault.TheVariants.{ReadTurns}
use Rattle.vp_stream.specs.Answers.{reading_of}
use Rattle.vp_stream.specs.PacketReader.{ending, IsStoppedBy}
use Rattle.vp_stream.specs.Stream.{Stream, after_piece}

-- one read: a piece without a fault is fed; or the reader is at its end, or the piece has the file's fault; or the read
-- fails, or memory runs out
abbrev pub ReadsPiece : Result Bool SurveyFault → Stream → Stream → List ℕ → Option (List ℕ) → Type 0
ReadsPiece (Ok true) old new piece left =
    (0 < length piece) × (new ≡ after_piece old piece) × (new.reading.fault ≡ None)
ReadsPiece (Ok false) old new piece left =
    ((piece ≡ []) × (new ≡ old) × IsAtEnd left) ⊎ ((new ≡ after_piece old piece) × IsSome new.reading.fault)
ReadsPiece (Err fault) old new piece left = fault ≢ ReadTurns

-- the stream has the contents of the file, with this fault; its end was reached, unless the fault is one before the end
pub record IsFileRead (limits : Limits) (fault : Option FileFault) (stream : Stream) (file : List ℕ)
    (left : Option (List ℕ)) : Type 0 where
  pub reading : stream.reading ≡ reading_of limits file
  pub answer : finish_answer (reading_of limits file) ≡ ending fault
  pub good : fault ≡ None → IsAtEnd left
  pub torn : fault ≡ Some Torn → IsAtEnd left

-- the whole file is read; or reading stops, and if no reads are left, each of them gave a byte
abbrev pub ReadsFile : Limits → Result (Option FileFault) SurveyFault → Stream → List ℕ → Option (List ℕ) → Type 0
ReadsFile limits (Ok fault) stream file left = IsFileRead limits fault stream file left
ReadsFile limits (Err fault) stream file left = IsStoppedBy fault file
