-- The fault of a file that may still grow.
use Rattle.std.specs.Prelude.{Result, if◌then◌else◌}
use Rattle.vp_ivf.specs.declared.fault.FileFault.{FileFault}
use Rattle.vp_ivf.specs.Reader.{finish_answer}
use Rattle.vp_stream.specs.PacketReader.{ending}
use Rattle.vp_stream.specs.Stream.{Stream}

-- the result of marking the file's end, once it is marked; before, the fault of the bytes so far, if they have one
abbrev pub ending_of : Stream → Result (Unit {0}) FileFault
ending_of s = if s.ended then finish_answer s.reading else ending s.reading.fault
