-- The status number of each outcome and fault, as in `include/vp8.h`. Pinned by the tests `numbers_of_the_header`,
-- `numbers_of_packet_faults`, `numbers_of_file_faults` and `numbers_of_webp_faults`.
use Rattle.std.specs.Prelude.{ℕ, ◌+◌, Result, Ok, Err}
use Rattle.vp_head.specs.declared.fault.PacketFault.{PacketFault}
use Rattle.vp_head.specs.declared.fault.PacketFault.TheVariants.{Truncated, Version, StartCode, Size, TooLarge}
use Rattle.vp_head.specs.declared.fault.PacketFault.TheVariants.{NoReference, FirstPartition, PartitionTable, Partition}
use Rattle.vp_decode.specs.declared.decoder.Outcome.{Outcome}
use Rattle.vp_decode.specs.declared.decoder.Outcome.TheVariants.{Shown, Hidden, Fault}
use Rattle.vp_ivf.specs.declared.fault.FileFault.{FileFault}
use Rattle.vp_ivf.specs.declared.fault.FileFault.TheVariants as file
use Rattle.vp_webp.specs.declared.fault.WebPFault.{WebPFault}
use Rattle.vp_webp.specs.declared.fault.WebPFault.TheVariants as webp
use Rattle.vp_webp.specs.declared.fault.WebPWriteFault.{WebPWriteFault}
use Rattle.vp_webp.specs.declared.fault.WebPWriteFault.TheVariants as writing
use Rattle.vp_stream.specs.Seeking.{AnswerValue}
use Rattle.vp_stream.specs.Seeking as seeking
use Rattle.vp8_c.specs.declared.status.TheConstants.{OK, HIDDEN, NO_PACKET, TRUNCATED, VERSION, START_CODE, SIZE}
use Rattle.vp8_c.specs.declared.status.TheConstants.{TOO_LARGE, NO_REFERENCE, FIRST_PARTITION, PARTITION_TABLE}
use Rattle.vp8_c.specs.declared.status.TheConstants.{PARTITION, SIGNATURE, CODEC, TOO_MANY, PACKET_TOO_LARGE, TORN}
use Rattle.vp8_c.specs.declared.status.TheConstants.{ENDED, LOSSLESS, ANIMATED, NOT_KEY, NO_PICTURE, TOO_LONG, BUFFER}

-- the number of a packet's fault
abbrev pub fault_number : PacketFault → ℕ
fault_number Truncated = TRUNCATED
fault_number Version = VERSION
fault_number StartCode = START_CODE
fault_number Size = SIZE
fault_number TooLarge = TOO_LARGE
fault_number NoReference = NO_REFERENCE
fault_number FirstPartition = FIRST_PARTITION
fault_number PartitionTable = PARTITION_TABLE
fault_number (Partition i) = PARTITION + i

-- the number of a packet's outcome
abbrev pub outcome_number : Outcome → ℕ
outcome_number Shown = OK
outcome_number Hidden = HIDDEN
outcome_number (Fault fault) = fault_number fault

-- the number of a file's fault
abbrev pub file_number : FileFault → ℕ
file_number file.Signature = SIGNATURE
file_number file.Codec = CODEC
file_number file.TooMany = TOO_MANY
file_number file.PacketTooLarge = PACKET_TOO_LARGE
file_number file.Torn = TORN
file_number file.Ended = ENDED

-- the number of the result of marking a file's end
abbrev pub ending_number : Result (Unit {0}) FileFault → ℕ
ending_number (Ok u) = OK
ending_number (Err fault) = file_number fault

-- the number of the answer for a requested packet
abbrev pub answer_status : AnswerValue → ℕ
answer_status (seeking.Shown w h bytes) = OK
answer_status seeking.Hidden = HIDDEN
answer_status (seeking.Fault fault) = fault_number fault
answer_status seeking.NoPacket = NO_PACKET

-- the number of a WebP file's fault
abbrev pub webp_number : WebPFault → ℕ
webp_number webp.Signature = SIGNATURE
webp_number webp.Torn = TORN
webp_number webp.Lossless = LOSSLESS
webp_number webp.Animated = ANIMATED
webp_number webp.NoPicture = NO_PICTURE
webp_number webp.NotKey = NOT_KEY
webp_number webp.Hidden = HIDDEN

-- the number of why a packet has no WebP file in a buffer
abbrev pub webp_write_number : WebPWriteFault → ℕ
webp_write_number writing.NotKey = NOT_KEY
webp_write_number writing.Hidden = HIDDEN
webp_write_number writing.TooLong = TOO_LONG
webp_write_number writing.Device = BUFFER
