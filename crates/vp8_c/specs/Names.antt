-- The names of status numbers. Pinned by the tests `names_of_other_numbers` and `a_name_is_copied`.
use Rattle.std.specs.Prelude.{ℕ, List, [], ◌-◌, ◌==◌, nat_lt, codes, if◌then◌else◌}
use Rattle.vp8_c.specs.declared.status.TheConstants.{OK, HIDDEN, TRUNCATED, VERSION, START_CODE, SIZE, TOO_LARGE}
use Rattle.vp8_c.specs.declared.status.TheConstants.{NO_REFERENCE, FIRST_PARTITION, PARTITION_TABLE, PARTITION}
use Rattle.vp8_c.specs.declared.status.TheConstants.{SIGNATURE, CODEC, TOO_MANY, PACKET_TOO_LARGE, TORN, ENDED}
use Rattle.vp8_c.specs.declared.status.TheConstants.{SETTINGS, TOO_LONG, CLOSED, OPEN, MEMORY, LIMITS, DIMENSIONS}
use Rattle.vp8_c.specs.declared.status.TheConstants.{NO_PICTURE, NO_PACKET, BUFFER, LOSSLESS, ANIMATED, NOT_KEY}

-- success, by its number
abbrev pub done_name : ℕ → List ℕ
done_name n =
    if n == OK then codes "Ok" else
    if n == HIDDEN then codes "Hidden" else
    []

-- a packet's fault, by its number
abbrev pub packet_name : ℕ → List ℕ
packet_name n =
    if n == TRUNCATED then codes "Truncated" else
    if n == VERSION then codes "Version" else
    if n == START_CODE then codes "StartCode" else
    if n == SIZE then codes "Size" else
    if n == TOO_LARGE then codes "TooLarge" else
    if n == NO_REFERENCE then codes "NoReference" else
    if n == FIRST_PARTITION then codes "FirstPartition" else
    if n == PARTITION_TABLE then codes "PartitionTable" else
    []

-- a file's fault, by its number
abbrev pub file_name : ℕ → List ℕ
file_name n =
    if n == SIGNATURE then codes "Signature" else
    if n == CODEC then codes "Codec" else
    if n == TOO_MANY then codes "TooMany" else
    if n == PACKET_TOO_LARGE then codes "PacketTooLarge" else
    if n == TORN then codes "Torn" else
    if n == ENDED then codes "Ended" else
    if n == LOSSLESS then codes "Lossless" else
    if n == ANIMATED then codes "Animated" else
    if n == NOT_KEY then codes "NotKey" else
    []

-- an encoder's fault, by its number
abbrev pub frame_name : ℕ → List ℕ
frame_name n =
    if n == SETTINGS then codes "Settings" else
    if n == TOO_LONG then codes "TooLong" else
    []

-- a refused call, by its number
abbrev pub call_name : ℕ → List ℕ
call_name n =
    if n == CLOSED then codes "Closed" else
    if n == OPEN then codes "Open" else
    if n == MEMORY then codes "Memory" else
    if n == LIMITS then codes "Limits" else
    if n == DIMENSIONS then codes "Dimensions" else
    if n == NO_PICTURE then codes "NoPicture" else
    if n == NO_PACKET then codes "NoPacket" else
    if n == BUFFER then codes "Buffer" else
    []

-- the fault of token partition i
abbrev pub partition_name : ℕ → List ℕ
partition_name i =
    if i == 0 then codes "Partition 0" else
    if i == 1 then codes "Partition 1" else
    if i == 2 then codes "Partition 2" else
    if i == 3 then codes "Partition 3" else
    if i == 4 then codes "Partition 4" else
    if i == 5 then codes "Partition 5" else
    if i == 6 then codes "Partition 6" else
    if i == 7 then codes "Partition 7" else
    []

-- the name of a status number; empty if there is no such status
abbrev pub status_name : ℕ → List ℕ
status_name n =
    if nat_lt n TRUNCATED then done_name n else
    if nat_lt n SIGNATURE then packet_name n else
    if nat_lt n SETTINGS then file_name n else
    if nat_lt n CLOSED then frame_name n else
    if nat_lt n PARTITION then call_name n else
    partition_name (n - PARTITION)
