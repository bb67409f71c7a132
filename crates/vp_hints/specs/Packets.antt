-- The packets of an IVF file, counted byte by byte: a head of 32 bytes, then packets, each with a head of 12 bytes
-- whose first four state its size, and the other eight its time, little endian. Pinned by the test
-- `packets_are_counted`.
use Rattle.std.specs.Prelude.{ℕ, Bool, false, ◌+◌, ◌-◌, ◌*◌, ◌/◌, ◌^◌, ◌==◌, ◌&&◌, nat_lt, List, [], ◌∷◌, min}
use Rattle.std.specs.Prelude.{if◌then◌else◌}
use Rattle.vp_hints.specs.declared.packets.Place.{Place}
use Rattle.vp_hints.specs.declared.packets.Place.TheVariants.{FileHead, PacketHead, Packet}
use Rattle.vp_hints.specs.declared.packets.PacketCount.{PacketCount}

-- the place after the head of a packet of this size
abbrev pub place_behind_head : ℕ → Place
place_behind_head size = if size == 0 then PacketHead 0 0 else Packet size

-- the place after the next byte; the bytes of a size are shifted in from above
abbrev pub place_after : Place → ℕ → Place
place_after (FileHead left) byte = if nat_lt left 2 then PacketHead 0 0 else FileHead (left - 1)
place_after (PacketHead passed size) byte =
    if nat_lt passed 4 then PacketHead (passed + 1) (size / 256 + byte * 2 ^ 24) else
    if nat_lt passed 11 then PacketHead (passed + 1) size else place_behind_head size
place_after (Packet left) byte = if nat_lt left 2 then PacketHead 0 0 else Packet (left - 1)

-- the next byte is the last one of a packet
abbrev pub ends_packet : Place → Bool
ends_packet (FileHead left) = false
ends_packet (PacketHead passed size) = (passed == 11) && (size == 0)
ends_packet (Packet left) = nat_lt left 2

-- a time with its next byte, which is shifted in from above
abbrev pub time_with : ℕ → ℕ → ℕ
time_with time byte = time / 256 + byte * 2 ^ 56

-- the time of the last packet's head so far, after the next byte
abbrev pub time_at : Place → ℕ → ℕ → ℕ
time_at (FileHead left) time byte = time
time_at (PacketHead passed size) time byte = if nat_lt passed 4 then time else time_with time byte
time_at (Packet left) time byte = time

-- a time with these bytes more
abbrev pub time_behind : ℕ → List ℕ → ℕ
time_behind time [] = time
time_behind time (byte ∷ bytes) = time_behind (time_with time byte) bytes

-- the count before a file's first byte
abbrev pub first_count : PacketCount
first_count = record { place = FileHead 32; whole = 0; time = 0 }

-- the count after a byte; it saturates at 2^64 - 1
abbrev pub count_after : PacketCount → ℕ → PacketCount
count_after c byte = record {
  place = place_after c.place byte;
  whole = if ends_packet c.place then min (c.whole + 1) (2 ^ 64 - 1) else c.whole;
  time = time_at c.place c.time byte;
}

-- the count after these bytes
abbrev pub counted_after : PacketCount → List ℕ → PacketCount
counted_after c [] = c
counted_after c (byte ∷ bytes) = counted_after (count_after c byte) bytes
