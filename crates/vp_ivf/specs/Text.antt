-- The bytes of an IVF file: the file header, and each packet after its header. Pinned by the tests
-- `file_of_one_packet` and `file_of_two_packets`.
use Rattle.std.specs.Prelude.{ℕ, List, [], ◌∷◌, ◌++◌, length, codes}
use Rattle.byteorder.specs.Endian.{little_bytes}
use Rattle.vp_ivf.specs.declared.packet.Packet.{Packet}
use Rattle.vp_ivf.specs.declared.packet.IvfHead.{IvfHead}

-- the 32 bytes of the file header: `DKIF`, version 0, header length 32, `VP80`, width, height, rate, scale, number of
-- packets, 0
unfoldable pub head_text : ℕ → ℕ → ℕ → ℕ → ℕ → List ℕ
head_text w h rate scale count =
    codes "DKIF" ++ little_bytes 2 0 ++ little_bytes 2 32 ++ codes "VP80" ++ little_bytes 2 w ++ little_bytes 2 h
    ++ little_bytes 4 rate ++ little_bytes 4 scale ++ little_bytes 4 count ++ little_bytes 4 0

-- the 12 bytes of a packet header: its size and its time
unfoldable pub packet_head_text : ℕ → ℕ → List ℕ
packet_head_text size time = little_bytes 4 size ++ little_bytes 8 time

-- the bytes of a packet in a file
abbrev pub packet_text : ℕ → List ℕ → List ℕ
packet_text time bytes = packet_head_text (length bytes) time ++ bytes

-- the bytes of packets in a file, one after another
abbrev pub packets_text : List Packet → List ℕ
packets_text [] = []
packets_text (p ∷ ps) = packet_text p.time p.bytes ++ packets_text ps

-- a file with this header, which announces count packets, and these packets
abbrev pub file_text : IvfHead → ℕ → List Packet → List ℕ
file_text h count packets = head_text h.w h.h h.rate h.scale count ++ packets_text packets
