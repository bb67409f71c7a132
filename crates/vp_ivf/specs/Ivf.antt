-- The header and the packets of an IVF file, and its faults in order. All numbers are little endian. IVF is the
-- container of the standard's test streams, and not part of RFC 6386. Pinned by the tests `packet_limits`,
-- `file_cut_short` and `fed_byte_by_byte`.
use Rattle.std.specs.Prelude.{ℕ, zero, suc, ◌+◌, nat_lt, nat_eq, not, List, [], ◌∷◌, ◌++◌, length, take, drop, Option}
use Rattle.std.specs.Prelude.{Some, None, Result, Ok, Err, if◌then◌else◌, codes}
use Rattle.std.specs.List.{starts_with}
use Rattle.byteorder.specs.Endian.{little_number}
use Rattle.vp_ivf.specs.declared.packet.Packet.{Packet}
use Rattle.vp_ivf.specs.declared.packet.IvfHead.{IvfHead}
use Rattle.vp_ivf.specs.declared.fault.FileFault.{FileFault}
use Rattle.vp_ivf.specs.declared.fault.FileFault.TheVariants.{Signature, Codec, TooMany, PacketTooLarge}

-- what the bytes so far contain: the header, the complete packets, how many more are allowed, the fault, and the
-- remaining bytes
pub record Contents : Type 0 where
  pub head : Option IvfHead
  pub packets : List Packet
  pub left : ℕ
  pub fault : Option FileFault
  pub rest : List ℕ

-- the fields of the 32 bytes of the file header; its version, its length and its number of packets are not used
abbrev pub parsed_ivf_head : List ℕ → IvfHead
parsed_ivf_head b = record {
  w = little_number 2 (drop 12 b);
  h = little_number 2 (drop 14 b);
  rate = little_number 4 (drop 16 b);
  scale = little_number 4 (drop 20 b);
}

-- the file header, once its 32 bytes are there
unfoldable pub next_head : List ℕ → Result (Option IvfHead) FileFault
next_head b =
    if nat_lt (length b) 32 then Ok None else
    if not (starts_with nat_eq b (codes "DKIF")) then Err Signature else
    if not (starts_with nat_eq (drop 8 b) (codes "VP80")) then Err Codec else Ok (Some (parsed_ivf_head b))

-- the size in a packet header
abbrev pub packet_size : List ℕ → ℕ
packet_size b = little_number 4 b

-- the first packet, of this size: its time and its bytes, after the 12 bytes of its header
abbrev pub packet_at : ℕ → List ℕ → Packet
packet_at size b = record { time = little_number 8 (drop 4 b); bytes = take size (drop 12 b) }

-- the size of the first packet, once it is complete; at most n more packets of at most max bytes each are allowed
unfoldable pub next_size : ℕ → ℕ → List ℕ → Result (Option ℕ) FileFault
next_size max zero b = if nat_lt (length b) 12 then Ok None else Err TooMany
next_size max (suc n) b =
    if nat_lt (length b) 12 then Ok None else
    if nat_lt max (packet_size b) then Err PacketTooLarge else
    if nat_lt (length b) (12 + packet_size b) then Ok None else Ok (Some (packet_size b))

-- the contents if nothing more can be read
abbrev pub stop : Option IvfHead → ℕ → Option FileFault → List ℕ → Contents
stop head n fault b = record { head = head; packets = []; left = n; fault = fault; rest = b }

-- contents with these packets first
abbrev pub with_prefix : List Packet → Contents → Contents
with_prefix front r = record r { packets = front ++ r.packets }

-- a fault or missing bytes end the reading; else the packet precedes the packets that are read later
abbrev pub after_next : Option IvfHead → Result (Option ℕ) FileFault → ℕ → List ℕ → Contents → Contents
after_next head (Err fault) n b later = stop head n (Some fault) b
after_next head (Ok None) n b later = stop head n None b
after_next head (Ok (Some size)) n b later = with_prefix (packet_at size b ∷ []) later

-- the contents after the file header, with at most n more packets
unfoldable pub cuts : Option IvfHead → ℕ → ℕ → List ℕ → Contents
cuts head max zero b = after_next head (next_size max zero b) 0 b (stop head 0 None b)
cuts head max (suc n) b = after_next head (next_size max (suc n) b) (suc n) b
    (cuts head max n (drop (12 + packet_size b) b))

-- the contents of a file, given its header, a fault, or too few bytes for a header
abbrev pub after_head : Result (Option IvfHead) FileFault → ℕ → ℕ → List ℕ → Contents
after_head (Err fault) max n b = stop None n (Some fault) b
after_head (Ok None) max n b = stop None n None b
after_head (Ok (Some head)) max n b = cuts (Some head) max n (drop 32 b)

-- the contents of a file of at most n packets of at most max bytes each
unfoldable pub read_file : ℕ → ℕ → List ℕ → Contents
read_file max n b = after_head (next_head b) max n b

-- the contents of further bytes; the file header is known or still to be read
abbrev pub read_from : Option IvfHead → ℕ → ℕ → List ℕ → Contents
read_from None max n b = read_file max n b
read_from (Some head) max n b = cuts (Some head) max n b

-- the contents after more bytes; after a fault they are not read
abbrev pub resume_at : Option FileFault → ℕ → Contents → List ℕ → Contents
resume_at (Some fault) max r more = record r { rest = r.rest ++ more }
resume_at None max r more = with_prefix r.packets (read_from r.head max r.left (r.rest ++ more))

-- the contents of a file after more bytes
abbrev pub resume : ℕ → Contents → List ℕ → Contents
resume max r more = resume_at r.fault max r more
