-- The lines that `vp8 info` prints. Pinned by the test `info_lists_faults`.
use Rattle.std.specs.Prelude.{ℕ, zero, suc, ◌+◌, List, [], ◌++◌, length, slice_index_or, codes, decimal}
use Rattle.vp_head.specs.Names.{packet_fault_name}
use Rattle.vp_decode.specs.declared.decoder.Outcome.{Outcome}
use Rattle.vp_decode.specs.declared.decoder.Outcome.TheVariants as outcome
use Rattle.vp_stream.specs.declared.outcomes.Survey.{Survey}
use Rattle.vp_stream.specs.Texts.{head_lines}

-- the word for the outcome of a packet
abbrev pub word_of : Outcome → List ℕ
word_of outcome.Shown = codes "Shown"
word_of outcome.Hidden = codes "Hidden"
word_of (outcome.Fault fault) = packet_fault_name fault

-- a packet's number, its length in bytes, and its outcome
abbrev pub packet_line : ℕ → ℕ → Outcome → List ℕ
packet_line number bytes o = decimal number ++ (codes " " ++ (decimal bytes
    ++ (codes " " ++ (word_of o ++ codes "\n"))))

-- the lines for the first n packets
unfoldable pub packet_lines : List (ℕ × Outcome) → ℕ → List ℕ
packet_lines packets zero = []
packet_lines packets (suc n) =
    let packet = slice_index_or packets n (0, outcome.Shown) in
    packet_lines packets n ++ packet_line n packet.0 packet.1

-- the lines for n packets, from one of them on
unfoldable pub lines_from : List (ℕ × Outcome) → ℕ → ℕ → List ℕ
lines_from packets first zero = []
lines_from packets first (suc n) =
    let packet = slice_index_or packets (first + n) (0, outcome.Shown) in
    lines_from packets first n ++ packet_line (first + n) packet.0 packet.1

-- the size and the rate if the head is valid, and the number of packets
abbrev pub head_text : Survey → List ℕ
head_text s = head_lines s.head ++ (codes "packets " ++ (decimal (length s.packets) ++ codes "\n"))

-- the size and the rate if the head is valid, the number of packets, and a line for each
abbrev pub survey_text : Survey → List ℕ
survey_text s =
    head_lines s.head ++ (codes "packets " ++ (decimal (length s.packets)
    ++ (codes "\n" ++ packet_lines s.packets (length s.packets))))
