-- The lines that `vp8 check` and `vp8 info` print of files that are checked, and when nothing is wrong. Pinned by the
-- tests `check_tells_damage`, `check_of_several_files`, `info_marks_damage`, `info_prints_json` and
-- `names_in_lines_have_no_control_bytes`.
use Rattle.std.specs.Prelude.{◌+◌, ◌/◌, ◌%◌, ℕ, Bool, true, false, List, [], ◌∷◌, ◌++◌, length, codes, decimal, is_none}
use Rattle.std.specs.Prelude.{count_by, Option, Some, None, Result, Ok, Err, nat_eq, nat_lt, not, ◌&&◌, if◌then◌else◌}
use Rattle.vp_head.specs.Names.{packet_fault_name}
use Rattle.vp_ivf.specs.declared.fault.FileFault.{FileFault}
use Rattle.vp_ivf.specs.declared.packet.IvfHead.{IvfHead}
use Rattle.vp_ivf.specs.Names.{file_fault_name}
use Rattle.vp_decode.specs.declared.decoder.Outcome.{Outcome}
use Rattle.vp_decode.specs.declared.decoder.Outcome.TheVariants as outcome
use Rattle.vp_stream.specs.declared.fault.DecodeFault.{DecodeFault}
use Rattle.vp_stream.specs.Names.{decode_fault_name}
use Rattle.vp_stream.specs.Seeking.{saturating_count}
use Rattle.vp_check.specs.declared.checked.Checked.{Checked}
use Rattle.vp_check.specs.declared.checked.CheckedPacket.{CheckedPacket}
use Rattle.vp_check.specs.Checks.{is_corrupt_check, is_fault_check, is_hidden_check, is_shown_check, is_sound}
use Rattle.vp_stream.specs.Texts.{head_lines}
use Rattle.vp_lines.specs.Listing.{word_of}
use Rattle.vp_lines.specs.declared.counts.Counts.{Counts}
use Rattle.vp_lines.specs.declared.lines.PacketLine.{PacketLine}
use Rattle.vp_lines.specs.declared.lines.PacketLine.TheVariants.{Damage, Listed}
use Rattle.vp_lines.specs.declared.styles.LineStyle.{LineStyle}
use Rattle.vp_lines.specs.declared.styles.LineStyle.TheVariants.{Counted, Packets, Json}

-- ---- the numbers of packets

-- no packets
abbrev pub no_counts : Counts
no_counts = record { packets = 0; shown = 0; hidden = 0; faults = 0; corrupt = 0 }

-- the packets of a file; of a file that can't be read, there are none
abbrev pub counts_of : Result Checked DecodeFault → Counts
counts_of (Ok checked) = record {
  packets = length checked.packets;
  shown = count_by is_shown_check checked.packets;
  hidden = count_by is_hidden_check checked.packets;
  faults = count_by is_fault_check checked.packets;
  corrupt = count_by is_corrupt_check checked.packets;
}
counts_of (Err fault) = no_counts

-- the sums of two, which saturate
abbrev pub both_counts : Counts → Counts → Counts
both_counts a b = record {
  packets = saturating_count a.packets b.packets;
  shown = saturating_count a.shown b.shown;
  hidden = saturating_count a.hidden b.hidden;
  faults = saturating_count a.faults b.faults;
  corrupt = saturating_count a.corrupt b.corrupt;
}

-- the sums of these and of all of a list
abbrev pub total_from : Counts → List (Result Checked DecodeFault) → Counts
total_from a [] = a
total_from a (d ∷ ds) = total_from (both_counts a (counts_of d)) ds

-- ---- the lines

-- a hexadecimal digit
abbrev pub hex_digit : ℕ → ℕ
hex_digit n = if nat_lt n 10 then n + 48 else n + 87

-- a byte that moves no terminal's cursor and ends no line
abbrev pub is_plain_byte : ℕ → Bool
is_plain_byte b = not (nat_lt b 32) && not (nat_eq b 127)

-- a byte of a file's name in a line: a control byte as \n or \x1b, any other as it is
abbrev pub name_byte : ℕ → List ℕ
name_byte b =
    if is_plain_byte b then b ∷ [] else
    if nat_eq b 10 then codes "\\n" else codes "\\x" ++ (hex_digit (b / 16) ∷ hex_digit (b % 16) ∷ [])

-- a file's name in a line
abbrev pub shown_name : List ℕ → List ℕ
shown_name [] = []
shown_name (b ∷ bs) = name_byte b ++ shown_name bs

-- NAME: N packets, N shown, N hidden, N faults, N corrupt
abbrev pub counts_line : List ℕ → Counts → List ℕ
counts_line name c =
    shown_name name ++ (codes ": " ++ (decimal c.packets ++ (codes " packets, " ++ (decimal c.shown ++ (codes " shown, "
    ++ (decimal c.hidden ++ (codes " hidden, " ++ (decimal c.faults ++ (codes " faults, "
    ++ (decimal c.corrupt ++ codes " corrupt\n"))))))))))

-- the line of a packet that has a fault or is corrupt; of another there is none
abbrev pub outcome_line : List ℕ → ℕ → Outcome → Bool → List ℕ
outcome_line name number (outcome.Fault f) corrupt =
    shown_name name ++ (codes ": packet " ++ (decimal number ++ (codes ": " ++ (packet_fault_name f ++ codes "\n"))))
outcome_line name number _ true = shown_name name ++ (codes ": packet " ++ (decimal number ++ codes ": corrupt\n"))
outcome_line name number _ false = []

abbrev pub damage_line : List ℕ → ℕ → CheckedPacket → List ℕ
damage_line name number c = outcome_line name number c.outcome c.corrupt

-- after the line of a packet, whether it is said to be corrupt
abbrev pub mark_of : Bool → List ℕ
mark_of true = codes " corrupt\n"
mark_of false = codes "\n"

-- NUMBER BYTES OUTCOME [corrupt]
abbrev pub listed_line : Bool → ℕ → CheckedPacket → List ℕ
listed_line long number c = decimal number ++ (codes " " ++ (decimal c.bytes
    ++ (codes " " ++ (word_of c.outcome ++ mark_of (long && c.corrupt)))))

-- the end of a packet in JSON, which says whether it is corrupt
abbrev pub json_mark : Bool → List ℕ
json_mark true = codes "true}"
json_mark false = codes "false}"

-- a packet in JSON
abbrev pub json_object : CheckedPacket → List ℕ
json_object c = codes "{\"bytes\":" ++ (decimal c.bytes ++ (codes ",\"outcome\":\""
    ++ (word_of c.outcome ++ (codes "\",\"corrupt\":" ++ json_mark c.corrupt))))

-- a packet in JSON, after a comma unless its number is 0
abbrev pub json_packet : ℕ → CheckedPacket → List ℕ
json_packet number c = if nat_eq number 0 then json_object c else codes "," ++ json_object c

-- the form of the text of a packet
pub data PacketForm : Type 0 where
  -- its line, if it has a fault or is corrupt, after this name
  damage : List ℕ → PacketForm
  -- its line, which says that it is corrupt or not
  listed : Bool → PacketForm
  json : PacketForm

-- the text of a packet with this number
abbrev pub packet_text : PacketForm → ℕ → CheckedPacket → List ℕ
packet_text (damage name) number c = damage_line name number c
packet_text (listed long) number c = listed_line long number c
packet_text json number c = json_packet number c

-- the form that a line has
abbrev pub line_form : PacketLine → PacketForm
line_form (Damage name) = damage name.now
line_form (Listed long) = listed long
line_form PacketLine.Json = json

-- the texts of packets, of which the first has this number
abbrev pub packet_texts : PacketForm → ℕ → List CheckedPacket → List ℕ
packet_texts form number [] = []
packet_texts form number (c ∷ cs) = packet_text form number c ++ packet_texts form (number + 1) cs

-- the fault of a file, if it has one
abbrev pub fault_text : List ℕ → Option FileFault → List ℕ
fault_text name None = []
fault_text name (Some fault) = shown_name name ++ (codes ": " ++ (file_fault_name fault ++ codes "\n"))

-- a line for each damaged packet if they are asked for, the numbers of packets, and the file's fault; or why the file
-- can't be read
abbrev pub check_text : Bool → List ℕ → Result Checked DecodeFault → List ℕ
check_text verbose name (Ok checked) =
    (if verbose then packet_texts (damage name) 0 checked.packets else [])
    ++ (counts_line name (counts_of (Ok checked)) ++ fault_text name checked.fault)
check_text verbose name (Err fault) = shown_name name ++ (codes ": " ++ (decode_fault_name fault ++ codes "\n"))

-- the line with a file's name, if it is wanted
abbrev pub name_line : Bool → List ℕ → List ℕ
name_line true name = codes "file " ++ (shown_name name ++ codes "\n")
name_line false name = []

-- the size and the rate if the head is valid, the number of packets, and a line for each
abbrev pub whole_text : Bool → Checked → List ℕ
whole_text long c =
    head_lines c.head ++ (codes "packets " ++ (decimal (length c.packets)
    ++ (codes "\n" ++ packet_texts (listed long) 0 c.packets)))

-- a file's name if it is wanted, and its lines
abbrev pub packets_text : Bool → Bool → List ℕ → Result Checked DecodeFault → List ℕ
packets_text long named name (Ok checked) = name_line named name ++ whole_text long checked
packets_text long named name (Err fault) = name_line named name

-- a byte of a text in JSON
abbrev pub json_byte : ℕ → List ℕ
json_byte b =
    if nat_eq b 34 then codes "\\\"" else
    if nat_eq b 92 then codes "\\\\" else
    if nat_lt b 32 then codes "\\u00" ++ (hex_digit (b / 16) ∷ hex_digit (b % 16) ∷ []) else b ∷ []

-- a text in JSON, without its quotation marks
abbrev pub json_text : List ℕ → List ℕ
json_text [] = []
json_text (b ∷ bs) = json_byte b ++ json_text bs

-- a file's head in JSON, after its name and up to its packets
abbrev pub json_head : Option IvfHead → List ℕ
json_head None = codes "\",\"width\":null,\"height\":null,\"rate\":null,\"scale\":null,\"packets\":["
json_head (Some h) = codes "\",\"width\":" ++ (decimal h.w ++ (codes ",\"height\":" ++ (decimal h.h
    ++ (codes ",\"rate\":" ++ (decimal h.rate ++ (codes ",\"scale\":" ++ (decimal h.scale ++ codes ",\"packets\":[")))))))

-- the start of a file's JSON document, up to its packets
abbrev pub json_start : List ℕ → Option IvfHead → List ℕ
json_start name head = codes "{\"file\":\"" ++ (json_text name ++ json_head head)

-- its end, after its packets
abbrev pub json_end : Option FileFault → List ℕ
json_end None = codes "],\"fault\":null}\n"
json_end (Some fault) = codes "],\"fault\":\"" ++ (file_fault_name fault ++ codes "\"}\n")

-- the JSON document of a file
abbrev pub document : List ℕ → Result Checked DecodeFault → List ℕ
document name (Ok checked) = json_start name checked.head ++ (packet_texts json 0 checked.packets ++ json_end checked.fault)
document name (Err fault) =
    json_start name None ++ (codes "],\"fault\":\"" ++ (decode_fault_name fault ++ codes "\"}\n"))

-- the text of a file
abbrev pub file_text : LineStyle → List ℕ → Result Checked DecodeFault → List ℕ
file_text (Counted verbose) name done = check_text verbose name done
file_text (Packets long named) name done = packets_text long named name done
file_text Json name done = document name done

-- the texts of files
abbrev pub files_text : LineStyle → List (List ℕ) → List (Result Checked DecodeFault) → List ℕ
files_text style (name ∷ names) (done ∷ dones) = file_text style name done ++ files_text style names dones
files_text style _ _ = []

-- the sums are printed
abbrev pub has_total : LineStyle → Bool
has_total (Counted verbose) = true
has_total (Packets long named) = false
has_total Json = false

-- the line of the sums, if they are printed and there are several files
abbrev pub total_text : LineStyle → ℕ → Counts → List ℕ
total_text style files total =
    if has_total style then (if nat_lt 1 files then counts_line (codes "total") total else []) else []

-- all lines
abbrev pub checks_text : LineStyle → List (List ℕ) → List (Result Checked DecodeFault) → List ℕ
checks_text style names dones =
    files_text style names dones ++ total_text style (length dones) (total_from no_counts dones)

-- ---- when nothing is wrong

-- the file can be read, and nothing in it is wrong
abbrev pub is_all_well : Result Checked DecodeFault → Bool
is_all_well (Ok checked) = is_sound checked
is_all_well (Err fault) = false

-- the file can be read, and has no fault of its own
abbrev pub is_whole : Result Checked DecodeFault → Bool
is_whole (Ok checked) = is_none checked.fault
is_whole (Err fault) = false

-- nothing is wrong; where the lines list packets, the fault of a packet is a part of the list
abbrev pub is_well : LineStyle → Result Checked DecodeFault → Bool
is_well (Counted verbose) done = is_all_well done
is_well (Packets long named) done = is_whole done
is_well Json done = is_whole done
