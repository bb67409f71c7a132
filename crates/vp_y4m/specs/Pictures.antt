-- A YUV4MPEG2 file by its bytes: the header, and one picture after another. Pinned by the tests `planes_stand_in_order`
-- and `source_reads_back`.
use Rattle.std.specs.Prelude.{ℕ, ◌<◌, ◌≡◌, ◌⊎◌, List, length, take, drop, nat_le, Option, Some, None, Result, Ok, Err}
use Rattle.std.specs.Prelude.{if◌then◌else◌, codes}
use Rattle.std.specs.Io.KnownBytes.{Consumes, IsAtEnd}
use Rattle.vp_y4m.specs.declared.fault.SourceFault.{SourceFault}
use Rattle.vp_y4m.specs.declared.fault.SourceFault.TheVariants.{Magic, Torn, Device}
use Rattle.vp_y4m.specs.Text.{i420_length}
use Rattle.vp_y4m.specs.Lines.{first_line}
use Rattle.vp_y4m.specs.Header.{Head, begins_with, head_in}

-- a header and the bytes after it, or its fault
abbrev pub with_rest : Result Head SourceFault → List ℕ → Result (Head × List ℕ) SourceFault
with_rest (Err fault) rest = Err fault
with_rest (Ok head) rest = Ok (head, rest)

-- the header of the first line, and the bytes after it
abbrev pub head_line : ℕ → Result (Option (List ℕ × List ℕ)) SourceFault → Result (Head × List ℕ) SourceFault
head_line pixels (Err fault) = Err fault
head_line pixels (Ok None) = Err Torn
head_line pixels (Ok (Some (line, rest))) = with_rest (head_in pixels line) rest

-- the header and the bytes after it, for pictures of at most this many pixels
unfoldable pub file_head : ℕ → List ℕ → Result (Head × List ℕ) SourceFault
file_head pixels bytes = head_line pixels (first_line bytes)

-- the first n bytes, and those after them
abbrev pub split_off : ℕ → List ℕ → Result (Option (List ℕ × List ℕ)) SourceFault
split_off n bytes = if nat_le n (length bytes) then Ok (Some (take n bytes, drop n bytes)) else Err Torn

-- the n bytes after a frame line, and those after them
abbrev pub frame_line : ℕ → Result (Option (List ℕ × List ℕ)) SourceFault
    → Result (Option (List ℕ × List ℕ)) SourceFault
frame_line n (Err fault) = Err fault
frame_line n (Ok None) = Ok None
frame_line n (Ok (Some (line, rest))) = if begins_with (codes "FRAME") line then split_off n rest else Err Magic

-- the next picture of w columns and h rows as I420, and the bytes after it; None if there are no bytes
unfoldable pub next_of : ℕ → ℕ → List ℕ → Result (Option (List ℕ × List ℕ)) SourceFault
next_of w h bytes = frame_line (i420_length w h) (first_line bytes)

-- fewer than n bytes are read: the input ended, or a read failed
pub record StopsShort (n : ℕ) (fault : SourceFault) (before after : Option (List ℕ)) : Type 0 where
  pub taken : List ℕ
  pub consumed : Consumes before after taken
  pub few : length taken < n
  pub named : (fault ≡ Torn) ⊎ (fault ≡ Device)
  pub at_end : fault ≡ Torn → IsAtEnd after
