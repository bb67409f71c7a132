-- The lines of a YUV4MPEG2 file, of at most 1,024 bytes. Pinned by the test `header_faults`.
use Rattle.std.specs.Prelude.{ℕ, ◌≤◌, ◌≡◌, ◌==◌, Bool, List, [], ◌∷◌, length, take, nat_lt, Option, Some, None, Result}
use Rattle.std.specs.Prelude.{Ok, Err, if◌then◌else◌}
use Rattle.std.specs.Io.KnownBytes.{Consumes, IsAtEnd}
use Rattle.std.specs.List.{position_or_len, before_first, after_first}
use Rattle.vp_y4m.specs.declared.fault.SourceFault.{SourceFault}
use Rattle.vp_y4m.specs.declared.fault.SourceFault.TheVariants.{Magic, Size, Colour, Interlaced, Torn, Device, Memory}
use Rattle.vp_y4m.specs.Reads.{Shows, ShowsAtEnd, TakesBytes}

abbrev pub is_line_feed : ℕ → Bool
is_line_feed byte = byte == 10

-- the first line of some bytes, without its line feed, and the bytes after it; None if there are no bytes. More than
-- 1,024 bytes without a line feed are `Magic`; fewer at the end of the input are `Torn`.
unfoldable pub first_line : List ℕ → Result (Option (List ℕ × List ℕ)) SourceFault
first_line bytes =
    if length bytes == 0 then Ok None else
    if nat_lt 1024 (position_or_len is_line_feed bytes) then Err Magic else
    if nat_lt (position_or_len is_line_feed bytes) (length bytes) then Ok
    (Some (before_first is_line_feed bytes, after_first is_line_feed bytes)) else Err Torn

-- the next byte is consumed, or the input ended, or nothing is consumed
abbrev pub ReadsByte : Result (Option ℕ) SourceFault → Option (List ℕ) → Option (List ℕ) → Type 0
ReadsByte (Ok (Some byte)) before after = Consumes before after (byte ∷ [])
ReadsByte (Ok None) before after = Consumes before after [] × IsAtEnd after
ReadsByte (Err fault) before after = (fault ≡ Device) × Consumes before after []

-- 1,025 bytes without a line feed are consumed
pub record IsLineTooLong (before after : Option (List ℕ)) : Type 0 where
  pub taken : List ℕ
  pub consumed : Consumes before after taken
  pub long : length taken ≡ 1025
  pub no_feed : position_or_len is_line_feed taken ≡ length taken

-- a line is too long, or the input ends inside it, or a read failed
abbrev pub LineFails : SourceFault → Option (List ℕ) → Option (List ℕ) → Type 0
LineFails Magic before after = IsLineTooLong before after
LineFails Torn before after = ShowsAtEnd first_line (Err Torn) before after
LineFails Device before after = TakesBytes before after
LineFails Size before after = ⊥
LineFails Colour before after = ⊥
LineFails Interlaced before after = ⊥
LineFails Memory before after = ⊥

-- a line is read into a prefix of the bytes: its length, or None at the end of the input
abbrev pub ReadsLine : Result (Option ℕ) SourceFault → List ℕ → Option (List ℕ) → Option (List ℕ) → Type 0
ReadsLine (Ok (Some n)) bytes before after = (n ≤ 1024) × Shows first_line
    (λ rest. Ok (Some (take n bytes, rest))) before after
ReadsLine (Ok None) bytes before after = ShowsAtEnd first_line (Ok None) before after
ReadsLine (Err fault) bytes before after = LineFails fault before after
