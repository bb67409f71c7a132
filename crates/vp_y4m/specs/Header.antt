-- The header line of a YUV4MPEG2 file: its tokens, and the faults in order. YUV4MPEG2 is not part of RFC 6386; the
-- lines are those that mjpegtools and ffmpeg write. Pinned by the tests `header_lines` and `header_faults`.
use Rattle.std.specs.Prelude.{ℕ, ◌*◌, ◌==◌, ◌&&◌, ◌||◌, Bool, true, false, List, [], ◌∷◌, length, nat_lt, nat_le}
use Rattle.std.specs.Prelude.{Option, Some, None, Result, Ok, Err, if◌then◌else◌, codes}
use Rattle.std.specs.Char.{is_ascii_digit}
use Rattle.std.specs.List.{list_all, before_first, after_first, slice_split}
use Rattle.std.specs.Str.{bytes_eq}
use Rattle.std.specs.Str.Parse.{digits_value}
use Rattle.vp_y4m.specs.declared.fault.SourceFault.{SourceFault}
use Rattle.vp_y4m.specs.declared.fault.SourceFault.TheVariants.{Magic, Size, Colour, Interlaced}

-- the fields of a header: width, height, and rate / scale pictures per second
pub record Head : Type 0 where
  pub w : ℕ
  pub h : ℕ
  pub rate : ℕ
  pub scale : ℕ

abbrev pub is_space : ℕ → Bool
is_space byte = byte == 32

abbrev pub is_colon : ℕ → Bool
is_colon byte = byte == 58

-- whether the first token of a line is this word
abbrev pub begins_with : List ℕ → List ℕ → Bool
begins_with word line = bytes_eq (before_first is_space line) word

-- the text of a token after its first byte, if that byte is kind
abbrev pub text_after_kind : ℕ → List ℕ → Option (List ℕ)
text_after_kind kind [] = None
text_after_kind kind (c ∷ text) = if c == kind then Some text else None

-- the first if there is one, else the second
abbrev pub either : {A : Type 0} → Option A → Option A → Option A
either (Some x) y = Some x
either None y = y

-- the text of the last token of a kind in a list of tokens
abbrev pub last_among : ℕ → List (List ℕ) → Option (List ℕ)
last_among kind [] = None
last_among kind (token ∷ more) = either (last_among kind more) (text_after_kind kind token)

-- the text of the last token of a kind in the line
unfoldable pub last_token : ℕ → List ℕ → Option (List ℕ)
last_token kind line = last_among kind (slice_split is_space line)

-- a decimal number below 2^32: at least one digit, and nothing else
abbrev pub number_in : List ℕ → Option ℕ
number_in text = if list_all is_ascii_digit text && (nat_lt 0 (length text)
    && nat_lt (digits_value 10 text) 4294967296) then Some (digits_value 10 text) else None

-- both values, if there are both
abbrev pub option_pair : Option ℕ → Option ℕ → Option (ℕ × ℕ)
option_pair (Some x) (Some y) = Some (x, y)
option_pair (Some x) None = None
option_pair None y = None

-- two numbers separated by a colon; 25:1 if there is no token
abbrev pub rate_in : Option (List ℕ) → Option (ℕ × ℕ)
rate_in None = Some (25, 1)
rate_in (Some text) = option_pair (number_in (before_first is_colon text)) (number_in (after_first is_colon text))

abbrev pub is_side : ℕ → Bool
is_side side = nat_lt 0 side && nat_le side 16383

-- a valid size of at most this many pixels
abbrev pub size_within : ℕ → Option (ℕ × ℕ) → Option (ℕ × ℕ)
size_within pixels None = None
size_within pixels (Some (w, h)) = if is_side w && (is_side h && nat_le (w * h) pixels) then Some (w, h) else None

-- the number of a width or height token
abbrev pub side_in : Option (List ℕ) → Option ℕ
side_in None = None
side_in (Some text) = number_in text

-- 8-bit 4:2:0, with any placement of chroma samples; so if there is no token
abbrev pub is_taken_colour : Option (List ℕ) → Bool
is_taken_colour None = true
is_taken_colour (Some text) = bytes_eq text (codes "420") || (bytes_eq text (codes "420jpeg")
    || (bytes_eq text (codes "420mpeg2") || bytes_eq text (codes "420paldv")))

-- whether the pictures are not interlaced: no token, `p`, or `?` (unknown)
abbrev pub is_progressive : Option (List ℕ) → Bool
is_progressive None = true
is_progressive (Some text) = bytes_eq text (codes "p") || bytes_eq text (codes "?")

-- the fields, or the first fault in order
abbrev pub judged : Option (ℕ × ℕ) → Option (ℕ × ℕ) → Bool → Bool → Result Head SourceFault
judged None size colour progressive = Err Magic
judged (Some (rate, scale)) None colour progressive = Err Size
judged (Some (rate, scale)) (Some (w, h)) false progressive = Err Colour
judged (Some (rate, scale)) (Some (w, h)) true false = Err Interlaced
judged (Some (rate, scale)) (Some (w, h)) true true = Ok (record { w = w; h = h; rate = rate; scale = scale })

-- the fields of the header line, for pictures of at most this many pixels
unfoldable pub head_in : ℕ → List ℕ → Result Head SourceFault
head_in pixels line =
    if begins_with (codes "YUV4MPEG2") line then
    judged (rate_in (last_token 70 line)) (size_within pixels
    (option_pair (side_in (last_token 87 line)) (side_in (last_token 72 line))))
    (is_taken_colour (last_token 67 line)) (is_progressive (last_token 73 line))
    else Err Magic
