-- Byte ranges (RFC 9110, chapter 14): the requests that have one, and the part of the body that it selects. Pinned by
-- the tests `byte_ranges` and `other_ranges`.
use Rattle.std.specs.Prelude.{ℕ, ◌≤◌, ◌<◌, ◌-◌, ◌+◌, ◌==◌, ◌&&◌, ◌||◌, min, nat_lt, nat_le, Bool, List, length, take}
use Rattle.std.specs.Prelude.{drop, position, codes, count_by, Option, Some, None, if◌then◌else◌}
use Rattle.std.specs.Str.{str_eq_ignore_ascii_case}
use Rattle.vp_heads.specs.declared.ranges.Range.{Range}
use Rattle.vp_heads.specs.declared.ranges.Range.TheVariants.{Whole, Between, From, Last}
use Rattle.vp_heads.specs.declared.ranges.Part.{Part}
use Rattle.vp_heads.specs.declared.ranges.Part.TheVariants.{All, Slice, Beyond}
use Rattle.vp_heads.specs.Fields.{Pair, is_named, value_of}
use Rattle.vp_heads.specs.Numbers.{count_in}

-- the byte `-`
abbrev pub is_dash : ℕ → Bool
is_dash b = b == 45

-- `A-`: from byte A to the end
abbrev pub from_by : Option ℕ → Range
from_by None = Whole
from_by (Some a) = From a

-- `-N`: the last N bytes
abbrev pub last_by : Option ℕ → Range
last_by None = Whole
last_by (Some n) = Last n

-- `A-B`: from byte A to byte B, inclusive
abbrev pub between_by : Option ℕ → Option ℕ → Range
between_by (Some a) (Some b) = Between a b
between_by (Some a) None = Whole
between_by None b = Whole

-- `A-B`, `A-` or `-N`, given the text before and after the dash; anything else is no range
abbrev pub range_by : List ℕ → List ℕ → Range
range_by front back =
    if length front == 0 then last_by (count_in back) else
    if length back == 0 then from_by (count_in front) else between_by (count_in front) (count_in back)

-- the text is split at this position
abbrev pub range_at : Option ℕ → List ℕ → Range
range_at None text = Whole
range_at (Some dash) text = range_by (take dash text) (drop (dash + 1) text)

-- the text is split at its first dash
abbrev pub range_behind : List ℕ → Range
range_behind text = range_at (position is_dash text) text

-- the value is `bytes=`, ignoring case, followed by one range
abbrev pub range_of : List ℕ → Range
range_of value =
    if nat_le 6 (length value) && str_eq_ignore_ascii_case (take 6 value) (codes "bytes=") then range_behind
    (drop 6 value) else Whole

-- a range is honoured if there is exactly one Range field and no If-Range field
abbrev pub range_in : List Pair → Range
range_in fields =
    if count_by (is_named (codes "range")) fields == 1 && count_by (is_named (codes "if-range")) fields == 0
    then range_of (value_of (codes "range") fields) else Whole

-- the part of a body of this size that a range selects, as its first and its last byte; a range that ends before it
-- begins is ignored
abbrev pub selected_part : Range → ℕ → Part
selected_part Whole size = All
selected_part (Between a b) size = if nat_lt b a then All else if nat_lt a size then Slice a
    (min b (size - 1)) else Beyond
selected_part (From a) size = if nat_lt a size then Slice a (size - 1) else Beyond
selected_part (Last n) size = if n == 0 || size == 0 then Beyond else Slice (size - min n size) (size - 1)

-- the part lies within a body of this size
abbrev pub IsPartWithin : ℕ → Part → Type 0
IsPartWithin size All = Unit {0}
IsPartWithin size (Slice first last) = (first ≤ last) × (last < size)
IsPartWithin size Beyond = Unit {0}

-- the bytes from `first` to `last`, inclusive
abbrev pub slice_of : ℕ → ℕ → List ℕ → List ℕ
slice_of first last body = take (last + 1 - first) (drop first body)
