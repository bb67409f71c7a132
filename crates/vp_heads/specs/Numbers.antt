-- Decimal numbers in paths and fields. A packet's number has no leading zeros and is below 2^32.
use Rattle.std.specs.Prelude.{ℕ, List, Bool, ◌&&◌, ◌||◌, ◌==◌, ◌^◌, ◌-◌, not, min, nat_lt, nat_le, length, slice_index}
use Rattle.std.specs.Prelude.{Option, Some, None, if◌then◌else◌}
use Rattle.std.specs.Char.{is_ascii_digit}
use Rattle.std.specs.List.{list_all}
use Rattle.std.specs.Str.Parse.{digits_value}

-- a number of one digit or more; it saturates at the greatest 64-bit number
abbrev pub count_in : List ℕ → Option ℕ
count_in text = if list_all is_ascii_digit text && nat_lt 0 (length text) then Some
    (min (digits_value 10 text) (2 ^ 64 - 1)) else None

-- there is no leading zero before another digit
abbrev pub has_no_leading_zero : List ℕ → Bool
has_no_leading_zero text = nat_le (length text) 1 || not (slice_index text 0 == 48)

-- the number, if it has at most 32 bits
abbrev pub below_32_bits : Option ℕ → Option ℕ
below_32_bits None = None
below_32_bits (Some n) = if nat_lt n (2 ^ 32) then Some n else None

-- the number of a packet: without leading zeros, at most 4,294,967,295
abbrev pub packet_number : List ℕ → Option ℕ
packet_number text = if has_no_leading_zero text then below_32_bits (count_in text) else None
