-- Readers of bytes that may fail: sequence, bytes, numbers and letters. The files of RFC 9649, section 2, are defined
-- with these.
use Rattle.std.specs.Prelude.{ℕ, nat_lt, nat_eq, List, length, take, drop, Result, Ok, Err, if◌then◌else◌}
use Rattle.std.specs.List.{starts_with}
use Rattle.byteorder.specs.Endian.{little_number}
use Rattle.vp_webp.specs.declared.fault.WebPFault.{WebPFault}
use Rattle.vp_webp.specs.declared.fault.WebPFault.TheVariants.{Signature, Torn}

-- a value and the bytes after it, or a fault
abbrev pub ByteReader : Type 0 → Type 0
ByteReader A = List ℕ → Result (A × List ℕ) WebPFault

-- f of a value that was read, on the bytes after it; a fault ends the reading
abbrev pub then_read : {A B : Type 0} → Result (A × List ℕ) WebPFault → (A → ByteReader B)
    → Result (B × List ℕ) WebPFault
then_read (Err fault) f = Err fault
then_read (Ok x) f = f x.0 x.1

infixl 10 ◌>>=◌
abbrev pub ◌>>=◌ : {A B : Type 0} → ByteReader A → (A → ByteReader B) → ByteReader B
(m >>= f) bytes = then_read (m bytes) f

-- a, with nothing read
abbrev pub give_value : {A : Type 0} → A → ByteReader A
give_value a bytes = Ok (a, bytes)

abbrev pub fail : {A : Type 0} → WebPFault → ByteReader A
fail fault bytes = Err fault

-- the next n bytes
abbrev pub take_bytes : ℕ → ByteReader (List ℕ)
take_bytes n bytes = if nat_lt (length bytes) n then Err Torn else Ok (take n bytes, drop n bytes)

-- n bytes are passed over; those that the bytes end before don't matter
abbrev pub pass : ℕ → ByteReader (Unit {0})
pass n bytes = Ok (tt, drop n bytes)

-- an unsigned 32-bit number, little endian
abbrev pub little_u32 : ByteReader ℕ
little_u32 = do
  digits ← take_bytes 4
  give_value (little_number 4 digits)

-- these four letters; bytes that end inside them are `Torn`, and other bytes `Signature`
abbrev pub letters : List ℕ → ByteReader (List ℕ)
letters word bytes =
    if starts_with nat_eq word (take 4 bytes) then take_bytes 4 bytes else Err Signature

-- a value that is known, or its fault, with nothing read
abbrev pub known : {A : Type 0} → Result A WebPFault → ByteReader A
known (Err fault) bytes = Err fault
known (Ok a) bytes = Ok (a, bytes)

-- the value that was read
abbrev pub without_rest : {A : Type 0} → Result (A × List ℕ) WebPFault → Result A WebPFault
without_rest (Err fault) = Err fault
without_rest (Ok x) = Ok x.0
