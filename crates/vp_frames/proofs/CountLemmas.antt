-- The packets decoded for a range are counted.
use Rattle.std.proofs.Common.{◌≡◌, ◌⊎◌, ℕ, ◌+◌, ◌-◌, ◌^◌, ◌<◌, ◌≤◌, min, List, length, ap, ◌∙◌, inl, inr, arith}
use Rattle.std.specs.Prelude.{slice_range}
use Rattle.std.proofs.lemmas.Bool.{cases_lt, lt-ltb, le-ltb}
use Rattle.vp_ivf.specs.declared.packet.Packet.{Packet}
use Rattle.vp_stream.specs.Seeking.{seek_start, saturating_count}
use Rattle.vp_stream.specs.Cursor.{work_from}
use Rattle.vp_stream.proofs.AnswerLemmas.{first_le, work_there}
use Rattle.vp_stream.proofs.CursorLemmas.{before_key, one_each}
use Rattle.vp_frames.specs.declared.range.PacketRange.{PacketRange}
use Rattle.vp_frames.specs.Ranges.{decoded_in}
use Rattle.vp_frames.proofs.RangeLemmas.{range_past}

-- nothing is decoded yet; or all packets from where decoding starts, up to packet n
abbrev pub IsBehind : List Packet → (first end n next decoded : ℕ) → Type 0
IsBehind packets first end n next decoded =
    ((n ≡ first) × (next ≡ 0) × (decoded ≡ 0))
    ⊎ ((first < n) × (n ≤ end) × (next ≡ n) × (decoded + seek_start packets first ≡ n))

first_work : (packets : List Packet) (first n next : ℕ) → n ≡ first → next ≡ 0 → n < length packets
    → work_from packets next n + seek_start packets first ≡ n + 1
first_work packets first n next at none within =
    let start : seek_start packets n ≡ seek_start packets first = ap (seek_start packets) at in
    let work : work_from packets next n ≡ n - seek_start packets n + 1 =
    before_key packets next n (omega arith) ∙ work_there packets n within in
    omega (arith, first_le packets n)

next_work : (packets : List Packet) (n next : ℕ) → next ≡ n → n < length packets → work_from packets next n ≡ 1
next_work packets n next same within = ap (λ k. work_from packets k n) same ∙ one_each packets n within

pub behind_on : (packets : List Packet) (first end n next decoded next' decoded' : ℕ) → n < end → end ≤ length packets → first ≤ n → n + 1 < 2 ^ 64
    → IsBehind packets first end n next decoded → next' ≡ n + 1 → decoded' ≡ saturating_count decoded (work_from packets next n)
    → IsBehind packets first end (n + 1) next' decoded'
behind_on packets first end n next decoded next' decoded' lt within low few (inl (at, none, nothing)) next_is decoded_is =
    let work = first_work packets first n next at none (omega arith) in
    inr (omega arith, omega arith, next_is, omega arith)
behind_on packets first end n next decoded next' decoded' lt within low few (inr (less, most, same, sum)) next_is decoded_is =
    let work = next_work packets n next same (omega arith) in
    inr (omega arith, omega arith, next_is, omega arith)

-- ---- after the last packet

pub decoded_all : (packets : List Packet) (range : PacketRange) (end n next decoded : ℕ) → end ≡ min (range.last + 1) (length packets) → end ≤ n → range.first ≤ range.last
    → IsBehind packets range.first end n next decoded → decoded ≡ decoded_in packets range
decoded_all packets range end n next decoded end_is past order (inl (at, none, nothing)) =
    let over : length packets ≤ range.first = omega arith in
    rw (le-ltb range.first (length packets) over) nothing
decoded_all packets range end n next decoded end_is past order (inr (less, most, same, sum)) =
    let within : range.first < length packets = omega arith in
    let whole : n ≡ min (range.last + 1) (length packets) = omega arith in
    rw (lt-ltb range.first (length packets) within) (omega arith)

all_by : {X : Type 0} (xs : List X) (packets : List Packet) (first last end n next decoded : ℕ) → length xs ≡ length packets → end ≡ min (last + 1) (length packets) → end ≤ n → first ≤ last
    → IsBehind packets first end n next decoded → ((n ≡ last + 1) ⊎ ((length xs ≤ n) × (length xs ≤ last + 1)))
all_by xs packets first last end n next decoded long end_is past order (inl (at, none, nothing)) = inr (omega arith, omega arith)
all_by xs packets first last end n next decoded long end_is past order (inr (less, most, same, sum)) =
    elim (cases_lt n (length xs)) [
      | inl lt ↦ inl (omega arith)
      | inr ge ↦ inr (ge, omega arith)
    ]

same_part : {X : Type 0} (xs : List X) (first n e : ℕ) → (n ≡ e) ⊎ ((length xs ≤ n) × (length xs ≤ e)) → slice_range xs first n ≡ slice_range xs first e
same_part xs first n e (inl is) = ap (λ k. slice_range xs first k) is
same_part xs first n e (inr (low, high)) = range_past xs first n e low high

-- the packets before n are those of the range
pub all_taken : {X : Type 0} (xs : List X) (packets : List Packet) (first last end n next decoded : ℕ) → length xs ≡ length packets → end ≡ min (last + 1) (length packets) → end ≤ n → first ≤ last
    → IsBehind packets first end n next decoded → slice_range xs first n ≡ slice_range xs first (last + 1)
all_taken xs packets first last end n next decoded long end_is past order behind =
    same_part xs first n (last + 1) (all_by xs packets first last end n next decoded long end_is past order behind)

-- ---- the range of all packets

pub each_decoded : (packets : List Packet) (range : PacketRange) → range.first ≡ 0 → length packets ≤ range.last + 1 → decoded_in packets range ≡ length packets
each_decoded packets range none past =
    elim (cases_lt range.first (length packets)) [
      | inl lt ↦ rw (lt-ltb range.first (length packets) lt) (omega (arith, first_le packets range.first))
      | inr ge ↦ rw (le-ltb range.first (length packets) ge) (omega arith)
    ]
