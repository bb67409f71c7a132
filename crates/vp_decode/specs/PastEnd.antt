-- The statement of the law `corrupt_is_read_past_the_end`: which frames are corrupt, by the bits that are read and the
-- lengths of the partitions (RFC 6386, chapter 7.3). A bool decoder shifts a bit into its value at each doubling. The
-- bits of a partition's first byte are there from the start.
use Rattle.std.specs.Prelude.{ℕ, ◌<◌, ◌≤◌, ◌⊎◌, List, [], length, map, slice_index_or}
use Rattle.vp_bool.specs.Bools.{State, initial_state}
use Rattle.vp_bool.specs.Laws.{HasReadBools, bits_after_first, bits_shifted}
use Rattle.vp_decode.specs.Step.{ParsedPacket, first_part, frame_info_of}
use Rattle.vp_decode.specs.Corrupt.{first_after, tokens_after}

-- s is the state after bools that are read from the start of a partition; for them, and for all bools that lead to s,
-- more bits are shifted in than follow its first byte
pub record IsPastEnd (bytes : List ℕ) (s : State) : Type 0 where
  pub probabilities : List ℕ
  pub read : HasReadBools bytes probabilities s
  pub past : (ps : List ℕ) → HasReadBools bytes ps s → bits_after_first bytes < bits_shifted ps (initial_state bytes)

-- the same, where the bits that follow the first byte are enough
pub record IsWithin (bytes : List ℕ) (s : State) : Type 0 where
  pub probabilities : List ℕ
  pub read : HasReadBools bytes probabilities s
  pub enough : (ps : List ℕ) → HasReadBools bytes ps s → bits_shifted ps (initial_state bytes) ≤ bits_after_first bytes

-- the bytes of token partition i of a frame
abbrev pub token_part : ParsedPacket → ℕ → List ℕ
token_part o i = slice_index_or o.partitions i []

-- its reader after the tokens of all rows
abbrev pub token_reader : ParsedPacket → ℕ → State
token_reader o i = slice_index_or (tokens_after (frame_info_of o) (map initial_state o.partitions)) i (initial_state [])

-- Token partition i of a frame is read past its end.
pub record IsTokenPartPast (o : ParsedPacket) (i : ℕ) : Type 0 where
  pub is_part : i < length o.partitions
  pub past : IsPastEnd (token_part o i) (token_reader o i)

-- A partition of a packet's frame is read past its end: the first one by the header, the modes and the motion, or a
-- token partition by the tokens of its rows.
abbrev pub HasPartPast : List ℕ → ParsedPacket → Type 0
HasPartPast packet o = IsPastEnd (first_part o.tag packet) (first_after o) ⊎ ((i : ℕ) × IsTokenPartPast o i)

-- No partition of a packet's frame is read past its end.
pub record AreAllPartsWithin (packet : List ℕ) (o : ParsedPacket) : Type 0 where
  pub first : IsWithin (first_part o.tag packet) (first_after o)
  pub tokens : (i : ℕ) → i < length o.partitions → IsWithin (token_part o i) (token_reader o i)
