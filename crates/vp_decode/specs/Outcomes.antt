-- The outcomes of packets, told without their pictures (RFC 6386, chapter 5): what a reader of outcomes knows of a
-- decoder's state.
use Rattle.std.specs.Prelude.{Bool, Option, option_map, is_some}
use Rattle.vp_base.specs.declared.limits.Limits.{Limits}
use Rattle.vp_decode.specs.Step.{DecoderState}

-- the limits, and whether the state has a shown picture; None without a state
pub record OutcomeReader : Type 0 where
  pub limits : Limits
  pub shown : Option Bool

-- whether a state has a shown picture; None without a state
abbrev pub has_shown : Option DecoderState → Option Bool
has_shown state = option_map (λ k. is_some k.shown) state

-- the reader that has passed the same packets as a decoder in this state
abbrev pub reader_at : Limits → Option DecoderState → OutcomeReader
reader_at limits state = record { limits = limits; shown = has_shown state }
