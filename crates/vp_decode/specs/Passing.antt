-- Private to the crate: the outcome of a packet from its tag or its fault alone.
use Rattle.std.specs.Prelude.{Bool, true, false, Option, Some, None, Result, Ok, Err, is_some, if◌then◌else◌}
use Rattle.vp_head.specs.declared.fields.Tag.{Tag}
use Rattle.vp_head.specs.declared.fault.PacketFault.{PacketFault}
use Rattle.vp_head.specs.declared.fault.PacketFault.TheVariants.{NoReference}
use Rattle.vp_decode.specs.declared.decoder.Outcome.{Outcome}
use Rattle.vp_decode.specs.declared.decoder.Outcome.TheVariants.{Shown, Hidden, Fault}
use Rattle.vp_decode.specs.Step.{ParsedPacket}

-- the tag of a parsed packet, or its fault
abbrev pub tag_in : Result ParsedPacket PacketFault → Result Tag PacketFault
tag_in (Err f) = Err f
tag_in (Ok o) = Ok o.tag

-- the outcome of a frame
abbrev pub frame_outcome : Bool → Outcome
frame_outcome true = Shown
frame_outcome false = Hidden

-- the outcome of an empty packet
abbrev pub repeated_outcome : Option Bool → Outcome
repeated_outcome None = Fault NoReference
repeated_outcome (Some shown) = frame_outcome shown

-- whether there was a shown picture
abbrev pub was_shown : Option Bool → Bool
was_shown None = false
was_shown (Some shown) = shown

-- whether there is a shown picture after a frame with this tag; a key frame forgets the one before it
abbrev pub is_shown_after : Tag → Option Bool → Bool
is_shown_after tag before = if tag.show then true else if is_some tag.key then false else was_shown before
