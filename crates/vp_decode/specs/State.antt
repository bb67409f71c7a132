-- Private to the crate: the state after a decoded frame, and the sizes in a frame's context.
use Rattle.std.specs.Prelude.{◌≡◌, ℕ, ◌+◌, Bool, true, false, List, length, drop, Result, Ok, Err, Option, Some, None}
use Rattle.std.specs.Prelude.{IfSome, option_map, nat_lt, if◌then◌else◌}
use Rattle.vp_base.specs.declared.limits.Dim.{Dim}
use Rattle.vp_base.specs.Grid.{Grid, all}
use Rattle.vp_base.specs.Image.{Image, macroblocks}
use Rattle.vp_bool.specs.Bools.{State, initial_state}
use Rattle.vp_head.specs.declared.fields.Tag.{Tag}
use Rattle.vp_head.specs.declared.fields.Header.{Header}
use Rattle.vp_head.specs.declared.fields.Saved.{Saved}
use Rattle.vp_head.specs.declared.fault.PacketFault.{PacketFault}
use Rattle.vp_head.specs.declared.fault.PacketFault.TheVariants.{FirstPartition}
use Rattle.vp_head.specs.Header.{header}
use Rattle.vp_head.specs.Saved.{defaults}
use Rattle.vp_modes.specs.Entry.{Modes, plain}
use Rattle.vp_modes.specs.Map.{of_segments}
use Rattle.vp_refs.specs.References.{References}
use Rattle.vp_tokens.specs.Partitions.{cut_of}
use Rattle.vp_decode.specs.declared.decoded_frame.DecodedFrame.{DecodedFrame}
use Rattle.vp_decode.specs.declared.decoder.OnFault.{OnFault}
use Rattle.vp_decode.specs.declared.decoder.OnFault.TheVariants as on_fault
use Rattle.vp_decode.specs.Keeping.{keeping}
use Rattle.vp_decode.specs.Step.{Answer, FrameContext, DecoderState, ParsedPacket, ◌>>=◌, count_of, tag_length}
use Rattle.vp_decode.specs.Step.{first_part, references_after}

-- the modes that a frame of this size starts with: those of the segment map, or `plain`
abbrev pub modes_from : Dim → Option (Grid ℕ) → Grid Modes
modes_from dim None = all (macroblocks dim.w) (macroblocks dim.h) plain
modes_from dim (Some segments) = of_segments segments

-- the values that a frame's header starts from: those that are given, or the defaults
abbrev pub saved_from : Option Saved → Saved
saved_from None = defaults
saved_from (Some saved) = saved

-- the first partition's state at its start, and the bytes after it, which the packet must have
abbrev pub parts_of : Tag → List ℕ → Result (State × List ℕ) PacketFault
parts_of tag packet =
    if nat_lt (length packet) (tag_length tag + tag.first_partition) then Err FirstPartition
    else Ok (initial_state (first_part tag packet), drop (tag_length tag + tag.first_partition) packet)

-- an open packet: its tag and its context, the first partition, and the bytes after it
pub record OpenPacket : Type 0 where
  pub tag : Tag
  pub context : FrameContext
  pub first : State
  pub rest : List ℕ

-- the parsed packet, once the header h is read, after which s is saved
abbrev pub cut_partitions : OpenPacket → Header → Saved → Result ParsedPacket PacketFault
cut_partitions p h s = do
  partitions ← cut_of p.rest (count_of h.log2_partitions)
  Ok (record {
    tag = p.tag;
    context = p.context;
    header = h;
    saved = s;
    first = p.first;
    partitions = partitions;
  })

-- the parsed packet of an open one
abbrev pub finished : OpenPacket → Result ParsedPacket PacketFault
finished p =
    let read : (Header × Saved) × State = header p.context.saved p.tag p.first in
    cut_partitions (record { tag = p.tag; context = p.context; first = read.1; rest = p.rest }) read.0.0 read.0.1

-- the same, unless a fault was found before
abbrev pub finished_from : Result OpenPacket PacketFault → Result ParsedPacket PacketFault
finished_from (Err f) = Err f
finished_from (Ok p) = finished p

-- the state after frame f with this header, given the references before it and what is saved
abbrev pub state_from_frame : Option References → Header → Saved → DecodedFrame → DecoderState
state_from_frame before header saved f = record {
  saved = saved;
  segments = f.segments;
  references = references_after before header f.picture.value;
  shown = option_map (λ p. p.value) f.shown;
}

-- the picture that the last packet showed, if it showed one
abbrev pub shown_of : Bool → Option DecoderState → Option Image
shown_of true (Some k) = k.shown
shown_of true None = None
shown_of false s = None

-- the references of a state, if there is one
abbrev pub references_in : Option DecoderState → Option References
references_in state = option_map (λ k. k.references) state

-- a picture of this size in pixels
pub record IsSized (width height : ℕ) (p : Image) : Type 0 where
  pub width_is : p.width ≡ width
  pub height_is : p.height ≡ height

-- all references have this size
pub record AreSized (width height : ℕ) (r : References) : Type 0 where
  pub last : IsSized width height r.last
  pub golden : IsSized width height r.golden
  pub alt : IsSized width height r.alt

-- the references and the shown picture have the frame's size, and there are modes for each of its macroblocks
pub record HasConsistentSizes (b : FrameContext) : Type 0 where
  pub references : IfSome b.references (AreSized b.width b.height)
  pub shown : IfSome b.shown (IsSized b.width b.height)
  pub columns : b.modes.columns ≡ macroblocks b.width
  pub rows : b.modes.rows ≡ macroblocks b.height

-- a step's state and answer, where a fault drops the state, or leaves the one before
abbrev pub by_fault : OnFault → Option DecoderState → Option DecoderState × Answer → Option DecoderState × Answer
by_fault on_fault.Forget before s = s
by_fault on_fault.Keep before s = keeping before s
