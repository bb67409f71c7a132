-- The picture of a packet's frame before the loop filter, where it is known before the packet is decoded.
use Rattle.std.specs.Prelude.{◌≡◌, not, map}
use Rattle.vp_base.specs.declared.place.Place.{Place}
use Rattle.vp_base.specs.Grid.{Has}
use Rattle.vp_base.specs.Image.{Image}
use Rattle.vp_bool.specs.Bools.{initial_state}
use Rattle.vp_tokens.specs.Blocks.{any_token}
use Rattle.vp_decode.specs.MacroblockMaps.{modes_in}
use Rattle.vp_decode.specs.Frame.{tokens_of, unfiltered}
use Rattle.vp_decode.specs.Step.{ParsedPacket, frame_info_of, frame_of_packet}

-- p is the picture of the packet's frame before the loop filter, and just the macroblocks without tokens are skipped
pub record IsRebuiltFrame (o : ParsedPacket) (p : Image) : Type 0 where
  pub picture : p ≡ unfiltered (frame_of_packet o)
  pub skipped : (q : Place) → Has (frame_info_of o).maps.modes q → (modes_in (frame_info_of o).maps q).skip
      ≡ not (any_token (tokens_of (frame_info_of o) (map initial_state o.partitions) q))
