-- The bytes of a packet: tag, first partition and token partitions (RFC 6386, chapters 9.1, 9.5 and 19). The state of
-- writing is inside the crate. Pinned by the tests `eight_partitions` and `flat_macroblock`.
use Rattle.std.specs.Prelude.{◌≡◌, ◌<◌, ◌≤◌, ◌⊎◌, ◌*◌, ◌^◌, ◌+◌, ◌-◌, ◌/◌, ◌%◌, ℕ, Bool, true, List, []}
use Rattle.std.specs.Prelude.{◌∷◌, ◌++◌, length, map, slice_index_or, Option, Some, None, Ok, if◌then◌else◌}
use Rattle.vp_bool.specs.Bools.{State, initial_state}
use Rattle.vp_bool.specs.Reader.{Reader, ◌>>=◌, give, Reads}
use Rattle.vp_bool.specs.Intervals.{Interval, whole_interval, interval_bytes}
use Rattle.vp_bool.specs.Writing.{write_all, AreProbabilities, HasWritten, TakesBools, Writes}
use Rattle.vp_base.specs.declared.place.Place.{Place}
use Rattle.vp_base.specs.Grid.{Grid, Has, at, with_entry, all as everywhere}
use Rattle.vp_base.specs.Over.{over}
use Rattle.vp_head.specs.declared.fields.Tag.{Tag}
use Rattle.vp_head.specs.declared.fields.KeyTag.{KeyTag}
use Rattle.vp_head.specs.declared.fields.Header.{Header}
use Rattle.vp_head.specs.declared.fields.Saved.{Saved}
use Rattle.vp_head.specs.Header.{header}
use Rattle.vp_head.specs.Saved.{kept_after}
use Rattle.vp_head.specs.Spelled.{kept_before}
use Rattle.vp_head.specs.Reference.{is_intra}
use Rattle.vp_modes.specs.Entry.{Modes, plain}
use Rattle.vp_modes.specs.Spelled.{AreWritableModes}
use Rattle.vp_motion.specs.Vector.{MacroblockMotion}
use Rattle.vp_motion.specs.Map.{intra}
use Rattle.vp_tokens.specs.Blocks.{Blocks, no_blocks_read}
use Rattle.vp_tokens.specs.Contexts.{Contexts, AreContextsAt}
use Rattle.vp_tokens.specs.Partitions.{cut_of}
use Rattle.vp_decode.specs.MacroblockMaps.{MacroblockMaps, place, maps_read}
use Rattle.vp_decode.specs.Frame.{FrameInfo, all_tokens_read, tokens_of}
use Rattle.vp_decode.specs.TokenRows.{row_seen, row_tokens, readings, tokens_when_read}
use Rattle.vp_decode.specs.Step.{count_of}
use Rattle.vp_encode.specs.declared.coded_frame.CodedFrame.{CodedFrame}
use Rattle.vp_choose.specs.declared.frame.Choice.{Choice}
use Rattle.vp_choose.specs.Frame.{choice_motion}
use Rattle.vp_encode.specs.CodedFrame.{choice_at, coded_choice}
use Rattle.vp_encode.specs.FrameChoices.{IsBeforeInRaster, IsMotionBefore}
use Rattle.vp_encode.specs.PacketContents.{AreMapsOf}

-- ---- modes and motion

-- k with the motion of the macroblock at p; an intra macroblock has none
abbrev pub with_motion : Grid Choice → Place → Grid MacroblockMotion → Grid MacroblockMotion
with_motion g p k =
    if is_intra (choice_at g p).modes.reference then k else with_entry k p (choice_motion (choice_at g p))

-- k with the motion of the first macroblocks of a row
abbrev pub with_row : Grid Choice → ℕ → ℕ → Grid MacroblockMotion → Grid MacroblockMotion
with_row g columns row = over columns (λ column. with_motion g (place row column))

-- the motion of the macroblocks before p, and no other
unfoldable pub motion_before : Grid Choice → Place → Grid MacroblockMotion
motion_before g p =
    with_row g p.column p.row (over p.row (with_row g g.columns) (everywhere g.columns g.rows intra))

-- these modes, and the motion of the macroblocks before p
abbrev pub maps_at : CodedFrame → Place → Grid Modes → MacroblockMaps
maps_at c p m = record { modes = m; motion = motion_before c.macroblocks p }

-- k has the motion of the macroblocks before p, and no other
pub record IsOnlyMotionBefore (g : Grid Choice) (p : Place) (k : Grid MacroblockMotion) : Type 0 where
  pub before : IsMotionBefore g p k
  pub unmoved : (q : Place) → ¬ IsBeforeInRaster q p → at intra k q ≡ intra
  pub whole : length k.entries ≡ k.rows * k.columns

-- the modes of the macroblocks before p are written; those from p on can be written
pub record AreWrittenBefore (c : CodedFrame) (p : Place) (m : Grid Modes) : Type 0 where
  pub columns : m.columns ≡ c.macroblocks.columns
  pub rows : m.rows ≡ c.macroblocks.rows
  pub motion : IsOnlyMotionBefore c.macroblocks p (motion_before c.macroblocks p)
  pub modes : (q : Place) → Has c.macroblocks q → IsBeforeInRaster q p → at plain m q ≡ (coded_choice c q).modes
  pub ahead : (q : Place) → Has c.macroblocks q → ¬ IsBeforeInRaster q p
      → AreWritableModes c.header m q (coded_choice c q).modes

-- ---- the first partition

-- the bytes of all bools that were written, and a final byte of 0
abbrev pub finished : Interval → List ℕ
finished e = interval_bytes e ++ 0 ∷ []

-- the partition of these bools
abbrev pub partition_of_bools : List (Bool × ℕ) → List ℕ
partition_of_bools bools = finished (write_all bools whole_interval)

-- how a first partition is read: the header, then the modes and the motion
unfoldable pub first_read : Saved → Tag → MacroblockMaps → Reader ((Header × Saved) × MacroblockMaps)
first_read kept tag before = do
  head ← header kept tag
  maps ← maps_read head.0 before
  give (head, maps)

-- the partition of bools from which exactly the header, these modes and this motion are read
pub record IsFirst (kept : Saved) (tag : Tag) (before : MacroblockMaps) (c : CodedFrame) (bytes : List ℕ) : Type 0 where
  pub bools : List (Bool × ℕ)
  pub probabilities : AreProbabilities bools
  pub bytes_are : bytes ≡ partition_of_bools bools
  pub maps : MacroblockMaps
  pub taken : TakesBools bools (first_read kept tag before) (give
      ((c.header, kept_after (kept_before kept tag) c.header), maps))
  pub are : AreMapsOf c maps

-- ---- the token partitions

-- f has the frame's header, modes and motion; without references all macroblocks are intra
pub record IsPlanOf (c : CodedFrame) (f : FrameInfo) : Type 0 where
  pub header : f.header ≡ c.header
  pub maps : AreMapsOf c f.maps
  pub own : f.references ≡ None → (p : Place) → Has c.macroblocks p → is_intra (coded_choice c p).modes.reference ≡ true

-- the blocks before the first macroblock
abbrev pub none_seen : ℕ → ℕ → Grid Blocks
none_seen columns rows = everywhere columns rows no_blocks_read

-- the first n macroblocks of a row are written; g has the blocks of the rows above
pub record IsTokenRow (f : FrameInfo) (c : CodedFrame) (row n : ℕ) (g : Grid Blocks) (contexts : Contexts)
    (old new : Interval) : Type 0 where
  pub seen : Grid Blocks
  pub columns : seen.columns ≡ g.columns
  pub rows : seen.rows ≡ g.rows
  pub stands : AreContextsAt seen (place row n) contexts
  pub written : Writes (row_seen f row n g) old new seen
  pub tokens : (s t : State) → Reads written.bools s t → (column : ℕ) → column < n
      → row_tokens f row g s column ≡ (coded_choice c (place row column)).tokens

-- the bools bss, one list for each partition, are read from the states ss, which leaves ts
abbrev pub AllRead : List (List (Bool × ℕ)) → List State → List State → Type 0
AllRead bss ss ts = (length ss ≡ length bss) × (length ts ≡ length bss)
    × ((i : ℕ) → i < length bss → Reads (slice_index_or bss i []) (slice_index_or ss i (initial_state []))
    (slice_index_or ts i (initial_state [])))

-- the rows above `row` are written, each into its partition
pub record AreTokenRows (f : FrameInfo) (c : CodedFrame) (row : ℕ) (contexts : Contexts) (es : List Interval)
    : Type 0 where
  pub seen : Grid Blocks
  pub columns : seen.columns ≡ c.macroblocks.columns
  pub rows : seen.rows ≡ c.macroblocks.rows
  pub stands : AreContextsAt seen (place row 0) contexts
  pub bools : List (List (Bool × ℕ))
  pub count : length bools ≡ length es
  pub probabilities : (i : ℕ) → AreProbabilities (slice_index_or bools i [])
  pub written : (i : ℕ) → i < length es → HasWritten (slice_index_or bools i []) (slice_index_or es i whole_interval)
  pub taken : (ss ts : List State) → AllRead bools ss ts → readings f ss row ≡ record { seen = seen; rests = ts }
  pub tokens : (ss ts : List State) → AllRead bools ss ts
      → (p : Place) → p.row < row → p.column < c.macroblocks.columns
      → tokens_when_read f ss p ≡ (coded_choice c p).tokens

-- from these bools, one list for each partition, exactly the tokens of the frame are read
pub record AreTokens (f : FrameInfo) (c : CodedFrame) (bools : List (List (Bool × ℕ))) : Type 0 where
  pub probabilities : (i : ℕ) → AreProbabilities (slice_index_or bools i [])
  pub tokens : (ss ts : List State) → AllRead bools ss ts → (p : Place) → Has c.macroblocks p
      → tokens_of f ss p ≡ (coded_choice c p).tokens
  pub rests : (ss ts : List State) → AllRead bools ss ts → (all_tokens_read f ss).1 ≡ ts

-- the token partitions of the frame
pub record AreTokenPartitions (c : CodedFrame) (parts : List (List ℕ)) : Type 0 where
  pub count : length parts ≡ count_of c.header.log2_partitions
  pub each : (f : FrameInfo) → IsPlanOf c f → (bools : List (List (Bool × ℕ))) × AreTokens f c bools
      × (parts ≡ map partition_of_bools bools)

-- ---- the tag

-- a 24-bit number, little-endian
abbrev pub three_bytes : ℕ → List ℕ
three_bytes w = w % 256 ∷ w / 256 % 256 ∷ w / 65536 ∷ []

-- a 16-bit number, little-endian
abbrev pub two_bytes : ℕ → List ℕ
two_bytes w = w % 256 ∷ w / 256 ∷ []

-- the tag of a shown packet of version 0, without scaling; `first` is the length of the first partition
abbrev pub tag_bytes : Option KeyTag → ℕ → List ℕ
tag_bytes (Some key) first = three_bytes (32 * first + 16) ++ (0x9d ∷ 0x01 ∷ 0x2a ∷ []) ++ two_bytes key.dim.w
    ++ two_bytes key.dim.h
tag_bytes None first = three_bytes (32 * first + 17)

-- ---- the packet

-- a shown packet of version 0; `first` is the length of the first partition
abbrev pub encoder_tag : Option KeyTag → ℕ → Tag
encoder_tag key first = record { version = 0; show = true; first_partition = first; key = key }

-- the saved values that a frame with this tag starts from
abbrev pub kept_by : Saved → Option KeyTag → Saved
kept_by saved key = kept_before saved (encoder_tag key 0)

-- the bytes are the tag, the first partition, the partition table and the token partitions
pub record IsPutTogether (key : Option KeyTag) (first : List ℕ) (parts : List (List ℕ)) (bytes : List ℕ) : Type 0 where
  pub rest : List ℕ
  pub cut : cut_of rest (length parts) ≡ Ok parts
  pub bytes_are : bytes ≡ tag_bytes key (length first) ++ (first ++ rest)

-- the bytes are a packet of the frame
pub record IsPacket (key : Option KeyTag) (saved : Saved) (before : MacroblockMaps) (c : CodedFrame) (bytes : List ℕ)
    : Type 0 where
  pub first : List ℕ
  pub parts : List (List ℕ)
  pub together : IsPutTogether key first parts bytes
  pub short : length first < 2 ^ 19
  pub first_is : IsFirst saved (encoder_tag key 0) before c first
  pub parts_are : AreTokenPartitions c parts

-- ---- frames that no packet can carry

-- a token partition other than the last is too long for its size field of 24 bits (chapter 9.5)
abbrev pub HasLongTokenPart : List (List ℕ) → Type 0
HasLongTokenPart parts = (i : ℕ) × (i < length parts - 1) × (2 ^ 24 ≤ length (slice_index_or parts i []))

-- the first partition of the frame is too long for its size field of 19 bits (chapter 9.1), or a token partition is
abbrev pub HasLongPartition : Option KeyTag → Saved → MacroblockMaps → CodedFrame → Type 0
HasLongPartition key saved before c =
    ((first : List ℕ) × IsFirst saved (encoder_tag key 0) before c first × (2 ^ 19 ≤ length first))
    ⊎ ((parts : List (List ℕ)) × AreTokenPartitions c parts × HasLongTokenPart parts)
