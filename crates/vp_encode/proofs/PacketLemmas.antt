-- A packet that was put together is opened: its tag, its first partition and its token partitions.
use Rattle.std.proofs.Common.{◌≡◌, ◌∙◌, ℕ, ◌+◌, ◌*◌, ◌/◌, ◌%◌, ◌^◌, ◌<◌, ◌≤◌, List, [], ◌∷◌, ◌++◌, length, sym, ap, arith, true, take, drop, refl, subst, append_assoc, length-append}
use Rattle.std.specs.Prelude.{Some, None, Ok, ◌==◌, Option, IfSome}
use Rattle.std.proofs.lemmas.Bool.{le-ltb}
use Rattle.vp_base.specs.declared.limits.Dim.{Dim}
use Rattle.vp_base.specs.declared.limits.Limits.{Limits}
use Rattle.vp_head.specs.declared.fields.KeyTag.{KeyTag}
use Rattle.vp_head.specs.Sides.{is_below_16384}
use Rattle.vp_head.specs.Tag.{bit_field, tag_of, tag_of_word, key_of, dim_within_limits, tag_dim, key_with}
use Rattle.vp_head.proofs.Sizes.{within-allowed}
use Rattle.vp_encode.specs.PacketContents.{key_tag, HasFinalZero, AreMapsOf, HasContents, EncodesFrame, IsKeyFramePacket, IsInterFramePacket}
use Rattle.vp_encode.specs.Written.{three_bytes, two_bytes, tag_bytes, encoder_tag, finished, first_read, IsFirst, IsPacket}
use Rattle.std.proofs.lemmas.List.{drop_at, take_at}
use Rattle.vp_bool.specs.Bools.{State, initial_state}
use Rattle.vp_bool.specs.Intervals.{Interval, whole_interval}
use Rattle.vp_bool.specs.Reader.{bind, ◌>>=◌, give, Reads}
use Rattle.vp_bool.specs.Writing.{Continues, Writes, write_all}
use Rattle.vp_bool.specs.RoundTrip.{partition_of}
use Rattle.vp_bool.proofs.RoundTripLemmas.{reads_back}
use Rattle.vp_bool.proofs.WritingLemmas.{Writes-then, Continues-none}
use Rattle.vp_base.specs.declared.place.Place.{Place}
use Rattle.vp_base.specs.Grid.{Grid, Has}
use Rattle.vp_head.specs.declared.fields.Tag.{Tag}
use Rattle.vp_head.specs.declared.fields.Header.{Header}
use Rattle.vp_head.specs.declared.fields.Saved.{Saved}
use Rattle.vp_head.specs.Header.{header}
use Rattle.vp_head.specs.Saved.{kept_after}
use Rattle.vp_head.specs.Spelled.{kept_before}
use Rattle.vp_head.specs.Reference.{is_intra}
use Rattle.vp_modes.specs.Map.{of_segments}
use Rattle.vp_tokens.specs.Partitions.{cut_of}
use Rattle.vp_decode.specs.MacroblockMaps.{MacroblockMaps, maps_read}
use Rattle.vp_decode.specs.Frame.{FrameInfo}
use Rattle.vp_decode.specs.Step.{FrameContext, key_context, inter_context, ParsedPacket, parsed_in_context, frame_info_of, maps_before, tag_length, first_part, count_of}
use Rattle.vp_decode.proofs.CutLemmas.{opened_ok, opened-by}
use Rattle.vp_encode.specs.declared.coded_frame.CodedFrame.{CodedFrame}
use Rattle.vp_encode.specs.CodedFrame.{coded_choice}
use Rattle.vp_encode.proofs.TokenLemmas.{one_zero, closed_by, parts_read, parts_closed}

word_back : (w : ℕ) → w % 256 + 256 * (w / 256 % 256) + 65536 * (w / 65536) ≡ w
word_back w = omega arith

two_back : (w : ℕ) → w % 256 + 256 * (w / 256) ≡ w
two_back w = omega arith

-- the version, the show bit, the length and the kind of a shown packet of version 0
tag_bits : (n i : ℕ) → i < 2 → n < 2 ^ 19
    → ((32 * n + (16 + i)) / 2 ^ 1 % 2 ^ 3 ≡ 0) × ((32 * n + (16 + i)) / 2 ^ 4 % 2 ^ 1 ≡ 1) × ((32 * n + (16 + i)) / 2 ^ 5 % 2 ^ 19 ≡ n) × ((32 * n + (16 + i)) / 2 ^ 0 % 2 ^ 1 ≡ i)
tag_bits n i h k = (omega arith, omega arith, omega arith, omega arith)

inter_word : (limits : Limits) (n : ℕ) (packet : List ℕ) → n < 2 ^ 19 → tag_of_word limits (32 * n + 17) packet ≡ Ok (encoder_tag None n)
unfolding tag_of_word
inter_word limits n packet k =
    let bits = tag_bits n 1 (omega arith) k in
    rw (bits.0, bits.3) (λ j. Ok (record { version = 0; show = bits.1 j == 1; first_partition = bits.2 j; key = None }))

key_word : (limits : Limits) (n : ℕ) (packet : List ℕ) (key : KeyTag) → n < 2 ^ 19 → key_of limits packet ≡ Ok key → tag_of_word limits (32 * n + 16) packet ≡ Ok (encoder_tag (Some key) n)
unfolding tag_of_word
key_word limits n packet key k is =
    let bits = tag_bits n 0 (omega arith) k in
    rw (bits.0, bits.3, is) (λ j. Ok (record { version = bits.0 j; show = bits.1 j == 1; first_partition = bits.2 j; key = Some key }))

-- a tag's three bytes and what follows
after_word : (limits : Limits) (w : ℕ) (rest : List ℕ) → tag_of limits (three_bytes w ++ rest) ≡ tag_of_word limits w (three_bytes w ++ rest)
unfolding tag_of
after_word limits w rest =
    let long : 3 ≤ length (three_bytes w ++ rest) = omega arith in
    rw (le-ltb (length (three_bytes w ++ rest)) 3 long) (ap (λ (x : ℕ). tag_of_word limits x (three_bytes w ++ rest)) (word_back w))

pub inter_tag : (limits : Limits) (n : ℕ) (rest : List ℕ) → n < 2 ^ 19 → tag_of limits (tag_bytes None n ++ rest) ≡ Ok (encoder_tag None n)
inter_tag limits n rest k = after_word limits (32 * n + 17) rest ∙ inter_word limits n (three_bytes (32 * n + 17) ++ rest) k

-- the bits of a side, and its scale
side_bits : (n : ℕ) → n ≤ 16383 → (n / 2 ^ 0 % 2 ^ 14 ≡ n) × (n / 2 ^ 14 % 2 ^ 2 ≡ 0)
side_bits n h = (omega arith, omega arith)

sized : (limits : Limits) (dim : Dim) → dim.w * dim.h ≤ limits.pixels → key_with dim.w dim.h (dim_within_limits limits (tag_dim dim.w dim.h)) ≡ Ok (key_tag dim)
sized limits dim fits =
    let wide = side_bits dim.w dim.w_in_range.1 in
    let high = side_bits dim.h dim.h_in_range.1 in
    let allowed : bit_field 0 14 dim.w * bit_field 0 14 dim.h ≤ limits.pixels = rw (wide.0, high.0) fits in
    let is = within-allowed limits (bit_field 0 14 dim.w) (bit_field 0 14 dim.h) (is_below_16384 dim.w) (is_below_16384 dim.h) dim (sym wide.0) (sym high.0) allowed in
    ap (key_with dim.w dim.h) (sym is)
    ∙ (λ i. Ok (record { dim = dim; horizontal_scale = wide.1 i; vertical_scale = high.1 i }))

-- the ten bytes of a key packet's tag
abbrev key_bytes : Dim → ℕ → List ℕ
key_bytes dim n = tag_bytes (Some (key_tag dim)) n

key_read : (limits : Limits) (dim : Dim) (n : ℕ) (rest : List ℕ) → dim.w * dim.h ≤ limits.pixels → key_of limits (key_bytes dim n ++ rest) ≡ Ok (key_tag dim)
unfolding key_of
key_read limits dim n rest fits =
    let long : 10 ≤ length (key_bytes dim n ++ rest) = omega arith in
    rw (le-ltb (length (key_bytes dim n ++ rest)) 10 long)
    ((λ i. key_with (two_back dim.w i) (two_back dim.h i) (dim_within_limits limits (tag_dim (two_back dim.w i) (two_back dim.h i)))) ∙ sized limits dim fits)

pub key_tag_read : (limits : Limits) (dim : Dim) (n : ℕ) (rest : List ℕ) → n < 2 ^ 19 → dim.w * dim.h ≤ limits.pixels
    → tag_of limits (tag_bytes (Some (key_tag dim)) n ++ rest) ≡ Ok (encoder_tag (Some (key_tag dim)) n)
key_tag_read limits dim n rest k fits =
    let behind : List ℕ = (0x9d ∷ 0x01 ∷ 0x2a ∷ []) ++ two_bytes dim.w ++ two_bytes dim.h ++ rest in
    after_word limits (32 * n + 16) behind ∙ key_word limits n (key_bytes dim n ++ rest) (key_tag dim) k (key_read limits dim n rest fits)

-- ---- what is opened of a packet that was put together

-- ---- the first partition

pub first_said : (kept : Saved) (tag : Tag) (before : MacroblockMaps) (c : CodedFrame) (maps : MacroblockMaps) (bytes : List ℕ) {old mid new : Interval} → old ≡ whole_interval
    → Writes (header kept tag) old mid (c.header, kept_after (kept_before kept tag) c.header) → Writes (maps_read c.header before) mid new maps → bytes ≡ finished new
    → AreMapsOf c maps → IsFirst kept tag before c bytes
unfolding first_read
first_said kept tag before c maps bytes {old = old} {mid = mid} {new = new} begins h m done are =
    let head : Header × Saved = (c.header, kept_after (kept_before kept tag) c.header) in
    let behind : Continues (maps_read c.header before >>= λ ms. give (head, ms)) (give (head, maps)) mid new =
    Writes-then (λ ms. give (head, ms)) m (Continues-none (give (head, maps)) new) in
    let all_of : Writes (first_read kept tag before) old new (head, maps) = Writes-then (λ (x : Header × Saved). maps_read x.0 before >>= λ ms. give (x, ms)) h behind in
    record {
      bools = all_of.bools;
      probabilities = all_of.probabilities;
      bytes_are = done ∙ ap finished (all_of.appended ∙ ap (write_all all_of.bools) begins);
      maps = maps;
      taken = all_of.taken;
      are = are;
    }

-- the header and the maps are read of a first partition
first_again : (kept : Saved) (tag : Tag) (before : MacroblockMaps) (c : CodedFrame) (bytes : List ℕ) → (x : IsFirst kept tag before c bytes) → let head = header kept tag (initial_state bytes) in
    (head.0 ≡ (c.header, kept_after (kept_before kept tag) c.header)) × ((maps_read c.header before head.1).0 ≡ x.maps) × HasFinalZero bytes
unfolding first_read bind
first_again kept tag before c bytes x =
    let r = reads_back x.bools (0 ∷ []) x.probabilities one_zero in
    let s : State = initial_state bytes in
    let reads : Reads x.bools s r.0 = subst (λ (b : List ℕ). Reads x.bools (initial_state b) r.0) (sym x.bytes_are) r.1 in
    let said : first_read kept tag before s ≡ (((c.header, kept_after (kept_before kept tag) c.header), x.maps), r.0) = x.taken s r.0 reads in
    let head : (header kept tag s).0 ≡ (c.header, kept_after (kept_before kept tag) c.header) = ap (λ (z : ((Header × Saved) × MacroblockMaps) × State). z.0.0) said in (
      head,
      ap (λ (z : Header × Saved). (maps_read z.0 before (header kept tag s).1).0) (sym head) ∙ ap (λ (z : ((Header × Saved) × MacroblockMaps) × State). z.0.1) said,
      subst HasFinalZero (sym x.bytes_are) (closed_by (partition_of x.bools)),
    )

-- ---- opening

first_part_is : (tag : Tag) (front first rest : List ℕ) → length front ≡ tag_length tag → tag.first_partition ≡ length first → first_part tag (front ++ (first ++ rest)) ≡ first
first_part_is tag front first rest e f =
    ap (λ (n : ℕ). take tag.first_partition (drop n (front ++ (first ++ rest)))) (sym e)
    ∙ ap (take tag.first_partition) (drop_at front (first ++ rest) (length front) refl)
    ∙ ap (λ (n : ℕ). take n (first ++ rest)) f
    ∙ take_at first rest (length first) refl

behind_is : (tag : Tag) (front first rest : List ℕ) → length front ≡ tag_length tag → tag.first_partition ≡ length first → drop (tag_length tag + tag.first_partition) (front ++ (first ++ rest)) ≡ rest
behind_is tag front first rest e f =
    let n : tag_length tag + tag.first_partition ≡ length (front ++ first) = omega (arith, e, f, length-append front first) in
    ap (λ (k : ℕ). drop k (front ++ (first ++ rest))) n
    ∙ ap (drop (length (front ++ first))) (sym (append_assoc front first rest))
    ∙ drop_at (front ++ first) rest (length (front ++ first)) refl

abbrev opened_of : Tag → FrameContext → CodedFrame → Saved → State → List (List ℕ) → ParsedPacket
opened_of tag context c kept d parts = record { tag = tag; context = context; header = c.header; saved = kept; first = d; partitions = parts }

opened_by : (tag : Tag) (context : FrameContext) (front first rest : List ℕ) (c : CodedFrame) (kept : Saved) (d : State) (parts : List (List ℕ))
    → length front ≡ tag_length tag → tag.first_partition ≡ length first → header context.saved tag (initial_state first) ≡ ((c.header, kept), d)
    → length parts ≡ count_of c.header.log2_partitions → cut_of rest (length parts) ≡ Ok parts
    → parsed_in_context tag context (front ++ (first ++ rest)) ≡ Ok (opened_of tag context c kept d parts)
opened_by tag context front first rest c kept d parts e f read count cut =
    sym (opened_ok tag context (front ++ (first ++ rest)) (initial_state first) (c.header, kept) d (length parts) rest parts
    (omega (arith, e, f, length-append front (first ++ rest), length-append first rest))
    (ap initial_state (sym (first_part_is tag front first rest e f)))
    (ap (λ (z : (Header × Saved) × State). z.0) (sym read))
    (ap (λ (z : (Header × Saved) × State). z.1) (sym read))
    count
    (sym (behind_is tag front first rest e f))
    (sym cut))

-- the tag's own length does not matter to the header
same_header : (kept : Saved) (key : Option KeyTag) (m n : ℕ) (s : State) → header kept (encoder_tag key m) s ≡ header kept (encoder_tag key n) s
unfolding header
same_header kept key m n s = refl

-- ---- what is opened says the frame

module _ (key : Option KeyTag) (context : FrameContext) (c : CodedFrame) (packet : List ℕ) (x : IsPacket key context.saved (maps_before context.modes) c packet) where
  abbrev tag : Tag
  tag = encoder_tag key (length x.first)

  abbrev head : (Header × Saved) × State
  head = header context.saved (encoder_tag key 0) (initial_state x.first)

  first : (head.0 ≡ (c.header, kept_after (kept_before context.saved tag) c.header)) × ((maps_read c.header (maps_before context.modes) head.1).0 ≡ x.first_is.maps) × HasFinalZero x.first
  first = first_again context.saved (encoder_tag key 0) (maps_before context.modes) c x.first x.first_is

  abbrev opening : ParsedPacket
  opening = opened_of tag context c (kept_after (kept_before context.saved tag) c.header) head.1 x.parts

  abbrev front : List ℕ
  front = tag_bytes key (length x.first)

  first_is : length front ≡ tag_length tag → first_part tag packet ≡ x.first
  first_is long = ap (first_part tag) x.together.bytes_are ∙ first_part_is tag front x.first x.together.rest long refl

  says : kept_before context.saved tag ≡ context.saved → length front ≡ tag_length tag
      → (context.references ≡ None → (p : Place) → Has c.macroblocks p → is_intra (coded_choice c p).modes.reference ≡ true) → HasContents key context c packet opening
  unfolding frame_info_of
  says begun long own =
      let plan : FrameInfo = frame_info_of opening in
      let are : AreMapsOf c plan.maps = subst (AreMapsOf c) (sym first.1) x.first_is.are in
      let each = x.parts_are.each plan (record { header = refl; maps = are; own = own }) in
      record {
        version = refl;
        shown = refl;
        key_is = refl;
        context_is = refl;
        header = refl;
        saved = ap (λ (k : Saved). kept_after k c.header) begun;
        maps = are;
        tokens = parts_read plan c each.0 x.parts each.1 each.2;
        first_closed = subst HasFinalZero (sym (first_is long)) first.2;
        closed = parts_closed each.0 x.parts each.2;
      }

  opens : length front ≡ tag_length tag → parsed_in_context tag context packet ≡ Ok opening
  opens long =
      ap (parsed_in_context tag context) x.together.bytes_are
      ∙ opened_by tag context front x.first x.together.rest c (kept_after (kept_before context.saved tag) c.header) head.1 x.parts long refl
      (same_header context.saved key (length x.first) 0 (initial_state x.first) ∙ (λ i. (first.0 i, head.1))) x.parts_are.count x.together.cut

  pub told_by : kept_before context.saved tag ≡ context.saved → length front ≡ tag_length tag
      → (context.references ≡ None → (p : Place) → Has c.macroblocks p → is_intra (coded_choice c p).modes.reference ≡ true)
      → ((limits : Limits) → IfSome key (λ k. k.dim.w * k.dim.h ≤ limits.pixels) → tag_of limits (front ++ (x.first ++ x.together.rest)) ≡ Ok tag) → EncodesFrame key context c packet
  told_by begun long own read = record {
    opening = opening;
    opens = λ limits state over fits. opened-by limits state packet tag context (Ok opening) (ap (tag_of limits) x.together.bytes_are ∙ read limits fits) over (opens long);
    says = says begun long own;
  }

pub key_said : (dim : Dim) (c : CodedFrame) (packet : List ℕ) → IsPacket (Some (key_tag dim)) (key_context dim).saved (maps_before (key_context dim).modes) c packet
    → ((p : Place) → Has c.macroblocks p → is_intra (coded_choice c p).modes.reference ≡ true) → IsKeyFramePacket dim c packet
key_said dim c packet x own =
    told_by (Some (key_tag dim)) (key_context dim) c packet x refl refl (λ none. own)
    (λ limits fits. key_tag_read limits dim (length x.first) (x.first ++ x.together.rest) x.short fits)

-- over any state with these values and segments
pub inter_said : (saved : Saved) (segments : Grid ℕ) (c : CodedFrame) (packet : List ℕ) → IsPacket None saved (maps_before (of_segments segments)) c packet
    → IsInterFramePacket saved segments c packet
inter_said saved segments c packet x k same_saved same_segments =
    let here : IsPacket None k.saved (maps_before (of_segments k.segments)) c packet =
    subst (λ (g : Grid ℕ). IsPacket None k.saved (maps_before (of_segments g)) c packet) (sym same_segments)
    (subst (λ (s : Saved). IsPacket None s (maps_before (of_segments segments)) c packet) (sym same_saved) x) in
    told_by None (inter_context k) c packet here refl refl (λ none. absurd cc)
    (λ limits fits. inter_tag limits (length here.first) (here.first ++ here.together.rest) here.short)
