-- What an encoder's packet says is what was chosen, and what it leaves is what the encoder keeps.
use Rattle.std.proofs.Common.{◌≡◌, ◌∙◌, ℕ, ◌*◌, ◌<◌, ◌≤◌, true, false, List, [], ◌∷◌, map, min, refl, sym, ap, subst, arith, inl, inr}
use Rattle.std.specs.Prelude.{◌⊎◌, Option, Some, None, IfSome, Ok, not, ◌==◌}
use Rattle.std.proofs.lemmas.Bool.{cases_Bool}
use Rattle.vp_base.specs.declared.limits.Dim.{Dim}
use Rattle.vp_base.specs.declared.limits.Limits.{Limits}
use Rattle.vp_base.specs.declared.place.Place.{Place}
use Rattle.vp_base.specs.Grid.{Grid, Has, at}
use Rattle.vp_base.specs.Image.{Image, blank_image, macroblocks}
use Rattle.vp_bool.specs.Bools.{State, initial_state}
use Rattle.vp_head.specs.declared.fields.Header.{Header}
use Rattle.vp_head.specs.Reference.{is_intra}
use Rattle.vp_head.specs.Tag.{tag_of}
use Rattle.vp_modes.specs.Entry.{Modes, plain}
use Rattle.vp_modes.specs.Map.{segments_of}
use Rattle.vp_motion.specs.Vector.{MacroblockMotion}
use Rattle.vp_tokens.specs.declared.contexts.Tokens.{Tokens}
use Rattle.vp_tokens.specs.Blocks.{any_token}
use Rattle.vp_quant.specs.Quant.{factors, index_of}
use Rattle.vp_refs.specs.References.{reference_picture}
use Rattle.vp_recon.specs.Predictor.{Macroblock, Intra, Inter, macroblock_of}
use Rattle.vp_recon.specs.Rebuilt.{all_rebuilt}
use Rattle.vp_choose.specs.declared.frame.Choice.{Choice}
use Rattle.vp_choose.specs.Frame.{FrameSearch, source_by, no_biases, choice_motion}
use Rattle.vp_choose.specs.Choice.{IsChoice}
use Rattle.vp_decode.specs.MacroblockMaps.{modes_in, motion_in}
use Rattle.vp_decode.specs.Frame.{FrameInfo, frame_of, unfiltered, picture_of, predictor_at, factors_at, predictor_by as source_read_by}
use Rattle.vp_decode.specs.RebuiltFrame.{IsRebuiltFrame}
use Rattle.vp_decode.specs.Step.{DecoderState, FrameContext, ParsedPacket, parsed, frame_info_of, frame_of_packet, state_after, Answer, answer, decoded, step, Decoder, after}
use Rattle.vp_decode.proofs.SizeLemmas.{KeepsShape, newest_is, picture_shaped}
use Rattle.vp_encode.specs.declared.settings.Settings.{Settings}
use Rattle.vp_encode.specs.declared.coded_frame.CodedFrame.{CodedFrame}
use Rattle.vp_encode.specs.CodedFrame.{coded_choice, saved_motions}
use Rattle.vp_encode.specs.PacketContents.{HasContents}
use Rattle.vp_encode.specs.Encoder.{EncoderState, AreAllowed, kept_for, context_over, tag_key, frame_for, search_in, continued, quantiser}
use Rattle.vp_encode.specs.FrameChoices.{macroblock_by, picture_before, picture_by, AreUnsegmented}
use Rattle.vp_encode.specs.Choice.{rebuilt_before, choice_read, AreChoices, IsChosen}
use Rattle.vp_encode.specs.TooLong.{IsFrameFor}
use Rattle.vp_encode.specs.Between.{HasSize, IsPacketOver, IsKeptFor, IsSound, ShowsNewest}
use Rattle.vp_encode.proofs.Candidates.{at-mapped, candidates-same, motion_by-at}
use Rattle.vp_encode.proofs.ChoosingLemmas.{AreSameCandidates, choice_with, rows-same, rebuilt_before-same}

-- Limits that are wide enough for every picture are so for this one.
product : (w h : ℕ) → w ≤ 16383 → h ≤ 16383 → w * h ≤ 268402689
product w h a b = grind arith

pub size_fits : (dim : Dim) (pixels : ℕ) → 268402689 ≤ pixels → dim.w * dim.h ≤ pixels
size_fits dim pixels wide = let p = product dim.w dim.h dim.w_in_range.1 dim.h_in_range.1 in omega arith

-- ---- how a packet is opened

-- the packet is opened so over a state, under all limits that its size passes, and says the frame
record IsOpened (dim : Dim) (state kept : Option DecoderState) (c : CodedFrame) (packet : List ℕ) : Type 0 where
  opening : ParsedPacket
  opens : (limits : Limits) → dim.w * dim.h ≤ limits.pixels → parsed limits state packet ≡ Ok opening
  says : HasContents (tag_key dim kept) (context_over dim kept) c packet opening

-- a context of this size
abbrev IsBasisOf : Dim → FrameContext → Type 0
IsBasisOf dim context = (context.width ≡ dim.w) × (context.height ≡ dim.h)

-- The next frame is coded with nothing, or with the state.
kept_is : (e : EncoderState) → (kept_for e ≡ None) ⊎ (kept_for e ≡ e.state)
kept_is e = elim (cases_Bool (e.since == e.settings.key_every)) [ inl now ↦ inl (rw now refl) | inr later ↦ inr (rw later refl) ]

opened : (dim : Dim) (state kept : Option DecoderState) (c : CodedFrame) (packet : List ℕ) → (kept ≡ None) ⊎ (kept ≡ state) → IsPacketOver dim kept c packet → IsOpened dim state kept c packet
opened dim state None c packet is x = record { opening = x.opening; opens = λ limits fits. x.opens limits state refl fits; says = x.says }
opened dim state (Some k) c packet (inl e) x = absurd cc
opened dim state (Some k) c packet (inr e) x =
    let y = x k refl refl in
    record { opening = y.opening; opens = λ limits fits. subst (λ (s : Option DecoderState). parsed limits s packet ≡ Ok y.opening) e (y.opens limits (Some k) refl tt); says = y.says }

basis : (dim : Dim) (state kept : Option DecoderState) → (kept ≡ None) ⊎ (kept ≡ state) → IfSome state (IsKeptFor dim) → IsBasisOf dim (context_over dim kept)
basis dim state None is sound = (refl, refl)
basis dim state (Some k) (inl e) sound = absurd cc
basis dim state (Some k) (inr e) sound =
    let stands : IsKeptFor dim k = subst (λ (s : Option DecoderState). IfSome s (IsKeptFor dim)) (sym e) sound in
    (stands.size.width, stands.size.height)

-- the step of a packet that is opened
opened_step : (limits : Limits) (state : Option DecoderState) (packet : List ℕ) (o : ParsedPacket) → parsed limits state packet ≡ Ok o → step limits state packet ≡ decoded (Ok o)
unfolding step parsed tag_of
opened_step limits state [] o e = absurd cc
opened_step limits state (b ∷ bs) o e = ap decoded e

segment_at : (g : Grid Modes) (p : Place) → at 0 (segments_of g) p ≡ (at plain g p).segment
unfolding plain
segment_at g p = at-mapped (λ (m : Modes). m.segment) plain g p

-- ---- a macroblock, as it is read

-- what it is predicted from
source_read : (s : Settings) (dim : Dim) (kept : Option DecoderState) (version : ℕ) (modes : Modes) (motion : MacroblockMotion) (c : Choice)
    → version ≡ 0 → modes ≡ c.modes → motion ≡ choice_motion c → source_read_by (context_over dim kept).references version modes motion ≡ source_by (search_in s kept) c
source_read s dim None version modes motion c v m e = ap Intra m
source_read s dim (Some k) version modes motion c v m e = elim (cases_Bool (is_intra c.modes.reference)) [
  | inl own ↦
      let too : is_intra modes.reference ≡ true = ap (λ (x : Modes). is_intra x.reference) m ∙ own in
      rw (own, too) (ap Intra m)
  | inr away ↦
      let too : is_intra modes.reference ≡ false = ap (λ (x : Modes). is_intra x.reference) m ∙ away in
      rw (away, too) (λ i. Inter (e i) (reference_picture k.references (m i).reference) (v i))
]

index_same : (n : ℕ) → n ≤ 127 → min n 127 ≡ n
index_same n h = omega arith

-- ---- the frame, as it is read

module _ (e : EncoderState) (source : Image) (c : CodedFrame) (packet : List ℕ) (allowed : AreAllowed e.settings) (sound : IfSome e.state (IsKeptFor e.dim))
    (size : HasSize e.dim source) (is : IsFrameFor e source c) (over : IsPacketOver e.dim (kept_for e) c packet) where
  abbrev g : Grid Choice
  g = c.macroblocks

  abbrev frame : FrameSearch
  frame = frame_for e source

  x : IsOpened e.dim e.state (kept_for e) c packet
  x = opened e.dim e.state (kept_for e) c packet (kept_is e) over

  abbrev o : ParsedPacket
  o = x.opening

  abbrev plan : FrameInfo
  plan = frame_info_of o

  abbrev parts : List State
  parts = map initial_state o.partitions

  abbrev read : Place → Macroblock
  read = (frame_of plan parts e.dim.w e.dim.h).macroblock

  abbrev chosen : Place → Macroblock
  chosen p = macroblock_by frame (coded_choice c p)

  -- all that is opened has the encoder's size
  context : IsBasisOf e.dim o.context
  context = subst (IsBasisOf e.dim) (sym x.says.context_is) (basis e.dim e.state (kept_for e) (kept_is e) sound)

  width : frame.source.width ≡ e.dim.w
  unfolding continued
  width = size.width

  height : frame.source.height ≡ e.dim.h
  unfolding continued
  height = size.height

  columns : g.columns ≡ macroblocks e.dim.w
  columns = is.chosen.columns ∙ ap macroblocks width

  rows : g.rows ≡ macroblocks e.dim.h
  rows = is.chosen.rows ∙ ap macroblocks height

  inside : (p : Place) → p.column < macroblocks e.dim.w → p.row < macroblocks e.dim.h → Has g p
  inside p column row = let a = columns in let b = rows in record { column = omega arith; row = omega arith }

  -- the motion that is read is the chosen one
  motion_same : (p : Place) → Has g p → motion_in plan.maps p ≡ choice_motion (coded_choice c p)
  motion_same p has = x.says.maps.motion p has ∙ (is.chosen.each p has).motion

  read_same : (p : Place) → Has g p → coded_choice c p ≡ choice_read plan parts p
  read_same p has = sym (λ i. record {
    modes = x.says.maps.modes p has i;
    motion = record { mode = (motion_same p has i).mode; vectors = (motion_same p has i).vectors };
    tokens = x.says.tokens p has i;
  })

  source_same : (p : Place) → Has g p → predictor_at plan p ≡ source_by frame.search (coded_choice c p)
  unfolding predictor_at frame_info_of
  source_same p has =
      ap (λ (b : FrameContext). source_read_by b.references o.tag.version (modes_in plan.maps p) (motion_in plan.maps p)) x.says.context_is
      ∙ source_read e.settings e.dim (kept_for e) o.tag.version (modes_in plan.maps p) (motion_in plan.maps p) (coded_choice c p) x.says.version (x.says.maps.modes p has) (motion_same p has)

  factors_same : (p : Place) → factors_at plan p ≡ frame.factors
  unfolding factors_at frame_info_of
  factors_same p =
      ap (λ (h : Header). factors (index_of h (modes_in plan.maps p).segment) h.quantiser) (x.says.header ∙ is.header)
      ∙ ap (λ (n : ℕ). factors n (quantiser e.settings.qi)) (index_same e.settings.qi allowed.quantiser)

  macroblock_same : (p : Place) → Has g p → chosen p ≡ read p
  macroblock_same p has = λ i. macroblock_of (sym (source_same p has) i) (sym (x.says.tokens p has) i) (sym (factors_same p) i)

  pictures_same : (p : Place) → Has g p → picture_before frame g p ≡ rebuilt_before e.dim.w e.dim.h read p
  pictures_same p has =
      let wide = columns in
      (λ i. rebuilt_before (width i) (height i) chosen p)
      ∙ rebuilt_before-same e.dim.w e.dim.h chosen read p (omega arith)
      (λ q within earlier. macroblock_same q (record { column = omega arith; row = omega arith }))

  candidates_same : (p : Place) → Has g p → AreSameCandidates (saved_motions g) plan.maps.motion p
  candidates_same p has r =
      candidates-same (saved_motions g) plan.maps.motion p r no_biases (sym x.says.maps.motion_columns) (sym x.says.maps.motion_rows) has.column
      (λ q within earlier. motion_by-at g q ∙ sym (x.says.maps.motion q (record { column = within; row = omega arith })))

  choices_read : AreChoices e source plan parts
  choices_read p column row =
      let has = inside p column row in
      subst (λ (d : Choice). IsChoice frame (rebuilt_before e.dim.w e.dim.h read p) plan.maps.motion p d) (read_same p has)
      (choice_with frame (picture_before frame g p) (rebuilt_before e.dim.w e.dim.h read p) (saved_motions g) plan.maps.motion p (coded_choice c p)
      (pictures_same p has) (candidates_same p has) (is.chosen.each p has).is)

  pictures_read : (wide high : ℕ) → wide ≡ e.dim.w → high ≡ e.dim.h → picture_by frame g ≡ unfiltered (frame_of plan parts wide high)
  unfolding unfiltered
  pictures_read wide high across down =
      rows-same frame.source.width (macroblocks frame.source.height) chosen read (blank_image frame.source.width frame.source.height 0)
      (λ q column row. macroblock_same q (record { column = omega arith; row = omega arith }))
      ∙ (λ i. all_rebuilt read (blank_image ((width ∙ sym across) i) ((height ∙ sym down) i) 0))

  pub frame_chosen : IsChosen e source packet
  frame_chosen = record {
    opening = o;
    opens = x.opens;
    version = x.says.version;
    shown = x.says.shown;
    key = x.says.key_is;
    header = x.says.header ∙ is.header;
    choices = choices_read;
    first_closed = x.says.first_closed;
    closed = x.says.closed;
  }

  in_frame : {A : Type 0} {m : Grid A} (p : Place) → Has m p → m.columns ≡ g.columns → m.rows ≡ g.rows → Has g p
  in_frame p has wide high = record { column = omega (arith, has.column, wide); row = omega (arith, has.row, high) }

  rebuilt_here : (picture : Image) → picture ≡ picture_by frame g → IsRebuiltFrame o picture
  rebuilt_here picture by = record {
    picture = by ∙ pictures_read o.context.width o.context.height context.0 context.1;
    skipped = λ q has.
        let there = in_frame q has x.says.maps.columns x.says.maps.rows in
        ap (λ (m : Modes). m.skip) (x.says.maps.modes q there) ∙ (is.chosen.each q there).is.skip ∙ ap (λ (t : Tokens). not (any_token t)) (sym (x.says.tokens q there));
  }

  -- the picture of the choices is the one that the packet describes
  pub frame_rebuilt : (picture : Image) → picture ≡ picture_by frame g
      → (limits : Limits) (found : ParsedPacket) → e.dim.w * e.dim.h ≤ limits.pixels → parsed limits e.state packet ≡ Ok found → IsRebuiltFrame found picture
  frame_rebuilt picture by limits found fits opens =
      let here = x.opens limits fits in
      let same : o ≡ found = cc in
      subst (λ (p : ParsedPacket). IsRebuiltFrame p picture) same (rebuilt_here picture by)

  -- segments that are 0 stay so
  unsegmented : AreUnsegmented e.dim (segments_of plan.maps.modes)
  unsegmented = record {
    columns = x.says.maps.columns ∙ columns;
    rows = x.says.maps.rows ∙ rows;
    zero = λ p has.
        let there = in_frame p has x.says.maps.columns x.says.maps.rows in
        segment_at plan.maps.modes p ∙ ap (λ (m : Modes). m.segment) (x.says.maps.modes p there) ∙ (is.chosen.each p there).is.segment;
  }

  pub frame_shows : KeepsShape → ShowsNewest e.dim e.state packet
  frame_shows law =
      let shaped = picture_shaped law (frame_of_packet o) in
      let newest = newest_is o.context.references o.header (picture_of (frame_of_packet o)) in
      record {
        kept = state_after o;
        sound = record {
          size = record {
            width = ap (λ (p : Image). p.width) newest ∙ shaped.width_is ∙ context.0;
            height = ap (λ (p : Image). p.height) newest ∙ shaped.height_is ∙ context.1;
          };
          segments = unsegmented;
        };
        is = λ limits fits.
            opened_step limits e.state packet o (x.opens limits fits)
            ∙ (λ i. (Some (state_after o), answer (x.says.shown i) (sym newest i)));
      }

-- ---- a decoder after such a packet, in what the code has at hand: an encoder that is open

module _ (dim : Dim) (settings : Settings) (n : ℕ) (d new : Decoder) (e : EncoderState) (packet : List ℕ)
    (same : record { dim = dim; settings = settings; state = d.state; since = n } ≡ e) (sound : IsSound d.limits (record { dim = dim; settings = settings; state = d.state; since = n }))
    (shows : ShowsNewest e.dim e.state packet) (stepped : new ≡ after d (step d.limits d.state packet)) where
  pub kept_shown : new.state ≡ Some shows.kept
  kept_shown =
      ap (λ (z : Decoder). z.state) stepped ∙ (λ i. (step d.limits (same i).state packet).0)
      ∙ ap (λ (s : Option DecoderState × Answer). s.0) (shows.is d.limits (size_fits e.dim d.limits.pixels sound.wide))

  pub sound_after : (since : ℕ) → since ≤ settings.key_every → IsSound new.limits (record { dim = dim; settings = settings; state = new.state; since = since })
  sound_after since few = record {
    wide = rw stepped sound.wide;
    settings = sound.settings;
    since = few;
    kept = subst (λ (z : EncoderState). IfSome new.state (IsKeptFor z.dim)) (sym same) (rw kept_shown shows.sound);
  }
