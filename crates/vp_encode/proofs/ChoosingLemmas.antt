-- What is chosen for a frame can be written; how its macroblocks are chosen, one after another.
use Rattle.std.proofs.Common.{◌≡◌, ◌∙◌, ◌+◌, ◌<◌, ◌^◌, ℕ, ℤ, Bool, true, false, List, replicate, refl, sym, ap, subst, arith, inl, inr, ◌≢◌, ◌≤◌}
use Rattle.std.specs.Prelude.{Option, Some, None, IfSome, option_map, not, is_some, is_none, if◌then◌else◌, unwrap_or}
use Rattle.std.proofs.lemmas.Grind.{common_steps}
use Rattle.std.proofs.lemmas.Bool.{cases_Bool, cases_lt}
use Rattle.vp_base.specs.declared.limits.Dim.{Dim}
use Rattle.vp_base.specs.declared.place.Place.{Place}
use Rattle.vp_base.specs.Grid.{Grid, Has, at, entry, with_entry, all as everywhere}
use Rattle.vp_base.specs.Image.{Image, macroblocks, blank_image}
use Rattle.vp_tables.specs.declared.modes.SubMode.TheVariants as sub_is
use Rattle.vp_tables.specs.declared.modes.VectorMode.TheVariants as vector_is
use Rattle.vp_tables.specs.Modes.{is_by_subblocks}
use Rattle.vp_head.specs.declared.fields.Header.{Header}
use Rattle.vp_head.specs.declared.fields.Saved.{Saved}
use Rattle.vp_head.specs.declared.fields.Reference.{Reference}
use Rattle.vp_head.specs.declared.fields.Reference.TheVariants as reference_is
use Rattle.vp_head.specs.Reference.{is_intra}
use Rattle.vp_head.specs.Saved.{defaults}
use Rattle.vp_head.specs.Spelled as head
use Rattle.vp_modes.specs.Entry.{Modes, plain, plain_of, unread}
use Rattle.vp_modes.specs.Map.{of_segments}
use Rattle.vp_motion.specs.Vector.{MacroblockMotion, Vector, Candidates, IsWithin, last_of, zero_vector}
use Rattle.vp_tokens.specs.Blocks.{any_token}
use Rattle.vp_tokens.specs.Spelled.{AreSpelled}
use Rattle.vp_quant.specs.declared.factors.Factors.{Factors}
use Rattle.vp_recon.specs.Predictor.{has_y2 as source_has_y2, Macroblock}
use Rattle.vp_choose.specs.declared.frame.Choice.{Choice}
use Rattle.vp_choose.specs.Frame.{FrameSearch, Search, source_by, no_biases, choice_motion}
use Rattle.vp_choose.specs.Inter.{IsInter, IsFirstGiving, vector_of}
use Rattle.vp_choose.specs.Choice.{IsIntraChoice, IsTaken, IsChoice}
use Rattle.vp_decode.specs.Step.{DecoderState}
use Rattle.vp_encode.specs.declared.settings.Settings.{Settings}
use Rattle.vp_encode.specs.declared.coded_frame.CodedFrame.{CodedFrame}
use Rattle.vp_encode.specs.CodedFrame.{choice_at, choice_has_y2, AreModesSpelled, AreTokensSpelled, CanBeEncoded, nothing, saved_motion, saved_motions}
use Rattle.vp_encode.specs.Encoder.{AreAllowed, header_over, log2_of, context_over, search_in, continued, frame_over}
use Rattle.vp_encode.specs.FrameChoices.{picture_before, AreChosen, AreUnsegmented, macroblock_by, picture_by, IsChosenAt, IsBeforeInRaster, IsMotionBefore, IsMotionOf, IsChosenUpTo, IsContinuedAt, AreChosenBefore}
use Rattle.vp_encode.proofs.RasterOrder.{apart, same_or_not, none_before, before_next, earlier_next, row_over, earlier_row, in_rows}
use Rattle.vp_encode.proofs.Candidates.{at-mapped, all_still, motion_none, motion_next, motion_row, motion_candidates}
use Rattle.std.proofs.lemmas.Int.{ints}
use Rattle.vp_base.specs.Over.{over}
use Rattle.vp_base.proofs.OverLemmas.{over-none, over-more, over-same}
use Rattle.vp_motion.specs.Map.{AreWithin, intra, own}
use Rattle.vp_motion.specs.Near.{candidates}
use Rattle.vp_motion.specs.Spelled.{CanBeWritten}
use Rattle.vp_recon.specs.Rebuilt.{rebuilt, row_rebuilt, all_rebuilt}
use Rattle.vp_decode.specs.MacroblockMaps.{place}
use Rattle.vp_encode.specs.declared.frame_choices.FrameChoices.{FrameChoices}
use Rattle.vp_encode.specs.Choice.{rebuilt_before}

log2_small : (n : ℕ) → log2_of n < 2 ^ 2
log2_small n = grind (arith, common_steps)

four_kept : (n : ℕ) (xs : List ℤ) → head.AreSigned n xs xs
four_kept n xs = record {
  first = λ changed. absurd (changed refl);
  second = λ changed. absurd (changed refl);
  third = λ changed. absurd (changed refl);
  fourth = λ changed. absurd (changed refl);
}

-- A key frame is told over the defaults.
pub header_spelled : (saved : Saved) (key golden : Bool) (s : Settings) → AreAllowed s → (key ≡ true → saved ≡ defaults) → head.IsWritableHeader key saved (header_over saved key golden s)
unfolding defaults
header_spelled saved key golden s allowed begun = record {
  kind = refl;
  color_space = λ inter. refl;
  clamping_type = λ inter. refl;
  segmentation = record { off = λ none. (refl, refl); on = λ changed. absurd (changed refl); no_map = λ none. refl };
  filter = record { level = omega arith; sharpness = omega arith };
  deltas = record { off = λ none. refl; reference = four_kept 6 saved.deltas.reference; mode = four_kept 6 saved.deltas.mode };
  log2_partitions = log2_small s.partitions;
  quantiser = record {
    y_ac = omega arith;
    y_dc = λ changed. absurd (changed refl);
    y2_dc = λ changed. absurd (changed refl);
    y2_ac = λ changed. absurd (changed refl);
    uv_dc = λ changed. absurd (changed refl);
    uv_ac = λ changed. absurd (changed refl);
  };
  updates = record {
    golden = λ e. rw e refl;
    alt = λ e. e;
    last = λ e. refl;
    no_copy_to_golden = λ e. refl;
    no_copy_to_alt = λ e. refl;
  };
  biases = λ e. ap (λ (k : Saved). k.biases) (sym (begun e));
  references = λ e. rw e refl;
  luma = λ e. refl;
  chroma = λ e. refl;
  vectors = λ e. refl;
  vector = λ e i j changed. absurd (changed refl);
}

-- ---- a choice, told

-- an inter macroblock has no intra modes, and subblocks have modes where luma is told by subblocks
record AreModes (c : Choice) : Type 0 where
  pub inter : is_intra c.modes.reference ≡ false → c.modes ≡ unread 0 c.modes.skip c.modes.reference
  pub subs : is_by_subblocks c.modes.luma ≡ false → c.modes.subs ≡ replicate 16 sub_is.Dc

intra_modes : (frame : FrameSearch) (z : Image) (p : Place) (luma : _) (c : Choice) → IsIntraChoice frame z p luma c → AreModes c
intra_modes frame z p luma c is = record {
  inter = λ away. absurd (let never : true ≡ false = ap is_intra (sym is.reference) ∙ away in cc);
  subs = λ whole.
      let plain_ones : is_by_subblocks luma.mode ≡ false = ap is_by_subblocks (sym is.luma) ∙ whole in
      is.subs ∙ rw plain_ones refl;
}

inter_modes : (source : Image) (factors : Factors) (s : Search) (g : Grid MacroblockMotion) (p : Place) (z : Image) (m : _) (c : Choice) → IsInter source factors s g p z m c → AreModes c
inter_modes source factors s g p z m c is = record {
  inter = λ away. is.modes ∙ ap (λ (r : Reference). unread 0 c.modes.skip r) (sym (ap (λ (x : Modes). x.reference) is.modes));
  subs = λ whole. ap (λ (x : Modes). x.subs) is.modes;
}

modes_taken : (o : Option Search) (frame : FrameSearch) (z : Image) (g : Grid MacroblockMotion) (p : Place) (luma : _) (c : Choice) → IsTaken o frame z g p luma c → AreModes c
modes_taken None frame z g p luma c taken = intra_modes frame z p luma c taken
modes_taken (Some s) frame z g p luma c taken = elim (cases_lt luma.cost taken.moved.cost) [
  | inl dear ↦ intra_modes frame z p luma c (taken.intra dear)
  | inr cheap ↦ inter_modes frame.source frame.factors s g p z taken.moved c (taken.inter cheap)
]

-- without a search all is intra
own_without : (o : Option Search) (frame : FrameSearch) (z : Image) (g : Grid MacroblockMotion) (p : Place) (luma : _) (c : Choice) → o ≡ None → IsTaken o frame z g p luma c
    → c.modes.reference ≡ reference_is.Intra
own_without None frame z g p luma c e taken = taken.reference
own_without (Some s) frame z g p luma c e taken = absurd cc

-- the Y2 block is the same, whatever the macroblock is predicted from
y2_same : (o : Option Search) (c : Choice) → (o ≡ None → is_intra c.modes.reference ≡ true) → source_has_y2 (source_by o c) ≡ choice_has_y2 c
y2_same None c own = rw (own refl) refl
y2_same (Some s) c own = elim (cases_Bool (is_intra c.modes.reference)) [
  | inl own ↦ rw own refl
  | inr inter ↦ rw inter refl
]

not_true : (b : Bool) → true ≡ not b → b ≡ false
not_true true e = absurd cc
not_true false e = refl

search_none : (s : Settings) (kept : Option DecoderState) → is_none kept ≡ true → search_in s kept ≡ None
search_none s None e = refl
search_none s (Some k) e = absurd cc

defaults_in : (dim : Dim) (kept : Option DecoderState) → is_none kept ≡ true → (context_over dim kept).saved ≡ defaults
defaults_in dim None e = refl
defaults_in dim (Some k) e = absurd cc

abbrev coded : Header → Grid Choice → CodedFrame
coded h g = record { header = h; macroblocks = g }

-- ---- segments that are 0

-- the segment that stands before a frame
segment_before : (g : Grid ℕ) (p : Place) → (at plain (of_segments g) p).segment ≡ at 0 g p
unfolding plain
segment_before g p = ap (λ (m : Modes). m.segment) (at-mapped plain_of 0 g p)

-- It is asked in an inter frame.
zero_before : (dim : Dim) (kept : Option DecoderState) (p : Place) → IfSome kept (λ k. AreUnsegmented dim k.segments) → p.column < macroblocks dim.w → p.row < macroblocks dim.h
    → 0 ≡ (if is_none kept then 0 else (at plain (context_over dim kept).modes p).segment)
zero_before dim None p zeros column row = refl
zero_before dim (Some k) p zeros column row =
    sym (segment_before k.segments p ∙ zeros.zero p (record { column = omega arith; row = omega arith }))

-- ---- the frame, told

module _ (dim : Dim) (kept : Option DecoderState) (golden : Bool) (s : Settings) (frame : FrameSearch) (g : Grid Choice)
    (wide : frame.source.width ≡ dim.w) (high : frame.source.height ≡ dim.h) (search : frame.search ≡ search_in s kept)
    (zeros : IfSome kept (λ k. AreUnsegmented dim k.segments)) (chosen : AreChosen frame g) where
  abbrev header : Header
  header = header_over (context_over dim kept).saved (is_none kept) golden s

  intra_all : (p : Place) → Has g p → is_none kept ≡ true → (choice_at g p).modes.reference ≡ reference_is.Intra
  intra_all p has key =
      let is = (chosen.each p has).is in
      own_without frame.search frame (picture_before frame g p) (saved_motions g) p is.luma (choice_at g p) (search ∙ search_none s kept key) is.taken

  modes_told : AreModesSpelled (coded header g) (context_over dim kept).modes
  modes_told p has =
      let is = (chosen.each p has).is in
      let are = modes_taken frame.search frame (picture_before frame g p) (saved_motions g) p is.luma (choice_at g p) is.taken in
      let column : p.column < macroblocks dim.w = subst (λ (n : ℕ). p.column < n) (chosen.columns ∙ ap macroblocks wide) has.column in
      let row : p.row < macroblocks dim.h = subst (λ (n : ℕ). p.row < n) (chosen.rows ∙ ap macroblocks high) has.row in
      record {
        segment = λ none. is.segment ∙ zero_before dim kept p zeros column row;
        skip = λ none. absurd cc;
        reference = λ key. intra_all p has key;
        inter = λ away. are.inter away ∙ ap (λ (n : ℕ). unread n (choice_at g p).modes.skip (choice_at g p).modes.reference) (sym is.segment);
        subs = are.subs;
      }

  tokens_told : AreTokensSpelled (coded header g)
  tokens_told = record {
    blocks = λ p has.
        let is = (chosen.each p has).is in
        let own_all : frame.search ≡ None → is_intra (choice_at g p).modes.reference ≡ true = λ none.
        ap is_intra (own_without frame.search frame (picture_before frame g p) (saved_motions g) p is.luma (choice_at g p) none is.taken) in
        subst (λ (b : Bool). AreSpelled b (choice_at g p).tokens.blocks) (y2_same frame.search (choice_at g p) own_all) is.spelled;
    skipped = λ p has skip.
        let is = (chosen.each p has).is in
        is.none (not_true (any_token (choice_at g p).tokens) (sym skip ∙ is.skip));
  }

  pub frame_told : AreAllowed s → CanBeEncoded (is_none kept) (context_over dim kept).saved (context_over dim kept).modes (coded header g)
  frame_told allowed = record {
    header = header_spelled (context_over dim kept).saved (is_none kept) golden s allowed (defaults_in dim kept);
    modes = modes_told;
    motion = λ p has away. (chosen.each p has).written away;
    tokens = tokens_told;
  }

none_mapped : {A B : Type 0} (f : A → B) (o : Option A) → is_none (option_map f o) ≡ is_none o
none_mapped f None = refl
none_mapped f (Some a) = refl

pub none_is : {A : Type 0} (o : Option A) (b : Bool) → is_some o ≡ not b → b ≡ is_none o
none_is None true e = refl
none_is None false e = absurd cc
none_is (Some a) true e = absurd cc
none_is (Some a) false e = refl

-- the frame of a source, in what the code has at hand
pub told_as : {A : Type 0} (of : A → DecoderState) (o : Option A) (dim : Dim) (golden key : Bool) (saved : Saved) (s : Settings) (source : Image) (frame : FrameSearch) (g : Grid Choice) (h : Header) → AreAllowed s
    → source.width ≡ dim.w → source.height ≡ dim.h → IfSome (option_map of o) (λ k. AreUnsegmented dim k.segments) → frame ≡ frame_over (option_map of o) s source → AreChosen frame g
    → saved ≡ (context_over dim (option_map of o)).saved → key ≡ is_none o → h ≡ header_over saved key golden s
    → CanBeEncoded (is_none o) (context_over dim (option_map of o)).saved (context_over dim (option_map of o)).modes (coded h g)
unfolding continued
told_as of o dim golden key saved s source frame g h allowed wide high zeros frame_is chosen saved_is key_is header_is =
    rw (header_is, saved_is, key_is, ← none_mapped of o)
    (frame_told dim (option_map of o) golden s frame g (ap (λ (f : FrameSearch). f.source.width) frame_is ∙ wide) (ap (λ (f : FrameSearch). f.source.height) frame_is ∙ high)
    (ap (λ (f : FrameSearch). f.search) frame_is) zeros chosen allowed)

-- ---- how the macroblocks are chosen, one after another

-- ---- the picture before a place

-- what is rebuilt in the first rows of a picture
pub rows-same : (width rows : ℕ) (f g : Place → Macroblock) (base : Image)
    → ((q : Place) → q.column < macroblocks width → q.row < rows → f q ≡ g q) → over rows (row_rebuilt (macroblocks width) f) base ≡ over rows (row_rebuilt (macroblocks width) g) base
rows-same width rows f g base same =
    over-same rows (row_rebuilt (macroblocks width) f) (row_rebuilt (macroblocks width) g) base (λ row up a.
    over-same (macroblocks width) (λ column. rebuilt (f (place row column)) (place row column)) (λ column. rebuilt (g (place row column)) (place row column)) a
    (λ column inside b. ap (λ (m : Macroblock). rebuilt m (place row column) b) (same (place row column) inside up)))

pub rebuilt_before-same : (width height : ℕ) (f g : Place → Macroblock) (p : Place) → p.column ≤ macroblocks width
    → ((q : Place) → q.column < macroblocks width → IsBeforeInRaster q p → f q ≡ g q) → rebuilt_before width height f p ≡ rebuilt_before width height g p
rebuilt_before-same width height f g p within same =
    let base : Image = blank_image width height 0 in
    let above : over p.row (row_rebuilt (macroblocks width) f) base ≡ over p.row (row_rebuilt (macroblocks width) g) base =
    rows-same width p.row f g base (λ q inside up. same q inside (record { row = omega arith; column = λ e. absurd (omega arith) })) in
    ap (row_rebuilt p.column f p.row) above
    ∙ over-same p.column (λ column. rebuilt (f (place p.row column)) (place p.row column)) (λ column. rebuilt (g (place p.row column)) (place p.row column))
    (over p.row (row_rebuilt (macroblocks width) g) base)
    (λ column left b. ap (λ (m : Macroblock). rebuilt m (place p.row column) b) (same (place p.row column) (omega arith) (record { row = omega arith; column = λ e. left })))

rebuilt_before-next : (width height : ℕ) (f : Place → Macroblock) (row n : ℕ)
    → rebuilt_before width height f (place row (n + 1)) ≡ rebuilt (f (place row n)) (place row n) (rebuilt_before width height f (place row n))
rebuilt_before-next width height f row n =
    over-more n (λ column. rebuilt (f (place row column)) (place row column)) (over row (row_rebuilt (macroblocks width) f) (blank_image width height 0))

rebuilt_before-row : (width height : ℕ) (f : Place → Macroblock) (row : ℕ)
    → rebuilt_before width height f (place (row + 1) 0) ≡ rebuilt_before width height f (place row (macroblocks width))
rebuilt_before-row width height f row =
    over-none (λ column. rebuilt (f (place (row + 1) column)) (place (row + 1) column)) (over (row + 1) (row_rebuilt (macroblocks width) f) (blank_image width height 0))
    ∙ over-more row (row_rebuilt (macroblocks width) f) (blank_image width height 0)

-- after all rows
rebuilt_before-all : (width height : ℕ) (f : Place → Macroblock) → rebuilt_before width height f (place (macroblocks height) 0) ≡ all_rebuilt f (blank_image width height 0)
rebuilt_before-all width height f = over-none _ _

-- ---- a choice, given a map with the same candidates

-- two maps give the macroblock at p the same candidates
abbrev pub AreSameCandidates : Grid MacroblockMotion → Grid MacroblockMotion → Place → Type 0
AreSameCandidates g k p = (r : Reference) → candidates g p r no_biases ≡ candidates k p r no_biases

inter_with : (source : Image) (factors : Factors) (s : Search) (g k : Grid MacroblockMotion) (p : Place) (z : Image) (m : _) (c : Choice) → AreSameCandidates g k p
    → IsInter source factors s g p z m c → IsInter source factors s k p z m c
inter_with source factors s g k p z m c same is = record {
  modes = is.modes;
  vectors = is.vectors;
  mode = subst (λ (x : Candidates). IsFirstGiving x (vector_of m) c.motion.mode) (same m.reference) is.mode;
  luma = is.luma;
  u = is.u;
  v = is.v;
}

taken_with : (o : Option Search) (frame : FrameSearch) (z : Image) (g k : Grid MacroblockMotion) (p : Place) (luma : _) (c : Choice) → AreSameCandidates g k p
    → IsTaken o frame z g p luma c → IsTaken o frame z k p luma c
taken_with None frame z g k p luma c same taken = taken
taken_with (Some s) frame z g k p luma c same taken = record {
  moved = taken.moved;
  is = taken.is;
  inter = λ cheap. inter_with frame.source frame.factors s g k p z taken.moved c same (taken.inter cheap);
  intra = taken.intra;
}

pub choice_with : (frame : FrameSearch) (y z : Image) (g k : Grid MacroblockMotion) (p : Place) (c : Choice) → y ≡ z → AreSameCandidates g k p → IsChoice frame y g p c → IsChoice frame z k p c
choice_with frame y z g k p c pictures same is =
    subst (λ (x : Image). IsChoice frame x k p c) pictures (record {
      luma = is.luma;
      best = is.best;
      taken = taken_with frame.search frame y g k p is.luma c same is.taken;
      segment = is.segment;
      skip = is.skip;
      none = is.none;
      tight = is.tight;
      spelled = is.spelled;
    })

-- ---- motion that is short

still_within : IsWithin 511 (own intra)
unfolding own intra
still_within = record { low_row = omega (arith, ints); high_row = omega (arith, ints); low_column = omega (arith, ints); high_column = omega (arith, ints) }

wider : (v : Vector) → IsWithin 259 v → IsWithin 511 v
wider v h = record { low_row = omega (arith, ints); high_row = omega (arith, ints); low_column = omega (arith, ints); high_column = omega (arith, ints) }

short_set : (g k : Grid MacroblockMotion) (p : Place) (e : MacroblockMotion) → AreWithin 511 g → entry k p ≡ Some e → ((q : Place) → q ≢ p → entry k q ≡ entry g q) → IsWithin 259 (last_of e.vectors) → AreWithin 511 k
unfolding own
short_set g k p e short here elsewhere one q = elim (same_or_not q p) [
  | inl same ↦
      let stands : at intra k q ≡ e = ap (at intra k) same ∙ ap (λ o. unwrap_or o intra) here in
      subst (λ (x : MacroblockMotion). IsWithin 511 (last_of x.vectors)) (sym stands) (wider (last_of e.vectors) one)
  | inr apart ↦ subst (λ (o : Option MacroblockMotion). IsWithin 511 (last_of (unwrap_or o intra).vectors)) (sym (elsewhere q apart)) (short q)
]

-- ---- one more macroblock

-- an intra macroblock has no motion
intra_is : (r : Reference) → is_intra r ≡ true → reference_is.Intra ≡ r
intra_is reference_is.Intra e = refl
intra_is r e = absurd cc

saved_is : (c : Choice) → (is_intra c.modes.reference ≡ true → (c.motion.mode ≡ vector_is.Zero) × (c.motion.vectors ≡ replicate 16 zero_vector)) → saved_motion c ≡ choice_motion c
unfolding intra
saved_is c still = elim (cases_Bool (is_intra c.modes.reference)) [
  | inl own ↦ rw own (λ i. record { reference = intra_is c.modes.reference own i; mode = sym (still own).0 i; vectors = sym (still own).1 i })
  | inr away ↦ rw away refl
]

-- what the code makes of the macroblock behind those that are chosen
module _ (frame : FrameSearch) (row n : ℕ) (a : FrameChoices) (picture : Image) (chosen : Grid Choice) (c : Choice) (k : Grid MacroblockMotion) (e : MacroblockMotion)
    (inside : Has a.chosen (place row n)) (before : AreChosenBefore frame (place row n) a) (is : IsChoice frame a.picture a.motion (place row n) c)
    (written : is_intra c.modes.reference ≡ false → CanBeWritten (candidates a.motion (place row n) c.modes.reference no_biases) c.motion)
    (still : is_intra c.modes.reference ≡ true → (c.motion.mode ≡ vector_is.Zero) × (c.motion.vectors ≡ replicate 16 zero_vector))
    (one : IsWithin 259 (last_of c.motion.vectors)) (made : picture ≡ rebuilt (macroblock_by frame c) (place row n) a.picture)
    (changed : chosen ≡ with_entry a.chosen (place row n) c) (stands : entry chosen (place row n) ≡ Some c)
    (elsewhere : (q : Place) → q ≢ place row n → entry chosen q ≡ entry a.chosen q)
    (e_is : e ≡ choice_motion c) (moved : k ≡ with_entry a.motion (place row n) e) (there : entry k (place row n) ≡ Some e)
    (others : (q : Place) → q ≢ place row n → entry k q ≡ entry a.motion q) where
  abbrev p : Place
  p = place row n

  motion_is : saved_motion c ≡ choice_motion c
  motion_is = saved_is c still

  columns : chosen.columns ≡ a.chosen.columns
  columns = ap (λ (g : Grid Choice). g.columns) changed

  rows : chosen.rows ≡ a.chosen.rows
  rows = ap (λ (g : Grid Choice). g.rows) changed

  -- with these choices from the next place on
  module _ (g : Grid Choice) (more : IsContinuedAt chosen (place row (n + 1)) g) where
    here : c ≡ choice_at g p
    here = sym (more.same p (record { row = omega arith; column = λ level. omega arith }) ∙ ap (λ o. unwrap_or o nothing) stands)

    old : IsChosenUpTo frame p g a.picture a.motion
    old = before.up_to g (record {
      columns = more.columns ∙ columns;
      rows = more.rows ∙ rows;
      same = λ q earlier. more.same q (earlier_next q row n earlier) ∙ ap (λ o. unwrap_or o nothing) (elsewhere q (apart q p earlier));
    })

    has : Has g p
    has = record { column = omega (arith, inside.column, more.columns, columns); row = omega (arith, inside.row, more.rows, rows) }

    same_candidates : AreSameCandidates a.motion (saved_motions g) p
    same_candidates r = motion_candidates g p a.motion r no_biases has old.motion

    chosen_as : IsChosenAt frame g p
    chosen_as =
        let F : Choice → Type 0 = λ x. IsChoice frame (picture_before frame g p) (saved_motions g) p x
        × (is_intra x.modes.reference ≡ false → CanBeWritten (candidates (saved_motions g) p x.modes.reference no_biases) x.motion) × (saved_motion x ≡ choice_motion x) in
        let all = subst F here (
          choice_with frame a.picture (picture_before frame g p) a.motion (saved_motions g) p c old.picture same_candidates is,
          λ away. subst (λ (z : Candidates). CanBeWritten z c.motion) (same_candidates c.modes.reference) (written away),
          motion_is,
        ) in
        record { is = all.0; written = all.1; motion = all.2 }

    next : IsChosenUpTo frame (place row (n + 1)) g picture k
    next = record {
      picture = made
          ∙ ap (λ (z : Image). rebuilt (macroblock_by frame c) p z) old.picture
          ∙ ap (λ (x : Choice). rebuilt (macroblock_by frame x) p (picture_before frame g p)) here
          ∙ sym (rebuilt_before-next frame.source.width frame.source.height (λ q. macroblock_by frame (choice_at g q)) row n);
      motion = motion_next g row n a.motion k old.motion (ap (λ (z : Grid MacroblockMotion). z.columns) moved) (ap (λ (z : Grid MacroblockMotion). z.rows) moved)
          (ap (λ o. unwrap_or o intra) there ∙ e_is ∙ sym motion_is ∙ ap saved_motion here) (λ q far. ap (λ o. unwrap_or o intra) (others q far));
      each = λ q inside earlier. elim (before_next q row n earlier) [
        | inl sooner ↦ old.each q inside sooner
        | inr last ↦ subst (λ (r : Place). IsChosenAt frame g r) (sym last) chosen_as
      ];
    }

  pub chosen_next : AreChosenBefore frame (place row (n + 1)) (record { picture = picture; motion = k; chosen = chosen })
  chosen_next = record {
    size = record {
      width = before.size.width ∙ ap (λ (z : Image). z.width) (sym made);
      height = before.size.height ∙ ap (λ (z : Image). z.height) (sym made);
    };
    columns = columns ∙ before.columns;
    rows = rows ∙ before.rows;
    motion_columns = ap (λ (z : Grid MacroblockMotion). z.columns) moved ∙ before.motion_columns ∙ sym columns;
    motion_rows = ap (λ (z : Grid MacroblockMotion). z.rows) moved ∙ before.motion_rows ∙ sym rows;
    short = short_set a.motion k p e before.short there others (subst (λ (x : MacroblockMotion). IsWithin 259 (last_of x.vectors)) (sym e_is) one);
    up_to = next;
  }

-- ---- rows

pub begun : (frame : FrameSearch) (width height : ℕ) (b : FrameChoices) → frame.source.width ≡ width → frame.source.height ≡ height → b.picture ≡ blank_image width height 0
    → b.motion ≡ everywhere (macroblocks width) (macroblocks height) intra → b.chosen.columns ≡ macroblocks width → b.chosen.rows ≡ macroblocks height → AreChosenBefore frame (place 0 0) b
begun frame width height b wide high blank still columns rows = record {
  size = record { width = wide ∙ sym (ap (λ (z : Image). z.width) blank); height = high ∙ sym (ap (λ (z : Image). z.height) blank) };
  columns = columns ∙ ap macroblocks (sym wide);
  rows = rows ∙ ap macroblocks (sym high);
  motion_columns = ap (λ (g : Grid MacroblockMotion). g.columns) still ∙ sym columns;
  motion_rows = ap (λ (g : Grid MacroblockMotion). g.rows) still ∙ sym rows;
  short = λ q. subst (λ (e : MacroblockMotion). IsWithin 511 (own e)) (sym (ap (λ (g : Grid MacroblockMotion). at intra g q) still ∙ all_still (macroblocks width) (macroblocks height) q)) still_within;
  up_to = λ g more. record {
    picture = blank ∙ (λ i. blank_image (sym wide i) (sym high i) 0) ∙ sym (over-none _ _ ∙ over-none _ _);
    motion = motion_none (macroblocks width) (macroblocks height) g b.motion (more.columns ∙ columns) (more.rows ∙ rows) still;
    each = λ q has earlier. absurd (none_before q earlier);
  };
}

pub next_row : (frame : FrameSearch) (row n : ℕ) (b : FrameChoices) → n ≡ b.chosen.columns → AreChosenBefore frame (place row n) b → AreChosenBefore frame (place (row + 1) 0) b
next_row frame row n b all before = record {
  size = before.size;
  columns = before.columns;
  rows = before.rows;
  motion_columns = before.motion_columns;
  motion_rows = before.motion_rows;
  short = before.short;
  up_to = λ g more.
      let old = before.up_to g (record { columns = more.columns; rows = more.rows; same = λ q earlier. more.same q (earlier_row q row n earlier) }) in
      record {
        picture = old.picture
            ∙ ap (λ (k : ℕ). picture_before frame g (place row k)) (all ∙ before.columns)
            ∙ sym (rebuilt_before-row frame.source.width frame.source.height (λ q. macroblock_by frame (choice_at g q)) row);
        motion = motion_row g row n b.motion (all ∙ sym more.columns) old.motion;
        each = λ q has earlier. old.each q has (row_over q row n (omega (arith, has.column, more.columns)) earlier);
      };
}

pub all_chosen : (frame : FrameSearch) (rows : ℕ) (b : FrameChoices) → rows ≡ b.chosen.rows → AreChosenBefore frame (place rows 0) b
    → AreChosen frame b.chosen × IsMotionOf b.chosen b.motion × (b.picture ≡ picture_by frame b.chosen)
all_chosen frame rows b all before =
    let made = before.up_to b.chosen (record { columns = refl; rows = refl; same = λ q earlier. refl }) in (
      record { columns = before.columns; rows = before.rows; each = λ p has. made.each p has (in_rows p rows (omega (arith, has.row))) },
      subst (λ (k : ℕ). IsMotionBefore b.chosen (place k 0) b.motion) all made.motion,
      made.picture
          ∙ ap (λ (k : ℕ). picture_before frame b.chosen (place k 0)) (all ∙ before.rows)
          ∙ rebuilt_before-all frame.source.width frame.source.height (λ q. macroblock_by frame (choice_at b.chosen q)),
    )
