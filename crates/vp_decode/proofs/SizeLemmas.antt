-- The sizes of a frame's picture and of what stands between packets.
use Rattle.std.proofs.Common.{[]}
use Rattle.vp_decode.proofs.Words.{◌≡◌, ◌∙◌, ℕ, ◌*◌, Bool, true, false, cond, List, ◌∷◌, Some, None, refl, sym, ap, Option, Result, Ok, Err, IfSome, Place, Limits, Grid, Image, IsAligned, AreWhole, macroblocks, blank_image, AreOneSize, IsWhole-blank, over-holds, PacketFault, KeyTag, Header, Saved, ReferenceCopy, Nothing, Last, Other, Unused, Level, filtered, row_filtered, row_size, row_aligned, row_whole, References, copied_by, all_rebuilt, Frame, unfiltered, picture_of, IsOneSize, IsShaped, IsSized, AreSized, HasConsistentSizes, DecoderState, FrameContext, key_context, inter_context, context_of, ParsedPacket, parsed, frame_info_of, frame_of_packet, references_after, shown_after, state_after, decoded, step, ◌||◌}
use Rattle.vp_base.specs.declared.limits.Dim.{Dim}
use Rattle.vp_recon.specs.Predictor.{Macroblock}
use Rattle.vp_decode.proofs.CutLemmas.{opened-is, by_context}
use Rattle.vp_decode.proofs.MapLemmas.{IsMapped, maps_read-mapped}

-- ---- the picture of a frame

pub blank_shaped : (width height : ℕ) → IsShaped width height (blank_image width height 0)
blank_shaped width height = record {
  width_is = refl;
  height_is = refl;
  aligned = ((refl, refl), (refl, refl), (refl, refl));
  whole = (
    IsWhole-blank (16 * macroblocks width) (16 * macroblocks height) 0,
    IsWhole-blank (8 * macroblocks width) (8 * macroblocks height) 0,
    IsWhole-blank (8 * macroblocks width) (8 * macroblocks height) 0,
  );
}

pub row_shaped : (width height row : ℕ) (level : Place → Level) (p : Image) → IsShaped width height p → IsShaped width height (row_filtered level row p)
row_shaped width height row level p s = record {
  width_is = (row_size level row p).width ∙ s.width_is;
  height_is = (row_size level row p).height ∙ s.height_is;
  aligned = row_aligned level row p s.aligned;
  whole = row_whole level row p s.whole;
}

filtered_shaped : (width height : ℕ) (level : Place → Level) (p : Image) → IsShaped width height p → IsShaped width height (filtered level p)
unfolding filtered
filtered_shaped width height level p s =
    over-holds (IsShaped width height) (macroblocks p.height) (row_filtered level) p (λ row below q t. row_shaped width height row level q t) s

-- what the law of rebuilding says
pub record KeepsShape : Type 0 where
  pub size : (f : Place → Macroblock) (p : Image) → AreOneSize (all_rebuilt f p) p
  pub aligned : (f : Place → Macroblock) (p : Image) → IsAligned p → IsAligned (all_rebuilt f p)
  pub whole : (f : Place → Macroblock) (p : Image) → AreWhole p → AreWhole (all_rebuilt f p)

pub unfiltered_shaped : KeepsShape → (f : Frame) → IsShaped f.width f.height (unfiltered f)
unfolding unfiltered
unfiltered_shaped law f =
    let p : Image = blank_image f.width f.height 0 in
    let s : IsShaped f.width f.height p = blank_shaped f.width f.height in
    record {
      width_is = (law.size f.macroblock p).width;
      height_is = (law.size f.macroblock p).height;
      aligned = law.aligned f.macroblock p s.aligned;
      whole = law.whole f.macroblock p s.whole;
    }

pub picture_shaped : KeepsShape → (f : Frame) → IsShaped f.width f.height (picture_of f)
unfolding picture_of
picture_shaped law f = filtered_shaped f.width f.height f.level (unfiltered f) (unfiltered_shaped law f)

-- ---- what stands between packets

same_size : (p : Image) → AreOneSize p p
same_size p = record { width = refl; height = refl }

either_size : (b : Bool) (p q r : Image) → AreOneSize p r → AreOneSize q r → AreOneSize (cond b p q) r
either_size true p q r a c = a
either_size false p q r a c = c

-- what holds of each picture that a copy may take holds of the one that it takes
pub copied_keeps : (P : Image → Type 0) (c : ReferenceCopy) (last other own : Image) → P last → P other → P own → P (copied_by c last other own)
copied_keeps P Nothing last other own l o w = w
copied_keeps P Last last other own l o w = l
copied_keeps P Other last other own l o w = o
copied_keeps P Unused last other own l o w = w

shown_size : (show : Bool) (p r : Image) (before : Option Image) → AreOneSize p r → IfSome before (λ q. AreOneSize q r) → IfSome (shown_after show p before) (λ q. AreOneSize q r)
shown_size true p r before a b = a
shown_size false p r before a b = b

pub info-mapped : (o : ParsedPacket) → IsMapped o.context.modes.columns o.context.modes.rows (frame_info_of o).maps
unfolding frame_info_of
info-mapped o = maps_read-mapped o.header o.context.modes.columns o.context.modes.rows _ o.first (record { columns_are = refl; rows_are = refl })

same_as : (width height : ℕ) (p q : Image) → IsSized width height p → IsSized width height q → AreOneSize p q
same_as width height p q a b = record { width = a.width_is ∙ sym b.width_is; height = a.height_is ∙ sym b.height_is }

if_same : (width height : ℕ) (before : Option Image) (p : Image) → IfSome before (IsSized width height) → IsSized width height p → IfSome before (λ q. AreOneSize q p)
if_same width height None p h s = tt
if_same width height (Some q) p h s = same_as width height q p h s

pub newest_is : (before : Option References) (h : Header) (p : Image) → (references_after before h p).newest ≡ p
newest_is None h p = refl
newest_is (Some r) h p = refl

-- what is kept over references of one size
kept-one_size : (width height : ℕ) (before : Option References) (h : Header) (saved : Saved) (segments : Grid ℕ) (p : Image) (shown : Option Image)
    → IfSome before (AreSized width height) → IsSized width height p → IfSome shown (λ q. AreOneSize q p) → segments.columns ≡ macroblocks width → segments.rows ≡ macroblocks height
    → IsOneSize (record { saved = saved; segments = segments; references = references_after before h p; shown = shown })
kept-one_size width height None h saved segments p shown one s again columns rows = record {
  last = same_size p;
  golden = same_size p;
  alt = same_size p;
  shown = again;
  columns = columns ∙ ap (λ (n : ℕ). macroblocks n) (sym s.width_is);
  rows = rows ∙ ap (λ (n : ℕ). macroblocks n) (sym s.height_is);
}
kept-one_size width height (Some k) h saved segments p shown one s again columns rows =
    let last : AreOneSize k.last p = same_as width height k.last p one.last s in
    let golden : AreOneSize k.golden p = same_as width height k.golden p one.golden s in
    let alt : AreOneSize k.alt p = same_as width height k.alt p one.alt s in
    let u = h.updates in
    let new_alt = copied_keeps (λ q. AreOneSize q p) u.copy_to_alt k.last k.golden k.alt last golden alt in
    let new_golden = copied_keeps (λ q. AreOneSize q p) u.copy_to_golden k.last _ k.golden last new_alt golden in
    record {
      last = either_size (h.key || u.refresh_last) p k.last p (same_size p) last;
      golden = either_size (h.key || u.refresh_golden) p _ p (same_size p) new_golden;
      alt = either_size (h.key || u.refresh_alt) p _ p (same_size p) new_alt;
      shown = again;
      columns = columns ∙ ap (λ (n : ℕ). macroblocks n) (sym s.width_is);
      rows = rows ∙ ap (λ (n : ℕ). macroblocks n) (sym s.height_is);
    }

pub left-one_size : KeepsShape → (o : ParsedPacket) → HasConsistentSizes o.context → IsOneSize (state_after o)
left-one_size law o one =
    let p : Image = picture_of (frame_of_packet o) in
    let s : IsShaped o.context.width o.context.height p = picture_shaped law (frame_of_packet o) in
    let sized : IsSized o.context.width o.context.height p = record { width_is = s.width_is; height_is = s.height_is } in
    let m = info-mapped o in
    kept-one_size o.context.width o.context.height o.context.references o.header o.saved _ p _ one.references sized
    (shown_size o.tag.show p p o.context.shown (same_size p) (if_same o.context.width o.context.height o.context.shown p one.shown sized))
    (m.columns_are ∙ one.columns) (m.rows_are ∙ one.rows)

-- ---- what a frame is decoded over

pub key-whole : (dim : Dim) → HasConsistentSizes (key_context dim)
key-whole dim = record { references = tt; shown = tt; columns = refl; rows = refl }

sized : (p q : Image) → AreOneSize p q → IsSized q.width q.height p
sized p q e = record { width_is = e.width; height_is = e.height }

if_sized : (before : Option Image) (q : Image) → IfSome before (λ p. AreOneSize p q) → IfSome before (IsSized q.width q.height)
if_sized None q h = tt
if_sized (Some p) q h = sized p q h

pub inter-whole : (k : DecoderState) → IsOneSize k → HasConsistentSizes (inter_context k)
inter-whole k one =
    let q : Image = k.references.newest in
    record {
      references = record { last = sized k.references.last q one.last; golden = sized k.references.golden q one.golden; alt = sized k.references.alt q one.alt };
      shown = if_sized k.shown q one.shown;
      columns = one.columns;
      rows = one.rows;
    }

context-whole : (key : Option KeyTag) (state : Option DecoderState) (b : FrameContext) → context_of key state ≡ Ok b → IfSome state IsOneSize → HasConsistentSizes b
context-whole = by_context (λ key state b. IfSome state IsOneSize → HasConsistentSizes b) (λ key state one. key-whole key.dim) (λ k one. inter-whole k one)

-- ---- a step

decoded-one_size : KeepsShape → (r : Result ParsedPacket PacketFault) → ((o : ParsedPacket) → r ≡ Ok o → HasConsistentSizes o.context) → IfSome (decoded r).0 IsOneSize
decoded-one_size law (Err f) whole = tt
decoded-one_size law (Ok o) whole = left-one_size law o (whole o refl)

pub step-one_size : KeepsShape → (limits : Limits) (state : Option DecoderState) (packet : List ℕ) → IfSome state IsOneSize → IfSome (step limits state packet).0 IsOneSize
unfolding step
step-one_size law limits None [] one = tt
step-one_size law limits (Some k) [] one = one
step-one_size law limits state (b ∷ bs) one =
    decoded-one_size law (parsed limits state (b ∷ bs)) (λ o e. context-whole o.tag.key state o.context (opened-is limits state (b ∷ bs) o e).context_is one)
