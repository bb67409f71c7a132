-- The sizes of shown pictures: frames keep the size of the key frame before them.
use Rattle.std.specs.Option.{ok_or}
use Rattle.std.proofs.Common.{◌≡◌, ℕ, zero, suc, ◌+◌, ◌-◌, ◌<◌, ◌≤◌, Bool, true, false, List, [], ◌∷◌, drop, Option, Some, None, refl, sym, ap, subst, ◌∙◌, arith}
use Rattle.std.specs.Prelude.{slice_get, Result, Ok, Err, IfOk, IfSome, IsNone, IsSome, length}
use Rattle.std.proofs.lemmas.Option.{same_Some, none-some}
use Rattle.vp_base.specs.declared.place.Place.{Place}
use Rattle.vp_base.specs.declared.limits.Limits.{Limits}
use Rattle.vp_base.specs.Image.{Image, blank_image, macroblocks}
use Rattle.vp_base.specs.Over.{over}
use Rattle.vp_head.specs.declared.fields.Tag.{Tag}
use Rattle.vp_head.specs.declared.fields.KeyTag.{KeyTag}
use Rattle.vp_head.specs.declared.fault.PacketFault.{PacketFault}
use Rattle.vp_head.specs.declared.fault.PacketFault.TheVariants.{NoReference}
use Rattle.vp_head.specs.Tag.{IsKeyPacket, tag_of}
use Rattle.vp_ivf.specs.declared.packet.Packet.{Packet}
use Rattle.vp_recon.specs.Rebuilt.{row_rebuilt}
use Rattle.vp_loop.specs.declared.strength.Level.{Level}
use Rattle.vp_loop.specs.Filtered.{filtered, row_filtered}
use Rattle.vp_decode.specs.Frame.{Frame, unfiltered, picture_of}
use Rattle.vp_decode.specs.Step.{DecoderState, FrameContext, key_context, inter_context, context_of, ParsedPacket, parsed, frame_of_packet, shown_after, Answer, Shown, Hidden, Fault, answer, decoded, shown_again, repeated_frame, step}
use Rattle.vp_decode.proofs.SizeLemmas.{newest_is}
use Rattle.vp_decode.proofs.CutLemmas.{opened-is}
use Rattle.vp_stream.specs.Answers.{answers_from}
use Rattle.vp_stream.specs.Seeking.{answer_or_none, answer_at, HasKey, IsKeyAt, IsKeyBefore, key_before, size_in, size_in_key, size_in_packet, size_at}
use Rattle.vp_stream.specs.Seeking as told_is
use Rattle.vp_stream.proofs.KeyLemmas.{is_key_before}
use Rattle.vp_stream.proofs.AnswerLemmas.{Resets, SaysInter, drop_there, keyless, from_key}

-- ---- a frame's picture has the size that it is decoded at

abbrev pub size_of : Image → ℕ × ℕ
size_of p = (p.width, p.height)

over-keeps : {A B : Type 0} (F : A → B) (n : ℕ) (f : ℕ → A → A) (a : A) → ((i : ℕ) (x : A) → F (f i x) ≡ F x) → F (over n f a) ≡ F a
unfolding over
over-keeps F zero f a h = refl
over-keeps F (suc n) f a h = h n (over n f a) ∙ over-keeps F n f a h

row-size : (level : Place → Level) (row : ℕ) (p : Image) → size_of (row_filtered level row p) ≡ size_of p
unfolding row_filtered
row-size level row p = over-keeps size_of _ _ p (λ i x. refl)

filtered-size : (level : Place → Level) (p : Image) → size_of (filtered level p) ≡ size_of p
unfolding filtered
filtered-size level p = over-keeps size_of _ _ p (λ row x. row-size _ row x)

picture-size : (f : Frame) → size_of (picture_of f) ≡ (f.width, f.height)
unfolding picture_of unfiltered
picture-size f =
    filtered-size f.level (unfiltered f)
    ∙ over-keeps size_of (macroblocks f.height) (row_rebuilt (macroblocks f.width) f.macroblock) (blank_image f.width f.height 0)
    (λ row x. over-keeps size_of (macroblocks f.width) _ x (λ column y. refl))

-- ---- a packet's step keeps the size, or takes that of its tag

abbrev HasSize : Option DecoderState → Option (ℕ × ℕ) → Type 0
HasSize None z = Unit {0}
HasSize (Some k) z = (z ≡ Some (size_of k.references.newest)) × IfSome k.shown (λ p. z ≡ Some (size_of p))

record IsSized (r : Option DecoderState × Answer) (z : Option (ℕ × ℕ)) : Type 0 where
  kept : HasSize r.0 z
  shown : (p : Image) → r.1 ≡ Shown p → z ≡ Some (size_of p)

faulty : (f : PacketFault) (z : Option (ℕ × ℕ)) → IsSized (None, Fault f) z
faulty f z = record { kept = tt; shown = λ p e. absurd cc }

shown_is : (show : Bool) (p q : Image) → answer show p ≡ Shown q → p ≡ q
shown_is true p q e = cc
shown_is false p q e = absurd cc

shown_sized : (show : Bool) (p : Image) (before : Option Image) (z : Option (ℕ × ℕ)) → z ≡ Some (size_of p) → IfSome before (λ q. z ≡ Some (size_of q))
    → IfSome (shown_after show p before) (λ q. z ≡ Some (size_of q))
shown_sized true p before z e h = e
shown_sized false p before z e h = h

-- the last shown picture again
again_is : (before : Option Image) (p : Image) (z : Option (ℕ × ℕ)) → IfSome before (λ q. z ≡ Some (size_of q)) → shown_again before ≡ Shown p → z ≡ Some (size_of p)
again_is None p z h e = absurd cc
again_is (Some q) p z h e = h ∙ ap (λ (x : Image). Some (size_of x)) (let same : q ≡ p = cc in same)

repeated_sized : (s : Option DecoderState) (z : Option (ℕ × ℕ)) → HasSize s z → IsSized (repeated_frame (ok_or s NoReference)) z
repeated_sized None z h = faulty NoReference z
repeated_sized (Some k) z h = record { kept = h; shown = λ p e. again_is k.shown p z h.1 e }

-- what a frame is decoded over has this size
abbrev IsOver : FrameContext → Option (ℕ × ℕ) → Type 0
IsOver b z = (z ≡ Some (b.width, b.height)) × IfSome b.shown (λ p. z ≡ Some (size_of p))

decoded_sized : (r : Result ParsedPacket PacketFault) (z : Option (ℕ × ℕ)) → ((o : ParsedPacket) → r ≡ Ok o → IsOver o.context z) → IsSized (decoded r) z
decoded_sized (Err f) z over = faulty f z
decoded_sized (Ok o) z over =
    let p : Image = picture_of (frame_of_packet o) in
    let h : IsOver o.context z = over o refl in
    let e : z ≡ Some (size_of p) = h.0 ∙ ap (λ (x : ℕ × ℕ). Some x) (sym (picture-size (frame_of_packet o))) in
    record {
      kept = (e ∙ ap (λ (q : Image). Some (size_of q)) (sym (newest_is o.context.references o.header p)), shown_sized o.tag.show p o.context.shown z e h.1);
      shown = λ q is_shown. e ∙ ap (λ (x : Image). Some (size_of x)) (shown_is o.tag.show p q is_shown);
    }

-- the size after a frame whose tag has this key part
abbrev Follows : Option KeyTag → Option DecoderState → Option (ℕ × ℕ) → Type 0
Follows (Some key) s z = z ≡ Some (key.dim.w, key.dim.h)
Follows None s z = HasSize s z

basis_sized : (key : Option KeyTag) (s : Option DecoderState) (b : FrameContext) (z : Option (ℕ × ℕ)) → context_of key s ≡ Ok b → Follows key s z → IsOver b z
basis_sized (Some key) s b z e h = let same : key_context key.dim ≡ b = cc in subst (λ (x : FrameContext). IsOver x z) same (h, tt)
basis_sized None None b z e h = absurd cc
basis_sized None (Some k) b z e h = let same : inter_context k ≡ b = cc in subst (λ (x : FrameContext). IsOver x z) same h

abbrev FollowsIn : Result Tag PacketFault → Option DecoderState → Option (ℕ × ℕ) → Type 0
FollowsIn (Err f) s z = Unit {0}
FollowsIn (Ok tag) s z = Follows tag.key s z

step_sized : (limits : Limits) (s : Option DecoderState) (packet : List ℕ) (z : Option (ℕ × ℕ)) → FollowsIn (tag_of limits packet) s z → (length packet ≡ 0 → HasSize s z) → IsSized (step limits s packet) z
unfolding step
step_sized limits s [] z h none = repeated_sized s z (none refl)
step_sized limits s (b ∷ bs) z h none =
    decoded_sized (parsed limits s (b ∷ bs)) z
    (λ o e.
    let is = opened-is limits s (b ∷ bs) o e in
    basis_sized o.tag.key s o.context z is.context_is (subst (λ (r : Result Tag PacketFault). FollowsIn r s z) is.tag_is h))

-- ---- key packets, and others

keeps_it : (key : Option KeyTag) (s : Option DecoderState) (z : Option (ℕ × ℕ)) → IsNone key → HasSize s z → Follows key s z
keeps_it None s z none h = h
keeps_it (Some key) s z none h = absurd cc

keeps : (r : Result Tag PacketFault) (s : Option DecoderState) (z : Option (ℕ × ℕ)) → IfOk r (λ tag. IsNone tag.key) → HasSize s z → FollowsIn r s z
keeps (Err f) s z none h = tt
keeps (Ok tag) s z none h = keeps_it tag.key s z none h

abbrev pub SaysKey : Limits → Type 0
SaysKey limits = (packet : List ℕ) → IsKeyPacket packet → IfOk (tag_of limits packet) (λ tag. IsSome tag.key)

takes_it : (key : Option KeyTag) (s : Option DecoderState) → IsSome key → Follows key s (size_in_key key)
takes_it None s some = absurd cc
takes_it (Some key) s some = refl

takes : (r : Result Tag PacketFault) (s : Option DecoderState) → IfOk r (λ tag. IsSome tag.key) → FollowsIn r s (size_in r)
takes (Err f) s some = tt
takes (Ok tag) s some = takes_it tag.key s some

-- ---- packets that are no key packets, from a state on

sized_from : (limits : Limits) (s : Option DecoderState) (ps : List Packet) (j : ℕ) (z : Option (ℕ × ℕ)) → SaysInter limits → HasSize s z
    → ((i : ℕ) → i ≤ j → ¬ IsKeyAt ps i)
    → (p : Image) → slice_get (answers_from limits s ps) j ≡ Some (Shown p) → z ≡ Some (size_of p)
sized_from limits s [] j z says h other p e = absurd (none-some (Shown p) e)
sized_from limits s (q ∷ ps) zero z says h other p e =
    (step_sized limits s q.bytes z (keeps (tag_of limits q.bytes) s z (keyless limits q.bytes says (other 0 (omega arith))) h) (λ _. h)).shown p (same_Some _ _ e)
sized_from limits s (q ∷ ps) (suc j) z says h other p e =
    let r = step_sized limits s q.bytes z (keeps (tag_of limits q.bytes) s z (keyless limits q.bytes says (other 0 (omega arith))) h) (λ _. h) in
    sized_from limits (step limits s q.bytes).0 ps j z says r.kept (λ i l. other (suc i) (omega arith)) p e

-- the same behind a key packet
sized_key : (limits : Limits) (q : Packet) (ps : List Packet) (j : ℕ) → SaysKey limits → SaysInter limits → IsKeyPacket q.bytes
    → ((i : ℕ) → 0 < i → i ≤ j → ¬ IsKeyAt (q ∷ ps) i)
    → (p : Image) → slice_get (answers_from limits None (q ∷ ps)) j ≡ Some (Shown p) → size_in (tag_of limits q.bytes) ≡ Some (size_of p)
sized_key limits q ps zero key says is_key other p e =
    (step_sized limits None q.bytes (size_in (tag_of limits q.bytes)) (takes (tag_of limits q.bytes) None (key q.bytes is_key)) (λ none. tt)).shown p (same_Some _ _ e)
sized_key limits q ps (suc j) key says is_key other p e =
    let z = size_in (tag_of limits q.bytes) in
    let r = step_sized limits None q.bytes z (takes (tag_of limits q.bytes) None (key q.bytes is_key)) (λ none. tt) in
    sized_from limits (step limits None q.bytes).0 ps j z says r.kept (λ i l. other (suc i) (omega arith) (omega arith)) p e

-- ---- what an answer tells

told_size : (o : Option Answer) (z : Option (ℕ × ℕ)) (w h : ℕ) (bytes : List ℕ) → ((p : Image) → o ≡ Some (Shown p) → z ≡ Some (size_of p))
    → answer_or_none o ≡ told_is.Shown w h bytes → z ≡ Some (w, h)
told_size None z w h bytes f e = absurd cc
told_size (Some Hidden) z w h bytes f e = absurd cc
told_size (Some (Fault fault)) z w h bytes f e = absurd cc
told_size (Some (Shown p)) z w h bytes f e =
    let width : p.width ≡ w = cc in
    let height : p.height ≡ h = cc in
    f p refl ∙ λ i. Some (width i, height i)

get_past : (ps : List Packet) (k i : ℕ) → slice_get (drop k ps) i ≡ slice_get ps (k + i)
get_past ps zero i = let e : i ≡ 0 + i = omega arith in ap (λ n. slice_get ps n) e
get_past [] (suc k) i = refl
get_past (p ∷ ps) (suc k) i =
    let e : suc (k + i) ≡ suc k + i = omega arith in
    get_past ps k i ∙ ap (λ n. slice_get (p ∷ ps) n) e

with_key : (limits : Limits) (ps : List Packet) (n k : ℕ) (o : Option Packet) (w h : ℕ) (bytes : List ℕ) → Resets limits → SaysKey limits → SaysInter limits
    → slice_get ps k ≡ o → HasKey o → k ≤ n → ((j : ℕ) → k < j → j ≤ n → ¬ IsKeyAt ps j)
    → answer_at limits ps n ≡ told_is.Shown w h bytes → size_in_packet limits o ≡ Some (w, h)
with_key limits ps n k None w h bytes reset key says there has le other e = absurd has
with_key limits ps n k (Some q) w h bytes reset key says there has le other e =
    let d = drop_there ps k q there in
    let none : (i : ℕ) → 0 < i → i ≤ n - k → ¬ IsKeyAt (q ∷ drop (suc k) ps) i =
    λ i a l has_key.
    let same : slice_get (q ∷ drop (suc k) ps) i ≡ slice_get ps (k + i) = ap (λ (qs : List Packet). slice_get qs i) (sym d) ∙ get_past ps k i in
    other (k + i) (omega arith) (omega arith) (rw (← same) has_key) in
    let here : answer_or_none (slice_get (answers_from limits None (q ∷ drop (suc k) ps)) (n - k)) ≡ told_is.Shown w h bytes =
    ap (λ (qs : List Packet). answer_at limits qs (n - k)) (sym d) ∙ (sym (from_key limits ps n k q reset there has le) ∙ e) in
    told_size (slice_get (answers_from limits None (q ∷ drop (suc k) ps)) (n - k)) (size_in (tag_of limits q.bytes)) w h bytes
    (sized_key limits q (drop (suc k) ps) (n - k) key says has none) here

by_key : (limits : Limits) (ps : List Packet) (n : ℕ) (o : Option ℕ) (w h : ℕ) (bytes : List ℕ) → Resets limits → SaysKey limits → SaysInter limits
    → IsKeyBefore ps n o → answer_at limits ps n ≡ told_is.Shown w h bytes → size_at limits ps o ≡ Some (w, h)
by_key limits ps n None w h bytes reset key says before e =
    told_size (slice_get (answers_from limits None ps) n) None w h bytes (sized_from limits None ps n None says tt before) e
by_key limits ps n (Some k) w h bytes reset key says before e =
    with_key limits ps n k (slice_get ps k) w h bytes reset key says refl before.1 before.0 before.2 e

pub size_of_key : (limits : Limits) (ps : List Packet) (n w h : ℕ) (bytes : List ℕ) → Resets limits → SaysKey limits → SaysInter limits
    → answer_at limits ps n ≡ told_is.Shown w h bytes → size_at limits ps (key_before ps n) ≡ Some (w, h)
size_of_key limits ps n w h bytes reset key says e = by_key limits ps n (key_before ps n) w h bytes reset key says (is_key_before ps n) e
