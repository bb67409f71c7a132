-- The outcome of a packet follows from its tag, and the number of its partitions from the start of its header.
use Rattle.vp_decode.proofs.Words.{◌≡◌, ℕ, Bool, true, false, cond, List, length, Some, None, Ok, Err, refl, ap, ok_or, Option, Result, is_some, Image, Limits, State, bind, PacketFault, NoReference, KeyTag, Saved, Tag, Header, frame, frame_and_kept, header, picture_of, has_shown, cut_of, parts_of, count_of, DecoderState, FrameContext, key_context, inter_context, context_of, ParsedPacket, parsed_in_context, parsed, frame_of_packet, shown_after, Fault, decoded, shown_again, repeated_frame, step, outcome, ◌==◌, ◌||◌, ◌>>=◌, tag_in, frame_outcome, repeated_outcome, was_shown, is_shown_after, Outcome}
use Rattle.vp_head.specs.Saved.{defaults}
use Rattle.vp_decode.specs.declared.decoder.Outcome.TheVariants as code
use Rattle.vp_decode.proofs.CutLemmas.{opened_in_parts, opened-is, by_context}
use Rattle.vp_decode.proofs.StateLemmas.{step-empty, step-decoded, outcome-answer}

-- ---- the start of the header

in_kind : (key : Bool) (saved : Saved) (n : ℕ) (s : State) → ((kept : Saved) → n ≡ (frame key kept s).0.log2_partitions)
    → n ≡ (cond key (frame_and_kept true defaults) (frame_and_kept false saved) s).0.0.log2_partitions
unfolding frame_and_kept bind
in_kind true saved n s is = is defaults
in_kind false saved n s is = is saved

in_header : (saved : Saved) (tag : Tag) (n : ℕ) (s : State) → ((kept : Saved) → n ≡ (frame (is_some tag.key) kept s).0.log2_partitions)
    → n ≡ (header saved tag s).0.0.log2_partitions
unfolding header
in_header saved tag n s is = in_kind (is_some tag.key) saved n s is

tag_in_cut : (tag : Tag) (context : FrameContext) (h : Header) (saved : Saved) (x : State) (cut : Result (List (List ℕ)) PacketFault)
    → (cut >>= λ (parts : List (List ℕ)). Ok tag) ≡ tag_in (cut >>= λ (parts : List (List ℕ)). Ok (record { tag = tag; context = context; header = h; saved = saved; first = x; partitions = parts }))
tag_in_cut tag context h saved x (Err f) = refl
tag_in_cut tag context h saved x (Ok parts) = refl

-- the tag of a packet whose partitions are cut
pub checked : (tag : Tag) (context : FrameContext) (packet : List ℕ) (x : State) (rest : List ℕ) (n : ℕ) (cut : Result (List (List ℕ)) PacketFault) → parts_of tag packet ≡ Ok (x, rest)
    → ((kept : Saved) → n ≡ (frame (is_some tag.key) kept x).0.log2_partitions) → cut ≡ cut_of rest (count_of n) → (cut >>= λ (parts : List (List ℕ)). Ok tag) ≡ tag_in (parsed_in_context tag context packet)
checked tag context packet x rest n cut parts log2 is =
    rw (opened_in_parts tag context packet, parts, ← in_header context.saved tag n x log2, ← is) (tag_in_cut tag context _ _ _ cut)

-- ---- the tag, or the first fault

abbrev in_context : Tag → Option KeyTag → Option DecoderState → List ℕ → Result Tag PacketFault
in_context tag key state packet = tag_in (context_of key state >>= λ (b : FrameContext). parsed_in_context tag b packet)

pub without_context : (tag : Tag) (key : Option KeyTag) (state : Option DecoderState) (packet : List ℕ) → false ≡ (is_some key || is_some state) → ◌≡◌ {A = Result Tag PacketFault} (Err NoReference) (in_context tag key state packet)
without_context tag (Some key) state packet e = absurd cc
without_context tag None (Some k) packet e = absurd cc
without_context tag None None packet e = refl

pub with_context : (tag : Tag) (key : Option KeyTag) (state : Option DecoderState) (packet : List ℕ) (r : Result Tag PacketFault) → true ≡ (is_some key || is_some state)
    → ((context : FrameContext) → r ≡ tag_in (parsed_in_context tag context packet)) → r ≡ in_context tag key state packet
with_context tag (Some key) state packet r e is = is (key_context key.dim)
with_context tag None (Some k) packet r e is = is (inter_context k)
with_context tag None None packet r e is = absurd cc

-- ---- a packet

-- what a reader beside a decoder knows after a packet, and tells of it
pub record IsTold (limits : Limits) (state : Option DecoderState) (packet : List ℕ) (shown : Option Bool) (o : Outcome) : Type 0 where
  pub left : shown ≡ has_shown (step limits state packet).0
  pub told : o ≡ outcome (step limits state packet).1

repeated-told : (state : Option DecoderState) → repeated_outcome (has_shown state) ≡ outcome (repeated_frame (ok_or state NoReference)).1
repeated-told None = refl
repeated-told (Some k) = elim k.shown as (λ s. frame_outcome (is_some s) ≡ outcome (shown_again s)) [ None ↦ refl | Some p ↦ refl ]

repeated-left : (state : Option DecoderState) → has_shown state ≡ has_shown (repeated_frame (ok_or state NoReference)).0
repeated-left None = refl
repeated-left (Some k) = refl

pub empty_told : (limits : Limits) (state : Option DecoderState) (packet : List ℕ) → true ≡ (length packet == 0) → IsTold limits state packet (has_shown state) (repeated_outcome (has_shown state))
empty_told limits state packet none = record { left = rw (step-empty limits state packet none) (repeated-left state); told = rw (step-empty limits state packet none) (repeated-told state) }

shown_before : (key : Option KeyTag) (state : Option DecoderState) (b : FrameContext) → context_of key state ≡ Ok b → cond (is_some key) false (was_shown (has_shown state)) ≡ is_some b.shown
shown_before = by_context (λ key state b. cond (is_some key) false (was_shown (has_shown state)) ≡ is_some b.shown) (λ key state. refl) (λ k. refl)

shown_then : (show : Bool) (p : Image) (before : Option Image) (b : Bool) → b ≡ is_some before → cond show true b ≡ is_some (shown_after show p before)
shown_then true p before b e = refl
shown_then false p before b e = e

told_by : (limits : Limits) (state : Option DecoderState) (packet : List ℕ) (r : Result ParsedPacket PacketFault) (tag : Tag) → parsed limits state packet ≡ r → ◌≡◌ {A = Result Tag PacketFault} (Ok tag) (tag_in r)
    → (Some (is_shown_after tag (has_shown state)) ≡ has_shown (decoded r).0) × (frame_outcome tag.show ≡ outcome (decoded r).1)
told_by limits state packet (Err f) tag is e = absurd cc
told_by limits state packet (Ok o) tag is e =
    let same : tag ≡ o.tag = cc in
    let before = shown_before o.tag.key state o.context (opened-is limits state packet o is).context_is in
    rw same (ap Some (shown_then o.tag.show (picture_of (frame_of_packet o)) o.context.shown _ before), outcome-answer o.tag.show (picture_of (frame_of_packet o)))

pub frame_told : (limits : Limits) (state : Option DecoderState) (packet : List ℕ) (tag : Tag) → false ≡ (length packet == 0) → ◌≡◌ {A = Result Tag PacketFault} (Ok tag) (tag_in (parsed limits state packet))
    → IsTold limits state packet (Some (is_shown_after tag (has_shown state))) (frame_outcome tag.show)
frame_told limits state packet tag some e =
    let both = told_by limits state packet _ tag refl e in record { left = rw (step-decoded limits state packet some) both.0; told = rw (step-decoded limits state packet some) both.1 }

refused : (r : Result ParsedPacket PacketFault) (f : PacketFault) → ◌≡◌ {A = Result Tag PacketFault} (Err f) (tag_in r) → decoded r ≡ (None, Fault f)
refused (Err g) f e = let same : f ≡ g = cc in rw same refl
refused (Ok o) f e = absurd cc

pub fault_told : (limits : Limits) (state : Option DecoderState) (packet : List ℕ) (f : PacketFault) → false ≡ (length packet == 0) → ◌≡◌ {A = Result Tag PacketFault} (Err f) (tag_in (parsed limits state packet))
    → IsTold limits state packet None (code.Fault f)
fault_told limits state packet f some e = record { left = rw (step-decoded limits state packet some, refused _ f e) refl; told = rw (step-decoded limits state packet some, refused _ f e) refl }

pub has_state : (state : Option DecoderState) → is_some (has_shown state) ≡ is_some state
has_state None = refl
has_state (Some k) = refl
