-- What is kept over a state is what is kept over the context of the frame.
use Rattle.std.proofs.Common.{[]}
use Rattle.vp_decode.proofs.Words.{◌≡◌, ◌∙◌, Bool, true, false, List, ◌∷◌, length, ℕ, suc, arith, Some, None, Ok, refl, sym, ap, Err, subst, Option, Result, option_map, is_some, ok_or, NoReference, facts_in, frame_facts, step_by, Image, Limits, KeyTag, Header, Saved, PacketFault, segments_of, all_of, picture_of, state_from_frame, references_in, shown_of, by_fault, DecoderState, FrameContext, context_of, ParsedPacket, parsed, frame_info_of, frame_of_packet, references_after, shown_after, state_after, answer, decoded, shown_again, repeated_frame, step, Decoder, picture_in, after, outcome, ◌==◌, OnErr, Fault, Answer, IsDecoded, frame_outcome}
use Rattle.std.proofs.lemmas.Bool.Decides.{nat_tests}
use Rattle.vp_decode.specs.declared.decoder.DecodedPacket.{DecodedPacket}
use Rattle.vp_decode.specs.declared.decoder.Outcome.TheVariants as code
use Rattle.vp_decode.specs.declared.decoder.OnFault.{OnFault}
use Rattle.vp_decode.specs.declared.decoder.OnFault.TheVariants as on_fault
use Rattle.vp_decode.specs.declared.decoded_frame.DecodedFrame.{DecodedFrame}
use Rattle.vp_decode.proofs.CutLemmas.{opened-is, by_context}

-- a key frame's picture is all references, whatever they were
key_references : (key : KeyTag) (state : Option DecoderState) (h : Header) (p : Image) → h.key ≡ true → references_after (references_in state) h p ≡ all_of p
key_references key None h p kind = refl
key_references key (Some k) h p kind = rw kind refl

references_over : (key : Option KeyTag) (state : Option DecoderState) (b : FrameContext) → context_of key state ≡ Ok b
    → (h : Header) (p : Image) → h.key ≡ is_some key → references_after (references_in state) h p ≡ references_after b.references h p
references_over = by_context (λ key state b. (h : Header) (p : Image) → h.key ≡ is_some key → references_after (references_in state) h p ≡ references_after b.references h p)
    key_references (λ k h p kind. refl)

-- what is known of a frame that was decoded
pub record IsLeft (o : ParsedPacket) (f : DecodedFrame) : Type 0 where
  pub segments : f.segments ≡ segments_of (frame_info_of o).maps.modes
  pub picture : f.picture.value ≡ picture_of (frame_of_packet o)
  pub shown : option_map (λ p. p.value) f.shown ≡ shown_after o.tag.show (picture_of (frame_of_packet o)) o.context.shown

pub kept_left : (limits : Limits) (state : Option DecoderState) (packet : List ℕ) (h : Header) (s : Saved) (o : ParsedPacket) (f : DecodedFrame) → o.header ≡ h → o.saved ≡ s
    → ◌≡◌ {A = Result ParsedPacket PacketFault} (Ok o) (parsed limits state packet) → IsLeft o f → state_from_frame (references_in state) h s f ≡ state_after o
kept_left limits state packet h s o f header saved e is =
    let from = opened-is limits state packet o (sym e) in
    let over = references_over o.tag.key state o.context from.context_is o.header (picture_of (frame_of_packet o)) from.key_is in
    rw (← header, ← saved, is.segments, is.picture, is.shown, over) refl

-- ---- the decoder after the step

shown_is : (b : Bool) (k : DecoderState) (p : Image) (before : Option Image) → k.shown ≡ shown_after b p before → shown_of b (Some k) ≡ picture_in (answer b p)
shown_is true k p before e = e
shown_is false k p before e = refl

kept_answer : (w : OnFault) (b : Bool) (p : Image) (before next : Option DecoderState) → by_fault w before (next, answer b p) ≡ (next, answer b p)
kept_answer on_fault.Forget b p before next = refl
kept_answer on_fault.Keep true p before next = refl
kept_answer on_fault.Keep false p before next = refl

-- ---- packets that are empty, or not

pub step-empty : (limits : Limits) (state : Option DecoderState) (packet : List ℕ) → true ≡ (length packet == 0) → step limits state packet ≡ repeated_frame (ok_or state NoReference)
unfolding step
step-empty limits state [] none = refl
step-empty limits state (b ∷ bs) none = absurd (let no : suc (length bs) ≡ 0 = grind (arith, nat_tests, none) in omega arith)

pub step-decoded : (limits : Limits) (state : Option DecoderState) (packet : List ℕ) → false ≡ (length packet == 0) → step limits state packet ≡ decoded (parsed limits state packet)
unfolding step
step-decoded limits state [] some = absurd (let no : true ≡ false = sym some in cc)
step-decoded limits state (b ∷ bs) some = refl

pub frame_facts-some : (limits : Limits) (state : Option DecoderState) (packet : List ℕ) → false ≡ (length packet == 0) → frame_facts limits state packet ≡ facts_in (parsed limits state packet)
unfolding frame_facts
frame_facts-some limits state [] some = absurd (let no : true ≡ false = sym some in cc)
frame_facts-some limits state (b ∷ bs) some = refl

pub frame_facts-empty : (limits : Limits) (state : Option DecoderState) (packet : List ℕ) → true ≡ (length packet == 0) → frame_facts limits state packet ≡ None
unfolding frame_facts
frame_facts-empty limits state [] none = refl
frame_facts-empty limits state (b ∷ bs) none = absurd (let no : suc (length bs) ≡ 0 = grind (arith, nat_tests, none) in omega arith)

pub stepped : (w : OnFault) (limits : Limits) (state : Option DecoderState) (packet : List ℕ) → step_by w limits state packet ≡ by_fault w state (step limits state packet)
stepped on_fault.Forget limits state packet = refl
stepped on_fault.Keep limits state packet = refl

pub repeated-kept : (w : OnFault) (state : Option DecoderState) → by_fault w state (repeated_frame (ok_or state NoReference)) ≡ repeated_frame (ok_or state NoReference)
repeated-kept on_fault.Forget state = refl
repeated-kept on_fault.Keep None = refl
repeated-kept on_fault.Keep (Some k) = elim k.shown as (λ s. by_fault on_fault.Keep (Some k) (Some k, shown_again s) ≡ (Some k, shown_again s)) [ None ↦ refl | Some p ↦ refl ]

-- the step of a packet with bytes, by what is parsed of it
pub record IsStepOf (w : OnFault) (d : Decoder) (packet : List ℕ) (r : Result ParsedPacket PacketFault) : Type 0 where
  pub after : step_by w d.limits d.state packet ≡ by_fault w d.state (decoded r)
  pub answer : (step d.limits d.state packet).1 ≡ (decoded r).1
  pub facts : frame_facts d.limits d.state packet ≡ facts_in r

pub step-of : (w : OnFault) (d e : Decoder) (packet : List ℕ) (r : Result ParsedPacket PacketFault) → e ≡ d → false ≡ (length packet == 0) → r ≡ parsed e.limits e.state packet → IsStepOf w d packet r
step-of w d e packet r same some is =
    subst (λ (z : Decoder). IsStepOf w z packet r) same (record {
      after = rw (stepped w e.limits e.state packet, step-decoded e.limits e.state packet some, ← is) refl;
      answer = rw (step-decoded e.limits e.state packet some, ← is) refl;
      facts = rw (frame_facts-some e.limits e.state packet some, ← is) refl;
    })

-- what a decoder is left as by a packet, and returns for it
pub record IsLeftBy (w : OnFault) (d : Decoder) (packet : List ℕ) (e : Decoder) (o : DecodedPacket) : Type 0 where
  pub after : e ≡ after d (step_by w d.limits d.state packet)
  pub outcome : o.outcome ≡ outcome (step d.limits d.state packet).1
  pub frame : o.frame ≡ frame_facts d.limits d.state packet

-- an empty packet
pub empty_left : (w : OnFault) (d e : Decoder) (packet : List ℕ) (o : DecodedPacket) → true ≡ (length packet == 0) → e ≡ after d (repeated_frame (ok_or d.state NoReference))
    → o.outcome ≡ outcome (repeated_frame (ok_or d.state NoReference)).1 → o.frame ≡ None → IsLeftBy w d packet e o
empty_left w d e packet o none left told no_frame = record {
  after = rw (stepped w d.limits d.state packet, step-empty d.limits d.state packet none, repeated-kept w d.state) left;
  outcome = rw (step-empty d.limits d.state packet none) told;
  frame = no_frame ∙ sym (frame_facts-empty d.limits d.state packet none);
}

-- a packet with a fault
pub fault_left : (w : OnFault) (d e : Decoder) (packet : List ℕ) (f : PacketFault) (o : DecodedPacket) → IsStepOf w d packet (Err f) → e ≡ after d (by_fault w d.state (None, Fault f))
    → o.outcome ≡ code.Fault f → o.frame ≡ None → IsLeftBy w d packet e o
fault_left w d e packet f o step left told no_frame =
    record { after = rw (step.after) left; outcome = told ∙ sym (ap (λ (a : Answer). outcome a) step.answer); frame = no_frame ∙ sym step.facts }

-- a frame, by the state that is left and whether it is shown
pub after_left : (w : OnFault) (d : Decoder) (packet : List ℕ) (o : ParsedPacket) (limits : Limits) (show : Bool) (state : Option DecoderState) → IsStepOf w d packet (Ok o) → limits ≡ d.limits → show ≡ o.tag.show
    → state ≡ Some (state_after o) → ◌≡◌ {A = Decoder} (record { limits = limits; state = state; shown = shown_of show state }) (after d (step_by w d.limits d.state packet))
after_left w d packet o limits show state is l s k =
    let p = picture_of (frame_of_packet o) in
    rw (is.after, kept_answer w o.tag.show p d.state (Some (state_after o)), l, s, k)
    (ap (λ (q : Option Image). record { limits = d.limits; state = Some (state_after o); shown = q }) (shown_is o.tag.show (state_after o) p o.context.shown refl))

pub outcome-answer : (show : Bool) (p : Image) → frame_outcome show ≡ outcome (answer show p)
outcome-answer true p = refl
outcome-answer false p = refl

decoded_answer : (show : Bool) (p : Image) → IsDecoded (answer show p)
decoded_answer true p = tt
decoded_answer false p = tt

-- memory runs out only once a packet's faults are known
pub decoded_late : {A E : Type 0} (w : OnFault) (d : Decoder) (packet : List ℕ) (o : ParsedPacket) (r : Result A E) → IsStepOf w d packet (Ok o) → OnErr r (IsDecoded (step d.limits d.state packet).1)
decoded_late w d packet o (Ok v) is = tt
decoded_late w d packet o (Err e) is = rw (is.answer) (decoded_answer o.tag.show (picture_of (frame_of_packet o)))
