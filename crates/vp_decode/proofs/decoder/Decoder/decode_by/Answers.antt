use Rattle.vp_decode.proofs.Words.{◌≡◌, ◌∙◌, Bool, Some, Ok, sym, ap, subst, IsOneSize, ParsedPacket, Decoder, Answer, outcome, parsed, state_after, state_from_frame, references_in, facts_with, picture_of, frame_of_packet, frame_outcome, FrameFacts}
use Rattle.vp_decode.proofs.StateLemmas.{kept_left, IsStepOf, step-of, empty_left, fault_left, after_left, outcome-answer, decoded_late}
use Rattle.vp_decode.proofs.decoder.Decoder.decode_by.Goals as goal
use Rattle.vp_decode.proofs.decoder.Decoder.decode_by.Goals.{In-Ok-cut_partitions, In_ok-frame}

pub returns-then-is_empty : goal.returns-then-is_empty
returns-then-is_empty g c =
    let is = empty_left c.args.on_fault c.args.self.now _ _ _ c.if-is_empty.ensures c.repeat.ensures.after c.repeat.ensures.outcome c.repeat.ensures.frame in
    record { after = is.after; outcome = is.outcome; frame = λ _. is.frame; refused = tt; late = tt; dropped = tt }

pub returns-in-Err : goal.returns-in-Err
returns-in-Err g c =
    let step = step-of c.args.on_fault _ _ _ _ c.self.view_is c.if-is_empty.ensures c.in-Err.ensures in
    let is = fault_left c.args.on_fault c.args.self.now _ _ _ _ step c.refuse.ensures.after c.refuse.ensures.outcome c.refuse.ensures.frame in
    record { after = is.after; outcome = is.outcome; frame = λ _. is.frame; refused = tt; late = tt; dropped = tt }

pub returns-in-Err-cut_partitions : goal.returns-in-Err-cut_partitions
returns-in-Err-cut_partitions g c =
    let step = step-of c.args.on_fault _ _ _ _ c.self.view_is c.if-is_empty.ensures (c.in-Err-cut_partitions.ensures.value ∙ c.read_header.ensures.read ∙ c.in-Ok.ensures) in
    let refuse = c.refuse-in-Err-cut_partitions.ensures in
    let is = fault_left c.args.on_fault c.args.self.now _ _ _ _ step refuse.after refuse.outcome refuse.frame in
    record { after = is.after; outcome = is.outcome; frame = λ _. is.frame; refused = tt; late = tt; dropped = tt }

-- ---- a parsed packet

decodes : (g : _) (c : In-Ok-cut_partitions g) → IsStepOf c.args.on_fault c.args.self.now c.args.packet.now (Ok c.in-Ok-cut_partitions.parsed)
decodes g c = step-of c.args.on_fault _ _ _ _ c.self.view_is c.if-is_empty.ensures (c.in-Ok-cut_partitions.ensures.value ∙ c.read_header.ensures.read ∙ c.in-Ok.ensures)

left : (g : _) (c : In_ok-frame g)
    → state_from_frame (references_in c.self.inside.state) c.read_header.result.0 c.read_header.result.1 c.in_ok-frame.frame ≡ state_after c.in-Ok-cut_partitions.parsed
left g c =
    let f = c.in_ok-frame.ensures in
    let made = c.in-Ok-cut_partitions.ensures in
    kept_left c.self.inside.limits c.self.inside.state c.args.packet.now _ _ c.in-Ok-cut_partitions.parsed c.in_ok-frame.frame made.header made.saved
    (made.value ∙ c.read_header.ensures.read ∙ c.in-Ok.ensures) (record { segments = f.segments; picture = f.picture; shown = f.shown })

pub returns-in_err-buffers-clause-late : goal.returns-in_err-buffers-clause-late
returns-in_err-buffers-clause-late g c = decoded_late _ _ _ _ _ (decodes g (goal.at.returns-in_err-buffers-clause-late g c).In-Ok-cut_partitions)

pub returns-in_err-frame-clause-late : goal.returns-in_err-frame-clause-late
returns-in_err-frame-clause-late g c = decoded_late _ _ _ _ _ (decodes g (goal.at.returns-in_err-frame-clause-late g c).In-Ok-cut_partitions)

pub keep-requires : goal.keep-requires
keep-requires g c = subst IsOneSize (sym (left g (goal.at.keep-requires g c).In_ok-frame)) c.in_ok-frame.ensures.one_size

pub returns-in_err-keep-clause-late : goal.returns-in_err-keep-clause-late
returns-in_err-keep-clause-late g c = decoded_late _ _ _ _ _ (decodes g (goal.at.returns-in_err-keep-clause-late g c).In-Ok-cut_partitions)

pub returns : goal.returns
returns g c =
    let o : ParsedPacket = c.in-Ok-cut_partitions.parsed in
    let step = decodes g (goal.at.returns g c).In-Ok-cut_partitions in
    let shown = ap (λ (f : FrameFacts). f.shown) c.of-facts.ensures in
    record {
      after =
          after_left c.args.on_fault c.args.self.now c.args.packet.now o c.self.inside.limits c.of-facts.result.shown c.keep.new.state step
          (ap (λ (d : Decoder). d.limits) c.self.view_is) shown (c.in_ok-keep.ensures.ok ∙ ap Some (left g (goal.at.returns g c).In_ok-frame));
      outcome =
          c.frame_outcome.ensures ∙ ap (λ b. frame_outcome b) shown ∙ outcome-answer o.tag.show (picture_of (frame_of_packet o))
          ∙ sym (ap (λ (a : Answer). outcome a) step.answer);
      frame = λ given. ap Some (c.of-facts.ensures ∙ ap (λ (b : Bool). facts_with o b) (c.in_ok-frame.ensures.corrupt given)) ∙ sym step.facts;
      refused = tt;
      late = tt;
      dropped = tt;
    }
