use Rattle.std.proofs.Common.{◌≡◌, ◌∙◌, ◌<◌, ℕ, List, length, refl, sym, ap, arith}
use Rattle.vp_decode.specs.declared.decoder.OnFault.{OnFault}
use Rattle.vp_decode.specs.declared.decoder.OnFault.TheVariants as on_fault
use Rattle.vp_decode.specs.declared.decoder.Outcome.{Outcome}
use Rattle.vp_decode.specs.declared.decoder.Outcome.TheVariants.{Shown, Hidden, Fault}
use Rattle.vp_head.specs.declared.fault.PacketFault.{PacketFault}
use Rattle.vp_head.specs.declared.fault.PacketFault.TheVariants.{Truncated, Version, StartCode, Size, TooLarge, NoReference, FirstPartition, PartitionTable, Partition}
use Rattle.vp_decode.specs.Step.{IsDecoded, after, outcome, step}
use Rattle.vp_decode.specs.Step.{Decoder as PacketDecoder}
use Rattle.vp_decode.specs.Corrupt.{step_by}
use Rattle.vp_decode.specs.FrameFacts.{is_frame_corrupt}
use Rattle.vp_decode.proofs.CorruptLemmas.{is_frame_corrupt-frame_facts}
use Rattle.vp8_c.specs.Decoding.{Steps}
use Rattle.vp8_c.specs.Status.{outcome_number, fault_number}
use Rattle.vp8_c.proofs.decoder_handle.DecoderHandle.decode.Goals as goal

-- no outcome has the number of a refusal of memory
fault_not_memory : (f : PacketFault) → fault_number f ≡ 66 → ⊥
fault_not_memory Truncated e = omega arith
fault_not_memory Version e = omega arith
fault_not_memory StartCode e = omega arith
fault_not_memory Size e = omega arith
fault_not_memory TooLarge e = omega arith
fault_not_memory NoReference e = omega arith
fault_not_memory FirstPartition e = omega arith
fault_not_memory PartitionTable e = omega arith
fault_not_memory (Partition i) e = omega arith

not_memory : (o : Outcome) → outcome_number o ≡ 66 → ⊥
not_memory Shown e = omega arith
not_memory Hidden e = omega arith
not_memory (Fault f) e = fault_not_memory f e

-- a packet that is decoded
decoded : (way : OnFault) (packet : List ℕ) (status : ℕ) (old new : PacketDecoder) → (status ≡ 66 → ⊥)
    → status ≡ outcome_number (outcome (step old.limits old.state packet).1) → new ≡ after old (step_by way old.limits old.state packet) → Steps way packet status old new
decoded on_fault.Forget packet status old new other is next = record {
  outcome_is = λ _. is;
  after_is = λ _. next;
  refused = λ e. absurd (other e);
  late = λ e. absurd (other e);
  dropped = λ e. absurd (other e);
}
decoded on_fault.Keep packet status old new other is next = record {
  outcome_is = λ _. is;
  after_is = λ _. next;
  refused = λ e. absurd (other e);
  late = λ e. absurd (other e);
  dropped = λ e. absurd (other e);
}

-- memory is refused
refused : (way : OnFault) (packet : List ℕ) (old new : PacketDecoder) → new ≡ old → IsDecoded (step old.limits old.state packet).1 → 0 < length packet → Steps way packet 66 old new
refused on_fault.Forget packet old new same late some = record {
  outcome_is = λ n. absurd (n refl);
  after_is = λ n. absurd (n refl);
  refused = λ _. same;
  late = λ _. late;
  dropped = λ _. some;
}
refused on_fault.Keep packet old new same late some = record {
  outcome_is = λ n. absurd (n refl);
  after_is = λ n. absurd (n refl);
  refused = λ _. same;
  late = λ _. late;
  dropped = λ _. some;
}

pub returns-in-Ok : goal.returns-in-Ok
returns-in-Ok c =
    let told = c.in-Ok.ensures in
    let other : c.outcome_number.result ≡ 66 → ⊥ = λ e. not_memory c.in-Ok.decoded.outcome (sym c.outcome_number.ensures ∙ e) in
    record {
      steps = decoded c.args.on_fault c.args.packet.now c.outcome_number.result c.args.self.now.decoder c.decode_with_facts.new.self other (c.outcome_number.ensures ∙ ap outcome_number told.outcome) told.after;
      told = λ _. told.frame;
      corrupt_is = λ _. ap is_frame_corrupt told.frame ∙ is_frame_corrupt-frame_facts c.args.self.now.decoder.limits c.args.self.now.decoder.state c.args.packet.now;
      refused = λ e. absurd (other e);
    }

pub returns-in-Err : goal.returns-in-Err
returns-in-Err c = record {
  steps = refused c.args.on_fault c.args.packet.now c.args.self.now.decoder c.decode_with_facts.new.self c.in-Err.ensures.refused c.in-Err.ensures.late c.in-Err.ensures.dropped;
  told = λ n. absurd (n refl);
  corrupt_is = λ n. absurd (n refl);
  refused = λ _. refl;
}
