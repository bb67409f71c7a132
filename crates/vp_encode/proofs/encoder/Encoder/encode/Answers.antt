use Rattle.std.proofs.Common.{Ok, Err, refl, ap, ◌∙◌}
use Rattle.vp_decode.specs.Step.{Decoder}
use Rattle.vp_encode.specs.declared.fault.EncodeFault.TheVariants.{SourceSize}
use Rattle.vp_encode.specs.Encoder.{EncoderState}
use Rattle.vp_encode.proofs.PlayingLemmas.{stands_after, stands_refused}
use Rattle.vp_encode.proofs.encoder.Encoder.encode.Goals as goal

pub returns-then-dim-self-clause-stands : goal.returns-then-dim-self-clause-stands
returns-then-dim-self-clause-stands c = λ calls stands.
    stands_after c.args.self.now calls c.args.source.now (Err SourceSize) c.args.self.now stands refl

pub returns-in-Ok-clause-stands : goal.returns-in-Ok-clause-stands
returns-in-Ok-clause-stands c = λ calls stands.
    stands_after c.args.self.now calls c.args.source.now (Ok c.in-Ok.encoded) c.encode_frame.new.self stands c.in-Ok.ensures.encoded

pub returns-in-Err-clause-stands : goal.returns-in-Err-clause-stands
returns-in-Err-clause-stands c = λ calls stands.
    let next : EncoderState = record { dim = c.self-2.inside.dim; settings = c.self-2.inside.settings; state = c.new.result.state; since = c.self-2.inside.since } in
    stands_refused c.args.self.now calls c.args.source.now c.in-Err.error c.from.result next stands c.from.ensures (record {
      dim = ap (λ (x : EncoderState). x.dim) c.self-2.view_is ∙ c.in-Err.ensures.dim;
      settings = ap (λ (x : EncoderState). x.settings) c.self-2.view_is ∙ c.in-Err.ensures.settings;
      state = ap (λ (x : Decoder). x.state) c.new.ensures;
    })
