use Rattle.std.proofs.Common.{◌<◌, length, refl, subst, inl, inr, arith}
use Rattle.std.proofs.lemmas.Grind.{common_steps}
use Rattle.vp_encode.specs.declared.report.EncodeAllFault.TheVariants as fault
use Rattle.vp_encode.specs.Encoded.{EncodedFrame, IsEncoded}
use Rattle.vp_live.specs.Live.{IsRefused}
use Rattle.vp_live.specs.Progress.{LiveProgress}
use Rattle.vp_live.proofs.progress.LiveProgress.encode.Goals as goal

pub returns-then-len-self-clause-made : goal.returns-then-len-self-clause-made
returns-then-len-self-clause-made c =
    let frame : EncodedFrame = record { source = c.args.picture.now; packet = c.in-Ok.encoded.packet; recon = c.in-Ok.encoded.recon.value } in
    let large : c.self.inside.limits.packet_bytes < length c.in-Ok.encoded.packet = grind (arith, common_steps) in
    let room : c.self.inside.frames < c.self.inside.limits.packets = grind (arith, common_steps) in
    let made : IsEncoded c.self.inside.encoder frame c.encode.new.self = record {
      chosen = c.in-Ok.ensures.choice;
      decoded = c.in-Ok.ensures.decoded;
      dim = c.in-Ok.ensures.dim;
      settings = c.in-Ok.ensures.settings;
      since = c.in-Ok.ensures.since;
    } in
    let P : LiveProgress → Type 0 = λ r. IsRefused r.limits r.encoder r.frames c.args.picture.now fault.PacketTooLarge in
    subst P c.self.view_is (inr (inr (inl (refl, room, frame, c.encode.new.self, refl, made, large))))
