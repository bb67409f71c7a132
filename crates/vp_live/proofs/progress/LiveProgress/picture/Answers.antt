use Rattle.std.proofs.Common.{◌≡◌, ◌∙◌, refl, ap, inr}
use Rattle.vp_base.specs.Counted.{counted_contents}
use Rattle.vp_encode.specs.Encoded.{EncodedFrame}
use Rattle.vp_live.specs.Progress.{LiveProgress}
use Rattle.vp_live.proofs.TextLemmas.{front_is}
use Rattle.vp_live.proofs.progress.LiveProgress.picture.Goals as goal

pub returns-then-is_err-clause-takes : goal.returns-then-is_err-clause-takes
returns-then-is_err-clause-takes g c =
    let frame : EncodedFrame = record { source = c.args.picture.now; packet = c.in-Ok.encoded.packet; recon = c.in-Ok.encoded.recon.value } in
    let time : c.from-time.result ≡ c.args.self.now.frames = c.from-time.ensures ∙ (ap (λ (r : LiveProgress). r.frames) c.self.view_is ∙ c.encode.ensures.frames) in
    let front = front_is (counted_contents g.W.Write.contents c.args.writer.now) (counted_contents g.W.Write.contents c.write_packet.new.writer)
    c.from-time.result c.args.self.now.frames c.as_slice.result.now c.in-Ok.encoded.packet time c.as_slice.ensures c.write_packet.ensures.prefix in
    inr (refl, frame, c.encode.new.self.encoder, c.in-Ok.ensures.made, c.encode.ensures.frames, front)
