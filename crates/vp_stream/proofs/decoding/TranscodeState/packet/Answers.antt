use Rattle.std.proofs.Common.{◌≡◌, ◌∙◌, ℕ, List, subst, ap}
use Rattle.std.specs.Io.KnownBytes.{Appends}
use Rattle.vp_base.specs.Counted.{counted_contents, AppendsPrefix}
use Rattle.vp_ivf.specs.declared.packet.IvfHead.{IvfHead}
use Rattle.vp_decode.specs.Step.{Decoder, step, after}
use Rattle.vp_stream.specs.declared.report.Report.{Report}
use Rattle.vp_stream.specs.Transcode.{PictureWriter, TranscodeState, picture_to, shown_text}
use Rattle.vp_stream.proofs.decoding.TranscodeState.packet.Goals as goal

-- the decoder shows the packet's picture
same_text : (decoder last : Decoder) (sizing : PictureWriter) (report : Report) (run : TranscodeState) (packet : List ℕ) (head : IvfHead)
    → (let inside : TranscodeState = record { limits = decoder.limits; state = decoder.state; sizing = sizing; report = report } in inside ≡ run)
    → last ≡ after decoder (step decoder.limits decoder.state packet)
    → shown_text sizing head last.shown ≡ shown_text run.sizing head (picture_to run packet)
same_text decoder last sizing report run packet head inside is =
    ap (λ (d : Decoder). shown_text sizing head d.shown) is ∙ ap (λ (r : TranscodeState). shown_text r.sizing head (picture_to r packet)) inside

pub returns-clause-written : goal.returns-clause-written
returns-clause-written g c =
    let P : List ℕ → Type 0 = λ xs. Appends (counted_contents g.W.Write.contents c.args.writer.now) (counted_contents g.W.Write.contents c.write_shown.new.writer) xs in
    subst P (same_text c.self.inside.decoder c.decode.new.self c.self.inside.pictures c.self.inside.report c.args.self.now c.args.packet.now c.args.head c.self.view_is c.in_ok-outcome.ensures.after)
    c.in_ok-write_shown.ensures.written

pub returns-clause-prefix : goal.returns-clause-prefix
returns-clause-prefix g c =
    let P : List ℕ → Type 0 = λ xs. AppendsPrefix (counted_contents g.W.Write.contents c.args.writer.now) (counted_contents g.W.Write.contents c.write_shown.new.writer) xs in
    subst P (same_text c.self.inside.decoder c.decode.new.self c.self.inside.pictures c.self.inside.report c.args.self.now c.args.packet.now c.args.head c.self.view_is c.in_ok-outcome.ensures.after)
    c.in_ok-write_shown.ensures.prefix
