use Rattle.vp_base.specs.Image.{Image}
use Rattle.vp_choose.specs.Frame.{lent_frame, source_by}
use Rattle.vp_choose.proofs.Chosen.{is_choice}
use Rattle.vp_choose.proofs.frame_chooser.FrameChooser.choose.Goals as goal

pub returns-clause-chosen : goal.returns-clause-chosen
returns-clause-chosen c =
    let frame = lent_frame c.self.inside.frame in
    let ch = c.complete.result in
    let is = c.complete.ensures.completes in
    let q : Image = c.choose_coding-coding.new.picture in
    let coding = c.choose_coding-coding.ensures.chosen in
    let predicted = coding.coded.predicted ch is in
    rw (← c.self.view_is, ← c.choose_coding-coding.ensures.kept)
    (is_choice frame q c.args.vectors.now c.args.place c.choose_coding-coding.result ch coding is
    (c.complete.ensures.levels frame.source (source_by frame.search ch) c.cut_blocks-blocks.ensures predicted)
    (c.complete.ensures.writable (source_by frame.search ch) predicted))
