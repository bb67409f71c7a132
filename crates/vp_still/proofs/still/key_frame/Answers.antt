use Rattle.vp_still.proofs.StillLemmas.{key_frame}
use Rattle.vp_still.proofs.still.key_frame.Goals as goal

pub returns-in-Ok-clause-frame : goal.returns-in-Ok-clause-frame
returns-in-Ok-clause-frame c =
    let e = c.in-Ok.ensures in
    key_frame c.args.source.now c.args.encoder.now c.encode.new.self c.in-Ok.encoded c.requires.width c.requires.height
    e.decoded e.choice e.error e.dim e.settings e.since
