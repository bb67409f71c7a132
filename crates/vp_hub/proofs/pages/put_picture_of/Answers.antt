use Rattle.std.proofs.Common.{sym}
use Rattle.vp_hub.proofs.Growing.{cursors_of_all}
use Rattle.vp_hub.proofs.pages.put_picture_of.Goals as goal

pub put_picture-requires-clause-cursors : goal.put_picture-requires-clause-cursors
put_picture-requires-clause-cursors c = c.requires.cursors c.args.asked.place c.in-Some.source.now (sym c.in-Some.ensures)

pub returns-in-Some-clause-cursors : goal.returns-in-Some-clause-cursors
returns-in-Some-clause-cursors c =
    cursors_of_all c.args.asked.place c.in-Some.source.now c.args.streams.now.sources c.args.pictures.now.kept.cursors c.put_picture.new.pictures.kept.cursors
    (sym c.in-Some.ensures) c.put_picture.ensures.cursors c.put_picture.ensures.cursors_of_others c.requires.cursors
