use Rattle.std.proofs.Common.{refl}
use Rattle.vp_y4m.proofs.FrameLemmas.{frame_read, frame_short}
use Rattle.vp_y4m.proofs.ReadLemmas.{reads_then}
use Rattle.vp_y4m.proofs.frame.read_frame.Goals as goal

pub returns-in-Ok-clause-found : goal.returns-in-Ok-clause-found
returns-in-Ok-clause-found g c =
    frame_read c.args.picture.now.width c.args.picture.now.height c.args.picture.now c.read_pixels.new.picture _ _ _ refl refl (rw c.in-Ok-true.field-0-test at c.in-Ok-true.ensures.found) c.in-Ok.ensures.ok

pub returns-in-Err-read_pixels-clause-found : goal.returns-in-Err-read_pixels-clause-found
returns-in-Err-read_pixels-clause-found g c =
    frame_short c.args.picture.now.width c.args.picture.now.height c.in-Err-read_pixels.fault _ _ _ (rw c.in-Ok-true.field-0-test at c.in-Ok-true.ensures.found) c.in-Err-read_pixels.ensures.short

pub returns-in-Ok-clause-reads : goal.returns-in-Ok-clause-reads
returns-in-Ok-clause-reads g c = reads_then 0 _ _ _ _ _ _ (rw c.in-Ok-true.field-0-test at c.in-Ok-true.ensures.reads) c.in-Ok.ensures.reads

pub returns-in-Err-read_pixels-clause-reads : goal.returns-in-Err-read_pixels-clause-reads
returns-in-Err-read_pixels-clause-reads g c = reads_then _ _ _ _ _ _ _ (rw c.in-Ok-true.field-0-test at c.in-Ok-true.ensures.reads) c.in-Err-read_pixels.ensures.reads
