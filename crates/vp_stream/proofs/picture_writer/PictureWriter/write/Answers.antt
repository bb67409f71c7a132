use Rattle.vp_stream.proofs.PictureLemmas.{length-i420}
use Rattle.vp_stream.proofs.picture_writer.PictureWriter.write.Goals as goal

pub write_y4m-written-requires : goal.write_y4m-written-requires
write_y4m-written-requires g c =
    rw (c.deref.ensures.value, c.in_ok-text-in-Y4m.ensures.pixels, c.dim.ensures.width, c.dim.ensures.height) (length-i420 c.args.picture.now)
