use Rattle.vp_stream.proofs.PictureLemmas.{length-i420}
use Rattle.vp_stream.proofs.picture_writer.PictureWriter.write_i420.Goals as goal

pub cut-requires : goal.cut-requires
cut-requires g c =
    rw (c.deref.ensures.value, c.in_ok-text.ensures.pixels, c.dim.ensures.width, c.dim.ensures.height) (length-i420 c.args.picture.now)
