use Rattle.std.proofs.Common.{◌≡◌, true}
use Rattle.vp_base.specs.Counted.{counted_contents}
use Rattle.vp_base.proofs.Writes.{front_first}
use Rattle.vp_y4m.specs.Text.{picture_text}
use Rattle.vp_stream.specs.Transcode.{text_if, has_size, line_before}
use Rattle.vp_stream.proofs.PictureLemmas.{second_by, same_place}
use Rattle.vp_frames.proofs.pictures.PictureWriter.write_y4m.Goals as goal

pub returns-in_err-size-clause-prefix : goal.returns-in_err-size-clause-prefix
returns-in_err-size-clause-prefix g c =
    front_first (counted_contents g.W.Write.contents c.args.writer.now) (counted_contents g.W.Write.contents c.open.new.writer)
    (line_before c.args.self.now.size c.args.head c.args.dim.w c.args.dim.h)
    (text_if (has_size c.args.self.now.size c.args.dim.w c.args.dim.h) (picture_text c.args.pixels.now)) c.in_err-size.ensures.prefix

pub returns-in-Ok-clause-prefix : goal.returns-in-Ok-clause-prefix
returns-in-Ok-clause-prefix g c =
    let mid = counted_contents g.W.Write.contents c.open.new.writer in
    let last = counted_contents g.W.Write.contents c.write_picture.new.out in
    let room = has_size c.args.self.now.size c.args.dim.w c.args.dim.h in
    let same = c.in-Ok.ensures.same_size (λ e. cc) in
    let fits : room ≡ true = same_place c.args.self.now.size c.in_ok-size.size.w c.in_ok-size.size.h c.args.dim.w c.args.dim.h c.in_ok-size.ensures.size same.0 same.1 in
    second_by (counted_contents g.W.Write.contents c.args.writer.now) mid last
    (line_before c.args.self.now.size c.args.head c.args.dim.w c.args.dim.h) (picture_text c.args.pixels.now) room
    c.in_ok-size.ensures.written (λ none. cc) c.in-Ok.ensures.prefix

pub returns-in-Err-Device-clause-prefix : goal.returns-in-Err-Device-clause-prefix
returns-in-Err-Device-clause-prefix g c =
    let mid = counted_contents g.W.Write.contents c.open.new.writer in
    let last = counted_contents g.W.Write.contents c.write_picture.new.out in
    let room = has_size c.args.self.now.size c.args.dim.w c.args.dim.h in
    let same = c.in-Err-Device.ensures.same_size (λ e. cc) in
    let fits : room ≡ true = same_place c.args.self.now.size c.in_ok-size.size.w c.in_ok-size.size.h c.args.dim.w c.args.dim.h c.in_ok-size.ensures.size same.0 same.1 in
    second_by (counted_contents g.W.Write.contents c.args.writer.now) mid last
    (line_before c.args.self.now.size c.args.head c.args.dim.w c.args.dim.h) (picture_text c.args.pixels.now) room
    c.in_ok-size.ensures.written (λ none. cc) c.in-Err-Device.ensures.prefix
