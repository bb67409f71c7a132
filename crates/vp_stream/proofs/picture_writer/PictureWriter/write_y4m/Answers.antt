use Rattle.std.proofs.Common.{◌≡◌, Err, ap, true}
use Rattle.vp_base.specs.Counted.{counted_contents}
use Rattle.vp_base.proofs.Writes.{front_first}
use Rattle.vp_y4m.specs.Text.{picture_text}
use Rattle.vp_stream.specs.Transcode.{text_if, has_size, line_before}
use Rattle.vp_stream.proofs.PictureLemmas.{second_by, same_place, refused_only}
use Rattle.vp_stream.proofs.picture_writer.PictureWriter.write_y4m.Goals as goal

pub returns-in_err-size-clause-prefix : goal.returns-in_err-size-clause-prefix
returns-in_err-size-clause-prefix g c =
    front_first (counted_contents g.W.Write.contents c.args.writer.now) (counted_contents g.W.Write.contents c.open.new.writer)
    (line_before c.args.self.now.size c.args.head c.args.dim.w c.args.dim.h)
    (text_if (has_size c.args.self.now.size c.args.dim.w c.args.dim.h) (picture_text c.args.text.now)) c.in_err-size.ensures.prefix

pub returns-in_err-write_picture-clause-prefix : goal.returns-in_err-write_picture-clause-prefix
returns-in_err-write_picture-clause-prefix g c =
    let mid = counted_contents g.W.Write.contents c.open.new.writer in
    let last = counted_contents g.W.Write.contents c.write_picture.new.out in
    let room = has_size c.args.self.now.size c.args.dim.w c.args.dim.h in
    second_by (counted_contents g.W.Write.contents c.args.writer.now) mid last
    (line_before c.args.self.now.size c.args.head c.args.dim.w c.args.dim.h) (picture_text c.args.text.now) room
    c.in_ok-size.ensures.written
    (refused_only c.in_err-write_picture.field-0.0 room mid last
    (λ other. let same = c.in_err-write_picture.ensures.same_size (λ e. other (cc)) in
    same_place c.args.self.now.size c.in_ok-size.size.w c.in_ok-size.size.h c.args.dim.w c.args.dim.h c.in_ok-size.ensures.size same.0 same.1)
    (λ is. ap (counted_contents g.W.Write.contents) (c.in_err-write_picture.ensures.unchanged (ap Err is))))
    c.in_err-write_picture.ensures.prefix

pub returns-clause-prefix : goal.returns-clause-prefix
returns-clause-prefix g c =
    let mid = counted_contents g.W.Write.contents c.open.new.writer in
    let last = counted_contents g.W.Write.contents c.write_picture.new.out in
    let room = has_size c.args.self.now.size c.args.dim.w c.args.dim.h in
    let same = c.in_ok-write_picture.ensures.same_size (λ e. cc) in
    let fits : room ≡ true = same_place c.args.self.now.size c.in_ok-size.size.w c.in_ok-size.size.h c.args.dim.w c.args.dim.h c.in_ok-size.ensures.size same.0 same.1 in
    second_by (counted_contents g.W.Write.contents c.args.writer.now) mid last
    (line_before c.args.self.now.size c.args.head c.args.dim.w c.args.dim.h) (picture_text c.args.text.now) room
    c.in_ok-size.ensures.written (λ none. cc)
    c.in_ok-write_picture.ensures.prefix
