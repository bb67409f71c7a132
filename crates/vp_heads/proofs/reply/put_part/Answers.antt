use Rattle.std.proofs.Common.{◌≡◌, ◌++◌, length}
use Rattle.vp_heads.specs.declared.status.Status.TheVariants.{Partial}
use Rattle.vp_heads.specs.Ranges.{slice_of}
use Rattle.vp_heads.specs.Replies.{reply_head, code_of, phrase_of, closing_line, range_line}
use Rattle.vp_heads.proofs.ReplyLemmas.{with_body, on_ok, length-slice_of}
use Rattle.vp_heads.proofs.reply.put_part.Goals as goal

pub returns : goal.returns
returns c =
    let body = (slice_of c.args.first c.args.last (c.args.body.front.now ++ c.args.body.back.now)) in
    let head = reply_head (code_of Partial) (phrase_of Partial) c.args.body.kind.now (length body) (range_line c.args.first c.args.last (length (c.args.body.front.now ++ c.args.body.back.now))) (closing_line c.args.request.closing) in
    let begun : c.put_head.new.out ≡ c.args.out.now ++ head =
    rw (c.as_str.ensures.value, c.in_ok-line.ensures, c.size_of-size.ensures, length-slice_of c.args.first c.args.last (c.args.body.front.now ++ c.args.body.back.now) c.requires.order c.requires.within)
    at c.in_ok-put_head.ensures in
    on_ok c.put_slice.result _ _ (with_body c.args.out.now head body c.put_head.new.out c.put_slice.new.out c.args.request.head_only begun c.if-request.false) c.put_slice.ensures
