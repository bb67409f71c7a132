use Rattle.std.proofs.Common.{◌≡◌, ◌++◌, [], length}
use Rattle.vp_heads.specs.declared.status.Status.TheVariants.{Good}
use Rattle.vp_heads.specs.Replies.{reply_head, code_of, phrase_of, closing_line}
use Rattle.vp_heads.proofs.ReplyLemmas.{with_body, on_ok}
use Rattle.vp_heads.proofs.reply.put_all.Goals as goal

pub returns : goal.returns
returns c =
    let body = (c.args.body.front.now ++ c.args.body.back.now) in
    let head = reply_head (code_of Good) (phrase_of Good) c.args.body.kind.now (length body) [] (closing_line c.args.request.closing) in
    let begun : c.put_head.new.out ≡ c.args.out.now ++ head = rw c.size_of-size.ensures at c.in_ok-put_head.ensures in
    on_ok c.put_both.result _ _ (with_body c.args.out.now head body c.put_head.new.out c.put_both.new.out c.args.request.head_only begun c.if-request.false) c.put_both.ensures
