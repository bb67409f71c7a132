use Rattle.std.proofs.Common.{◌≤◌, append_assoc, length, rules}
use Rattle.vp_heads.proofs.ReplyLemmas.{behind, across}
use Rattle.vp_heads.proofs.reply.put_slice.Goals as goal

pub returns-then-first-place : goal.returns-then-first-place
returns-then-first-place c =
    let there : length c.args.front.now ≤ c.args.first = search rules in
    rw (behind c.args.front.now c.args.back.now c.args.first c.args.end there c.requires.order) c.append-then-first-place.ensures.ok

pub returns : goal.returns
returns c =
    let before : c.args.first ≤ length c.args.front.now = search rules in
    let after : length c.args.front.now ≤ c.args.end = search rules in
    rw (across c.args.front.now c.args.back.now c.args.first c.args.end before after) (rw (c.in_ok-append.ensures.ok, append_assoc) at c.append-3.ensures.ok)
