use Rattle.std.proofs.lemmas.Option.{IfSome_then}
use Rattle.vp_mio.proofs.AccessLines.{whole_line}
use Rattle.vp_mio.proofs.access_log.access_line.Goals as goal

pub returns-clause-fields : goal.returns-clause-fields
returns-clause-fields c =
    let time = c.put_time.ensures in
    let reply = c.put_reply.ensures c.if-not-put_reply.false in
    IfSome_then c.end.result c.end.ensures.text
    (λ line h. whole_line c.args.access.now c.new-line.result c.put.new.self c.put_time.new.line c.put_peer.new.line c.put_quoted.new.self c.put_reply.new.line time.0 line.items reply.0 c.new-line.ensures c.put.ensures
    time.1 time.2 (c.put_peer.ensures c.if-not-put_peer.false) c.put_quoted.ensures reply.1 reply.2 h.0 h.1)
