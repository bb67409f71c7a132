use Rattle.std.proofs.lemmas.Result.{err_from_is_err_and}
use Rattle.vp_stream.proofs.decoding.decode_all.Goals as goal

pub returns-in_err-decode_packets-clause-decoded : goal.returns-in_err-decode_packets-clause-decoded
returns-in_err-decode_packets-clause-decoded g c =
    let p = err_from_is_err_and c.from_residual.result c.from_residual.ensures.1 in
    rw (p.1, p.2) (rw c.new-run.ensures at c.in_err-decode_packets.ensures.decoded)

pub returns-clause-decoded : goal.returns-clause-decoded
returns-clause-decoded g c = rw c.into_report.ensures (rw c.new-run.ensures at c.in_ok-decode_packets.ensures.decoded)
