use Rattle.std.proofs.Common.{Err, ap}
use Rattle.std.proofs.lemmas.Result.{err_from_is_err_and}
use Rattle.vp_frames.specs.Written.{read_side, written_side}
use Rattle.vp_frames.proofs.WrittenLemmas.{unread}
use Rattle.vp_frames.proofs.decoding.decode_range.Goals as goal

pub returns-in_err-fault-clause-decoded : goal.returns-in_err-fault-clause-decoded
returns-in_err-fault-clause-decoded g c =
    let read = c.in_err-fault.ensures.read in
    let p = err_from_is_err_and c.from_residual.result c.from_residual.ensures.1 in
    rw (p.1, p.2)
    (unread c.args.limits c.args.form c.args.range c.in_err-fault.field-0.0 read.0
    (read_side g.R.Read.remaining c.args.reader.now) (read_side g.R.Read.remaining c.read_file.new.reader) (written_side g.W.Write.contents c.args.writer.now)
    read.1 read.2 (λ e. c.in_err-fault.ensures.device (ap Err e)) (λ ne. c.in_err-fault.ensures.quiet (λ e. ne (cc))))
