use Rattle.std.proofs.Common.{◌-◌, take, refl, ap, arith}
use Rattle.vp_encode.proofs.SourceLemmas.{row_written, behind_is}
use Rattle.vp_encode.proofs.source.continue_row.Goals as goal

pub returns : goal.returns
returns c =
    row_written c.args.picture.now c.write_run.new.self c.write_run-2.new.self c.args.k c.args.width c.args.height c.args.y c.min.result c.args.source.now _ _
    c.write_run.ensures c.write_run-2.ensures c.min.ensures (ap (take c.args.width) c.row-row.ensures.value)
    (behind_is (c.width.result - c.args.width) (c.args.source.now.width - c.args.width) _ c.args.source.now (c.args.width - 1) c.min.result c.row-row.result.now
    (ap (λ n. n - c.args.width) c.width.ensures.value) (omega arith) c.row-row.ensures.value refl (omega arith))
