use Rattle.std.proofs.Common.{arith}
use Rattle.vp_bool.proofs.WritingLemmas.{Writes-then, Continues-given}
use Rattle.vp_head.specs.Header.{quantiser_indices}
use Rattle.vp_head.proofs.Signs.{unwrap, small_signed}
use Rattle.vp_head.proofs.row_writing.write_quantiser_indices.Goals as goal

pub returns : goal.returns
unfolding quantiser_indices
returns c =
    let q = c.args.q.now in
    let r = c.requires in
    Writes-then _ c.in_ok-literal.ensures.reads
    (Writes-then _ c.in_ok-write_signed.ensures
    (Writes-then _ c.in_ok-write_signed-2.ensures
    (Writes-then _ c.in_ok-write_signed-3.ensures
    (Writes-then _ c.in_ok-write_signed-4.ensures
    (Writes-then _ c.in_ok-write_signed-5.ensures
    (Continues-given
    (λ i. record {
      y_ac = q.y_ac;
      y_dc = unwrap 4 q.y_dc (omega arith) (small_signed 4 q.y_dc r.y_dc) i;
      y2_dc = unwrap 4 q.y2_dc (omega arith) (small_signed 4 q.y2_dc r.y2_dc) i;
      y2_ac = unwrap 4 q.y2_ac (omega arith) (small_signed 4 q.y2_ac r.y2_ac) i;
      uv_dc = unwrap 4 q.uv_dc (omega arith) (small_signed 4 q.uv_dc r.uv_dc) i;
      uv_ac = unwrap 4 q.uv_ac (omega arith) (small_signed 4 q.uv_ac r.uv_ac) i;
    })
    _))))))
