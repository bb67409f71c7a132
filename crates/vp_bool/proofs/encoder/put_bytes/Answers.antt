use Rattle.std.proofs.Common.{◌∙◌, sym, subst, length, arith}
use Rattle.vp_bool.specs.Bools.{number}
use Rattle.vp_bool.specs.Intervals.{Interval}
use Rattle.vp_bool.specs.Opens.{IsOpen}
use Rattle.vp_bool.specs.Spelling.{spells}
use Rattle.vp_bool.proofs.IntervalLemmas.{byte_room, out_same, out_window, mask_whole}
use Rattle.vp_bool.proofs.encoder.put_bytes.Goals as goal

pub put_byte-requires-clause-room : goal.put_byte-requires-clause-room
put_byte-requires-clause-room c =
    let q = c.loop-pending.pending in
    let bytes = c.loop-pending.bytes.items in
    let valid : IsOpen (spells bytes q) = subst (λ (e : Interval). IsOpen e) (sym c.loop-pending.invariant.same) c.requires.valid in
    byte_room (number bytes) q.value q.bits q.range (length bytes) c.loop-pending.invariant.pending.least valid.fits

pub loop-pending-preserved : goal.loop-pending-preserved
loop-pending-preserved c =
    let q = c.loop-pending.pending in
    let many = c.loop-pending-test.true in
    let kept = c.loop-pending.invariant in
    rw (mask_whole q.value q.bits kept.most)
    (record {
      same = out_same q.value q.bits q.range _ _ many c.put_byte.ensures.value c.put_byte.ensures.length ∙ kept.same;
      pending = record {
        least = omega arith;
        window = out_window q.value q.range q.bits many kept.pending.byte;
        normal = kept.pending.normal;
        byte = kept.pending.byte;
      };
      most = omega (arith, kept.most);
      bytes = c.put_byte.ensures.bytes;
      room = omega (arith, kept.room, c.put_byte.ensures.length, c.put_byte.ensures.capacity);
    })
