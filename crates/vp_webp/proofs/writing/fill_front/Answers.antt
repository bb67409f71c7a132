use Rattle.std.proofs.Common.{length, arith}
use Rattle.std.proofs.lemmas.List.{length-take}
use Rattle.vp_webp.specs.Text.{webp_head_text}
use Rattle.vp_webp.proofs.Written.{length-file}
use Rattle.vp_webp.proofs.Copied.{length-head, both-put, odd-file, even-file}
use Rattle.vp_webp.proofs.writing.fill_front.Goals as goal

pub slice_bounds-copy_from_slice-end : goal.slice_bounds-copy_from_slice-end
slice_bounds-copy_from_slice-end c = omega (arith, length-file c.args.packet.now, c.requires.room)

pub slice_bounds-copy_from_slice-end-2 : goal.slice_bounds-copy_from_slice-end-2
slice_bounds-copy_from_slice-end-2 c =
    omega (arith, length-take 20 c.args.out.now, length-file c.args.packet.now, c.requires.room)

pub returns-then-packet-eq1 : goal.returns-then-packet-eq1
returns-then-packet-eq1 c =
    let out = c.args.out.now in
    let packet = c.args.packet.now in
    let head = webp_head_text (length packet) in
    rw (
      c.copy_from_slice-2.ensures.after,
      c.copy_from_slice.ensures.after,
      c.head_bytes.ensures,
      both-put out head packet (length-head (length packet)),
    )
    (odd-file out packet c.if-packet-eq1.true c.requires.room)

pub returns-else-packet-eq1 : goal.returns-else-packet-eq1
returns-else-packet-eq1 c =
    let out = c.args.out.now in
    let packet = c.args.packet.now in
    let head = webp_head_text (length packet) in
    rw (
      c.copy_from_slice-2.ensures.after,
      c.copy_from_slice.ensures.after,
      c.head_bytes.ensures,
      both-put out head packet (length-head (length packet)),
    )
    (even-file out packet c.if-packet-eq1.false)
