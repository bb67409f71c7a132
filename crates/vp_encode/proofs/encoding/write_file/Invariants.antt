use Rattle.std.proofs.Common.{◌≡◌, Bool, length, take}
use Rattle.vp_base.specs.Counted.{counted_contents, counted_failures}
use Rattle.vp_ivf.specs.Writer.{IsWriterAfter, device_name}
use Rattle.vp_encode.proofs.WritingLemmas.{history, timed_from}
use Rattle.vp_encode.proofs.encoding.write_file.Given as goal

abbrev pub invariant-loop-packet : goal.invariant-loop-packet
invariant-loop-packet g l =
    (failed : Bool)
    × IsWriterAfter g.W.Write.contents l.file
    (history (counted_contents g.W.Write.contents l.fn.writer) (counted_failures l.fn.writer)
    (record { w = l.fn.head.dim.w; h = l.fn.head.dim.h; rate = l.fn.head.rate; scale = l.fn.head.scale })
    (length l.fn.packets) (timed_from 0 (take l.packet-index l.fn.packets)) failed)
    × (device_name l.file ≡ l.initial.file.out.ghost_name)
    × (l.time ≡ l.packet-index)
