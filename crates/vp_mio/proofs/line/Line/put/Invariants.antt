use Rattle.std.proofs.Common.{flat_map, take}
use Rattle.vp_mio.specs.Growth.{GrowsBy}
use Rattle.vp_mio.specs.Lines.{printed}
use Rattle.vp_mio.proofs.line.Line.put.Given as goal

abbrev pub invariant-loop-byte : goal.invariant-loop-byte
invariant-loop-byte l = GrowsBy l.fn.self l.self (flat_map printed (take l.byte-index l.text))
