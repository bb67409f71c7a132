use Rattle.std.proofs.Common.{◌∷◌, flat_map, take}
use Rattle.vp_mio.specs.Growth.{GrowsBy}
use Rattle.vp_mio.specs.Lines.{quoted}
use Rattle.vp_mio.proofs.line.Line.put_quoted.Given as goal

abbrev pub invariant-loop-byte : goal.invariant-loop-byte
invariant-loop-byte l = GrowsBy l.fn.self l.self (34 ∷ flat_map quoted (take l.byte-index l.text))
