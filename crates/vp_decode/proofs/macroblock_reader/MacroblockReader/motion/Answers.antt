use Rattle.std.proofs.Common.{◌∙◌, sym}
use Rattle.vp_decode.proofs.MacroblockLists.{motion-read, motion-unread}
use Rattle.vp_decode.proofs.macroblock_reader.MacroblockReader.motion.Goals as goal

pub returns-in-Some : goal.returns-in-Some
returns-in-Some c = sym (motion-read c.args.self.now c.args.place c.in-Some.macroblock.now c.requires c.in-Some.ensures)

pub returns-in-None : goal.returns-in-None
returns-in-None c = c.self.invariant.4 ∙ sym (motion-unread c.args.self.now c.args.place c.requires c.in-None.ensures)
