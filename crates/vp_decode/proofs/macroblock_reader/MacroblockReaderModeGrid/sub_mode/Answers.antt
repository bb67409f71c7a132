use Rattle.vp_decode.proofs.Words.{◌∙◌, sym, ap, sub_of}
use Rattle.vp_decode.proofs.MacroblockLists.{modes-read, sub-unread}
use Rattle.vp_decode.proofs.macroblock_reader.MacroblockReaderModeGrid.sub_mode.Goals as goal

pub returns-in-Some : goal.returns-in-Some
returns-in-Some c =
    c.sub_mode.ensures ∙ ap (λ m. sub_of m c.args.k) (sym (modes-read c.args.self.now c.args.place c.in-Some.macroblock.now (record { column = c.requires.place.column; row = c.requires.place.row }) c.in-Some.ensures))

pub returns-in-None : goal.returns-in-None
returns-in-None c = sub-unread c.args.self.now c.args.place c.args.k (record { column = c.requires.place.column; row = c.requires.place.row }) c.in-None.ensures
