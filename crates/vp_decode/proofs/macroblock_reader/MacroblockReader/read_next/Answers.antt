use Rattle.vp_decode.proofs.Words.{◌∙◌, ap, sym, is_intra, Modes, intra}
use Rattle.vp_decode.proofs.MacroblockLists.{intra-read}
use Rattle.vp_decode.proofs.macroblock_reader.MacroblockReader.read_next.Goals as goal

pub returns-then-is_intra-clause-maps : goal.returns-then-is_intra-clause-maps
unfolding intra
returns-then-is_intra-clause-maps c =
    intra-read c.args.header.now c.args.self.now c.args.place c.args.d.now _ _ c.push.new.self c.requires (c.push.ensures.maps c.args.place c.requires)
    c.read_modes-modes.ensures.value (ap (λ (m : Modes). is_intra m.reference) (sym c.modes.view_is) ∙ sym c.is_intra.ensures ∙ c.if-is_intra.true) c.of_one-motion.ensures
