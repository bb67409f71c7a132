use Rattle.std.proofs.Common.{arith}
use Rattle.std.proofs.lemmas.Grind.{common_steps}
use Rattle.vp_ivf.proofs.Stands.{no_fault, fed_settled, fed_few}
use Rattle.vp_ivf.proofs.reader.Reader.take_alone.Goals as goal

pub invariant_of-self-2 : goal.invariant_of-self-2
invariant_of-self-2 c = λ none.
    let inside = c.self.inside in
    fed_settled inside.head inside.max inside.left c.args.piece.now c.extend_from_slice.new.self.items c.in-Ok.cutting
    (grind (arith, common_steps)) c.in-Ok.ensures.reading none

pub returns-clause-few : goal.returns-clause-few
returns-clause-few c =
    let inside = c.self.inside in
    rw (← c.self.view_is)
    (fed_few inside.head inside.max inside.left inside.packets.items c.append.new.self.items inside.rest.items c.args.piece.now c.args.piece.now c.in-Ok.cutting
    (c.self.invariant (no_fault inside.fault inside.ended (rw (← c.self.view_is) at c.requires.calm))) (grind (arith, common_steps)) (grind (arith, common_steps)) c.in-Ok.ensures.reading)
