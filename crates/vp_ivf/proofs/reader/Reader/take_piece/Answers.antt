use Rattle.std.proofs.Common.{arith}
use Rattle.std.proofs.lemmas.Grind.{common_steps}
use Rattle.vp_ivf.proofs.Stands.{no_fault, reading_taken, fed_reading, fed_settled, fed_few}
use Rattle.vp_ivf.proofs.reader.Reader.take_piece.Goals as goal

pub returns-clause-reading : goal.returns-clause-reading
returns-clause-reading c = λ kept.
    let inside = c.self.inside in
    let cutting = c.in-Ok.cutting in
    reading_taken c.args.self.now inside.max inside.limit _ _ inside.ended c.args.piece.now c.self.view_is c.requires
    (fed_reading inside.head inside.max inside.left inside.packets.items c.append.new.self.items inside.rest.items c.args.piece.now c.extend_from_slice.new.self.items c.remove_front.new.bytes.items cutting
    (grind (arith, common_steps)) c.remove_front.ensures (grind (arith, common_steps)) (rw c.deref-2.ensures.value at c.in-Ok.ensures.reading))

pub invariant_of-self-2 : goal.invariant_of-self-2
invariant_of-self-2 c = λ none.
    let inside = c.self.inside in
    fed_settled inside.head inside.max inside.left c.extend_from_slice.new.self.items c.remove_front.new.bytes.items c.in-Ok.cutting
    c.remove_front.ensures (rw c.deref-2.ensures.value at c.in-Ok.ensures.reading) none

pub returns-clause-few : goal.returns-clause-few
returns-clause-few c =
    let inside = c.self.inside in
    rw (← c.self.view_is)
    (fed_few inside.head inside.max inside.left inside.packets.items c.append.new.self.items inside.rest.items c.args.piece.now c.extend_from_slice.new.self.items c.in-Ok.cutting
    (c.self.invariant (no_fault inside.fault inside.ended (rw (← c.self.view_is) at c.requires))) (grind (arith, common_steps)) (grind (arith, common_steps)) (rw c.deref-2.ensures.value at c.in-Ok.ensures.reading))
