use Rattle.std.proofs.Common.{◌≡◌, true, false, sym, rules}
use denote.Enum.Bare.{same_true}
use Rattle.vp_tables.specs.contracts.modes.VectorMode.{the_type}
use Rattle.vp_tables.specs.declared.modes.VectorMode.TheVariants.{New}
use Rattle.vp_motion.proofs.Spellings.{new_given, others_given}
use Rattle.vp_motion.proofs.motion_writing.write_given.Goals as goal

pub returns-in_ok-write_new : goal.returns-in_ok-write_new
returns-in_ok-write_new c g p =
    let e : c.args.mode ≡ New = same_true the_type (search rules) _ _ (sym c.if-eq.ensures) in
    new_given c.args.probabilities.now g p c.args.candidates.now c.args.mode c.args.vector _ _ e (rw (← c.candidates.view_is) c.in_ok-write_new.ensures)

pub returns-else-eq : goal.returns-else-eq
returns-else-eq c g p =
    let other = λ (e : c.args.mode ≡ New). let h = rw e at c.if-eq.ensures in let k : false ≡ true = h in let none : ⊥ = cc in none in
    others_given c.args.probabilities.now g p c.args.candidates.now c.args.mode c.args.vector _ other c.requires
