use Rattle.std.proofs.Common.{refl, ◌/◌, ◌^◌}
use Rattle.std.proofs.lemmas.Nat.{and_mask}
use Rattle.vp_bool.proofs.WritingLemmas.{Writes-then, Continues-given}
use Rattle.vp_motion.specs.Pieces.{bit}
use Rattle.vp_motion.proofs.writing.write_bit.Goals as goal

pub returns : goal.returns
unfolding bit
returns c = Writes-then _ c.in_ok-write.ensures.reads (Continues-given (rw (and_mask (c.args.magnitude / 2 ^ c.args.i) 1) refl) _)
