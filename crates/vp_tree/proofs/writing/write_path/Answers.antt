use Rattle.std.proofs.Common.{◌∙◌, sym, add-one, arith}
use Rattle.vp_tree.proofs.Spellings.{write_more, write_done}
use Rattle.vp_tree.proofs.writing.write_path.Goals as goal

pub loop-i-preserved : goal.loop-i-preserved
loop-i-preserved c =
    rw add-one
    (write_more c.args.probabilities.now c.args.path.now c.loop-i.i _ c.loop-i.encoder c.write.new.self c.loop-i-test.true c.in_ok-write.ensures.ok
    ∙ c.loop-i.invariant)

pub returns : goal.returns
returns c =
    sym (write_done c.args.probabilities.now c.args.path.now c.loop-i.i c.loop-i.encoder (omega arith)) ∙ c.loop-i.invariant
