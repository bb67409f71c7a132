use Rattle.vp_decode.proofs.MacroblockLists.{pushed, kept-length}
use Rattle.vp_decode.proofs.macroblock_reader.MacroblockReader.push.Goals as goal

pub returns-clause-maps : goal.returns-clause-maps
returns-clause-maps c = λ place next.
    rw c.push_reserved.ensures.items
    (rw (← c.self.view_is)
    (pushed _ place c.args.macroblock (kept-length c.self.inside.columns c.self.inside.rows c.self.inside.kept_segments c.self.invariant.2) (rw (← c.self.view_is) at next)))
