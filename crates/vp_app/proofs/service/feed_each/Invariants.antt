use Rattle.std.proofs.Common.{take}
use Rattle.vp_base.specs.Counted.{counted_remaining}
use Rattle.vp_app.specs.Serving.{AreFilesFed}
use Rattle.vp_app.proofs.service.feed_each.Given as goal

-- the streams so far are fed
abbrev pub invariant-loop-stream : goal.invariant-loop-stream
invariant-loop-stream g l =
    AreFilesFed (take l.stream-index l.streams) l.fn.hub.state l.hub.state
    (counted_remaining g.R.Read.remaining l.fn.input) (counted_remaining g.R.Read.remaining l.input)
