use Rattle.vp_base.specs.Counted.{counted_remaining}
use Rattle.vp_app.proofs.ServingLemmas.{files_next}
use Rattle.vp_app.proofs.service.feed_each.Goals as goal

pub loop-stream-preserved : goal.loop-stream-preserved
loop-stream-preserved g c =
    let remaining = g.R.Read.remaining in
    files_next c.args.streams.now c.loop-stream.stream-index _ c.args.hub.now.state c.loop-stream.hub.state c.feed_stream.new.hub.state
    (counted_remaining remaining c.args.input.now) (counted_remaining remaining c.loop-stream.input) (counted_remaining remaining c.feed_stream.new.input)
    c.loop-stream-test.true c.loop-stream.invariant c.in_ok-feed_stream.ensures.fed
