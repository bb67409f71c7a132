use Rattle.std.proofs.Common.{◌++◌, []}
use Rattle.std.proofs.KnownBytes.{Consumes-nil, Consumes-trans}
use Rattle.vp_base.specs.Counted.{counted_remaining}
use Rattle.vp_app.proofs.FeedingLemmas.{at_first, feeds_on, is_fed}
use Rattle.vp_app.proofs.service.feed.Goals as goal

pub loop-turn-init : goal.loop-turn-init
loop-turn-init g c = ([], Consumes-nil (counted_remaining g.R.Read.remaining c.args.reader.now), at_first c.args.name.now c.args.hub.now.state)

pub returns-then-not-branch-clause-fed : goal.returns-then-not-branch-clause-fed
returns-then-not-branch-clause-fed g c =
    let inv = c.loop-turn.invariant in
    let now = c.in_ok-feed_piece.ensures.fed in
    let left = counted_remaining g.R.Read.remaining c.feed_piece.new.reader in (
      inv.0 ++ now.0,
      Consumes-trans (counted_remaining g.R.Read.remaining c.args.reader.now) (counted_remaining g.R.Read.remaining c.loop-turn.reader) left inv.0 now.0 inv.1 now.1,
      is_fed c.args.name.now c.args.hub.now.state c.loop-turn.hub.state c.feed_piece.new.hub.state inv.0 now.0 left c.in_ok-feed_piece.field-0 c.if-not-branch.true inv.2 now.2,
    )

pub loop-turn-preserved : goal.loop-turn-preserved
loop-turn-preserved g c =
    let inv = c.loop-turn.invariant in
    let now = c.in_ok-feed_piece.ensures.fed in
    let left = counted_remaining g.R.Read.remaining c.feed_piece.new.reader in (
      inv.0 ++ now.0,
      Consumes-trans (counted_remaining g.R.Read.remaining c.args.reader.now) (counted_remaining g.R.Read.remaining c.loop-turn.reader) left inv.0 now.0 inv.1 now.1,
      feeds_on c.args.name.now c.args.hub.now.state c.loop-turn.hub.state c.feed_piece.new.hub.state inv.0 now.0 left c.in_ok-feed_piece.field-0 c.if-not-branch.false inv.2 now.2,
    )
