use Rattle.std.proofs.Common.{false, ◌≡◌, ◌∙◌, ℕ, Bool, List, Some, length, refl, ap, subst, sym}
use Rattle.std.specs.Prelude.{slice_get}
use Rattle.std.proofs.lemmas.Option.{slice_get_read}
use Rattle.vp_serve.specs.Parts.{FeedsThrough}
use Rattle.vp_serve.proofs.LoopTurnLemmas.{through_on}
use Rattle.vp_serve.proofs.Ready.{no_readier_on}
use Rattle.vp_serve.proofs.main_loop.read_files.Goals as goal

pub loop-place-init : goal.loop-place-init
loop-place-init g c = (c.feed_waiting-grew.ensures.feeds c.args.names.now, c.feed_waiting-grew.ensures.kept, c.feed_waiting-grew.ensures.no_readier)

pub loop-place-preserved : goal.loop-place-preserved
loop-place-preserved g c =
    let log = g.T.Transport.log in
    let names = c.args.names.now in
    let there : slice_get names c.loop-place.place ≡ Some c.as_slice.result.now =
    slice_get_read names (length names) c.loop-place.place c.index-names-place.result refl c.loop-place-test.true c.index-names-place.is ∙ ap (λ (l : List ℕ). Some l) (sym c.as_slice.ensures) in (
      subst (λ (t : Bool). FeedsThrough names t false c.args.server.now c.read_one-fed.new.server (log c.args.transport.now) (log c.read_one-fed.new.transport)) (sym c.either-grew.ensures)
          (through_on names c.loop-place.grew c.read_one-fed.result c.args.server.now c.loop-place.server c.read_one-fed.new.server (log c.args.transport.now) (log c.loop-place.transport) (log c.read_one-fed.new.transport) c.loop-place.invariant.0 (c.read_one-fed.ensures.feeds names there)),
      c.read_one-fed.ensures.kept ∙ c.loop-place.invariant.1,
      no_readier_on (g.T.Transport.readiness c.args.transport.now) (g.T.Transport.readiness c.loop-place.transport) (g.T.Transport.readiness c.read_one-fed.new.transport) c.loop-place.invariant.2 c.read_one-fed.ensures.no_readier,
    )

pub returns-clause-feeds : goal.returns-clause-feeds
returns-clause-feeds g c = c.loop-place.invariant.0

pub returns-clause-kept : goal.returns-clause-kept
returns-clause-kept g c = c.loop-place.invariant.1

pub returns-clause-no_readier : goal.returns-clause-no_readier
returns-clause-no_readier g c = c.loop-place.invariant.2
