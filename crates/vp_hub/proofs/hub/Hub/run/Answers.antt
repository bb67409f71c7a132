use Rattle.std.proofs.Common.{rules}
use Rattle.std.proofs.lemmas.List.{take_all, take_more}
use Rattle.vp_hub.proofs.Fed.{all_ended_at_end, all_fed_at_end}
use Rattle.vp_hub.proofs.CacheLemmas.{run_partial}
use Rattle.vp_hub.proofs.Isolation.{isolated_at_end, joined_at_end, run_more}
use Rattle.vp_hub.proofs.Serving.{worked_joined_at_end, worked_more}
use Rattle.vp_hub.proofs.hub.Hub.run.Goals as goal

pub loop-event-preserved : goal.loop-event-preserved
loop-event-preserved c = record {
  room = search rules;
  len = search rules;
  run = rw (take_more c.args.events.now c.loop-event.event-index c.event-item.result c.loop-event-test.true, ← c.event-item.is, c.put.ensures.items)
      (run_more _ _ _ _ _ _ _ c.loop-event.invariant.run c.step-res.ensures.step);
  worked = rw (take_more c.args.events.now c.loop-event.event-index c.event-item.result c.loop-event-test.true, ← c.event-item.is, c.put.ensures.items)
      (worked_more _ _ _ _ _ _ _ c.loop-event.invariant.worked c.step-res.ensures.step c.step-res.ensures.worked);
}

pub returns-clause-run : goal.returns-clause-run
returns-clause-run c = rw (take_all c.loop-event.event-index c.args.events.now c.loop-event-test.false) at c.loop-event.invariant.run

pub returns-clause-worked : goal.returns-clause-worked
returns-clause-worked c = rw (take_all c.loop-event.event-index c.args.events.now c.loop-event-test.false) at c.loop-event.invariant.worked

pub returns-clause-isolated : goal.returns-clause-isolated
returns-clause-isolated c =
    isolated_at_end c.args.self.now.state c.args.events.now c.loop-event.results.items c.loop-event.self.state c.loop-event.event-index
    c.loop-event-test.false c.loop-event.invariant.run

pub returns-clause-pieces : goal.returns-clause-pieces
returns-clause-pieces c =
    all_fed_at_end c.args.self.now.state c.args.events.now c.loop-event.results.items c.loop-event.self.state c.loop-event.event-index
    c.loop-event-test.false c.loop-event.invariant.run

pub returns-clause-ends : goal.returns-clause-ends
returns-clause-ends c =
    all_ended_at_end c.args.self.now.state c.args.events.now c.loop-event.results.items c.loop-event.self.state c.loop-event.event-index
    c.loop-event-test.false c.loop-event.invariant.run

pub returns-clause-stands : goal.returns-clause-stands
returns-clause-stands c s es os run =
    joined_at_end s es os c.args.self.now.state c.args.events.now c.loop-event.results.items c.loop-event.self.state c.loop-event.event-index
    c.loop-event-test.false run c.loop-event.invariant.run

pub returns-clause-stands_worked : goal.returns-clause-stands_worked
returns-clause-stands_worked c s es os run =
    worked_joined_at_end s es os c.args.self.now c.args.events.now c.loop-event.results.items c.loop-event.self c.loop-event.event-index
    c.loop-event-test.false run c.loop-event.invariant.worked

pub returns-clause-partial : goal.returns-clause-partial
returns-clause-partial c = run_partial _ _ c.args.self.now.state c.loop-event.self.state c.loop-event.invariant.run
