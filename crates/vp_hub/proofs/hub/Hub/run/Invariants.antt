use Rattle.std.proofs.Common.{◌≡◌, ◌≤◌, length, take, vec_len, vec_capacity}
use Rattle.vp_hub.specs.View.{IsRun}
use Rattle.vp_hub.specs.Work.{IsWorkedRun}
use Rattle.vp_hub.proofs.hub.Hub.run.Given as goal

-- there is room for each result, and the results so far are a run
abbrev pub invariant-loop-event : goal.invariant-loop-event
invariant-loop-event l = record {
  room : length l.events ≤ vec_capacity l.results;
  len : vec_len l.results ≡ l.event-index;
  run : IsRun l.fn.self.state (take l.event-index l.events) l.results.items l.self.state;
  worked : IsWorkedRun l.fn.self (take l.event-index l.events) l.results.items l.self;
}
