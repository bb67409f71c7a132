use Rattle.std.proofs.Common.{◌≡◌, List, Result, length}
use Rattle.std.specs.Prelude.{is_ok}
use Rattle.std.specs.List.{list_all}
use Rattle.vp_hub.specs.declared.session.ServeFault.{ServeFault}
use Rattle.vp_app.specs.Serving.{AreServed}
use Rattle.vp_app.proofs.service.serve_each.Given as goal

-- those so far are served, and the hub's state is as it was
abbrev pub invariant-loop-number : goal.invariant-loop-number
invariant-loop-number g l =
    (outcomes : List (Result (Unit {0}) ServeFault))
    × (length outcomes ≡ l.number)
    × AreServed 0 l.fn.hub.state outcomes
    × (l.well ≡ list_all is_ok outcomes)
    × (l.hub.state ≡ l.fn.hub.state)
