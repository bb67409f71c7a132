use Rattle.vp_decode.proofs.Words.{◌∙◌, ap, is_some, OutcomeReader}
use Rattle.vp_decode.proofs.OutcomeLemmas.{empty_told, frame_told, fault_told, has_state}
use Rattle.vp_decode.proofs.outcome_reader.OutcomeReader.outcome.Goals as goal

pub returns-then-is_empty-clause-after : goal.returns-then-is_empty-clause-after
returns-then-is_empty-clause-after c limits state beside =
    beside ∙ rw (← (empty_told limits state c.args.packet.now c.if-is_empty.ensures).left)

pub returns-then-is_empty-clause-outcome : goal.returns-then-is_empty-clause-outcome
returns-then-is_empty-clause-outcome c limits state beside =
    let seen = ap (λ (r : OutcomeReader). r.shown) (c.self.view_is ∙ beside) in
    c.repeated_outcome.ensures ∙ rw seen ((empty_told limits state c.args.packet.now c.if-is_empty.ensures).told)

pub returns-in-Ok-clause-after : goal.returns-in-Ok-clause-after
returns-in-Ok-clause-after c limits state beside =
    let own = ap (λ (r : OutcomeReader). r.limits) (c.self.view_is ∙ beside) in
    let seen = ap (λ (r : OutcomeReader). r.shown) (c.self.view_is ∙ beside) in
    let tagged = rw own at (c.in-Ok.ensures state (c.is_some.ensures ∙ ap is_some seen ∙ has_state state)) in
    rw (own, c.is_shown_after.ensures, seen, (frame_told limits state c.args.packet.now c.in-Ok.tag c.if-is_empty.ensures tagged).left)

pub returns-in-Ok-clause-outcome : goal.returns-in-Ok-clause-outcome
returns-in-Ok-clause-outcome c limits state beside =
    let own = ap (λ (r : OutcomeReader). r.limits) (c.self.view_is ∙ beside) in
    let seen = ap (λ (r : OutcomeReader). r.shown) (c.self.view_is ∙ beside) in
    let tagged = rw own at (c.in-Ok.ensures state (c.is_some.ensures ∙ ap is_some seen ∙ has_state state)) in
    c.frame_outcome.ensures ∙ (frame_told limits state c.args.packet.now c.in-Ok.tag c.if-is_empty.ensures tagged).told

pub returns-in-Err-clause-after : goal.returns-in-Err-clause-after
returns-in-Err-clause-after c limits state beside =
    let own = ap (λ (r : OutcomeReader). r.limits) (c.self.view_is ∙ beside) in
    let seen = ap (λ (r : OutcomeReader). r.shown) (c.self.view_is ∙ beside) in
    let refused = rw own at (c.in-Err.ensures state (c.is_some.ensures ∙ ap is_some seen ∙ has_state state)) in
    rw (own, (fault_told limits state c.args.packet.now c.in-Err.fault c.if-is_empty.ensures refused).left)

pub returns-in-Err-clause-outcome : goal.returns-in-Err-clause-outcome
returns-in-Err-clause-outcome c limits state beside =
    let own = ap (λ (r : OutcomeReader). r.limits) (c.self.view_is ∙ beside) in
    let seen = ap (λ (r : OutcomeReader). r.shown) (c.self.view_is ∙ beside) in
    let refused = rw own at (c.in-Err.ensures state (c.is_some.ensures ∙ ap is_some seen ∙ has_state state)) in
    (fault_told limits state c.args.packet.now c.in-Err.fault c.if-is_empty.ensures refused).told
