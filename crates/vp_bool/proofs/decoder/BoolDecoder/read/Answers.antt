use Rattle.std.proofs.Common.{true, false, ◌≡◌, ◌-◌, ◌*◌, ◌%◌, ◌^◌, arith, ◌∙◌, ap}
use Rattle.vp_bool.specs.Bools.{read, split_of}
use Rattle.vp_bool.specs.Window.{window_state}
use Rattle.vp_bool.proofs.LawLemmas.{reads_on}
use Rattle.vp_bool.proofs.PartLemmas.{IsPart, part_true, part_false, whole_bound}
use Rattle.vp_bool.proofs.decoder.BoolDecoder.read.Goals as goal
use Rattle.vp_bool.proofs.decoder.BoolDecoder.read.Goals.{Then-window-bound, Else-window-bound, After-from-bound}

bound : (c : After-from-bound) → c.from-bound.result * 2 ^ 56 % 2 ^ 64 ≡ split_of c.args.probability c.self.inside.window.range * 2 ^ 56
bound c =
    let w = c.self.inside.window in
    let good = c.self.invariant in
    whole_bound c.args.probability w.value w.range w.count w.rest.now (omega arith) good.aligned good.few good.sound good.bytes c.from-bound.result
    (c.from-bound.ensures ∙ ap (λ p. split_of p w.range) c.from.ensures)

taken : (c : Then-window-bound) → IsPart c.args.probability (window_state c.self.inside.window) true (c.self.inside.window.value - c.from-bound.result * 2 ^ 56 % 2 ^ 64) (c.self.inside.window.range - split_of c.from.result c.self.inside.window.range) c.self.inside.window.count c.self.inside.window.rest.now
taken c =
    let w = c.self.inside.window in
    let good = c.self.invariant in
    let b = bound (goal.at.renormalised-self-inside-requires-clause-aligned c).After-from-bound in
    rw (b, c.from.ensures)
    (part_true c.args.probability w.value w.range w.count w.rest.now (omega arith) good.aligned good.few good.sound good.bytes (rw (← b) c.if-window-bound.true))

left : (c : Else-window-bound) → IsPart c.args.probability (window_state c.self.inside.window) false c.self.inside.window.value (split_of c.from.result c.self.inside.window.range) c.self.inside.window.count c.self.inside.window.rest.now
left c =
    let w = c.self.inside.window in
    let good = c.self.invariant in
    let b = bound (goal.at.renormalised-self-inside-requires-else-window-bound-clause-taken c).After-from-bound in
    rw (c.from.ensures)
    (part_false c.args.probability w.value w.range w.count w.rest.now (omega arith) good.aligned good.few good.sound good.bytes (rw (← b) c.if-window-bound.false))

pub renormalised-self-inside-requires-clause-aligned : goal.renormalised-self-inside-requires-clause-aligned
renormalised-self-inside-requires-clause-aligned c = (taken c).aligned

pub renormalised-self-inside-requires-clause-taken : goal.renormalised-self-inside-requires-clause-taken
renormalised-self-inside-requires-clause-taken c = (taken c).taken

pub renormalised-self-inside-requires-else-window-bound-clause-taken : goal.renormalised-self-inside-requires-else-window-bound-clause-taken
renormalised-self-inside-requires-else-window-bound-clause-taken c = (left c).taken

pub returns-then-window-bound-clause-value : goal.returns-then-window-bound-clause-value
returns-then-window-bound-clause-value c =
    (taken (goal.at.returns-then-window-bound-clause-value c).Then-window-bound).value ∙ ap (λ s. (read c.args.probability s).0) c.self.view_is

pub returns-then-window-bound-clause-rest : goal.returns-then-window-bound-clause-rest
returns-then-window-bound-clause-rest c =
    c.renormalised-self-inside.ensures.after ∙ (taken (goal.at.returns-then-window-bound-clause-rest c).Then-window-bound).after ∙ ap (λ s. (read c.args.probability s).1) c.self.view_is

pub returns-then-window-bound-clause-run : goal.returns-then-window-bound-clause-run
returns-then-window-bound-clause-run c =
    let part = taken (goal.at.returns-then-window-bound-clause-run c).Then-window-bound in
    reads_on c.args.probability c.args.self.now _ _ (omega arith) (part.value ∙ ap (λ s. (read c.args.probability s).0) c.self.view_is)
    (c.renormalised-self-inside.ensures.after ∙ part.after ∙ ap (λ s. (read c.args.probability s).1) c.self.view_is)

pub returns-else-window-bound-clause-value : goal.returns-else-window-bound-clause-value
returns-else-window-bound-clause-value c =
    (left (goal.at.returns-else-window-bound-clause-value c).Else-window-bound).value ∙ ap (λ s. (read c.args.probability s).0) c.self.view_is

pub returns-else-window-bound-clause-rest : goal.returns-else-window-bound-clause-rest
returns-else-window-bound-clause-rest c =
    c.renormalised-self-inside-else-window-bound.ensures.after ∙ (left (goal.at.returns-else-window-bound-clause-rest c).Else-window-bound).after ∙ ap (λ s. (read c.args.probability s).1) c.self.view_is

pub returns-else-window-bound-clause-run : goal.returns-else-window-bound-clause-run
returns-else-window-bound-clause-run c =
    let part = left (goal.at.returns-else-window-bound-clause-run c).Else-window-bound in
    reads_on c.args.probability c.args.self.now _ _ (omega arith) (part.value ∙ ap (λ s. (read c.args.probability s).0) c.self.view_is)
    (c.renormalised-self-inside-else-window-bound.ensures.after ∙ part.after ∙ ap (λ s. (read c.args.probability s).1) c.self.view_is)
