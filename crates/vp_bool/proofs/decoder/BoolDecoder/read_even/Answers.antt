use Rattle.std.proofs.Math.Dec.{leb}
use Rattle.std.proofs.Common.{◌≡◌, ℕ, ◌+◌, ◌/◌, ◌≤◌, ◌*◌, ◌%◌, ◌^◌, arith, ◌∙◌, ap}
use Rattle.vp_bool.specs.Bools.{read, split_of}
use Rattle.vp_bool.specs.Window.{window_state}
use Rattle.vp_bool.proofs.LawLemmas.{reads_on}
use Rattle.vp_bool.proofs.MarkLemmas.{range_normal}
use Rattle.vp_bool.proofs.PartLemmas.{IsPart, part_true, part_false, whole_bound, test}
use Rattle.vp_bool.proofs.decoder.BoolDecoder.read_even.Goals as goal
use Rattle.vp_bool.proofs.decoder.BoolDecoder.read_even.Goals.{then-bit, else-bit, Joined-bit, After-from-bound}

half : (r : ℕ) → 128 ≤ r → (r + 1) / 2 ≡ split_of 128 r
half r normal = omega arith

bound : (c : Joined-bit) → c.from-bound.result * 2 ^ 56 % 2 ^ 64 ≡ split_of 128 c.self.inside.window.range * 2 ^ 56
bound c =
    let w = c.self.inside.window in
    let good = c.self.invariant in
    whole_bound 128 w.value w.range w.count w.rest.now (omega arith) good.aligned good.few good.sound good.bytes c.from-bound.result
    (c.from-bound.ensures ∙ half w.range (range_normal w.value w.range w.count w.rest.now good.sound).0)

part : (c : Joined-bit) → IsPart 128 (window_state c.self.inside.window) (read 128 (window_state c.self.inside.window)).0 c.if-bit.value.0 c.if-bit.value.1 c.self.inside.window.count c.self.inside.window.rest.now
part c =
    let w = c.self.inside.window in
    let good = c.self.invariant in
    let b = bound c in
    let h = half w.range (range_normal w.value w.range w.count w.rest.now good.sound).0 in
    elim c.if-bit.branch [
      | then-bit v ↦
          let p = part_true 128 w.value w.range w.count w.rest.now (omega arith) good.aligned good.few good.sound good.bytes (rw (← b) v.if-bit.true) in
          rw (v.value-is, b, h, ← p.value) p
      | else-bit v ↦
          let p = part_false 128 w.value w.range w.count w.rest.now (omega arith) good.aligned good.few good.sound good.bytes (rw (← b) v.if-bit.false) in
          rw (v.value-is, h, ← p.value) p
    ]

pub renormalised-self-inside-requires-clause-aligned : goal.renormalised-self-inside-requires-clause-aligned
renormalised-self-inside-requires-clause-aligned c = (part (goal.at.renormalised-self-inside-requires-clause-aligned c).Joined-bit).aligned

pub renormalised-self-inside-requires-clause-taken : goal.renormalised-self-inside-requires-clause-taken
renormalised-self-inside-requires-clause-taken c = (part (goal.at.renormalised-self-inside-requires-clause-taken c).Joined-bit).taken

value : (c : Joined-bit) → leb (c.from-bound.result * 2 ^ 56 % 2 ^ 64) c.self.inside.window.value ≡ (read 128 c.args.self.now).0
value c =
    let w = c.self.inside.window in
    let good = c.self.invariant in
    rw (bound c)
    (test 128 w.value w.range w.count w.rest.now (omega arith) good.aligned good.few good.sound good.bytes ∙ ap (λ s. (read 128 s).0) c.self.view_is)

pub returns-clause-value : goal.returns-clause-value
returns-clause-value c = value (goal.at.returns-clause-value c).Joined-bit

pub returns-clause-rest : goal.returns-clause-rest
returns-clause-rest c =
    c.renormalised-self-inside.ensures.after ∙ (part (goal.at.returns-clause-rest c).Joined-bit).after ∙ ap (λ s. (read 128 s).1) c.self.view_is

pub returns-clause-run : goal.returns-clause-run
returns-clause-run c =
    let j = (goal.at.returns-clause-run c).Joined-bit in
    reads_on 128 c.args.self.now _ _ (omega arith) (value j) (c.renormalised-self-inside.ensures.after ∙ (part j).after ∙ ap (λ s. (read 128 s).1) c.self.view_is)
