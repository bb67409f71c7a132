use Rattle.std.proofs.Common.{◌≡◌, ◌∙◌, ◌+◌, ◌≤◌, ◌*◌, length, take, ap₂, sym, arith}
use Rattle.std.proofs.lemmas.List.{length-take}
use Rattle.vp_encode.proofs.DistanceLemmas.{squares-none, squares-row}
use Rattle.vp_encode.proofs.distance.plane_distance.Goals as goal

pub loop-y-init : goal.loop-y-init
loop-y-init c = record { value = sym (squares-none c.args.a.now c.args.b.now c.args.width); bound = omega arith }

pub loop-y-preserved : goal.loop-y-preserved
loop-y-preserved c =
    let long : length (take c.args.width c.row.result.now) ≡ c.args.width = length-take c.args.width c.row.result.now ∙ omega arith in
    let one : c.sse-sum.result ≤ 65025 * length (take c.args.width c.row.result.now) = c.sse-sum.ensures.bound in
    record {
      value = ap₂ (λ x y. x + y) c.loop-y.invariant.value c.sse-sum.ensures.value
          ∙ squares-row c.args.a.now c.args.b.now c.args.width c.loop-y.y c.row.result.now c.row-in-loop-y.result.now c.row.ensures.value c.row-in-loop-y.ensures.value c.row.ensures.len c.row-in-loop-y.ensures.len c.requires.columns.0 c.requires.columns.1;
      bound = omega arith;
    }
