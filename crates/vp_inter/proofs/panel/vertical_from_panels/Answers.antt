use Rattle.std.proofs.Common.{◌≡◌, ℕ, List, ◌+◌, ◌*◌, subst, arith}
use Rattle.vp_inter.specs.Filter.{filter_six}
use Rattle.vp_inter.specs.Patches.{weights_of}
use Rattle.vp_inter.specs.Panels.{IsPair}
use Rattle.vp_inter.specs.Written.{IsBlockWritten}
use Rattle.vp_inter.specs.declared.panel.Pair.{Pair}
use Rattle.vp_inter.proofs.WrittenLemmas.{none_written}
use Rattle.vp_inter.proofs.panel.vertical_from_panels.Goals as goal

pub loop-e-init : goal.loop-e-init
loop-e-init c = record {
  done = λ pixel panels. none_written 16 c.args.pixels.now c.args.at c.args.stride (λ r k. filter_six (weights_of c.args.filter.now.weights) (λ j. pixel (r + j) k));
}

pub loop-e-preserved : goal.loop-e-preserved
loop-e-preserved c = record {
  done = λ pixel panels.
      let e : ℕ = c.loop-e.e in
      let at = λ (p : Pair) (n m : ℕ) (is : n ≡ m). subst (λ (i : ℕ). IsPair p pixel i) is in
      let a = c.pair_at-a.ensures pixel 0 panels.0.0 panels.1.0 in
      let b = c.pair_at-b.ensures pixel 1 panels.0.1 panels.1.1 in
      let third = c.pair_at-c.ensures pixel 2 panels.0.2 panels.1.2 in
      let d = c.pair_at-d.ensures pixel 0 panels.0.0 panels.1.0 in
      let f = c.pair_at-f.ensures pixel 1 panels.0.1 panels.1.1 in
      let value : ℕ → ℕ → ℕ = λ (n x : ℕ). filter_six (weights_of c.args.filter.now.weights) (λ j. pixel (n + j) x) in
      let first : List ℕ = c.args.pixels.now in
      let one = c.put_row.ensures first value (c.loop-e.invariant.done pixel panels)
      (c.vertical_row-first.ensures pixel (3 * e) (at c.pair_at-a.result _ _ (omega arith) a) (at c.pair_at-b.result _ _ (omega arith) b) (at c.pair_at-c.result _ _ (omega arith) third)) in
      let two = c.put_row-in-loop-e.ensures first value one
      (c.vertical_row-second.ensures pixel (3 * e + 1) (at c.pair_at-b.result _ _ (omega arith) b) (at c.pair_at-c.result _ _ (omega arith) third) (at c.pair_at-d.result _ _ (omega arith) d)) in
      let three = c.put_row-in-loop-e-2.ensures first value (subst (λ (n : ℕ). IsBlockWritten 16 n first c.put_row-in-loop-e.new.pixels c.args.at c.args.stride value) (let j : 3 * e + 1 + 1 ≡ 3 * e + 2 = omega arith in j) two)
      (c.vertical_row-third.ensures pixel (3 * e + 2) (at c.pair_at-c.result _ _ (omega arith) third) (at c.pair_at-d.result _ _ (omega arith) d) (at c.pair_at-f.result _ _ (omega arith) f)) in
      subst (λ (n : ℕ). IsBlockWritten 16 n first c.put_row-in-loop-e-2.new.pixels c.args.at c.args.stride value) (omega arith) three;
}

pub returns : goal.returns
returns c pixel panels =
    let value : ℕ → ℕ → ℕ = λ (n x : ℕ). filter_six (weights_of c.args.filter.now.weights) (λ j. pixel (n + j) x) in
    let e : 3 * c.loop-e.e ≡ 15 = omega arith in
    c.put_row-2.ensures c.args.pixels.now value (subst (λ (n : ℕ). IsBlockWritten 16 n c.args.pixels.now c.loop-e.pixels c.args.at c.args.stride value) e (c.loop-e.invariant.done pixel panels))
    (c.vertical_row-last.ensures pixel 15 (c.pair_at-a-2.ensures pixel 0 panels.0.0 panels.1.0) (c.pair_at-b-2.ensures pixel 1 panels.0.1 panels.1.1)
    (c.pair_at-c-2.ensures pixel 2 panels.0.2 panels.1.2))
