use Rattle.std.proofs.Common.{ℕ, ◌+◌, arith}
use Rattle.vp_inter.specs.Filter.{filter_six}
use Rattle.vp_inter.specs.Patches.{weights_of}
use Rattle.vp_inter.proofs.WrittenLemmas.{none_written}
use Rattle.vp_inter.proofs.panel.vertical_from_panel.Goals as goal

pub returns : goal.returns
returns c pixel panel =
    let value : ℕ → ℕ → ℕ = λ (y x : ℕ). filter_six (weights_of c.args.filter.now.weights) (λ k. pixel (y + k) x) in
    let old = c.args.pixels.now in
    let p0 = c.pair_of-p0.ensures pixel 0 5 panel.0 (omega arith) in
    let p1 = c.pair_of-p1.ensures pixel 1 4 panel.1 (omega arith) in
    let p2 = c.pair_of-p2.ensures pixel 2 4 panel.2 (omega arith) in
    let p3 = c.pair_of-p3.ensures pixel 0 5 panel.0 (omega arith) in
    let p4 = c.pair_of-p4.ensures pixel 1 4 panel.1 (omega arith) in
    let p5 = c.pair_of-p5.ensures pixel 2 4 panel.2 (omega arith) in
    let p6 = c.pair_of-p6.ensures pixel 0 5 panel.0 (omega arith) in
    let p7 = c.pair_of-p7.ensures pixel 1 4 panel.1 (omega arith) in
    let p8 = c.pair_of-p8.ensures pixel 2 4 panel.2 (omega arith) in
    let p9 = c.pair_of-p9.ensures pixel 0 5 panel.0 (omega arith) in
    let one = c.put_two.ensures old value (none_written 8 old c.args.at c.args.stride value) (c.filtered_two-a.ensures.upper pixel 0 p0 p1 p2) (c.filtered_two-a.ensures.lower pixel 1 p1 p2 p3) in
    let two = c.put_two-2.ensures old value one (c.filtered_two-b.ensures.upper pixel 2 p2 p3 p4) (c.filtered_two-b.ensures.lower pixel 3 p3 p4 p5) in
    let three = c.put_two-3.ensures old value two (c.filtered_two-c.ensures.upper pixel 4 p4 p5 p6) (c.filtered_two-c.ensures.lower pixel 5 p5 p6 p7) in
    c.put_two-4.ensures old value three (c.filtered_two-d.ensures.upper pixel 6 p6 p7 p8) (c.filtered_two-d.ensures.lower pixel 7 p7 p8 p9)
