use Rattle.std.proofs.Common.{◌≡◌, ℕ, ◌+◌, ◌*◌, arith, rules, subst}
use Rattle.vp_search.specs.declared.vector.Found.{Found}
use Rattle.vp_search.specs.Search.{IsBestInRow}
use Rattle.vp_search.proofs.SearchLemmas.{none_seen, skipped, further}
use Rattle.vp_search.proofs.search_window.SearchWindow.best_of_pairs.Goals as goal

pub loop-pair-init : goal.loop-pair-init
loop-pair-init c = record { bound = omega arith; seen = none_seen c.args.self.now c.args.row 0 c.args.best }

pub loop-pair-preserved : goal.loop-pair-preserved
loop-pair-preserved c =
    let w = c.args.self.now in let i = c.args.row in
    let p : ℕ = c.in-Some.pair.number in
    let f : Found = c.loop-pair.found in let g : Found = c.better-found.result in let h : Found = c.better-found-in-Some.result in
    let inv = c.loop-pair.invariant in
    let place = c.in-Some.ensures.place in
    let e : 2 * p + 1 + 1 ≡ 2 * (p + 1) = omega arith in
    record {
      bound = omega arith;
      seen = subst (λ (k : ℕ). IsBestInRow w i 0 k c.args.best h) e
          (further w i 0 (2 * p + 1) (2 * p + 1 + 1) c.args.best g h
          (further w i 0 (2 * p) (2 * p + 1) c.args.best f g
          (further w i 0 (2 * c.loop-pair.from) (2 * p) c.args.best f f inv.seen (skipped w i (2 * c.loop-pair.from) (2 * p) f c.in-Some.ensures.skipped))
          c.better-found.ensures)
          c.better-found-in-Some.ensures);
    }

pub returns : goal.returns
returns c =
    let w = c.args.self.now in let i = c.args.row in
    let f : Found = c.loop-pair.found in let g : Found = c.better.result in
    let inv = c.loop-pair.invariant in
    let n : ℕ = c.from-column.result in
    let m : n ≡ w.range = c.from-column.ensures in
    let before : IsBestInRow w i 0 (2 * w.range) c.args.best f =
    further w i 0 (2 * c.loop-pair.from) (2 * w.range) c.args.best f f inv.seen (skipped w i (2 * c.loop-pair.from) (2 * w.range) f (c.in_default.ensures.none (search rules))) in
    further w i 0 (2 * w.range) (2 * w.range + 1) c.args.best f g before
    (subst (λ (k : ℕ). IsBestInRow w i (2 * k) (2 * k + 1) f g) m c.better.ensures)
