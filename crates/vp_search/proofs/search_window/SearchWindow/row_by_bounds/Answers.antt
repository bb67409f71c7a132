use Rattle.std.proofs.Common.{◌≡◌, ℕ, ◌+◌, ◌*◌, ◌/◌, subst, arith, rules}
use Rattle.vp_search.specs.declared.vector.Found.{Found}
use Rattle.vp_search.specs.Search.{IsBestInRow}
use Rattle.vp_search.proofs.BoundLemmas.{bounds_are, bounds_above}
use Rattle.vp_search.proofs.SearchLemmas.{none_seen, skipped, further}
use Rattle.vp_search.proofs.search_window.SearchWindow.row_by_bounds.Goals as goal

pub best_of_eight-requires-clause-bounds : goal.best_of_eight-requires-clause-bounds
best_of_eight-requires-clause-bounds c t h within =
    bounds_are c.args.self.now c.args.sums.places.now c.args.sums.block c.in-Some.next.bounds c.args.row (8 * c.in-Some.next.number)
    (c.args.self.now.summed c.args.sums c.requires.sums).0 (c.args.self.now.summed c.args.sums c.requires.sums).1 c.requires.row c.in-Some.ensures.bounds t h within

pub loop-next-init : goal.loop-next-init
loop-next-init c = record { few = omega arith; within = omega arith; seen = none_seen c.args.self.now c.args.row 0 c.args.best }

pub loop-next-preserved : goal.loop-next-preserved
loop-next-preserved c =
    let w = c.args.self.now in let i = c.args.row in
    let m : ℕ = c.in-Some.next.number in let g : ℕ = c.loop-next.g in
    let f : Found = c.loop-next.found in let h : Found = c.best_of_eight.new.best in
    let inv = c.loop-next.invariant in
    let place = c.in-Some.ensures.place in
    let counted = inv.few in
    let one = c.below_best-passed.ensures in
    let e : 8 * m + 8 ≡ 8 * (m + 1) = omega arith in
    record {
      few = omega arith;
      within = omega arith;
      seen = further w i 0 (8 * m) (8 * (m + 1)) c.args.best f h
          (further w i 0 (8 * g) (8 * m) c.args.best f f inv.seen
          (skipped w i (8 * g) (8 * m) f
          (bounds_above w c.args.sums.places.now c.args.sums.block i g m f.cost (c.args.self.now.summed c.args.sums c.requires.sums).0 (c.args.self.now.summed c.args.sums c.requires.sums).1 c.requires.row c.in-Some.ensures.skipped)))
          (subst (λ (k : ℕ). IsBestInRow w i (8 * m) k f h) e c.best_of_eight.ensures);
    }

pub returns : goal.returns
returns c =
    let w = c.args.self.now in let i = c.args.row in
    let f : Found = c.loop-next.found in let g : ℕ = c.loop-next.g in
    let m : c.from.result ≡ w.range = c.from.ensures in
    further w i 0 (8 * g) (2 * w.range + 1) c.args.best f f c.loop-next.invariant.seen
    (skipped w i (8 * g) (2 * w.range + 1) f
    (λ j low high within. bounds_above w c.args.sums.places.now c.args.sums.block i g (c.from.result / 4 + 1) f.cost (c.args.self.now.summed c.args.sums c.requires.sums).0 (c.args.self.now.summed c.args.sums c.requires.sums).1 c.requires.row
    (c.in_default.ensures.none (search rules)) j low (omega arith) within))
