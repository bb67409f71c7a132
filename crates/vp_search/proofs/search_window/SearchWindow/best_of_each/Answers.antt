use Rattle.std.proofs.Common.{ℕ, ◌+◌, ◌*◌, arith, rules}
use Rattle.vp_search.specs.declared.vector.Found.{Found}
use Rattle.vp_search.proofs.SearchLemmas.{none_seen, skipped, further}
use Rattle.vp_search.proofs.search_window.SearchWindow.best_of_each.Goals as goal

pub loop-next-init : goal.loop-next-init
loop-next-init g c = record { bound = omega arith; seen = none_seen c.args.self.now c.args.row 0 c.args.best }

pub loop-next-preserved : goal.loop-next-preserved
loop-next-preserved g c =
    let w = c.args.self.now in let i = c.args.row in
    let p : ℕ = c.in-Some.next.column in
    let f : Found = c.loop-next.found in let h : Found = c.better_by_cost-found.result in
    let place = c.in-Some.ensures.place in
    record {
      bound = omega arith;
      seen = further w i 0 p (p + 1) c.args.best f h
          (further w i 0 c.loop-next.from p c.args.best f f c.loop-next.invariant.seen (skipped w i c.loop-next.from p f c.in-Some.ensures.skipped))
          c.better_by_cost-found.ensures;
    }

pub returns : goal.returns
returns g c =
    let w = c.args.self.now in let i = c.args.row in
    let f : Found = c.loop-next.found in
    further w i 0 c.loop-next.from (2 * w.range + 1) c.args.best f f c.loop-next.invariant.seen
    (skipped w i c.loop-next.from (2 * w.range + 1) f (c.in_default.ensures.none (search rules)))
