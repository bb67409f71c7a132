use Rattle.std.proofs.Common.{ℕ, ◌+◌, ◌-◌, arith}
use Rattle.vp_search.proofs.SearchLemmas.{first_seen, rows_seen, best_within}
use Rattle.vp_search.proofs.search_window.SearchWindow.search.Goals as goal

pub loop-d-init : goal.loop-d-init
loop-d-init c = record {
  found = c.search_row-progress.ensures.found (c.requires.first.0, λ below. omega (arith, c.requires.first.1 (omega arith)));
  seen = first_seen c.args.self.now c.from-middle.result _ c.search_row-progress.result.best c.from-middle.ensures c.search_row-progress.ensures;
}

pub loop-d-preserved : goal.loop-d-preserved
loop-d-preserved c =
    let d = c.loop-d.d in
    let m : ℕ = c.from-middle.result in
    record {
      found = c.search_row-progress-in-loop-d-2.ensures.found (c.search_row-progress-in-loop-d.ensures.found c.loop-d.invariant.found);
      seen = rows_seen c.args.self.now d (m - d) (m + d) c.loop-d.progress.best c.search_row-progress-in-loop-d.result.best c.search_row-progress-in-loop-d-2.result.best
          (omega arith) (omega arith) c.loop-d.invariant.seen c.search_row-progress-in-loop-d.ensures c.search_row-progress-in-loop-d-2.ensures;
    }

pub returns-then-is_best_beyond : goal.returns-then-is_best_beyond
returns-then-is_best_beyond c =
    best_within c.args.self.now c.loop-d.d c.loop-d.progress.best c.loop-d.invariant.found c.loop-d.invariant.seen
    (λ k v far near. c.is_best_beyond.ensures c.if-is_best_beyond.true k v far)

pub returns : goal.returns
returns c =
    best_within c.args.self.now c.loop-d.d c.loop-d.progress.best c.loop-d.invariant.found c.loop-d.invariant.seen (λ k v far near. absurd (omega arith))
