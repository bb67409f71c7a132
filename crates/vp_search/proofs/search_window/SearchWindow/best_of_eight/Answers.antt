use Rattle.std.proofs.Common.{◌≡◌, ℕ, ◌+◌, ◌-◌, sym, arith, subst, inl, inr, rules}
use Rattle.std.proofs.lemmas.Bool.{cases_eq}
use Rattle.vp_search.specs.declared.vector.Found.{Found}
use Rattle.vp_search.specs.Window.{vector_at}
use Rattle.vp_search.specs.Search.{cost_in, IsNoWorseAt}
use Rattle.vp_search.proofs.OrderLemmas.{along, same, less_cost}
use Rattle.vp_search.proofs.search_window.SearchWindow.best_of_eight.Goals as goal

pub loop-left-init : goal.loop-left-init
loop-left-init c =
    let w = c.args.self.now in let i = c.args.spot.row in let j : ℕ = c.args.spot.column in
    let best : Found = c.args.best.now in
    record {
      few = c.within-left.ensures.eight;
      found = λ is. is;
      better = same best.cost best.vector;
      seen = λ t h clear within.
          let above = c.within-left.ensures.others t h clear in
          let low = c.requires.bounds t h within in
          less_cost best.cost best.vector (cost_in w (vector_at w.range i (j + t))) (vector_at w.range i (j + t)) (omega arith);
    }

pub loop-left-preserved : goal.loop-left-preserved
loop-left-preserved c =
    let w = c.args.self.now in let i = c.args.spot.row in let j : ℕ = c.args.spot.column in
    let t : ℕ = c.take_first-t.result.0 in
    let f : Found = c.loop-left.best in let g : Found = c.better_by_bound-next.result in
    let inv = c.loop-left.invariant in
    let step = c.better_by_bound-next.ensures in
    record {
      few = (let fewer = c.take_first-t.ensures.fewer in let few = inv.few in omega arith);
      found = λ is. step.found (inv.found is);
      better = along g.cost g.vector f.cost f.vector c.args.best.now.cost c.args.best.now.vector step.better inv.better;
      seen = λ q h clear within. elim (cases_eq q t) [
        | inl e ↦ subst (λ (k : ℕ). IsNoWorseAt w g i (j + k)) (sym e) (step.seen (j + t) (omega arith) (omega arith) (omega arith))
        | inr other ↦ along g.cost g.vector f.cost f.vector (cost_in w (vector_at w.range i (j + q))) (vector_at w.range i (j + q)) step.better
            (inv.seen q h (c.take_first-t.ensures.others q h clear other) within)
      ];
    }

pub returns : goal.returns
returns c =
    let w = c.args.self.now in let i = c.args.spot.row in let j : ℕ = c.args.spot.column in
    let f : Found = c.loop-left.best in
    let inv = c.loop-left.invariant in
    record {
      found = inv.found;
      better = inv.better;
      seen = λ q low high within.
          let e : j + (q - j) ≡ q = omega arith in
          subst (λ (k : ℕ). IsNoWorseAt w f i k) e (inv.seen (q - j) (omega arith) (search rules) (omega arith));
    }
