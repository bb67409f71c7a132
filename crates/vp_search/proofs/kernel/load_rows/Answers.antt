use Rattle.std.proofs.Common.{◌≡◌, ℕ, ◌+◌, ◌*◌, List, arith}
use Rattle.vp_search.proofs.RowLemmas.{lane_at}
use Rattle.vp_search.proofs.kernel.load_rows.Goals as goal

pub returns : goal.returns
returns c =
    let b : List ℕ = c.args.s.now in let y : ℕ = c.args.at in let t : ℕ = c.args.step in
    record {
      first = lane_at c.load16.result b y (y + 0 * t) c.load16.ensures (let e : y ≡ y + 0 * t = omega arith in e);
      second = lane_at c.load16-2.result b (y + t) (y + 1 * t) c.load16-2.ensures (let e : y + t ≡ y + 1 * t = omega arith in e);
      third = lane_at c.load16-3.result b (y + 2 * t) (y + 2 * t) c.load16-3.ensures (let e : y + 2 * t ≡ y + 2 * t = omega arith in e);
      fourth = lane_at c.load16-4.result b (y + 3 * t) (y + 3 * t) c.load16-4.ensures (let e : y + 3 * t ≡ y + 3 * t = omega arith in e);
    }
