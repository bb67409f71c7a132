use Rattle.std.proofs.Common.{◌<◌, ◌≡◌, ℕ, List, [], w8, length, slice_index_or, arith}
use Rattle.vp_loop.proofs.ArrayLemmas.{long_rows}
use Rattle.vp_loop.proofs.TransposeLemmas.{below_eight, front, back}
use Rattle.vp_loop.proofs.transpose.transpose.Goals as goal

pub returns-clause-first : goal.returns-clause-first
returns-clause-first c =
    let a : (j : ℕ) → List ℕ = λ j. slice_index_or c.args.first j [] in
    let b : (j : ℕ) → List ℕ = λ j. slice_index_or c.args.second j [] in
    let long : (j : ℕ) → j < 8 → length (a j) ≡ 8 = long_rows w8 8 8 c.args.first _ c.well_formed.0 in
    below_eight _ (front (a 0) (b 0) (long 0 (omega arith))) (front (a 1) (b 1) (long 1 (omega arith))) (front (a 2) (b 2) (long 2 (omega arith))) (front (a 3) (b 3) (long 3 (omega arith)))
    (front (a 4) (b 4) (long 4 (omega arith))) (front (a 5) (b 5) (long 5 (omega arith))) (front (a 6) (b 6) (long 6 (omega arith))) (front (a 7) (b 7) (long 7 (omega arith)))

pub returns-clause-second : goal.returns-clause-second
returns-clause-second c =
    let a : (j : ℕ) → List ℕ = λ j. slice_index_or c.args.first j [] in
    let b : (j : ℕ) → List ℕ = λ j. slice_index_or c.args.second j [] in
    let long : (j : ℕ) → j < 8 → length (a j) ≡ 8 = long_rows w8 8 8 c.args.first _ c.well_formed.0 in
    below_eight _ (back (a 0) (b 0) (long 0 (omega arith))) (back (a 1) (b 1) (long 1 (omega arith))) (back (a 2) (b 2) (long 2 (omega arith))) (back (a 3) (b 3) (long 3 (omega arith)))
    (back (a 4) (b 4) (long 4 (omega arith))) (back (a 5) (b 5) (long 5 (omega arith))) (back (a 6) (b 6) (long 6 (omega arith))) (back (a 7) (b 7) (long 7 (omega arith)))
