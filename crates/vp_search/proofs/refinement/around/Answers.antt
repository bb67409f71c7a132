use Rattle.std.proofs.Common.{◌≡◌, ℤ, ◌+ℤ◌, ◌-ℤ◌, to_z, of_z, w32, arith}
use Rattle.std.proofs.lemmas.Int.{ints}
use Rattle.vp_search.proofs.refinement.around.Goals as goal

pub returns : goal.returns
returns c =
    let r : ℤ = c.args.centre.row in
    let k : ℤ = c.args.centre.column in
    let d : ℤ = c.args.distance in
    let er : to_z w32 (of_z w32 r) ≡ r = omega (arith, ints) in
    let ek : to_z w32 (of_z w32 k) ≡ k = omega (arith, ints) in
    let ed : to_z w32 (of_z w32 d) ≡ d = omega (arith, ints) in
    let ra : to_z w32 (of_z w32 (r -ℤ d)) ≡ r -ℤ d = omega (arith, ints) in
    let rb : to_z w32 (of_z w32 (r +ℤ d)) ≡ r +ℤ d = omega (arith, ints) in
    let ka : to_z w32 (of_z w32 (k -ℤ d)) ≡ k -ℤ d = omega (arith, ints) in
    let kb : to_z w32 (of_z w32 (k +ℤ d)) ≡ k +ℤ d = omega (arith, ints) in
    rw (er, ek, ed, ra, rb, ka, kb)
