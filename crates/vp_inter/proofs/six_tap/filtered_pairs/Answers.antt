use Rattle.std.proofs.Common.{◌≡◌, ◌∙◌, ℕ, ◌+◌, ◌*◌, ◌/◌, ◌%◌, ◌<◌, ℤ, pos, ◌+ℤ◌, ◌-ℤ◌, List, length, map, to_z, of_z, get_or, ap, sym, subst, refl, arith, Fits, w8, w16}
use Rattle.std.proofs.lemmas.Int.{ints}
use lib.Lanes.{Each1}
use Rattle.vp_lanes.specs.Lane.{lane}
use Rattle.vp_lanes.proofs.Shape.{lane_fits}
use Rattle.vp_inter.specs.Narrow.{IsShort, weight, pair, sum_of_six, ArePairable, SumsFitI16}
use Rattle.vp_inter.specs.Patches.{weights_of}
use Rattle.vp_inter.specs.Turns.{one_of_three, AreByTurns}
use Rattle.vp_inter.proofs.LongLanes.{passed, byte_kept, sum_same}
use Rattle.vp_inter.proofs.NarrowLemmas.{pair_same, pairable_fits, pairables, far_fits, far_is, whole_is}
use Rattle.vp_inter.proofs.six_tap.filtered_pairs.Goals as goal

-- the products of two bytes and two weights that take turns
module _ (xs : List ℕ) (ws : List ℤ) (turns : AreByTurns ws) (fits : ArePairable (lane ws 0) (lane ws 1)) (j : ℕ) (h : j < 8) where
  turned : pair (get_or xs (2 * j) 0) (get_or xs (2 * j + 1) 0) (lane (map (to_z w8) (map (of_z w8) ws)) (2 * j)) (lane (map (to_z w8) (map (of_z w8) ws)) (2 * j + 1))
      ≡ pair (get_or xs (2 * j + 0) 0) (get_or xs (2 * j + 1) 0) (lane ws 0) (lane ws 1)
  turned =
      pair_same _ _ _ _ _ _ _ _ (ap (λ (i : ℕ). get_or xs i 0) (let e : 2 * j ≡ 2 * j + 0 = omega arith in e)) refl
      (byte_kept ws (2 * j) (lane ws 0) _ (turns j h).0 (omega (arith, ints), omega (arith, ints)) refl)
      (byte_kept ws (2 * j + 1) (lane ws 1) _ (turns j h).1 (omega (arith, ints), omega (arith, ints)) refl)

  turned_fits : get_or xs (2 * j + 0) 0 < 256 → get_or xs (2 * j + 1) 0 < 256
      → IsShort (pair (get_or xs (2 * j) 0) (get_or xs (2 * j + 1) 0) (lane (map (to_z w8) (map (of_z w8) ws)) (2 * j)) (lane (map (to_z w8) (map (of_z w8) ws)) (2 * j + 1)))
  turned_fits a b = subst (λ (z : ℤ). IsShort z) (sym turned) (pairable_fits _ _ _ _ fits a b)

module _ (w : List ℤ) (a b c : List ℕ) (gentle : SumsFitI16 w) (j : ℕ) (x y z : ℤ)
    (first : x ≡ pair (get_or a (2 * j + 0) 0) (get_or a (2 * j + 1) 0) (weight w 0) (weight w 3))
    (second : y ≡ pair (get_or b (2 * j + 0) 0) (get_or b (2 * j + 1) 0) (weight w 1) (weight w 4))
    (third : z ≡ pair (get_or c (2 * j + 0) 0) (get_or c (2 * j + 1) 0) (weight w 2) (weight w 5)) where
  summed : x -ℤ pos 16320 +ℤ y +ℤ z ≡ sum_of_six w (λ k. get_or (one_of_three a b c (k % 3)) (2 * j + k / 3) 0)
  summed = sum_same _ _ _ _ (sum_same _ _ _ _ (ap (λ (n : ℤ). n -ℤ pos 16320) first) second) third ∙ far_is w (λ k. get_or (one_of_three a b c (k % 3)) (2 * j + k / 3) 0)

  summed_fits : j < 8 → ((i : ℕ) → i < 16 → get_or a i 0 < 256) → ((i : ℕ) → i < 16 → get_or b i 0 < 256) → ((i : ℕ) → i < 16 → get_or c i 0 < 256)
      → IsShort (x -ℤ pos 16320) × IsShort (x -ℤ pos 16320 +ℤ y) × IsShort (x -ℤ pos 16320 +ℤ y +ℤ z)
  summed_fits h ba bb bc =
      let fits = far_fits w _ _ _ _ _ _ gentle (ba (2 * j + 0) (omega arith)) (bb (2 * j + 0) (omega arith)) (bc (2 * j + 0) (omega arith)) (ba (2 * j + 1) (omega arith)) (bb (2 * j + 1) (omega arith)) (bc (2 * j + 1) (omega arith)) in
      rw (first, second, third) fits

bytes : (xs : List ℕ) → length xs ≡ 16 → Each1 (Fits w8) xs → (i : ℕ) → i < 16 → get_or xs i 0 < 256
bytes xs long all i m = (lane_fits (Fits w8) 0 16 xs long all i m).fits

pub pair_sums-requires : goal.pair_sums-requires
pair_sums-requires c j h =
    let byte = bytes c.args.a c.fits-a.0 c.fits-a.1 in
    turned_fits c.args.a c.args.weights.now.first c.args.weights.now.turns.0 (pairables (weights_of c.args.weights.now) c.args.weights.now.gentle).0 j h (byte (2 * j + 0) (omega arith)) (byte (2 * j + 1) (omega arith))

pub pair_sums-requires-2 : goal.pair_sums-requires-2
pair_sums-requires-2 c j h =
    let byte = bytes c.args.b c.fits-b.0 c.fits-b.1 in
    turned_fits c.args.b c.args.weights.now.second c.args.weights.now.turns.1 (pairables (weights_of c.args.weights.now) c.args.weights.now.gentle).1 j h (byte (2 * j + 0) (omega arith)) (byte (2 * j + 1) (omega arith))

pub pair_sums-requires-3 : goal.pair_sums-requires-3
pair_sums-requires-3 c j h =
    let byte = bytes c.args.c c.fits-c.0 c.fits-c.1 in
    turned_fits c.args.c c.args.weights.now.third c.args.weights.now.turns.2 (pairables (weights_of c.args.weights.now) c.args.weights.now.gentle).2 j h (byte (2 * j + 0) (omega arith)) (byte (2 * j + 1) (omega arith))

pub sum_of_three-requires : goal.sum_of_three-requires
sum_of_three-requires c =
    let weights = c.args.weights.now in
    let fit = pairables (weights_of weights) weights.gentle in
    let all = λ (j : ℕ) (h : j < 8). summed_fits (weights_of weights) c.args.a c.args.b c.args.c weights.gentle j _ _ _
    (passed w16 8 c.pair_sums.result _ c.pair_sums.type_inv j h ∙ c.pair_sums.ensures j h ∙ turned c.args.a weights.first weights.turns.0 fit.0 j h)
    (passed w16 8 c.pair_sums-2.result _ c.pair_sums-2.type_inv j h ∙ c.pair_sums-2.ensures j h ∙ turned c.args.b weights.second weights.turns.1 fit.1 j h)
    (passed w16 8 c.pair_sums-3.result _ c.pair_sums-3.type_inv j h ∙ c.pair_sums-3.ensures j h ∙ turned c.args.c weights.third weights.turns.2 fit.2 j h)
    h (bytes c.args.a c.fits-a.0 c.fits-a.1) (bytes c.args.b c.fits-b.0 c.fits-b.1) (bytes c.args.c c.fits-c.0 c.fits-c.1) in
    record { first = λ j h. (all j h).0; both = λ j h. (all j h).1; all = λ j h. (all j h).2 }

pub returns : goal.returns
returns c j h =
    let weights = c.args.weights.now in
    let fit = pairables (weights_of weights) weights.gentle in
    c.rounded_pixels.ensures j h
    ∙ whole_is (weights_of weights) (λ k. get_or (one_of_three c.args.a c.args.b c.args.c (k % 3)) (2 * j + k / 3) 0) _
    (passed w16 8 c.sum_of_three.result _ c.sum_of_three.type_inv j h ∙ c.sum_of_three.ensures j h
    ∙ summed (weights_of weights) c.args.a c.args.b c.args.c weights.gentle j _ _ _
    (passed w16 8 c.pair_sums.result _ c.pair_sums.type_inv j h ∙ c.pair_sums.ensures j h ∙ turned c.args.a weights.first weights.turns.0 fit.0 j h)
    (passed w16 8 c.pair_sums-2.result _ c.pair_sums-2.type_inv j h ∙ c.pair_sums-2.ensures j h ∙ turned c.args.b weights.second weights.turns.1 fit.1 j h)
    (passed w16 8 c.pair_sums-3.result _ c.pair_sums-3.type_inv j h ∙ c.pair_sums-3.ensures j h ∙ turned c.args.c weights.third weights.turns.2 fit.2 j h))
