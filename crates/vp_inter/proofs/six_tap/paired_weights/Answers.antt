use Rattle.std.proofs.Common.{◌≡◌, ◌∙◌, ◌++◌, ◌∷◌, ◌<◌, [], List, ℕ, ℤ, map, length, get_or, refl, sym, subst, lit<, to_z, of_z, w8}
use Rattle.vp_lanes.specs.Lane.{lane}
use Rattle.vp_inter.specs.Narrow.{weight, SumsFitI16}
use Rattle.vp_inter.proofs.LongLanes.{by_eight, taken, six_of}
use Rattle.vp_inter.proofs.six_tap.paired_weights.Goals as goal

-- the byte at a place of a swizzle
abbrev swizzled : List ℤ → ℕ → ℤ
swizzled b k = to_z w8 (get_or (map (of_z w8) b ++ map (of_z w8) b) k 0)

six_swizzled : (b w : List ℤ) → length w ≡ 6 → ((k : ℕ) → k < 8 → swizzled b k ≡ lane b k) → (lane b 0 ≡ weight w 0) × (lane b 3 ≡ weight w 3) → (lane b 1 ≡ weight w 1) × (lane b 6 ≡ weight w 4)
    → (lane b 2 ≡ weight w 2) × (lane b 7 ≡ weight w 5) → swizzled b 0 ∷ swizzled b 1 ∷ swizzled b 2 ∷ swizzled b 3 ∷ swizzled b 6 ∷ swizzled b 7 ∷ [] ≡ w
six_swizzled b w long at first second third =
    six_of w _ _ _ _ _ _ long (at 0 (lit< tt) ∙ first.0) (at 1 (lit< tt) ∙ second.0) (at 2 (lit< tt) ∙ third.0) (at 3 (lit< tt) ∙ first.1) (at 6 (lit< tt) ∙ second.1) (at 7 (lit< tt) ∙ third.1)

pub invariant_of-result : goal.invariant_of-result
invariant_of-result c =
    let b = c.byte_weights-bytes in
    let w = c.args.weights in
    record {
      turns = (
        by_eight _ (refl, refl) (refl, refl) (refl, refl) (refl, refl) (refl, refl) (refl, refl) (refl, refl) (refl, refl),
        by_eight _ (refl, refl) (refl, refl) (refl, refl) (refl, refl) (refl, refl) (refl, refl) (refl, refl) (refl, refl),
        by_eight _ (refl, refl) (refl, refl) (refl, refl) (refl, refl) (refl, refl) (refl, refl) (refl, refl) (refl, refl),
      );
      gentle = subst SumsFitI16 (sym (six_swizzled b.result w.six.now w.count (taken b.result _ b.type_inv) b.ensures.first b.ensures.second b.ensures.third)) w.gentle;
    }

pub returns : goal.returns
returns c =
    let b = c.byte_weights-bytes in
    six_swizzled b.result c.args.weights.six.now c.args.weights.count (taken b.result _ b.type_inv) b.ensures.first b.ensures.second b.ensures.third
