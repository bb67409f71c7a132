use Rattle.std.proofs.Common.{◌≡◌, ◌∙◌, ℕ, ◌+◌, ◌-◌, ◌*◌, ◌/◌, ◌%◌, ◌<◌, List, ap, sym, get_or, arith, inl, inr}
use Rattle.std.proofs.lemmas.Bool.{cases_lt}
use Rattle.vp_inter.specs.Patches.{weights_of}
use Rattle.vp_inter.proofs.WideLemmas.{from_three}
use Rattle.vp_inter.proofs.six_tap.vertical_sixteen.Goals as goal

pub returns : goal.returns
returns c j h =
    let s : List ℕ = c.args.pairs.now in
    let pixel : ℕ → ℕ = λ (k : ℕ). get_or s (c.args.at + 32 * (k % 3) + (2 * j + k / 3)) 0 in
    elim (cases_lt j 8) [
      | inl less ↦
          c.joined_halves.ensures.front j less ∙ c.filtered_pairs.ensures j less
          ∙ from_three (weights_of c.args.weights.now) c.load.result c.load-2.result c.load-3.result (2 * j) pixel
          (λ t tin. c.load.ensures (2 * j + t) (omega arith) ∙ ap (λ (i : ℕ). get_or s i 0) (let e : c.args.at + (2 * j + t) ≡ c.args.at + 32 * ((3 * t) % 3) + (2 * j + (3 * t) / 3) = omega arith in e))
          (λ t tin. c.load-2.ensures (2 * j + t) (omega arith) ∙ ap (λ (i : ℕ). get_or s i 0) (let e : c.args.at + 32 + (2 * j + t) ≡ c.args.at + 32 * ((3 * t + 1) % 3) + (2 * j + (3 * t + 1) / 3) = omega arith in e))
          (λ t tin. c.load-3.ensures (2 * j + t) (omega arith) ∙ ap (λ (i : ℕ). get_or s i 0) (let e : c.args.at + 64 + (2 * j + t) ≡ c.args.at + 32 * ((3 * t + 2) % 3) + (2 * j + (3 * t + 2) / 3) = omega arith in e))
      | inr more ↦
          let low : j - 8 < 8 = omega arith in
          let z : 8 + (j - 8) ≡ j = omega arith in
          ap (λ (i : ℕ). get_or c.joined_halves.result i 0) (sym z)
          ∙ c.joined_halves.ensures.back (j - 8) low ∙ c.filtered_pairs-2.ensures (j - 8) low
          ∙ from_three (weights_of c.args.weights.now) c.load-4.result c.load-5.result c.load-6.result (2 * (j - 8)) pixel
          (λ t tin. c.load-4.ensures (2 * (j - 8) + t) (omega arith) ∙ ap (λ (i : ℕ). get_or s i 0) (let e : c.args.at + 16 + (2 * (j - 8) + t) ≡ c.args.at + 32 * ((3 * t) % 3) + (2 * j + (3 * t) / 3) = omega arith in e))
          (λ t tin. c.load-5.ensures (2 * (j - 8) + t) (omega arith) ∙ ap (λ (i : ℕ). get_or s i 0) (let e : c.args.at + 48 + (2 * (j - 8) + t) ≡ c.args.at + 32 * ((3 * t + 1) % 3) + (2 * j + (3 * t + 1) / 3) = omega arith in e))
          (λ t tin. c.load-6.ensures (2 * (j - 8) + t) (omega arith) ∙ ap (λ (i : ℕ). get_or s i 0) (let e : c.args.at + 80 + (2 * (j - 8) + t) ≡ c.args.at + 32 * ((3 * t + 2) % 3) + (2 * j + (3 * t + 2) / 3) = omega arith in e))
    ]
