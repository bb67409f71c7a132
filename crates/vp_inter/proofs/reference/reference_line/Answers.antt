use Rattle.std.proofs.Common.{◌≡◌, ◌∙◌, ℕ, ℤ, pos, ◌+◌, ◌-◌, ◌+ℤ◌, List, length, get_or, inl, inr, ap, arith, to_z, of_z, w32}
use Rattle.std.proofs.lemmas.Bool.{cases_lt}
use Rattle.std.proofs.lemmas.Int.{ints}
use Rattle.vp_inter.specs.Inter.{nearest}
use Rattle.vp_inter.specs.Patches.{raster}
use Rattle.vp_inter.proofs.ReferenceLemmas.{line_beyond}
use Rattle.vp_inter.proofs.reference.reference_line.Goals as goal

pub returns : goal.returns
returns c j h =
    let q = c.args.patch.now in
    let near = q.near in
    let line : List ℕ = c.row-line.result.now in
    let at : ℤ → ℕ = λ (z : ℤ). get_or line (nearest (length line) z) 0 in
    let beyond = line_beyond (raster q) line (q.left +ℤ pos j) (q.top +ℤ pos c.args.i) c.row-line.ensures.value c.row-line.ensures.len q.wide.0 in
    elim (cases_lt j 16) [
      | inl front ↦
          c.put_lanes-2.ensures.before j front
          ∙ ap (λ (k : ℕ). get_or c.put_lanes.new.pixels k 0) (let e : j ≡ 0 + j = omega arith in e)
          ∙ c.put_lanes.ensures.here j front ∙ c.sixteen.ensures j front ∙ ap at (omega (arith, ints)) ∙ beyond
      | inr back ↦
          ap (λ (k : ℕ). get_or c.put_lanes-2.new.pixels k 0) (let e : j ≡ 16 + (j - 16) = omega arith in e)
          ∙ c.put_lanes-2.ensures.here (j - 16) (omega arith) ∙ c.sixteen-2.ensures (j - 16) (omega arith) ∙ ap at (omega (arith, ints)) ∙ beyond
    ]

pub returns-then-line-lt16 : goal.returns-then-line-lt16
returns-then-line-lt16 c j h =
    let q = c.args.patch.now in
    let near = q.near in
    let line : List ℕ = c.row-line.result.now in
    c.beyond.ensures.value j h
    ∙ ap (λ (z : ℤ). get_or line (nearest (length line) (z +ℤ pos j)) 0) (let e : to_z w32 (of_z w32 q.left) ≡ q.left = omega (arith, ints) in e)
    ∙ line_beyond (raster q) line (q.left +ℤ pos j) (q.top +ℤ pos c.args.i) c.row-line.ensures.value c.row-line.ensures.len q.wide.0
