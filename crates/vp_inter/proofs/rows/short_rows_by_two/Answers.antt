use Rattle.std.proofs.Common.{◌≡◌, ◌∙◌, ℕ, ◌+◌, ◌-◌, ◌*◌, ap, subst, arith}
use Rattle.vp_inter.specs.Patches.{patch_pass, weights_of}
use Rattle.vp_inter.specs.Written.{IsBlockWritten}
use Rattle.vp_inter.proofs.PassLemmas.{from_zero}
use Rattle.vp_inter.proofs.WrittenLemmas.{none_written, within}
use Rattle.vp_inter.proofs.rows.short_rows_by_two.Goals as goal

pub loop-i-init : goal.loop-i-init
loop-i-init g c = record { done = none_written g.row.N c.args.pixels.now c.args.at c.args.stride (patch_pass (weights_of c.args.filter.now.weights) c.args.patch.now) }

pub put_two-requires : goal.put_two-requires
put_two-requires g c = record {
  size = c.requires.size;
  few = omega arith;
  tight = c.requires.tight;
  upper = omega (arith, c.requires.room (2 * c.loop-i.i) (omega arith), c.loop-i.invariant.done.len);
  lower = omega (arith, c.requires.room (2 * c.loop-i.i + 1) (omega arith), c.loop-i.invariant.done.len);
}

pub loop-i-preserved : goal.loop-i-preserved
loop-i-preserved g c =
    let pixel = patch_pass (weights_of c.args.filter.now.weights) c.args.patch.now in
    let i : ℕ = c.loop-i.i in
    record {
      done = c.put_two.ensures c.args.pixels.now pixel c.loop-i.invariant.done
          (λ k kin. let h = within g.row.N k c.requires.size kin in c.joined_halves-pair.ensures.front k h ∙ c.horizontal_row.ensures 0 c.requires.selects k h ∙ ap (pixel (2 * i)) (from_zero k))
          (λ k kin. let h = within g.row.N k c.requires.size kin in c.joined_halves-pair.ensures.back k h ∙ c.horizontal_row-in-loop-i.ensures 0 c.requires.selects k h ∙ ap (pixel (2 * i + 1)) (from_zero k));
    }

pub put_eight-requires : goal.put_eight-requires
put_eight-requires g c = record { size = c.requires.size; room = omega (arith, c.requires.room (c.args.rows - 1) (omega arith), c.loop-i.invariant.done.len) }

pub returns-then-rows-eq1 : goal.returns-then-rows-eq1
returns-then-rows-eq1 g c =
    let pixel = patch_pass (weights_of c.args.filter.now.weights) c.args.patch.now in
    let rows : ℕ = c.args.rows in
    let even : 2 * c.loop-i.i ≡ rows - 1 = omega arith in
    let all : rows - 1 + 1 ≡ rows = omega arith in
    let at = λ (h : ℕ) (new : _). IsBlockWritten g.row.N h c.args.pixels.now new c.args.at c.args.stride pixel in
    subst (λ (h : ℕ). at h c.put_eight.new.pixels) all
    (c.put_eight.ensures c.args.pixels.now pixel (subst (λ (h : ℕ). at h c.loop-i.pixels) even c.loop-i.invariant.done)
    (λ j jin. c.horizontal_row-row.ensures 0 c.requires.selects j (within g.row.N j c.requires.size jin) ∙ ap (pixel (rows - 1)) (from_zero j)))
