use Rattle.std.proofs.Common.{◌≡◌, ◌∙◌, ◌*◌, ◌≤◌, ℤ, to_z, of_z, w32, sym, arith, rules}
use Rattle.std.specs.Prelude.{unsigned_abs}
use Rattle.std.proofs.lemmas.Int.{ints}
use Rattle.vp_motion.specs.Vector.{Vector}
use Rattle.vp_recon.specs.Prediction.{luma_moved, chroma_moved}
use Rattle.vp_choose.proofs.Moving.{luma_is, chroma_is, moved_listed}
use Rattle.vp_choose.proofs.macroblock.inter_prediction.Goals as goal

read : (z : ℤ) → unsigned_abs z ≤ 259 → to_z w32 (of_z w32 z) ≡ z
read z short = omega (arith, ints)

pub returns-clause-luma : goal.returns-clause-luma
returns-clause-luma c e p are =
    let v : Vector = record { row = c.args.vector.row; column = c.args.vector.column } in
    let turned = rw (read v.row c.requires.short.0, read v.column c.requires.short.1) at c.luma_vector-vector.ensures in
    moved_listed 4 c.args.reference.now.luma (16 * c.args.place.column) (16 * c.args.place.row) (luma_moved e) c.luma_vector-vector.result c.predict_block-luma.result
    (omega arith) (search rules) (λ k below. luma_is e v are k below ∙ sym turned) (rw c.plane-3.ensures at c.predict_block-luma.ensures)

pub returns-clause-u : goal.returns-clause-u
returns-clause-u c e p are =
    let v : Vector = record { row = c.args.vector.row; column = c.args.vector.column } in
    let turned = rw (read v.row c.requires.short.0, read v.column c.requires.short.1) at c.chroma_vector-vector.ensures in
    moved_listed 2 c.args.reference.now.u (8 * c.args.place.column) (8 * c.args.place.row) (chroma_moved 0 e) c.chroma_vector-vector.result c.predict_block-u.result
    (omega arith) (search rules) (λ k below. chroma_is e v are k below ∙ sym turned) (rw c.plane.ensures at c.predict_block-u.ensures)

pub returns-clause-v : goal.returns-clause-v
returns-clause-v c e p are =
    let v : Vector = record { row = c.args.vector.row; column = c.args.vector.column } in
    let turned = rw (read v.row c.requires.short.0, read v.column c.requires.short.1) at c.chroma_vector-vector.ensures in
    moved_listed 2 c.args.reference.now.v (8 * c.args.place.column) (8 * c.args.place.row) (chroma_moved 0 e) c.chroma_vector-vector.result c.predict_block-v.result
    (omega arith) (search rules) (λ k below. chroma_is e v are k below ∙ sym turned) (rw c.plane-2.ensures at c.predict_block-v.ensures)
