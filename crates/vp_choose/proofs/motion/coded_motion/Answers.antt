use Rattle.std.proofs.Common.{◌≡◌, ℤ, to_z, of_z, w32, subst, arith}
use Rattle.std.proofs.lemmas.Int.{ints}
use Rattle.vp_tables.specs.declared.modes.VectorMode.{VectorMode}
use Rattle.vp_tables.specs.declared.modes.VectorMode.TheVariants as vector_is
use Rattle.vp_motion.specs.Vector.{Vector, Candidates, IsWithin}
use Rattle.vp_motion.specs.Spelled.{GivesVector, difference_of}
use Rattle.vp_motion.proofs.Sizes.{candidates-short, new-short}
use Rattle.vp_motion.specs.Near.{candidates}
use Rattle.vp_choose.specs.Frame.{no_biases}
use Rattle.vp_choose.specs.Inter.{IsFirstGiving}
use Rattle.vp_choose.proofs.motion.coded_motion.Goals as goal

-- the first mode that gives a vector gives it
first_gives : (c : Candidates) (v : Vector) (mode : VectorMode) → IsWithin 1023 (difference_of v c.best) → IsFirstGiving c v mode → GivesVector c mode v
first_gives c v vector_is.Zero near h = h
first_gives c v vector_is.Nearest near h = h.1
first_gives c v vector_is.Near near h = h.2
first_gives c v vector_is.New near h = near
first_gives c v vector_is.Split near h = absurd h

pub returns-clause-written : goal.returns-clause-written
returns-clause-written c =
    let row : ℤ = c.args.moved.now.vector.row in
    let column : ℤ = c.args.moved.now.vector.column in
    let s = c.requires.short in
    let row_read : to_z w32 (of_z w32 row) ≡ row = omega (arith, ints, s) in
    let column_read : to_z w32 (of_z w32 column) ≡ column = omega (arith, ints, s) in
    let v : Vector = record { row = to_z w32 (of_z w32 row); column = to_z w32 (of_z w32 column) } in
    let all : Candidates = candidates c.args.vectors.now c.args.place c.args.moved.now.reference no_biases in
    let near : IsWithin 511 v = record {
      low_row = omega (arith, ints, s);
      high_row = omega (arith, ints, s);
      low_column = omega (arith, ints, s);
      high_column = omega (arith, ints, s);
    } in
    let first : IsFirstGiving all v c.mode_of.result = subst (λ (a : Candidates). IsFirstGiving a v c.mode_of.result) c.near-candidates.ensures c.mode_of.ensures in
    first_gives all v c.mode_of.result
    (new-short v all.best near (candidates-short 511 c.args.vectors.now c.args.place c.args.moved.now.reference no_biases c.requires.map).best) first
