-- The walk of the tree of vector modes, pair by pair.
use Rattle.std.proofs.Common.{◌≡◌, ℕ, suc, ◌+◌, Bool, true, false, List, refl, sym}
use Rattle.std.specs.Prelude.{slice_get, if◌then◌else◌}
use Rattle.std.specs.Int.{from_bool}
use Rattle.vp_bool.specs.Bools.{State, read}
use Rattle.vp_bool.specs.Reader as reader
use Rattle.vp_bool.specs.Reader.{Reader, give}
use Rattle.vp_tree.specs.Tree.{walk, walk_from, next}
use Rattle.vp_tables.specs.declared.modes.VectorMode.{VectorMode}
use Rattle.vp_tables.specs.declared.modes.VectorMode.TheVariants as vector_is
use Rattle.vp_tables.specs.declared.trees.TheConstants.{VECTOR_MODE_TREE}
use Rattle.vp_motion.specs.Motion.{mode_probabilities, vector_mode}
use Rattle.vp_motion.specs.ModeWalk.{mode_probability}
use Rattle.vp_motion.specs.ModeWalk.{any_mode, not_zero, not_nearest, not_near}

module _ (counts : List ℕ) where
  abbrev step : ℕ → ℕ → Bool → Reader VectorMode
  step n i b = next vector_is.Zero (walk vector_is.Zero VECTOR_MODE_TREE (mode_probabilities counts) n) (slice_get VECTOR_MODE_TREE (i + from_bool b))

  at_6 : (n : ℕ) (b : Bool) (u : State) → step n 6 b u ≡ ((if b then vector_is.Split else vector_is.New), u)
  at_6 n true u = refl
  at_6 n false u = refl

  at_4 : (n : ℕ) (b : Bool) (u : State) → step (suc n) 4 b u ≡ (if b then not_near counts else give vector_is.Near) u
  unfolding walk reader.bind not_near mode_probabilities
  at_4 n true u = at_6 n (read (mode_probability counts 3) u).0 (read (mode_probability counts 3) u).1
  at_4 n false u = refl

  at_2 : (n : ℕ) (b : Bool) (u : State) → step (suc (suc n)) 2 b u ≡ (if b then not_nearest counts else give vector_is.Nearest) u
  unfolding walk reader.bind not_nearest mode_probabilities
  at_2 n true u = at_4 n (read (mode_probability counts 2) u).0 (read (mode_probability counts 2) u).1
  at_2 n false u = refl

  at_0 : (n : ℕ) (b : Bool) (u : State) → step (suc (suc (suc n))) 0 b u ≡ (if b then not_zero counts else give vector_is.Zero) u
  unfolding walk reader.bind not_zero mode_probabilities
  at_0 n true u = at_2 n (read (mode_probability counts 1) u).0 (read (mode_probability counts 1) u).1
  at_0 n false u = refl

  pub mode_walked : (s : State) → any_mode counts s ≡ vector_mode counts s
  unfolding any_mode vector_mode walk_from walk reader.bind mode_probabilities
  mode_walked s = sym (at_0 4 (read (mode_probability counts 0) s).0 (read (mode_probability counts 0) s).1)
