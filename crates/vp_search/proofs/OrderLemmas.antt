-- Lemmas on the order of vectors.
use Rattle.std.proofs.Common.{◌≡◌, ℕ, ℤ, pos, negsuc, suc, ◌+◌, ◌*◌, ◌-◌, ◌<◌, ◌≤◌, ◌-ℤ◌, ◌≤ℤ◌, arith}
use Rattle.std.specs.Prelude.{unsigned_abs, ◌<ℤ◌}
use Rattle.std.proofs.lemmas.Int.{ints}
use Rattle.vp_search.specs.declared.vector.WholeVector.{WholeVector}
use Rattle.vp_search.specs.Vectors.{vector_length, IsNear}
use Rattle.vp_search.specs.Least.{IsNoWorse}
use Rattle.vp_search.specs.Window.{vector_at}

pub same : (a : ℕ) (v : WholeVector) → IsNoWorse a v a v
same a v = record { by_cost = omega arith; by_size = λ _. omega arith; by_row = λ _ _. omega (arith, ints); by_column = λ _ _ _. omega (arith, ints) }

pub along : (a : ℕ) (u : WholeVector) (b : ℕ) (v : WholeVector) (c : ℕ) (w : WholeVector) → IsNoWorse a u b v → IsNoWorse b v c w → IsNoWorse a u c w
along a u b v c w p q =
    record {
      by_cost = omega arith;
      by_size = λ h. let x = p.by_size (omega arith) in let y = q.by_size (omega arith) in omega arith;
      by_row = λ h k. let x = p.by_size (omega arith) in let y = q.by_size (omega arith) in
          let r = p.by_row (omega arith) (omega arith) in let s = q.by_row (omega arith) (omega arith) in omega (arith, ints);
      by_column = λ h k m. let x = p.by_size (omega arith) in let y = q.by_size (omega arith) in
          let r = p.by_row (omega arith) (omega arith) in let s = q.by_row (omega arith) (omega arith) in
          let t : u.row ≡ v.row = omega (arith, ints) in let o : v.row ≡ w.row = omega (arith, ints) in
          let d = p.by_column (omega arith) (omega arith) t in let g = q.by_column (omega arith) (omega arith) o in omega (arith, ints);
    }

-- where a number within range stands
pub record Index (range : ℕ) (z : ℤ) : Type 0 where
  pub at : ℕ
  pub within : at ≤ 2 * range
  pub is : z ≡ pos at -ℤ pos range

pub index : (range : ℕ) (z : ℤ) → unsigned_abs z ≤ range → Index range z
index range (pos n) h = record { at = n + range; within = omega arith; is = omega (arith, ints) }
index range (negsuc n) h = record { at = range - suc n; within = omega arith; is = omega (arith, ints) }

pub near_at : (range i j : ℕ) → i ≤ 2 * range → j ≤ 2 * range → IsNear range (vector_at range i j)
near_at range i j hi hj = (omega (arith, ints), omega (arith, ints))

pub vector_is : (u v : WholeVector) → u.row ≡ v.row → u.column ≡ v.column → u ≡ v
vector_is u v p q = λ k. record { row = p k; column = q k }

pub less_cost : (a : ℕ) (v : WholeVector) (b : ℕ) (w : WholeVector) → a < b → IsNoWorse a v b w
less_cost a v b w h = record { by_cost = omega arith; by_size = λ e. absurd (omega arith); by_row = λ e s. absurd (omega arith); by_column = λ e s r. absurd (omega arith) }

pub less_size : (a : ℕ) (v : WholeVector) (b : ℕ) (w : WholeVector) → a ≡ b → vector_length v < vector_length w → IsNoWorse a v b w
less_size a v b w h k = record { by_cost = omega arith; by_size = λ e. omega arith; by_row = λ e s. absurd (omega arith); by_column = λ e s r. absurd (omega arith) }

pub less_row : (a : ℕ) (v : WholeVector) (b : ℕ) (w : WholeVector) → a ≡ b → vector_length v ≡ vector_length w → v.row <ℤ w.row → IsNoWorse a v b w
less_row a v b w h k l = record { by_cost = omega arith; by_size = λ e. omega arith; by_row = λ e s. omega (arith, ints); by_column = λ e s r. absurd (omega (arith, ints)) }

pub less_column : (a : ℕ) (v : WholeVector) (b : ℕ) (w : WholeVector) → a ≡ b → vector_length v ≡ vector_length w → v.row ≡ w.row → v.column ≤ℤ w.column → IsNoWorse a v b w
less_column a v b w h k l m = record { by_cost = omega arith; by_size = λ e. omega arith; by_row = λ e s. omega (arith, ints); by_column = λ e s r. m }
