-- What an encoder has written, stated by what a parser reads from it: the value, and the state after it. The contracts
-- of all writers have this form.
use Rattle.std.specs.Prelude.{◌≡◌, ℕ, Bool, List, [], ◌∷◌, map}
use Rattle.vp_bool.specs.Bools.{State}
use Rattle.vp_bool.specs.Reader.{Reader, give, Reads}
use Rattle.vp_bool.specs.Intervals.{Interval, whole_interval, write}
use Rattle.vp_bool.specs.Window.{AreBytes}

-- the interval after bools with these probabilities, written in order
unfoldable pub write_all : List (Bool × ℕ) → Interval → Interval
write_all [] e = e
write_all (x ∷ xs) e = write_all xs (write x.0 x.1 e)

-- each probability is below 256
abbrev pub AreProbabilities : List (Bool × ℕ) → Type 0
AreProbabilities xs = AreBytes (map (λ (x : Bool × ℕ). x.1) xs)

-- An interval represents a run: the bools written so far, each with its probability.
abbrev pub HasWritten : List (Bool × ℕ) → Interval → Type 0
HasWritten xs e = e ≡ write_all xs whole_interval

-- Reading m before the bools xs gives what reading n after them gives.
abbrev pub TakesBools : {A : Type 0} → List (Bool × ℕ) → Reader A → Reader A → Type 0
TakesBools xs m n = (s t : State) → Reads xs s t → m s ≡ n t

-- What was written between old and new turns parser m into parser n.
pub record Continues {A : Type 0} (m n : Reader A) (old new : Interval) : Type 0 where
  pub bools : List (Bool × ℕ)
  pub probabilities : AreProbabilities bools
  pub appended : new ≡ write_all bools old
  pub taken : TakesBools bools m n

-- What was written between old and new is read by m as a, and m reads nothing after it.
abbrev pub Writes : {A : Type 0} → Reader A → Interval → Interval → A → Type 0
Writes m old new a = Continues m (give a) old new
