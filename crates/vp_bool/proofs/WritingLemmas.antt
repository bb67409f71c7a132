-- How what is written is read again.
use Rattle.std.proofs.Common.{◌≡◌, ℕ, zero, suc, ◌+◌, ◌<◌, ◌^◌, Bool, List, [], ◌∷◌, ◌++◌, refl, sym, ap, ◌∙◌, arith, add-one}
use Rattle.std.specs.Prelude.{slice_index_or, slice_set}
use Rattle.vp_bool.specs.Bools.{State, read, literal}
use Rattle.vp_bool.specs.Reader.{Reader, bind, ◌>>=◌, give, each, rows, Reads}
use Rattle.vp_bool.specs.Intervals.{Interval, whole_interval, write, write_literal}
use Rattle.vp_bool.specs.Writing.{write_all, AreProbabilities, HasWritten, Continues, Writes}
use Rattle.vp_bool.specs.RoundTrip.{literal_bools}
use Rattle.vp_bool.proofs.RoundTripLemmas.{write_all-append, write_literal-all, literal-probabilities, reads_literal}

pub pair_is : {A B : Type 0} (x : A × B) (a : A) (b : B) → x.0 ≡ a → x.1 ≡ b → x ≡ (a, b)
pair_is x a b p q = λ i. (p i, q i)

pub reads-append : (xs ys : List (Bool × ℕ)) (s u : State) → Reads (xs ++ ys) s u → (t : State) × Reads xs s t × Reads ys t u
reads-append [] ys s u r = (s, refl, r)
reads-append (x ∷ xs) ys s u r = let h = reads-append xs ys (read x.1 s).1 u r.1 in (h.0, (r.0, h.1), h.2)

pub probabilities-append : (xs ys : List (Bool × ℕ)) → AreProbabilities xs → AreProbabilities ys → AreProbabilities (xs ++ ys)
probabilities-append [] ys h k i = k i
probabilities-append (x ∷ xs) ys h k zero = h 0
probabilities-append (x ∷ xs) ys h k (suc i) = probabilities-append xs ys (λ j. h (suc j)) k i

pub probabilities-none : AreProbabilities []
probabilities-none i = omega arith

pub probabilities-one : (b : Bool) (p : ℕ) → p < 256 → AreProbabilities ((b, p) ∷ [])
probabilities-one b p h zero = h
probabilities-one b p h (suc i) = omega arith

-- ---- what was written between two states of an encoder

pub Continues-same : {A : Type 0} {m n : Reader A} → ((s : State) → m s ≡ n s) → (old : Interval) → Continues m n old old
unfolding write_all
Continues-same {m = m} same old = record { bools = []; probabilities = probabilities-none; appended = refl; taken = λ s t r. ap m r ∙ same t }

pub Continues-none : {A : Type 0} (m : Reader A) (old : Interval) → Continues m m old old
Continues-none m old = Continues-same (λ s. refl) old

-- the end of what was written, where the value that is read is the value that was meant
pub Continues-given : {A : Type 0} {a b : A} → a ≡ b → (old : Interval) → Continues (give a) (give b) old old
Continues-given {A = A} same old = Continues-same (λ s. ap (λ (x : A). give x s) same) old

pub Continues-then : {A : Type 0} {m n k : Reader A} {old mid new : Interval} → Continues m n old mid → Continues n k mid new → Continues m k old new
Continues-then {old = old} x y = record {
  bools = x.bools ++ y.bools;
  probabilities = probabilities-append x.bools y.bools x.probabilities y.probabilities;
  appended = y.appended ∙ ap (write_all y.bools) x.appended ∙ sym (write_all-append x.bools y.bools old);
  taken = λ s u r. let h = reads-append x.bools y.bools s u r in x.taken s h.0 h.1 ∙ y.taken h.0 u h.2;
}

pub Continues-bind : {A B : Type 0} {m n : Reader A} (f : A → Reader B) {old new : Interval} → Continues m n old new → Continues (m >>= f) (n >>= f) old new
unfolding bind
Continues-bind {A = A} f x = record {
  bools = x.bools;
  probabilities = x.probabilities;
  appended = x.appended;
  taken = λ s t r. ap (λ (z : A × State). f z.0 z.1) (x.taken s t r);
}

-- a value that was written, and what follows it
pub Writes-then : {A B : Type 0} {m : Reader A} (f : A → Reader B) {n : Reader B} {old mid new : Interval} {a : A}
    → Writes m old mid a → Continues (f a) n mid new → Continues (m >>= f) n old new
unfolding bind
Writes-then f x y = Continues-then (Continues-bind f x) y

-- what leads from one write to the next
pub ruleset writes = (Writes-then, Continues-none)

-- ---- one bool, and one number

pub Writes-read : (p : ℕ) (bit : Bool) {old new : Interval} → p < 256 → new ≡ write bit p old → Writes (read p) old new bit
unfolding write_all
Writes-read p bit byte e = record {
  bools = (bit, p) ∷ [];
  probabilities = probabilities-one bit p byte;
  appended = e;
  taken = λ s t r. pair_is (read p s) bit t r.0 r.1;
}

pub Writes-literal : (n v : ℕ) {old new : Interval} → v < 2 ^ n → new ≡ write_literal n v old → Writes (literal n) old new v
Writes-literal n v {old} h e = record {
  bools = literal_bools n v;
  probabilities = literal-probabilities n v;
  appended = e ∙ write_literal-all n v old;
  taken = reads_literal n v h;
}

-- ---- one more item

pub each-written : {X : Type 0} (default : X) (n : ℕ) (row : ℕ → X → Reader X) (xs ys zs : List X) (y : X) {old mid new : Interval}
    → Writes (each default n row xs) old mid ys → Writes (row n (slice_index_or ys n default)) mid new y → slice_set ys n y ≡ zs → Writes (each default (n + 1) row xs) old new zs
unfolding each bind
each-written default n row xs ys zs y {new = new} so_far one same =
    rw add-one
    (Writes-then (λ l. row n (slice_index_or l n default) >>= λ x. give (slice_set l n x)) so_far
    (Writes-then (λ x. give (slice_set ys n x)) one (Continues-given same new)))

pub each-unwritten : {X : Type 0} (default : X) (row : ℕ → X → Reader X) (xs : List X) (old : Interval) → Writes (each default 0 row xs) old old xs
unfolding each
each-unwritten default row xs old = Continues-none (give xs) old

-- ---- runs

pub written-none : HasWritten [] whole_interval
unfolding write_all
written-none = refl

pub written-more : (xs ys : List (Bool × ℕ)) (old new : Interval) → HasWritten xs old → new ≡ write_all ys old → HasWritten (xs ++ ys) new
written-more xs ys old new h e = e ∙ ap (write_all ys) h ∙ sym (write_all-append xs ys whole_interval)

pub written-one : (xs : List (Bool × ℕ)) (b : Bool) (p : ℕ) (old new : Interval) → HasWritten xs old → new ≡ write b p old → HasWritten (xs ++ (b, p) ∷ []) new
unfolding write_all
written-one xs b p old new h e = written-more xs ((b, p) ∷ []) old new h e

-- ---- what is said by bytes that were written

-- ---- rows

-- one more row
pub rows-written : {A : Type 0} (n : ℕ) (row : ℕ → A → Reader A) (a b c : A) {old mid new : Interval} → Writes (rows n row a) old mid b → Writes (row n b) mid new c
    → Writes (rows (n + 1) row a) old new c
unfolding rows
rows-written n row a b c so_far one = rw add-one (Writes-then (row n) so_far one)

pub rows-unwritten : {A : Type 0} (row : ℕ → A → Reader A) (a : A) (old : Interval) → Writes (rows 0 row a) old old a
unfolding rows
rows-unwritten row a old = Continues-none _ old
