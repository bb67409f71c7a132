-- Work over the streams or files of a name.
use Rattle.std.proofs.Common.{◌≡◌, ◌⊎◌, inl, inr, List, ℕ, Bool, true, false, refl, sym, subst}
use Rattle.std.specs.Prelude.{Result, Err, MatchBool}
use Rattle.vp_stream.specs.declared.fault.DecodeFault.{DecodeFault}
use Rattle.vp_stream.specs.declared.fault.DecodeFault.TheVariants.{Device, Memory}
use Rattle.vp_commands.specs.Commands.{IsUnopened, LooksAt, Over, Side, Summed, SumsFile}
use Rattle.vp_commands.specs.Commands.{WorksFrom, WorksInto, is_stream}

pub over_stream : (name : List ℕ) (Work : Side → Side → Type 0) (old new : Side) → is_stream name ≡ true → Work old new
    → Over name Work old new
over_stream name Work old new e h =
    subst (λ b. MatchBool b (Work old new) ((new ≡ old) × ((a : Side) × (b : Side) × Work a b))) (sym e) h

pub over_file : (name : List ℕ) (Work : Side → Side → Type 0) (old a b : Side) → is_stream name ≡ false → Work a b
    → Over name Work old old
over_file name Work old a b e h =
    subst (λ x. MatchBool x (Work old old) ((old ≡ old) × ((a : Side) × (b : Side)
    × Work a b))) (sym e) (refl, (a, b, h))

-- what is done over a file or a stream, by what implies it
pub over_by : (name : List ℕ) (P Q : Side → Side → Type 0) (old new : Side) → ((a b : Side) → P a b → Q a b)
    → Over name P old new → Over name Q old new
over_by name P Q old new h o = go (is_stream name) o
  where
    go : (b : Bool) → MatchBool b (P old new) ((new ≡ old) × ((a : Side) × (c : Side) × P a c))
        → MatchBool b (Q old new) ((new ≡ old) × ((a : Side) × (c : Side) × Q a c))
    go true w = h old new w
    go false w = (w.0, (w.1.0, w.1.1, h w.1.0 w.1.1 w.1.2))

pub over_work : (b : Bool) (Work : Side → Side → Type 0) (old new : Side) → MatchBool b (Work old new) ((new ≡ old)
    × ((a : Side) × (b : Side) × Work a b))
    → (a : Side) × (b : Side) × Work a b
over_work true Work old new h = (old, new, h)
over_work false Work old new h = h.1

unopened : {T F : Type 0} (device memory : F) (name : List ℕ) (fault : F) → is_stream name ≡ false
    → (fault ≡ device) ⊎ (fault ≡ memory) → IsUnopened {T = T} device memory name (Err fault)
unopened device memory name fault e (inl f) = (e, inl (rw f refl))
unopened device memory name fault e (inr f) = (e, inr (rw f refl))

-- ---- from an input

pub from_stream : {T F : Type 0} (device memory : F) (from : List ℕ)
    (Work : Result T F → Side → Side → Side → Side → Type 0) (done : Result T F) (i i' o o' : Side)
    → is_stream from ≡ true → Work done i i' o o' → WorksFrom device memory from Work done i i' o o'
from_stream device memory from Work done i i' o o' e h = inr (over_stream from (λ a b. Work done a b o o') i i' e h)

pub from_file : {T F : Type 0} (device memory : F) (from : List ℕ)
    (Work : Result T F → Side → Side → Side → Side → Type 0) (done : Result T F) (i a b o o' : Side)
    → is_stream from ≡ false → Work done a b o o' → WorksFrom device memory from Work done i i o o'
from_file device memory from Work done i a b o o' e h = inr (over_file from (λ a b. Work done a b o o') i a b e h)

pub from_none : {T F : Type 0} (device memory : F) (from : List ℕ)
    (Work : Result T F → Side → Side → Side → Side → Type 0) (fault : F) (i o : Side)
    → is_stream from ≡ false → (fault ≡ device) ⊎ (fault ≡ memory)
    → WorksFrom device memory from Work (Err fault) i i o o
from_none device memory from Work fault i o e f = inl (unopened device memory from fault e f, refl, refl)

-- ---- to an output

pub into_stream : {T F : Type 0} (device memory : F) (to : List ℕ)
    (Work : Result T F → Side → Side → Side → Side → Type 0) (done : Result T F) (i i' o o' : Side)
    → is_stream to ≡ true → Work done i i' o o' → WorksInto device memory to Work done i i' o o'
into_stream device memory to Work done i i' o o' e h = inr (over_stream to (Work done i i') o o' e h)

pub into_file : {T F : Type 0} (device memory : F) (to : List ℕ)
    (Work : Result T F → Side → Side → Side → Side → Type 0) (done : Result T F) (i i' o : Side)
    → is_stream to ≡ false → (a : Side) × (b : Side) × Work done i i' a b
    → WorksInto device memory to Work done i i' o o
into_file device memory to Work done i i' o e h = inr (over_file to (Work done i i') o h.0 h.1 e h.2)

pub into_none : {T F : Type 0} (device memory : F) (to : List ℕ)
    (Work : Result T F → Side → Side → Side → Side → Type 0) (fault : F) (i o : Side)
    → is_stream to ≡ false → (fault ≡ device) ⊎ (fault ≡ memory) → WorksInto device memory to Work (Err fault) i i o o
into_none device memory to Work fault i o e f = inl (unopened device memory to fault e f, refl, refl)

-- ---- without an output

-- pictures are summed up
pub summed_up : {T : Type 0} (Work : Result T DecodeFault → Side → Side → Side → Side
    → Type 0) (from : List ℕ) (done : Result T DecodeFault) (i i' o o' : Side)
    → WorksFrom Device Memory from Work done i i' o o' → SumsFile Work from done i i'
summed_up Work from done i i' o o' (inl h) = inl (h.0, h.1)
summed_up Work from done i i' o o' (inr w) =
    inr (over_by from (λ a b. Work done a b o o') (Summed (Work done)) i i' (λ a b h. (o, o', h)) w)

-- nothing is written
pub looked_at : {T : Type 0} (Work : Result T DecodeFault → Side → Side
    → Type 0) (from : List ℕ) (done : Result T DecodeFault) (i i' o o' : Side)
    → WorksFrom Device Memory from (λ d a b c e. Work d a b) done i i' o o' → LooksAt from Work done i i'
looked_at Work from done i i' o o' (inl h) = inl (h.0, h.1)
looked_at Work from done i i' o o' (inr w) = inr w

-- ---- the laws

pub reads_by_working : {T F : Type 0} (device memory : F) (to : List ℕ)
    (Work : Result T F → Side → Side → Side → Side → Type 0) (done : Result T F) (i j o p : Side)
    → WorksInto device memory to Work done i j o p → (j ≡ i) ⊎ ((a : Side) × (b : Side) × Work done i j a b)
reads_by_working device memory to Work done i j o p (inl u) = inl u.1
reads_by_working device memory to Work done i j o p (inr w) = inr (over_work (is_stream to) (Work done i j) o p w)

pub reads_by_looking : {T : Type 0} (from : List ℕ) (Work : Result T DecodeFault → Side → Side
    → Type 0) (done : Result T DecodeFault) (i j : Side)
    → LooksAt from Work done i j → (j ≡ i) ⊎ ((a : Side) × (b : Side) × Work done a b)
reads_by_looking from Work done i j (inl u) = inl u.1
reads_by_looking from Work done i j (inr w) = inr (over_work (is_stream from) (Work done) i j w)
