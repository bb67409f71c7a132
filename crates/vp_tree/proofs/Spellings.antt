-- How the bools of a path are read.
use Rattle.std.proofs.Common.{◌≡◌, ℕ, zero, suc, ◌+◌, ◌/◌, ◌<◌, ◌≤◌, true, List, [], ◌∷◌, length, drop, get_or, Some, slice_get, refl, sym, ap, ◌∙◌, arith}
use Rattle.std.specs.Prelude.{slice_index}
use Rattle.std.specs.Int.{from_bool}
use Rattle.vp_bool.specs.Bools.{State, read}
use Rattle.vp_bool.specs.Reader.{Reads}
use Rattle.vp_bool.specs.Intervals.{Interval, write}
use Rattle.vp_bool.specs.Window.{AreBytes}
use Rattle.vp_bool.specs.Writing.{write_all, AreProbabilities, Writes}
use Rattle.vp_tree.specs.declared.entry.TreeEntry.{TreeEntry}
use Rattle.vp_tree.specs.declared.entry.TreeEntry.TheVariants.{Leaf, Pair}
use Rattle.vp_tree.specs.declared.steps.Step.{Step}
use Rattle.vp_tree.specs.Tree.{is_tree, child_index, IsPath, IsPathTo, spelled, walk_from, TakesPaths}
use Rattle.vp_tree.proofs.Walks.{further, walk_on}

takes_path : {T : Type 0} (d : T) (t : List (TreeEntry T)) (ps : List ℕ) (path : List Step) (i k : ℕ) (x : T) (s u : State) → is_tree t ≡ true → i + 1 < length t
    → IsPath t i path k → slice_get t k ≡ Some (Leaf x) → Reads (spelled ps path) s u → walk_from d t ps i s ≡ (x, u)
takes_path d t ps [] i k x s u h w p e r = absurd p
takes_path d t ps (step ∷ []) i k x s u h w p e r =
    let bit : step.bit ≡ (read (slice_index ps (i / 2)) s).0 = rw (← p.0) (sym r.0) in
    let rest : u ≡ (read (slice_index ps (i / 2)) s).1 = rw (← p.0) (sym r.1) in
    let here : slice_get t (i + from_bool step.bit) ≡ Some (Leaf x) = rw (← p.0, p.1) e in
    walk_on d t ps i s u step.bit (Leaf x) h w bit rest here
takes_path d t ps (step ∷ (following ∷ path)) i k x s u h w p e r =
    let f = further t (child_index step) following.pair h p.1 in
    let bit : step.bit ≡ (read (slice_index ps (i / 2)) s).0 = rw (← p.0) (sym r.0) in
    let rest : (read (slice_index ps (step.pair / 2)) s).1 ≡ (read (slice_index ps (i / 2)) s).1 = ap (λ (j : ℕ). (read (slice_index ps (j / 2)) s).1) p.0 in
    let here : slice_get t (i + from_bool step.bit) ≡ Some (Pair following.pair) = rw (← p.0) p.1 in
    walk_on d t ps i s (read (slice_index ps (step.pair / 2)) s).1 step.bit (Pair following.pair) h w bit rest here
    ∙ takes_path d t ps (following ∷ path) following.pair k x (read (slice_index ps (step.pair / 2)) s).1 u h f.within p.2 e r.1

pub takes_paths : {T : Type 0} (t : List (TreeEntry T)) → is_tree t ≡ true → TakesPaths t
takes_paths t h d ps i path x w p s u r = takes_path d t ps path i p.place x s u h w p.is_path p.is_leaf r

-- the pairs of a path are pairs of the tree
pub path_within : {T : Type 0} (t : List (TreeEntry T)) (path : List Step) (i k n : ℕ) (step : Step) → is_tree t ≡ true → i + 1 < length t → IsPath t i path k
    → slice_get path n ≡ Some step → step.pair + 1 < length t
path_within t [] i k n step h w p e = absurd p
path_within t (first ∷ []) i k zero step h w p e =
    let same : first ≡ step = cc in
    let pair : first.pair ≡ step.pair = ap (λ (s : Step). s.pair) same in
    omega (arith, p.0)
path_within t (first ∷ []) i k (suc n) step h w p e = absurd cc
path_within t (first ∷ (following ∷ path)) i k zero step h w p e =
    let same : first ≡ step = cc in
    let pair : first.pair ≡ step.pair = ap (λ (s : Step). s.pair) same in
    omega (arith, p.0)
path_within t (first ∷ (following ∷ path)) i k (suc n) step h w p e =
    let f = further t (child_index first) following.pair h p.1 in
    path_within t (following ∷ path) following.pair k n step h f.within p.2 e

spelled-probabilities : (ps : List ℕ) (path : List Step) → AreBytes ps → AreProbabilities (spelled ps path)
spelled-probabilities ps [] bytes i = omega arith
spelled-probabilities ps (step ∷ path) bytes zero = bytes (step.pair / 2)
spelled-probabilities ps (step ∷ path) bytes (suc i) = spelled-probabilities ps path bytes i

-- the bools of a path, written, are read as its leaf
pub Writes-path : {T : Type 0} (t : List (TreeEntry T)) (ps : List ℕ) (path : List Step) (i : ℕ) (x : T) (old new : Interval) → is_tree t ≡ true → i + 1 < length t → AreBytes ps
    → IsPathTo t i path x → new ≡ write_all (spelled ps path) old → (d : T) → Writes (walk_from d t ps i) old new x
Writes-path t ps path i x old new h w bytes p e d =
    record { bools = spelled ps path; probabilities = spelled-probabilities ps path bytes; appended = e; taken = takes_paths t h d ps i path x w p }

-- ---- a path, written step by step

pub write_more : (ps : List ℕ) (path : List Step) (i : ℕ) (d : Step) (mid new : Interval) → i < length path
    → new ≡ write (get_or path i d).bit (slice_index ps ((get_or path i d).pair / 2)) mid
    → write_all (spelled ps (drop (suc i) path)) new ≡ write_all (spelled ps (drop i path)) mid
unfolding write_all
write_more ps [] i d mid new h e = absurd (omega arith)
write_more ps (step ∷ path) zero d mid new h e = ap (write_all (spelled ps path)) e
write_more ps (step ∷ path) (suc i) d mid new h e = write_more ps path i d mid new (omega arith) e

pub write_done : (ps : List ℕ) (path : List Step) (n : ℕ) (e : Interval) → length path ≤ n → write_all (spelled ps (drop n path)) e ≡ e
unfolding write_all
write_done ps [] zero e h = refl
write_done ps [] (suc n) e h = refl
write_done ps (step ∷ path) zero e h = absurd (omega arith)
write_done ps (step ∷ path) (suc n) e h = write_done ps path n e (omega arith)
