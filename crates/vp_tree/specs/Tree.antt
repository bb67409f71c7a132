-- Trees of bools (RFC 6386, chapter 8.1): which tables are trees, the paths to their leaves, and the leaf that a walk
-- reads. Pinned by the tests `reads_leaves`, `finds_paths` and `writes_leaves`.
use Rattle.std.specs.Prelude.{◌≡◌, ℕ, zero, suc, ◌+◌, ◌-◌, ◌*◌, ◌/◌, ◌%◌, ◌<◌, Bool, true, false, ◌&&◌, ◌==◌, nat_lt}
use Rattle.std.specs.Prelude.{List, [], ◌∷◌, length, map, count_by, Option, Some, None, slice_get, slice_index}
use Rattle.std.specs.Int.{from_bool}
use Rattle.vp_bool.specs.Bools.{State, read}
use Rattle.vp_bool.specs.Reader.{Reader, ◌>>=◌, give, Reads}
use Rattle.vp_bool.specs.Writing.{TakesBools}
use Rattle.vp_tree.specs.declared.entry.TreeEntry.{TreeEntry}
use Rattle.vp_tree.specs.declared.entry.TreeEntry.TheVariants.{Leaf, Pair}
use Rattle.vp_tree.specs.declared.steps.Step.{Step}

-- ---- Tables that are trees. The entries at indices 0 and 1 are a pair, those at 2 and 3, and so on.

-- an entry at index k of a table of n entries is valid: a pair is later than k, at an even index within the table
abbrev pub is_entry : {T : Type 0} → ℕ → ℕ → TreeEntry T → Bool
is_entry n k (Leaf x) = true
is_entry n k (Pair j) = nat_lt k j && nat_lt (j + 1) n && (j % 2 == 0)

-- each entry, from index k on, of a table of n entries is valid
abbrev pub are_entries : {T : Type 0} → ℕ → ℕ → List (TreeEntry T) → Bool
are_entries n k [] = true
are_entries n k (e ∷ es) = is_entry n k e && are_entries n (k + 1) es

-- whether an entry refers to the pair at index j
abbrev pub leads_to : {T : Type 0} → ℕ → TreeEntry T → Bool
leads_to j (Leaf x) = false
leads_to j (Pair i) = i == j

-- Exactly one entry refers to each of the first n pairs after the root.
abbrev pub are_led_to : {T : Type 0} → List (TreeEntry T) → ℕ → Bool
are_led_to t zero = true
are_led_to t (suc n) = (count_by (leads_to (2 * suc n)) t == 1) && are_led_to t n

-- a table that is a tree, whose root is the pair at indices 0 and 1
abbrev pub is_tree : {T : Type 0} → List (TreeEntry T) → Bool
is_tree t = nat_lt 1 (length t) && (length t % 2 == 0) && are_entries (length t) 0 t && are_led_to t (length t / 2 - 1)

-- ---- Paths

-- A step goes from a pair to its first entry on a 0, and to its second on a 1.
abbrev pub child_index : Step → ℕ
child_index step = step.pair + from_bool step.bit

-- the steps from the pair at index i to the entry at index k; each entry on the way refers to the pair of the next
-- step
abbrev pub IsPath : {T : Type 0} → List (TreeEntry T) → ℕ → List Step → ℕ → Type 0
IsPath t i [] k = ⊥
IsPath t i (step ∷ []) k = (step.pair ≡ i) × (child_index step ≡ k)
IsPath t i (step ∷ (following ∷ path)) k =
    (step.pair ≡ i) × (slice_get t (child_index step) ≡ Some (Pair following.pair))
    × IsPath t following.pair (following ∷ path) k

-- The path leads from the pair at index i to the leaf x.
pub record IsPathTo {T : Type 0} (t : List (TreeEntry T)) (i : ℕ) (path : List Step) (x : T) : Type 0 where
  pub place : ℕ
  pub is_path : IsPath t i path place
  pub is_leaf : slice_get t place ≡ Some (Leaf x)

-- the bools of a path, each with the probability of its pair
abbrev pub spelled : List ℕ → List Step → List (Bool × ℕ)
spelled probabilities path = map (λ (step : Step). (step.bit, slice_index probabilities (step.pair / 2))) path

-- From the pair at index i, the bools read in state s are those of a path to the leaf x, and u is the state after
-- them.
pub record LeadsToLeaf {T : Type 0} (t : List (TreeEntry T)) (probabilities : List ℕ) (i : ℕ) (s : State) (x : T)
    (u : State) : Type 0 where
  pub path : List Step
  pub place : ℕ
  pub is_path : IsPath t i path place
  pub is_leaf : slice_get t place ≡ Some (Leaf x)
  pub bools : Reads (spelled probabilities path) s u

-- At most one path leads to each leaf.
abbrev pub OnePath : {T : Type 0} → List (TreeEntry T) → Type 0
OnePath t =
    (i k : ℕ) (path other : List Step) → i % 2 ≡ 0 → IsPath t i path k → IsPath t i other k → path ≡ other

-- The bools of a state lead to at most one leaf.
abbrev pub OneLeaf : {T : Type 0} → List (TreeEntry T) → Type 0
OneLeaf {T} t =
    (probabilities : List ℕ) (i : ℕ) (s : State) (x y : T) (u v : State)
    → LeadsToLeaf t probabilities i s x u → LeadsToLeaf t probabilities i s y v → (x ≡ y) × (u ≡ v)

-- ---- Tests of all leaves

-- whether an entry is a pair, or a leaf that passes
abbrev pub leaf_passes : {T : Type 0} → (T → Bool) → TreeEntry T → Bool
leaf_passes passes (Leaf x) = passes x
leaf_passes passes (Pair j) = true

-- each leaf of the table passes
abbrev pub leaves_pass : {T : Type 0} → (T → Bool) → List (TreeEntry T) → Bool
leaves_pass passes [] = true
leaves_pass passes (e ∷ es) = leaf_passes passes e && leaves_pass passes es

-- ---- The walk, as a reader

-- the continuation at an entry: a leaf is the result, a pair continues (default only if there is no entry)
abbrev pub next : {T : Type 0} → T → (ℕ → Reader T) → Option (TreeEntry T) → Reader T
next default further None = give default
next default further (Some (Leaf x)) = give x
next default further (Some (Pair j)) = further j

-- the walk of at most n steps from the pair at index i
unfoldable pub walk : {T : Type 0} → T → List (TreeEntry T) → List ℕ → ℕ → ℕ → Reader T
walk default t probabilities zero i = give default
walk default t probabilities (suc n) i = do
  bit ← read (slice_index probabilities (i / 2))
  next default (walk default t probabilities n) (slice_get t (i + from_bool bit))

-- the walk to a leaf from the pair at index i (in a tree, default is never used)
unfoldable pub walk_from : {T : Type 0} → T → List (TreeEntry T) → List ℕ → ℕ → Reader T
walk_from default t probabilities i = walk default t probabilities (length t - i) i

-- The bools of a path are read as its leaf, and nothing after them is read.
abbrev pub TakesPaths : {T : Type 0} → List (TreeEntry T) → Type 0
TakesPaths {T} t =
    (default : T) (probabilities : List ℕ) (i : ℕ) (path : List Step) (x : T) → i + 1 < length t → IsPathTo t i path x
    → TakesBools (spelled probabilities path) (walk_from default t probabilities i) (give x)
