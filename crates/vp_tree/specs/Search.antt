-- Which leaves are below a pair of entries of a tree (RFC 6386, chapter 8.1).
use Rattle.std.specs.Prelude.{ℕ, zero, suc, ◌+◌, ◌-◌, Bool, false, ◌||◌, List, length, Option, Some, None, slice_get}
use Rattle.vp_tree.specs.declared.entry.TreeEntry.{TreeEntry}
use Rattle.vp_tree.specs.declared.entry.TreeEntry.TheVariants.{Leaf, Pair}

-- whether an entry is a leaf that passes a test, or a pair whose index passes another
abbrev pub leads : {T : Type 0} → (T → Bool) → (ℕ → Bool) → Option (TreeEntry T) → Bool
leads passes further None = false
leads passes further (Some (Leaf x)) = passes x
leads passes further (Some (Pair j)) = further j

-- whether a leaf that passes is at most n steps below the pair at index i
abbrev pub lies : {T : Type 0} → (T → Bool) → List (TreeEntry T) → ℕ → ℕ → Bool
lies passes t zero i = false
lies passes t (suc n) i = leads passes (lies passes t n) (slice_get t i)
    || leads passes (lies passes t n) (slice_get t (i + 1))

-- whether a leaf that passes is below the pair at index i
abbrev pub has_leaf : {T : Type 0} → (T → Bool) → List (TreeEntry T) → ℕ → Bool
has_leaf passes t i = lies passes t (length t - i) i
