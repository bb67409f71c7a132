-- How the path to a leaf is found.
use Rattle.std.proofs.Common.{◌≡◌, ℕ, zero, suc, ◌+◌, ◌-◌, ◌<◌, ◌≤◌, Bool, true, false, not, List, [], ◌∷◌, ◌++◌, length, Option, Some, None, slice_get, get_or, refl, sym, ap, ◌∙◌, arith, add-zero, append_assoc}
use Rattle.std.specs.Prelude.{◌||◌}
use Rattle.std.specs.Int.{from_bool}
use Rattle.std.proofs.lemmas.Option.{slice_get-get_or}
use Rattle.vp_tree.specs.declared.entry.TreeEntry.{TreeEntry}
use Rattle.vp_tree.specs.declared.entry.TreeEntry.TheVariants.{Leaf, Pair}
use Rattle.vp_tree.specs.declared.steps.Step.{Step}
use Rattle.vp_tree.specs.Tree.{is_tree, IsPath, IsPathTo}
use Rattle.vp_tree.specs.Search.{leads, lies, has_leaf}
use Rattle.vp_tree.proofs.Walks.{further, there}
use Rattle.vp_tree.proofs.Paths.{path_on}

leads_same : {T : Type 0} (passes : T → Bool) (f g : ℕ → Bool) (o : Option (TreeEntry T)) → ((j : ℕ) → o ≡ Some (Pair j) → f j ≡ g j) → leads passes f o ≡ leads passes g o
leads_same passes f g None h = refl
leads_same passes f g (Some (Leaf x)) h = refl
leads_same passes f g (Some (Pair j)) h = h j refl

-- more steps than there are entries ahead change nothing
lies_enough : {T : Type 0} (passes : T → Bool) (t : List (TreeEntry T)) (n m i : ℕ) → is_tree t ≡ true → i + 1 < length t → length t ≤ n + i → length t ≤ m + i
    → lies passes t n i ≡ lies passes t m i
lies_enough passes t zero m i h w a b = absurd (omega arith)
lies_enough passes t (suc n) zero i h w a b = absurd (omega arith)
lies_enough passes t (suc n) (suc m) i h w a b =
    let on = λ (k : ℕ) (low : i ≤ k). leads_same passes (lies passes t n) (lies passes t m) (slice_get t k) (λ j q.
    let f = further t k j h q in lies_enough passes t n m j h f.within (omega arith) (omega arith)) in
    rw (on i (omega arith), on (i + 1) (omega arith)) refl

pub has_leaf_step : {T : Type 0} (passes : T → Bool) (t : List (TreeEntry T)) (i : ℕ) → is_tree t ≡ true → i + 1 < length t
    → has_leaf passes t i ≡ leads passes (has_leaf passes t) (slice_get t i) || leads passes (has_leaf passes t) (slice_get t (i + 1))
has_leaf_step passes t i h w =
    let n = length t - i - 1 in
    let k : length t - i ≡ suc n = omega arith in
    let on = λ (m : ℕ) (low : i ≤ m). leads_same passes (lies passes t n) (λ j. lies passes t (length t - j) j) (slice_get t m) (λ j q.
    let f = further t m j h q in lies_enough passes t n (length t - j) j h f.within (omega arith) (omega arith)) in
    rw (k, on i (omega arith), on (i + 1) (omega arith)) refl

pub at_entry : {T : Type 0} (t : List (TreeEntry T)) (k : ℕ) (e d : TreeEntry T) → k < length t → get_or t k d ≡ e → slice_get t k ≡ Some e
at_entry t k e d w h = slice_get-get_or t k d w ∙ ap (λ x. Some x) h

-- the side with the leaf
side : {T : Type 0} (f : ℕ → Option (TreeEntry T)) (g : Option (TreeEntry T) → Bool) (i : ℕ) (l b : Bool) → g (f i) ≡ l → b ≡ not l → g (f i) || g (f (i + 1)) ≡ true
    → g (f (i + from_bool b)) ≡ true
side f g i true b p q h = rw (q, add-zero) p
side f g i false b p q h = rw q (rw p at h)

-- the entry that is chosen has the leaf, or the leaf lies behind it
pub on_path : {T : Type 0} (passes : T → Bool) (t : List (TreeEntry T)) (i : ℕ) (b : Bool) (e d : TreeEntry T) → is_tree t ≡ true → i + 1 < length t → has_leaf passes t i ≡ true
    → b ≡ not (leads passes (has_leaf passes t) (slice_get t i)) → get_or t (i + from_bool b) d ≡ e → leads passes (has_leaf passes t) (Some e) ≡ true
on_path passes t i b e d formed within leaf_in chosen h =
    let s = side (slice_get t) (leads passes (has_leaf passes t)) i _ b refl chosen (sym (has_leaf_step passes t i formed within) ∙ leaf_in) in
    rw (there t i b e d within h) at s

-- ---- the path so far

-- each path from the pair at place i on is the end of one from the pair at place from
pub record Goes {T : Type 0} (t : List (TreeEntry T)) (from : ℕ) (steps : List Step) (i : ℕ) : Type 0 where
  pub on : (rest : List Step) (k : ℕ) → IsPath t i rest k → IsPath t from (steps ++ rest) k

pub goes_none : {T : Type 0} (t : List (TreeEntry T)) (from : ℕ) → Goes t from [] from
goes_none t from = record { on = λ rest k p. p }

pub goes_more : {T : Type 0} (t : List (TreeEntry T)) (from i j : ℕ) (b : Bool) (steps : List Step) → Goes t from steps i → slice_get t (i + from_bool b) ≡ Some (Pair j)
    → Goes t from (steps ++ (record { pair = i; bit = b }) ∷ []) j
goes_more t from i j b steps g e =
    let step : Step = record { pair = i; bit = b } in
    record { on = λ rest k p. rw (append_assoc steps (step ∷ []) rest) (g.on (step ∷ rest) k (path_on t i j k step rest refl e p)) }

pub goes_to : {T : Type 0} (t : List (TreeEntry T)) (from i : ℕ) (b : Bool) (steps : List Step) (x : T) → Goes t from steps i → slice_get t (i + from_bool b) ≡ Some (Leaf x)
    → IsPathTo t from (steps ++ (record { pair = i; bit = b }) ∷ []) x
goes_to t from i b steps x g e =
    record { place = i + from_bool b; is_path = g.on ((record { pair = i; bit = b }) ∷ []) (i + from_bool b) (refl, refl); is_leaf = e }
