-- The walk of a tree, step by step, and the path that it takes.
use Rattle.std.proofs.Common.{◌≡◌, ℕ, zero, suc, ◌+◌, ◌-◌, ◌/◌, ◌%◌, ◌<◌, ◌≤◌, Bool, true, false, ◌&&◌, nat_lt, List, [], ◌∷◌, length, Option, Some, None, slice_get, get_or, refl, ap, ◌∙◌, arith, add-zero}
use Rattle.std.specs.Prelude.{slice_index, ◌==◌}
use Rattle.std.specs.Int.{from_bool}
use Rattle.std.proofs.lemmas.Option.{slice_get-get_or}
use Rattle.std.proofs.lemmas.Bool.Decides.{nat_tests}
use Rattle.vp_bool.specs.Bools.{State, read}
use Rattle.vp_bool.specs.Reader.{Reader, ◌>>=◌, give, Reads}
use Rattle.vp_tree.specs.declared.entry.TreeEntry.{TreeEntry}
use Rattle.vp_tree.specs.declared.entry.TreeEntry.TheVariants.{Leaf, Pair}
use Rattle.vp_tree.specs.Tree.{is_entry, are_entries, are_led_to, is_tree, next, walk, walk_from}

pub and_left : (a b : Bool) → a && b ≡ true → a ≡ true
and_left true b h = refl
and_left false b h = absurd cc

pub and_right : (a b : Bool) → a && b ≡ true → b ≡ true
and_right true b h = h
and_right false b h = absurd cc

entry_at : {T : Type 0} (n k i : ℕ) (t : List (TreeEntry T)) (e : TreeEntry T) → are_entries n k t ≡ true → slice_get t i ≡ Some e → is_entry n (k + i) e ≡ true
entry_at n k i [] e h q = absurd cc
entry_at n k zero (x ∷ xs) e h q =
    let same : x ≡ e = cc in
    rw (add-zero, ← same) (and_left _ _ h)
entry_at n k (suc i) (x ∷ xs) e h q =
    let place : k + suc i ≡ (k + 1) + i = omega arith in
    rw place (entry_at n (k + 1) i xs e (and_right _ _ h) q)

-- a pair of a tree lies further on, and within it
pub record Further {T : Type 0} (t : List (TreeEntry T)) (k j : ℕ) : Type 0 where
  pub later : k < j
  pub within : j + 1 < length t
  pub even : j % 2 ≡ 0

table : {T : Type 0} (t : List (TreeEntry T)) → is_tree t ≡ true → are_entries (length t) 0 t ≡ true
table t h =
    and_right (nat_lt 1 (length t) && (length t % 2 == 0)) _
    (and_left (nat_lt 1 (length t) && (length t % 2 == 0) && are_entries (length t) 0 t) _ h)

pub once : {T : Type 0} (t : List (TreeEntry T)) → is_tree t ≡ true → are_led_to t (length t / 2 - 1) ≡ true
once t h = and_right (nat_lt 1 (length t) && (length t % 2 == 0) && are_entries (length t) 0 t) _ h

pub big : {T : Type 0} (t : List (TreeEntry T)) → is_tree t ≡ true → 0 + 1 < length t
big t h = grind (arith, nat_tests)

pub twos : {T : Type 0} (t : List (TreeEntry T)) → is_tree t ≡ true → length t % 2 ≡ 0
twos t h = grind (arith, nat_tests)

pub further : {T : Type 0} (t : List (TreeEntry T)) (k j : ℕ) → is_tree t ≡ true → slice_get t k ≡ Some (Pair j) → Further t k j
further {T = T} t k j h q =
    let here : is_entry {T = T} (length t) (0 + k) (Pair j) ≡ true = entry_at (length t) 0 k t (Pair j) (table t h) q in
    record { later = grind (arith, nat_tests); within = grind (arith, nat_tests); even = grind (arith, nat_tests) }

next_same : {T : Type 0} (d : T) (f g : ℕ → Reader T) (o : Option (TreeEntry T)) (u : State) → ((j : ℕ) → o ≡ Some (Pair j) → f j u ≡ g j u) → next d f o u ≡ next d g o u
next_same d f g None u h = refl
next_same d f g (Some (Leaf x)) u h = refl
next_same d f g (Some (Pair j)) u h = h j refl

-- more steps than there are entries ahead change nothing
walk_enough : {T : Type 0} (d : T) (t : List (TreeEntry T)) (ps : List ℕ) (n m i : ℕ) (s : State) → is_tree t ≡ true → i + 1 < length t → length t ≤ n + i → length t ≤ m + i → walk d t ps n i s ≡ walk d t ps m i s
unfolding walk Rattle.vp_bool.specs.Reader.bind
walk_enough d t ps zero m i s h w a b = absurd (omega arith)
walk_enough d t ps (suc n) zero i s h w a b = absurd (omega arith)
walk_enough d t ps (suc n) (suc m) i s h w a b =
    let r = read (slice_index ps (i / 2)) s in
    next_same d (walk d t ps n) (walk d t ps m) (slice_get t (i + from_bool r.0)) r.1 (λ j q.
    let f = further t (i + from_bool r.0) j h q in
    walk_enough d t ps n m j r.1 h f.within (omega arith) (omega arith))

-- one bool of a walk
pub walk_step : {T : Type 0} (d : T) (t : List (TreeEntry T)) (ps : List ℕ) (i : ℕ) (s : State) → is_tree t ≡ true → i + 1 < length t
    → let r = read (slice_index ps (i / 2)) s in walk_from d t ps i s ≡ next d (walk_from d t ps) (slice_get t (i + from_bool r.0)) r.1
unfolding walk walk_from Rattle.vp_bool.specs.Reader.bind
walk_step d t ps i s h w =
    let r = read (slice_index ps (i / 2)) s in
    let k : length t - i ≡ suc (length t - i - 1) = omega arith in
    rw k
    (next_same d (walk d t ps (length t - i - 1)) (λ j. walk d t ps (length t - j) j) (slice_get t (i + from_bool r.0)) r.1 (λ j q.
    let f = further t (i + from_bool r.0) j h q in
    walk_enough d t ps (length t - i - 1) (length t - j) j r.1 h f.within (omega arith) (omega arith)))

pub bit_small : (b : Bool) → from_bool b < 2
bit_small true = omega arith
bit_small false = omega arith

pub walk_on : {T : Type 0} (d : T) (t : List (TreeEntry T)) (ps : List ℕ) (i : ℕ) (s u : State) (b : Bool) (e : TreeEntry T) → is_tree t ≡ true → i + 1 < length t
    → b ≡ (read (slice_index ps (i / 2)) s).0 → u ≡ (read (slice_index ps (i / 2)) s).1 → slice_get t (i + from_bool b) ≡ Some e → walk_from d t ps i s ≡ next d (walk_from d t ps) (Some e) u
walk_on d t ps i s u b e h w p q g =
    let here : slice_get t (i + from_bool (read (slice_index ps (i / 2)) s).0) ≡ Some e = rw (← p) g in
    rw (walk_step d t ps i s h w, here, ← q) refl

pub there : {T : Type 0} (t : List (TreeEntry T)) (i : ℕ) (b : Bool) (e d : TreeEntry T) → i + 1 < length t → get_or t (i + from_bool b) d ≡ e → slice_get t (i + from_bool b) ≡ Some e
there {T = T} t i b e d w h = slice_get-get_or t (i + from_bool b) d (omega (arith, bit_small b)) ∙ ap (λ (x : TreeEntry T). Some x) h

pub goes_on : {T : Type 0} (t : List (TreeEntry T)) (i j : ℕ) (b : Bool) (d : TreeEntry T) → is_tree t ≡ true → i + 1 < length t → get_or t (i + from_bool b) d ≡ Pair j → (i < j) × (j + 1 < length t)
goes_on t i j b d h w e =
    let f = further t (i + from_bool b) j h (there t i b (Pair j) d w e) in
    (omega arith, f.within)
