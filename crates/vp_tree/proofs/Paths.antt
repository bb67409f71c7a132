-- The paths of a tree.
use Rattle.std.proofs.Common.{◌≡◌, ℕ, zero, suc, ◌+◌, ◌-◌, ◌*◌, ◌/◌, ◌%◌, ◌<◌, ◌≤◌, Bool, true, false, cond, zero-add, List, [], ◌∷◌, ◌++◌, length, Option, Some, None, slice_get, refl, sym, ap, subst, ◌∙◌, arith, ◌⊎◌, inl, inr}
use Rattle.std.specs.Prelude.{slice_index, ◌==◌, count_by}
use Rattle.std.specs.Int.{from_bool}
use Rattle.std.proofs.lemmas.Bool.{eqb-true, eq-eqb, cases_lt}
use Rattle.std.proofs.lemmas.List.Sums.{sum_by-append}
use Rattle.vp_bool.specs.Bools.{State, read}
use Rattle.vp_bool.specs.Reader.{Reader, ◌>>=◌, give, Reads}
use Rattle.vp_tree.specs.declared.entry.TreeEntry.{TreeEntry}
use Rattle.vp_tree.specs.declared.entry.TreeEntry.TheVariants.{Leaf, Pair}
use Rattle.vp_tree.specs.declared.steps.Step.{Step}
use Rattle.vp_tree.specs.Tree.{is_tree, child_index, IsPath, LeadsToLeaf, OnePath, OneLeaf, spelled, leads_to, are_led_to, leaf_passes, leaves_pass, next, walk, walk_from}
use Rattle.vp_tree.proofs.Walks.{and_left, and_right, further, bit_small, once, twos}

-- ---- a walk takes a path

pub first_pair : {T : Type 0} (t : List (TreeEntry T)) (i k : ℕ) (step : Step) (path : List Step) → IsPath t i (step ∷ path) k → step.pair ≡ i
first_pair t i k step [] p = p.0
first_pair t i k step (following ∷ path) p = p.0

abbrev pub a_pair : {T : Type 0} → ℕ → Option (TreeEntry T)
a_pair j = Some (Pair j)

-- a step before a path
pub path_on : {T : Type 0} (t : List (TreeEntry T)) (i j k : ℕ) (step : Step) (path : List Step)
    → step.pair ≡ i → slice_get t (child_index step) ≡ Some (Pair j) → IsPath t j path k → IsPath t i (step ∷ path) k
path_on t i j k step [] p q r = absurd r
path_on {T = T} t i j k step (following ∷ path) p q r =
    let f = first_pair t j k following path r in
    (p, q ∙ ap (λ (m : ℕ). a_pair {T = T} m) (sym f), subst (λ (m : ℕ). IsPath t m (following ∷ path) k) (sym f) r)

slice_within : {T : Type 0} (t : List (TreeEntry T)) (i : ℕ) → i < length t → (e : TreeEntry T) × (slice_get t i ≡ Some e)
slice_within [] i h = absurd (omega arith)
slice_within (x ∷ xs) zero h = (x, refl)
slice_within (x ∷ xs) (suc i) h = slice_within xs i (omega arith)

leads_next : {T : Type 0} (d : T) (t : List (TreeEntry T)) (ps : List ℕ) (i : ℕ) (s : State) (b : Bool) (u : State)
    → (read (slice_index ps (i / 2)) s).0 ≡ b → (read (slice_index ps (i / 2)) s).1 ≡ u
    → (f : ℕ → Reader T) (o : Option (TreeEntry T)) → slice_get t (i + from_bool b) ≡ o → ((e : TreeEntry T) × (o ≡ Some e))
    → ((j : ℕ) → o ≡ Some (Pair j) → LeadsToLeaf t ps j u (f j u).0 (f j u).1)
    → LeadsToLeaf t ps i s (next d f o u).0 (next d f o u).1
leads_next d t ps i s b u p q f None e w h = absurd cc
leads_next d t ps i s b u p q f (Some (Leaf x)) e w h =
    record { path = record { pair = i; bit = b } ∷ []; place = i + from_bool b; is_path = (refl, refl); is_leaf = e; bools = (p, q) }
leads_next d t ps i s b u p q f (Some (Pair j)) e w h =
    let l = h j refl in
    record {
      path = record { pair = i; bit = b } ∷ l.path;
      place = l.place;
      is_path = path_on t i j l.place (record { pair = i; bit = b }) l.path refl e l.is_path;
      is_leaf = l.is_leaf;
      bools = (p, rw q l.bools);
    }

leads : {T : Type 0} (d : T) (t : List (TreeEntry T)) (ps : List ℕ) (n i : ℕ) (s : State) → is_tree t ≡ true → i + 1 < length t → length t ≤ n + i
    → LeadsToLeaf t ps i s (walk d t ps n i s).0 (walk d t ps n i s).1
unfolding walk Rattle.vp_bool.specs.Reader.bind
leads d t ps zero i s h w a = absurd (omega arith)
leads d t ps (suc n) i s h w a =
    let r = read (slice_index ps (i / 2)) s in
    leads_next d t ps i s r.0 r.1 refl refl (walk d t ps n) (slice_get t (i + from_bool r.0)) refl (slice_within t (i + from_bool r.0) (omega (arith, bit_small r.0))) (λ j q.
    let f = further t (i + from_bool r.0) j h q in
    leads d t ps n j r.1 h f.within (omega arith))

-- From a pair of a tree the walk leads along a path.
pub walk_leads : {T : Type 0} (d : T) (t : List (TreeEntry T)) (ps : List ℕ) (i : ℕ) (s : State) → is_tree t ≡ true → i + 1 < length t
    → LeadsToLeaf t ps i s (walk_from d t ps i s).0 (walk_from d t ps i s).1
unfolding walk_from
walk_leads d t ps i s h w = leads d t ps (length t - i) i s h w (omega arith)

-- ---- a test of all leaves

leaf_at : {T : Type 0} (passes : T → Bool) (k : ℕ) (t : List (TreeEntry T)) (x : T) → leaves_pass passes t ≡ true → slice_get t k ≡ Some (Leaf x) → passes x ≡ true
leaf_at passes k [] x h q = absurd cc
leaf_at passes zero (e ∷ es) x h q =
    let same : e ≡ Leaf x = cc in
    let b = and_left (leaf_passes passes e) (leaves_pass passes es) h in
    rw same at b
leaf_at passes (suc k) (e ∷ es) x h q = leaf_at passes k es x (and_right (leaf_passes passes e) (leaves_pass passes es) h) q

pub leads_passes : {T : Type 0} (t : List (TreeEntry T)) (ps : List ℕ) (i : ℕ) (s : State) (x : T) (u : State) → LeadsToLeaf t ps i s x u
    → (passes : T → Bool) → leaves_pass passes t ≡ true → passes x ≡ true
leads_passes t ps i s x u l passes h = leaf_at passes l.place t x h l.is_leaf

-- ---- one path to a leaf

-- the last step of a path to the entry k, and the path before it
record Arrives {T : Type 0} (t : List (TreeEntry T)) (i : ℕ) (path : List Step) (k : ℕ) : Type 0 where
  before : List Step
  step : Step
  entry : ℕ
  whole : path ≡ before ++ step ∷ []
  arrives : child_index step ≡ k
  leads : slice_get t entry ≡ Some (Pair step.pair)
  comes : IsPath t i before entry

abbrev OneStep : ℕ → List Step → ℕ → Type 0
OneStep i path k = (step : Step) × (path ≡ step ∷ []) × (step.pair ≡ i) × (child_index step ≡ k)

arrives_on : {T : Type 0} (t : List (TreeEntry T)) (i j k : ℕ) (step : Step) (path : List Step) → step.pair ≡ i → slice_get t (child_index step) ≡ Some (Pair j)
    → OneStep j path k ⊎ Arrives t j path k → Arrives t i (step ∷ path) k
arrives_on {T = T} t i j k step path p q (inl last) =
    record {
      before = step ∷ [];
      step = last.0;
      entry = child_index step;
      whole = ap (λ (steps : List Step). step ∷ steps) last.1;
      arrives = last.3;
      leads = q ∙ ap (λ (m : ℕ). a_pair {T = T} m) (sym last.2);
      comes = (p, refl);
    }
arrives_on t i j k step path p q (inr a) =
    record {
      before = step ∷ a.before;
      step = a.step;
      entry = a.entry;
      whole = ap (λ (steps : List Step). step ∷ steps) a.whole;
      arrives = a.arrives;
      leads = a.leads;
      comes = path_on t i j a.entry step a.before p q a.comes;
    }

arrival : {T : Type 0} (t : List (TreeEntry T)) (i k : ℕ) (path : List Step) → IsPath t i path k → OneStep i path k ⊎ Arrives t i path k
arrival t i k [] p = absurd p
arrival t i k (step ∷ []) p = inl (step, refl, p.0, p.1)
arrival t i k (step ∷ (following ∷ path)) p = inr (arrives_on t i following.pair k step (following ∷ path) p.0 p.1 (arrival t following.pair k (following ∷ path) p.2))

-- A path goes upwards.
upwards : {T : Type 0} (t : List (TreeEntry T)) (i k : ℕ) (path : List Step) → is_tree t ≡ true → IsPath t i path k → i ≤ k
upwards t i k [] h p = absurd p
upwards t i k (step ∷ []) h p = omega arith
upwards t i k (step ∷ (following ∷ path)) h p =
    let on = upwards t following.pair k (following ∷ path) h p.2 in
    let f = further t (child_index step) following.pair h p.1 in
    omega arith

counted : {A : Type 0} (test : A → Bool) (x : A) (xs : List A) → count_by test (x ∷ xs) ≡ cond (test x) 1 0 + count_by test xs
counted test x xs = sum_by-append (λ y. cond (test y) 1 0) (x ∷ []) xs ∙ rw zero-add refl

counted_none : {A : Type 0} (test : A → Bool) (xs : List A) (j : ℕ) (y : A) → count_by test xs ≡ 0 → slice_get xs j ≡ Some y → test y ≡ true → ⊥
counted_none test [] j y n g b = absurd cc
counted_none test (x ∷ xs) zero y n g b =
    let same : x ≡ y = cc in
    let one : cond {A = ℕ} (test x) 1 0 ≡ 1 = rw (same, b) refl in
    let sum : cond (test x) 1 0 + count_by test xs ≡ 0 = sym (counted test x xs) ∙ n in
    absurd (omega arith)
counted_none test (x ∷ xs) (suc j) y n g b =
    let sum : cond (test x) 1 0 + count_by test xs ≡ 0 = sym (counted test x xs) ∙ n in
    counted_none test xs j y (omega arith) g b

more_counted : (b : Bool) (n : ℕ) → cond b 1 0 + n ≡ 1 → b ≡ true → n ≡ 0
more_counted b n e h = let one : 1 + n ≡ 1 = rw h at e in omega arith

rest_counted : (b : Bool) (n : ℕ) → cond b 1 0 + n ≡ 1 → (n ≡ 0 → ⊥) → n ≡ 1
rest_counted true n e h = absurd (h (omega arith))
rest_counted false n e h = omega arith

-- Where one item passes a test, two places of such items are the same.
counted_one : {A : Type 0} (test : A → Bool) (xs : List A) (j k : ℕ) (x y : A) → count_by test xs ≡ 1 → slice_get xs j ≡ Some x → slice_get xs k ≡ Some y
    → test x ≡ true → test y ≡ true → j ≡ k
counted_one test [] j k x y n g h a b = absurd cc
counted_one test (z ∷ xs) zero zero x y n g h a b = refl
counted_one test (z ∷ xs) zero (suc k) x y n g h a b =
    let same : z ≡ x = cc in
    absurd (counted_none test xs k y (more_counted (test z) (count_by test xs) (sym (counted test z xs) ∙ n) (rw same a)) h b)
counted_one test (z ∷ xs) (suc j) zero x y n g h a b =
    let same : z ≡ y = cc in
    absurd (counted_none test xs j x (more_counted (test z) (count_by test xs) (sym (counted test z xs) ∙ n) (rw same b)) g a)
counted_one test (z ∷ xs) (suc j) (suc k) x y n g h a b =
    ap suc
    (counted_one test xs j k x y (rest_counted (test z) (count_by test xs) (sym (counted test z xs) ∙ n) (λ e. counted_none test xs j x e g a)) g h a b)

led_once : {T : Type 0} (t : List (TreeEntry T)) (n m : ℕ) → are_led_to t n ≡ true → 0 < m → m ≤ n → count_by (leads_to (2 * m)) t ≡ 1
led_once t zero m h low high = absurd (omega arith)
led_once t (suc n) m h low high =
    elim (cases_lt m (suc n)) [
      | inl less ↦ led_once t n m (and_right (count_by (leads_to (2 * suc n)) t == 1) _ h) low (omega arith)
      | inr least ↦
          let same : m ≡ suc n = omega arith in
          rw same (eqb-true _ _ (and_left (count_by (leads_to (2 * suc n)) t == 1) _ h))
    ]

-- One entry leads to a pair.
one_entry : {T : Type 0} (t : List (TreeEntry T)) (j k m : ℕ) → is_tree t ≡ true → slice_get t j ≡ Some (Pair m) → slice_get t k ≡ Some (Pair m) → j ≡ k
one_entry {T = T} t j k m h p q =
    let f = further t j m h p in
    let half : 2 * (m / 2) ≡ m = omega (arith, f.even) in
    let few : m / 2 ≤ length t / 2 - 1 = omega (arith, f.within, twos t h) in
    let once' = led_once t (length t / 2 - 1) (m / 2) (once t h) (omega (arith, f.later, f.even)) few in
    let test : (m == 2 * (m / 2)) ≡ true = rw half (eq-eqb m m refl) in
    counted_one (leads_to (2 * (m / 2))) t j k (Pair m) (Pair m) once' p q test test

abbrev step_at : ℕ → Bool → Step
step_at i b = record { pair = i; bit = b }

same_step : (i j : ℕ) (a b : Bool) → i ≡ j → a ≡ b → step_at i a ≡ step_at j b
same_step i j a b p q = cc

-- the halves of a place
bit_same : (a b : Bool) (i j : ℕ) → i % 2 ≡ 0 → j % 2 ≡ 0 → i + from_bool a ≡ j + from_bool b → (i ≡ j) × (a ≡ b)
bit_same true true i j p q e = (omega arith, refl)
bit_same true false i j p q e = absurd (omega arith)
bit_same false true i j p q e = absurd (omega arith)
bit_same false false i j p q e = (omega arith, refl)

same_last : (a b : Step) (k : ℕ) → a.pair % 2 ≡ 0 → b.pair % 2 ≡ 0 → child_index a ≡ k → child_index b ≡ k → a ≡ b
same_last a b k p q e f =
    let s = bit_same a.bit b.bit a.pair b.pair p q (e ∙ sym f) in
    same_step a.pair b.pair a.bit b.bit s.0 s.1

module _ {T : Type 0} (t : List (TreeEntry T)) (h : is_tree t ≡ true) (i : ℕ) (even : i % 2 ≡ 0) where
  -- the first pair isn't met again
  not_again : (k : ℕ) (path other : List Step) → Arrives t i path k → OneStep i other k → ⊥
  not_again k path other a b =
      let f = further t a.entry a.step.pair h a.leads in
      let first : b.0.pair % 2 ≡ 0 = rw (b.2) even in
      let same = bit_same a.step.bit b.0.bit a.step.pair b.0.pair f.even first (a.arrives ∙ sym b.3) in
      let up = upwards t i a.entry a.before h a.comes in
      let pair : a.step.pair ≡ i = same.0 ∙ b.2 in
      absurd (omega (arith, f.later))

  both : (n k : ℕ) (path other : List Step) → ((m : ℕ) (p q : List Step) → m < k → IsPath t i p m → IsPath t i q m → p ≡ q)
      → OneStep i path k ⊎ Arrives t i path k → OneStep i other k ⊎ Arrives t i other k → path ≡ other
  both n k path other before (inl a) (inl b) =
      let e : a.0 ≡ b.0 = same_last a.0 b.0 k (rw (a.2) even) (rw (b.2) even) a.3 b.3 in
      a.1 ∙ ap (λ (step : Step). step ∷ []) e ∙ sym b.1
  both n k path other before (inl a) (inr b) = absurd (not_again k other path b a)
  both n k path other before (inr a) (inl b) = absurd (not_again k path other a b)
  both n k path other before (inr a) (inr b) =
      let f = further t a.entry a.step.pair h a.leads in
      let g = further t b.entry b.step.pair h b.leads in
      let last : a.step ≡ b.step = same_last a.step b.step k f.even g.even a.arrives b.arrives in
      let leads' : slice_get t a.entry ≡ Some (Pair b.step.pair) = rw (← last) a.leads in
      let entry : a.entry ≡ b.entry = one_entry t a.entry b.entry b.step.pair h leads' b.leads in
      let arrives : a.step.pair + from_bool a.step.bit ≡ k = a.arrives in
      let rest : a.before ≡ b.before = before a.entry a.before b.before (omega (arith, f.later)) a.comes (rw entry b.comes) in
      a.whole ∙ ap (λ (steps : List Step). steps ++ a.step ∷ []) rest ∙ ap (λ (step : Step). b.before ++ step ∷ []) last ∙ sym b.whole

  one : (n k : ℕ) (path other : List Step) → k < n → IsPath t i path k → IsPath t i other k → path ≡ other
  one zero k path other less p q = absurd (omega arith)
  one (suc n) k path other less p q =
      both n k path other (λ m x y fewer a b. one n m x y (omega arith) a b) (arrival t i k path p) (arrival t i k other q)

pub one_path : {T : Type 0} (t : List (TreeEntry T)) → is_tree t ≡ true → OnePath t
one_path t h i k path other even p q = one t h i even (suc k) k path other (omega arith) p q

-- ---- one leaf that the bools of a state lead to

-- Two first steps that the same state spells are one.
same_first : {T : Type 0} (t : List (TreeEntry T)) (ps : List ℕ) (i : ℕ) (s : State) (a b : Step) → a.pair ≡ i → b.pair ≡ i
    → (read (slice_index ps (a.pair / 2)) s).0 ≡ a.bit → (read (slice_index ps (b.pair / 2)) s).0 ≡ b.bit → a ≡ b
same_first t ps i s a b p q e f =
    let pair : a.pair ≡ b.pair = p ∙ sym q in
    let bit : a.bit ≡ b.bit = sym e ∙ rw pair f in
    same_step a.pair b.pair a.bit b.bit pair bit

abbrev Ends : {T : Type 0} → List (TreeEntry T) → ℕ → Type 0
Ends {T} t k = (x : T) × (slice_get t k ≡ Some (Leaf x))

ends_there : {T : Type 0} (t : List (TreeEntry T)) (k j : ℕ) → Ends t k → slice_get t k ≡ Some (Pair j) → ⊥
ends_there {T = T} t k j e p =
    let same : Some (Leaf e.0) ≡ a_pair {T = T} j = sym e.1 ∙ p in
    absurd cc

same_end : {T : Type 0} (t : List (TreeEntry T)) (ps : List ℕ) (path other : List Step) (i k m : ℕ) (s u v : State)
    → IsPath t i path k → IsPath t i other m → Ends t k → Ends t m → Reads (spelled ps path) s u → Reads (spelled ps other) s v → (k ≡ m) × (u ≡ v)
same_end t ps [] other i k m s u v p q e f a b = absurd p
same_end t ps (step ∷ path) [] i k m s u v p q e f a b = absurd q
same_end t ps (x ∷ []) (y ∷ []) i k m s u v p q e f a b =
    let same = same_first t ps i s x y p.0 q.0 a.0 b.0 in
    (sym p.1 ∙ ap child_index same ∙ q.1, sym a.1 ∙ ap (λ (z : Step). (read (slice_index ps (z.pair / 2)) s).1) same ∙ b.1)
same_end t ps (x ∷ []) (y ∷ (w ∷ other)) i k m s u v p q e f a b =
    let same = same_first t ps i s x y p.0 q.0 a.0 b.0 in
    let place : child_index y ≡ k = sym (ap child_index same) ∙ p.1 in
    absurd (ends_there t k w.pair e (rw place at q.1))
same_end t ps (x ∷ (z ∷ path)) (y ∷ []) i k m s u v p q e f a b =
    let same = same_first t ps i s x y p.0 q.0 a.0 b.0 in
    let place : child_index x ≡ m = ap child_index same ∙ q.1 in
    absurd (ends_there t m z.pair f (rw place at p.1))
same_end {T = T} t ps (x ∷ (z ∷ path)) (y ∷ (w ∷ other)) i k m s u v p q e f a b =
    let same = same_first t ps i s x y p.0 q.0 a.0 b.0 in
    let on : a_pair {T = T} z.pair ≡ a_pair {T = T} w.pair = sym p.1 ∙ ap (λ (step : Step). slice_get t (child_index step)) same ∙ q.1 in
    let pair : z.pair ≡ w.pair = cc in
    let state = ap (λ (step : Step). (read (slice_index ps (step.pair / 2)) s).1) same in
    same_end t ps (z ∷ path) (w ∷ other) z.pair k m (read (slice_index ps (x.pair / 2)) s).1 u v p.2
    (subst (λ (j : ℕ). IsPath t j (w ∷ other) m) (sym pair) q.2)
    e
    f
    a.1
    (subst (λ (r : State). Reads (spelled ps (w ∷ other)) r v) (sym state) b.1)

pub one_leaf : {T : Type 0} (t : List (TreeEntry T)) → OneLeaf t
one_leaf t ps i s x y u v l r =
    let e = same_end t ps l.path r.path i l.place r.place s u v l.is_path r.is_path (x, l.is_leaf) (y, r.is_leaf) l.bools r.bools in
    let both : Some (Leaf x) ≡ Some (Leaf y) = sym l.is_leaf ∙ ap (slice_get t) e.0 ∙ r.is_leaf in
    let leaf : x ≡ y = cc in
    (leaf, e.1)
