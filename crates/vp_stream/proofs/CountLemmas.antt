-- How many packets a file has, and what its fault isn't.
use Rattle.std.proofs.Common.{◌≡◌, ℕ, zero, suc, ◌+◌, ◌≤◌, List, length, drop, Option, Some, None, Result, Ok, Err, refl, sym, ap, ◌∙◌, arith}
use Rattle.std.proofs.lemmas.Bool.Decides.{nat_tests}
use Rattle.vp_ivf.specs.declared.packet.IvfHead.{IvfHead}
use Rattle.vp_ivf.specs.declared.fault.FileFault.{FileFault}
use Rattle.vp_ivf.specs.declared.fault.FileFault.TheVariants.{Torn}
use Rattle.vp_ivf.specs.Ivf.{Contents, next_size, next_head, cuts, read_file}
use Rattle.vp_ivf.proofs.Cuts.{cuts-whole, cuts-stop, cuts-fault}

none_whole : (max : ℕ) (xs : List ℕ) (s : ℕ) → next_size max 0 xs ≡ Ok (Some s) → ⊥
unfolding next_size
none_whole max xs s e = grind (arith, nat_tests)

count_none : (h : Option IvfHead) (max : ℕ) (b : List ℕ) (r : Result (Option ℕ) FileFault) → next_size max 0 b ≡ r → length (cuts h max 0 b).packets ≤ 0
count_none h max b (Err f) e = rw (cuts-fault h max 0 b f e) (omega arith)
count_none h max b (Ok None) e = rw (cuts-stop h max 0 b e) (omega arith)
count_none h max b (Ok (Some s)) e = absurd (none_whole max b s e)

count_more : (h : Option IvfHead) (max n : ℕ) (b : List ℕ) (r : Result (Option ℕ) FileFault) → next_size max (suc n) b ≡ r
    → ((c : List ℕ) → length (cuts h max n c).packets ≤ n) → length (cuts h max (suc n) b).packets ≤ suc n
count_more h max n b (Err f) e later = rw (cuts-fault h max (suc n) b f e) (omega arith)
count_more h max n b (Ok None) e later = rw (cuts-stop h max (suc n) b e) (omega arith)
count_more h max n b (Ok (Some s)) e later = rw (cuts-whole h max n b s e) (omega (arith, later (drop (12 + s) b)))

count_cuts : (h : Option IvfHead) (max n : ℕ) (b : List ℕ) → length (cuts h max n b).packets ≤ n
count_cuts h max zero b = count_none h max b (next_size max 0 b) refl
count_cuts h max (suc n) b = count_more h max n b (next_size max (suc n) b) refl (λ c. count_cuts h max n c)

count_head : (max n : ℕ) (b : List ℕ) (r : Result (Option IvfHead) FileFault) → next_head b ≡ r → length (read_file max n b).packets ≤ n
unfolding read_file
count_head max n b (Err f) e = rw e (omega arith)
count_head max n b (Ok None) e = rw e (omega arith)
count_head max n b (Ok (Some h)) e = rw e (count_cuts (Some h) max n (drop 32 b))

-- a file has at most as many packets as are allowed
pub count-read : (max n : ℕ) (b : List ℕ) → length (read_file max n b).packets ≤ n
count-read max n b = count_head max n b (next_head b) refl

-- ---- a fault in the bytes isn't that they end

size_not_torn : (max n : ℕ) (b : List ℕ) → next_size max n b ≡ Err Torn → ⊥
unfolding next_size
size_not_torn max zero b e = grind (arith, nat_tests)
size_not_torn max (suc n) b e = grind (arith, nat_tests)

head_not_torn : (b : List ℕ) → next_head b ≡ Err Torn → ⊥
unfolding next_head
head_not_torn b e = grind (arith, nat_tests)

not_torn_at : (f : FileFault) (g : Option FileFault) → g ≡ Some f → g ≡ Some Torn → f ≡ Torn
not_torn_at f g e t = cc

fault_at : (h : Option IvfHead) (max n : ℕ) (b : List ℕ) (f : FileFault) → next_size max n b ≡ Err f → (cuts h max n b).fault ≡ Some Torn → ⊥
fault_at h max n b f e t = size_not_torn max n b (e ∙ ap Err (not_torn_at f _ (ap (λ (r : Contents). r.fault) (cuts-fault h max n b f e)) t))

none_torn : (g : Option FileFault) → g ≡ None → g ≡ Some Torn → ⊥
none_torn g e t = cc

fault_none : (h : Option IvfHead) (max : ℕ) (b : List ℕ) (r : Result (Option ℕ) FileFault) → next_size max 0 b ≡ r → (cuts h max 0 b).fault ≡ Some Torn → ⊥
fault_none h max b (Err f) e t = fault_at h max 0 b f e t
fault_none h max b (Ok None) e t = none_torn _ (ap (λ (r : Contents). r.fault) (cuts-stop h max 0 b e)) t
fault_none h max b (Ok (Some s)) e t = none_whole max b s e

fault_more : (h : Option IvfHead) (max n : ℕ) (b : List ℕ) (r : Result (Option ℕ) FileFault) → next_size max (suc n) b ≡ r
    → ((c : List ℕ) → (cuts h max n c).fault ≡ Some Torn → ⊥) → (cuts h max (suc n) b).fault ≡ Some Torn → ⊥
fault_more h max n b (Err f) e later t = fault_at h max (suc n) b f e t
fault_more h max n b (Ok None) e later t = none_torn _ (ap (λ (r : Contents). r.fault) (cuts-stop h max (suc n) b e)) t
fault_more h max n b (Ok (Some s)) e later t = later (drop (12 + s) b) (sym (ap (λ (r : Contents). r.fault) (cuts-whole h max n b s e)) ∙ t)

fault_cuts : (h : Option IvfHead) (max n : ℕ) (b : List ℕ) → (cuts h max n b).fault ≡ Some Torn → ⊥
fault_cuts h max zero b t = fault_none h max b (next_size max 0 b) refl t
fault_cuts h max (suc n) b t = fault_more h max n b (next_size max (suc n) b) refl (λ c. fault_cuts h max n c) t

fault_head : (max n : ℕ) (b : List ℕ) (r : Result (Option IvfHead) FileFault) → next_head b ≡ r → (read_file max n b).fault ≡ Some Torn → ⊥
unfolding read_file
fault_head max n b (Err f) e t = head_not_torn b (e ∙ ap Err (not_torn_at f _ refl (rw e at t)))
fault_head max n b (Ok None) e t = none_torn _ refl (rw e at t)
fault_head max n b (Ok (Some h)) e t = fault_cuts (Some h) max n (drop 32 b) (rw e at t)

pub fault-read : (max n : ℕ) (b : List ℕ) → (read_file max n b).fault ≡ Some Torn → ⊥
fault-read max n b t = fault_head max n b (next_head b) refl t
