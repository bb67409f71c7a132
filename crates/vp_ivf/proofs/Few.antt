-- How many packets a piece adds.
use Rattle.std.proofs.Common.{◌≡◌, ℕ, zero, suc, ◌+◌, ◌*◌, ◌/◌, ◌≤◌, inl, inr, ◌<◌, cond, nat_lt, List, [], ◌∷◌, ◌++◌, length, drop, Option, Some, None, Result, Ok, Err, refl, sym, ap, ◌∙◌, arith}
use Rattle.std.proofs.lemmas.List.{append-nil, length-append, length-drop}
use Rattle.std.proofs.lemmas.Bool.{cases_lt}
use Rattle.std.proofs.lemmas.Bool.Decides.{nat_tests}
use Rattle.vp_ivf.specs.declared.packet.Packet.{Packet}
use Rattle.vp_ivf.specs.declared.packet.IvfHead.{IvfHead}
use Rattle.vp_ivf.specs.declared.fault.FileFault.{FileFault}
use Rattle.vp_ivf.specs.declared.fault.FileFault.TheVariants.{PacketTooLarge}
use Rattle.vp_ivf.specs.Ivf.{Contents, packet_size, next_size, next_head, cuts, read_file, read_from, with_prefix, stop, resume, resume_at}
use Rattle.vp_ivf.specs.Reader.{IsSettled}
use Rattle.vp_ivf.proofs.Cuts.{cuts-whole, cuts-stop, cuts-fault}
use Rattle.vp_ivf.proofs.Append.{number-append, next_size-whole, read-append, cuts-append, next_head-header}

-- nothing more joined leaves nothing
nothing_joined : {X : Type 0} (xs ys : List X) → xs ≡ xs ++ ys → ys ≡ []
nothing_joined xs [] e = refl
nothing_joined xs (y ∷ ys) e = absurd (omega (arith, ap length e, length-append xs (y ∷ ys)))

made_of : (r : Contents) (head : Option IvfHead) (packets : List Packet) (left : ℕ) (fault : Option FileFault) (rest : List ℕ)
    → r.head ≡ head → r.packets ≡ packets → r.left ≡ left → r.fault ≡ fault → r.rest ≡ rest
    → r ≡ record { head = head; packets = packets; left = left; fault = fault; rest = rest }
made_of r head packets left fault rest a b c d e = rw (← a, ← b, ← c, ← d, ← e) refl

-- where no fault was met, what is left has nothing whole
pub settles : (max : ℕ) (r : Contents) → r ≡ resume max r [] → IsSettled max r
settles max r e = λ none.
    let later = read_from r.head max r.left (r.rest ++ []) in
    let same : r ≡ with_prefix r.packets later = e ∙ ap (λ f. resume_at f max r []) none in
    let empty : later.packets ≡ [] = nothing_joined r.packets later.packets (ap (λ x. x.packets) same) in
    rw (← append-nil r.rest) (made_of later _ _ _ _ _ (sym (ap (λ x. x.head) same)) empty (sym (ap (λ x. x.left) same)) (sym (ap (λ x. x.fault) same) ∙ none) (sym (ap (λ x. x.rest) same) ∙ sym (append-nil r.rest)))

pub read-settled : (max n : ℕ) (b : List ℕ) → IsSettled max (read_file max n b)
read-settled max n b = settles max (read_file max n b) (sym (ap (read_file max n) (append-nil b)) ∙ read-append max n b [])

pub cuts-settled : (h : IvfHead) (max n : ℕ) (b : List ℕ) → IsSettled max (cuts (Some h) max n b)
cuts-settled h max n b = settles max (cuts (Some h) max n b) (sym (ap (cuts (Some h) max n) (append-nil b)) ∙ cuts-append h max n b [])

pub read_from-settled : (head : Option IvfHead) (max n : ℕ) (b : List ℕ) → IsSettled max (read_from head max n b)
read_from-settled None max n b = read-settled max n b
read_from-settled (Some h) max n b = cuts-settled h max n b

pub none_whole : (max : ℕ) (xs : List ℕ) (s : ℕ) → next_size max 0 xs ≡ Ok (Some s) → ⊥
unfolding next_size
none_whole max xs s e = grind (arith, nat_tests)

size_none : (h : Option IvfHead) (max : ℕ) (b : List ℕ) (r : Result (Option ℕ) FileFault) → next_size max 0 b ≡ r → 12 * length (cuts h max 0 b).packets ≤ length b
size_none h max b (Err f) e = rw (cuts-fault h max 0 b f e) (omega arith)
size_none h max b (Ok None) e = rw (cuts-stop h max 0 b e) (omega arith)
size_none h max b (Ok (Some s)) e = absurd (none_whole max b s e)

size_more : (h : Option IvfHead) (max n : ℕ) (b : List ℕ) (r : Result (Option ℕ) FileFault) → next_size max (suc n) b ≡ r
    → ((c : List ℕ) → 12 * length (cuts h max n c).packets ≤ length c)
    → 12 * length (cuts h max (suc n) b).packets ≤ length b
size_more h max n b (Err f) e later = rw (cuts-fault h max (suc n) b f e) (omega arith)
size_more h max n b (Ok None) e later = rw (cuts-stop h max (suc n) b e) (omega arith)
size_more h max n b (Ok (Some s)) e later =
    rw (cuts-whole h max n b s e) (omega (arith, next_size-whole max (suc n) b s e, later (drop (12 + s) b), length-drop (12 + s) b))

-- each packet takes twelve bytes and more
pub cuts-size : (h : Option IvfHead) (max n : ℕ) (b : List ℕ) → 12 * length (cuts h max n b).packets ≤ length b
cuts-size h max zero b = size_none h max b (next_size max 0 b) refl
cuts-size h max (suc n) b = size_more h max n b (next_size max (suc n) b) refl (λ c. cuts-size h max n c)

-- a packet that is whole in a front is whole there too
front_step : (l m max size s : ℕ)
    → cond (nat_lt (l + m) 12) (Ok None) (cond (nat_lt max size) (Err PacketTooLarge) (cond (nat_lt (l + m) (12 + size)) (Ok None) (Ok (Some size)))) ≡ Ok (Some s)
    → 12 + s ≤ l
    → cond (nat_lt l 12) (Ok None) (cond (nat_lt max size) (Err PacketTooLarge) (cond (nat_lt l (12 + size)) (Ok None) (Ok (Some size)))) ≡ Ok (Some s)
front_step l m max size s e le = grind (arith, nat_tests)

next_size-front : (max n : ℕ) (xs ys : List ℕ) (s : ℕ) → next_size max (suc n) (xs ++ ys) ≡ Ok (Some s) → 12 + s ≤ length xs → next_size max (suc n) xs ≡ Ok (Some s)
unfolding next_size
next_size-front max n xs ys s e le =
    let same : packet_size (xs ++ ys) ≡ packet_size xs = number-append 0 4 xs ys (omega arith) in
    front_step (length xs) (length ys) max (packet_size xs) s (rw (length-append xs ys, same) at e) le

not_empty : {X : Type 0} {x : X} {xs ys : List X} → ys ≡ [] → ys ≡ x ∷ xs → ⊥
not_empty a b = cc

-- behind bytes with nothing whole, m more bytes add at most m / 12 + 1 packets
few_step : (h : IvfHead) (max n : ℕ) (xs ys : List ℕ) (r : Result (Option ℕ) FileFault) → next_size max (suc n) (xs ++ ys) ≡ r
    → (cuts (Some h) max (suc n) xs).packets ≡ []
    → length (cuts (Some h) max (suc n) (xs ++ ys)).packets ≤ length ys / 12 + 1
few_step h max n xs ys (Err f) e idle = rw (cuts-fault (Some h) max (suc n) (xs ++ ys) f e) (omega arith)
few_step h max n xs ys (Ok None) e idle = rw (cuts-stop (Some h) max (suc n) (xs ++ ys) e) (omega arith)
few_step h max n xs ys (Ok (Some s)) e idle =
    rw (cuts-whole (Some h) max n (xs ++ ys) s e)
    (elim (cases_lt (length xs) (12 + s)) [
      | inl lt ↦ omega (arith, cuts-size (Some h) max n (drop (12 + s) (xs ++ ys)), length-drop (12 + s) (xs ++ ys), length-append xs ys)
      | inr le ↦ absurd (let whole = cuts-whole (Some h) max n xs s (next_size-front max n xs ys s e le) in not_empty idle (ap (λ x. x.packets) whole))
    ])

head_none : (h : Option IvfHead) (max : ℕ) (b : List ℕ) (r : Result (Option ℕ) FileFault) → next_size max 0 b ≡ r → (cuts h max 0 b).head ≡ h
head_none h max b (Err f) e = rw (cuts-fault h max 0 b f e) refl
head_none h max b (Ok None) e = rw (cuts-stop h max 0 b e) refl
head_none h max b (Ok (Some s)) e = absurd (none_whole max b s e)

head_more : (h : Option IvfHead) (max n : ℕ) (b : List ℕ) (r : Result (Option ℕ) FileFault) → next_size max (suc n) b ≡ r
    → ((c : List ℕ) → (cuts h max n c).head ≡ h) → (cuts h max (suc n) b).head ≡ h
head_more h max n b (Err f) e later = rw (cuts-fault h max (suc n) b f e) refl
head_more h max n b (Ok None) e later = rw (cuts-stop h max (suc n) b e) refl
head_more h max n b (Ok (Some s)) e later = rw (cuts-whole h max n b s e) (later (drop (12 + s) b))

pub cuts-head : (h : Option IvfHead) (max n : ℕ) (b : List ℕ) → (cuts h max n b).head ≡ h
cuts-head h max zero b = head_none h max b (next_size max 0 b) refl
cuts-head h max (suc n) b = head_more h max n b (next_size max (suc n) b) refl (λ c. cuts-head h max n c)

packets_none : (h : Option IvfHead) (max : ℕ) (b : List ℕ) (r : Result (Option ℕ) FileFault) → next_size max 0 b ≡ r → length (cuts h max 0 b).packets ≡ 0
packets_none h max b (Err f) e = rw (cuts-fault h max 0 b f e) refl
packets_none h max b (Ok None) e = rw (cuts-stop h max 0 b e) refl
packets_none h max b (Ok (Some s)) e = absurd (none_whole max b s e)

pub short_head : (b : List ℕ) → next_head b ≡ Ok None → length b < 32
unfolding next_head
short_head b e = grind (arith, nat_tests)

some_none : {A : Type 0} {x : A} → Some x ≡ None → ⊥
some_none e = cc

-- where the head isn't known, less than the head is there
no_head : (max n : ℕ) (b : List ℕ) (r : Result (Option IvfHead) FileFault) → next_head b ≡ r → read_file max n b ≡ stop None n None b → length b < 32
unfolding read_file
no_head max n b (Err f) e idle = let clash = rw e at (ap (λ x. x.fault) idle) in absurd (some_none clash)
no_head max n b (Ok None) e idle = short_head b e
no_head max n b (Ok (Some h)) e idle =
    let clash = rw e at (ap (λ x. x.head) idle) in
    absurd (some_none (sym (cuts-head (Some h) max n (drop 32 b)) ∙ clash))

few_head : (max n : ℕ) (xs ys : List ℕ) (r : Result (Option IvfHead) FileFault) → next_head (xs ++ ys) ≡ r → length xs < 32 → length (read_file max n (xs ++ ys)).packets ≤ length ys / 12 + 1
unfolding read_file
few_head max n xs ys (Err f) e short = rw e (omega arith)
few_head max n xs ys (Ok None) e short = rw e (omega arith)
few_head max n xs ys (Ok (Some h)) e short =
    rw e (omega (arith, cuts-size (Some h) max n (drop 32 (xs ++ ys)), length-drop 32 (xs ++ ys), length-append xs ys, next_head-header (xs ++ ys) (Ok (Some h)) e (λ x. cc)))

few_cuts : (h : IvfHead) (max n : ℕ) (xs ys : List ℕ) → (cuts (Some h) max n xs).packets ≡ [] → length (cuts (Some h) max n (xs ++ ys)).packets ≤ length ys / 12 + 1
few_cuts h max zero xs ys idle = omega (arith, packets_none (Some h) max (xs ++ ys) (next_size max 0 (xs ++ ys)) refl)
few_cuts h max (suc n) xs ys idle = few_step h max n xs ys (next_size max (suc n) (xs ++ ys)) refl idle

pub few : (head : Option IvfHead) (max n : ℕ) (xs ys : List ℕ) → read_from head max n xs ≡ stop head n None xs → length (read_from head max n (xs ++ ys)).packets ≤ length ys / 12 + 1
few None max n xs ys idle = few_head max n xs ys (next_head (xs ++ ys)) refl (no_head max n xs (next_head xs) refl idle)
few (Some h) max n xs ys idle = few_cuts h max n xs ys (ap (λ x. x.packets) idle)
