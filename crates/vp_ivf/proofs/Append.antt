-- Reading goes on where it stopped, so it doesn't matter how the bytes were cut into pieces.
use Rattle.std.proofs.Common.{◌≡◌, ◌≢◌, ℕ, zero, suc, ◌+◌, ◌≤◌, Bool, not, cond, nat_lt, List, [], ◌∷◌, ◌++◌, length, take, drop, Option, Some, None, Result, Ok, Err, refl, arith}
use Rattle.std.proofs.lemmas.List.{length-append, length-drop, drop-append-le, take-append-le}
use Rattle.std.proofs.lemmas.Bool.Decides.{nat_tests}
use Rattle.byteorder.specs.Endian.{little_number}
use Rattle.byteorder.specs.Numbers.{little_from-append}
use Rattle.vp_ivf.specs.declared.packet.Packet.{Packet}
use Rattle.vp_ivf.specs.declared.packet.IvfHead.{IvfHead}
use Rattle.vp_ivf.specs.declared.fault.FileFault.{FileFault}
use Rattle.vp_ivf.specs.declared.fault.FileFault.TheVariants.{Signature, Codec, TooMany, PacketTooLarge}
use Rattle.vp_ivf.specs.Ivf.{Contents, packet_size, packet_at, parsed_ivf_head, next_size, next_head, cuts, read_file, read_from, with_prefix, resume, resume_at}
use Rattle.vp_ivf.proofs.Cuts.{cuts-whole, cuts-stop, cuts-fault, with_prefix-front}

-- a number that stands whole in the bytes stays
pub number-append : (k n : ℕ) (xs ys : List ℕ) → k + n ≤ length xs → little_number n (drop k (xs ++ ys)) ≡ little_number n (drop k xs)
number-append k n xs ys h =
    let le : k ≤ length xs = omega arith in
    let room : n ≤ length (drop k xs) = omega (arith, length-drop k xs) in
    rw drop-append-le (little_from-append n (drop k xs) ys room)

-- a test that was decided stays
decided_zero : (l m : ℕ) (r : Result (Option ℕ) FileFault) → cond (nat_lt l 12) (Ok None) (Err TooMany) ≡ r → r ≢ Ok None
    → cond (nat_lt (l + m) 12) (Ok None) (Err TooMany) ≡ r
decided_zero l m r h ne = grind (arith, nat_tests)

decided_suc : (l m max size : ℕ) (r : Result (Option ℕ) FileFault)
    → cond (nat_lt l 12) (Ok None) (cond (nat_lt max size) (Err PacketTooLarge) (cond (nat_lt l (12 + size)) (Ok None) (Ok (Some size)))) ≡ r → r ≢ Ok None
    → cond (nat_lt (l + m) 12) (Ok None) (cond (nat_lt max size) (Err PacketTooLarge) (cond (nat_lt (l + m) (12 + size)) (Ok None) (Ok (Some size)))) ≡ r
decided_suc l m max size r h ne = grind (arith, nat_tests)

-- the header stands whole where anything was decided
has_header : (l : ℕ) (x : Result (Option ℕ) FileFault) (r : Result (Option ℕ) FileFault) → cond (nat_lt l 12) (Ok None) x ≡ r → r ≢ Ok None → 12 ≤ l
has_header l x r h ne = grind (arith, nat_tests)

pub next_size-append : (max n : ℕ) (xs ys : List ℕ) (r : Result (Option ℕ) FileFault) → next_size max n xs ≡ r → r ≢ Ok None → next_size max n (xs ++ ys) ≡ r
unfolding next_size
next_size-append max zero xs ys r h ne =
    rw length-append (decided_zero (length xs) (length ys) r h ne)
next_size-append max (suc n) xs ys r h ne =
    let same : packet_size (xs ++ ys) ≡ packet_size xs = number-append 0 4 xs ys (omega (arith, has_header (length xs) _ r h ne)) in
    rw (length-append xs ys, same) (decided_suc (length xs) (length ys) max (packet_size xs) r h ne)

-- a packet that is whole is not longer than the bytes
whole_step : (l max size s : ℕ)
    → cond (nat_lt l 12) (Ok None) (cond (nat_lt max size) (Err PacketTooLarge) (cond (nat_lt l (12 + size)) (Ok None) (Ok (Some size)))) ≡ Ok (Some s)
    → 12 + s ≤ l
whole_step l max size s h = grind (arith, nat_tests)

pub next_size-whole : (max n : ℕ) (xs : List ℕ) (s : ℕ) → next_size max n xs ≡ Ok (Some s) → 12 + s ≤ length xs
unfolding next_size
next_size-whole max zero xs s h = absurd (grind (arith, nat_tests))
next_size-whole max (suc n) xs s h = whole_step (length xs) max (packet_size xs) s h

pub packet_at-append : (s : ℕ) (xs ys : List ℕ) → 12 + s ≤ length xs → packet_at s (xs ++ ys) ≡ packet_at s xs
packet_at-append s xs ys h =
    let e : little_number 8 (drop 4 (xs ++ ys)) ≡ little_number 8 (drop 4 xs) = number-append 4 8 xs ys (omega arith) in
    let le : 12 ≤ length xs = omega arith in
    let room : s ≤ length (drop 12 xs) = omega (arith, length-drop 12 xs) in
    let t : take s (drop 12 (xs ++ ys)) ≡ take s (drop 12 xs) = rw (drop-append-le 12 xs ys le) (take-append-le s (drop 12 xs) ys room) in
    rw (e, t) refl

-- the packet in front stays, whatever comes
pub with_prefix-resume : (h : IvfHead) (max n : ℕ) (front : List Packet) (f : Option FileFault) (r : Contents) (ys : List ℕ)
    → with_prefix front (resume_at f max r ys) ≡ resume_at f max (with_prefix front r) ys
with_prefix-resume h max n front None r ys = with_prefix-front front r.packets (read_from r.head max r.left (r.rest ++ ys))
with_prefix-resume h max n front (Some f) r ys = refl

cuts_step : (h : IvfHead) (max n : ℕ) (xs ys : List ℕ) (r : Result (Option ℕ) FileFault) → next_size max (suc n) xs ≡ r
    → ((xs ys : List ℕ) → cuts (Some h) max n (xs ++ ys) ≡ resume max (cuts (Some h) max n xs) ys)
    → cuts (Some h) max (suc n) (xs ++ ys) ≡ resume max (cuts (Some h) max (suc n) xs) ys
cuts_step h max n xs ys (Err f) e later =
    let again = next_size-append max (suc n) xs ys (Err f) e (λ x. cc) in
    rw (cuts-fault (Some h) max (suc n) xs f e, cuts-fault (Some h) max (suc n) (xs ++ ys) f again) refl
cuts_step h max n xs ys (Ok None) e later =
    rw (cuts-stop (Some h) max (suc n) xs e) refl
cuts_step h max n xs ys (Ok (Some s)) e later =
    let again = next_size-append max (suc n) xs ys (Ok (Some s)) e (λ x. cc) in
    let room = next_size-whole max (suc n) xs s e in
    rw (cuts-whole (Some h) max n xs s e, cuts-whole (Some h) max n (xs ++ ys) s again, packet_at-append s xs ys room, drop-append-le (12 + s) xs ys room, later (drop (12 + s) xs) ys)
    (with_prefix-resume h max n (packet_at s xs ∷ []) (cuts (Some h) max n (drop (12 + s) xs)).fault (cuts (Some h) max n (drop (12 + s) xs)) ys)

none_whole : (max : ℕ) (xs : List ℕ) (s : ℕ) → next_size max 0 xs ≡ Ok (Some s) → ⊥
unfolding next_size
none_whole max xs s e = grind (arith, nat_tests)

cuts_none : (h : IvfHead) (max : ℕ) (xs ys : List ℕ) (r : Result (Option ℕ) FileFault) → next_size max 0 xs ≡ r
    → cuts (Some h) max 0 (xs ++ ys) ≡ resume max (cuts (Some h) max 0 xs) ys
cuts_none h max xs ys (Err f) e =
    let again = next_size-append max 0 xs ys (Err f) e (λ x. cc) in
    rw (cuts-fault (Some h) max 0 xs f e, cuts-fault (Some h) max 0 (xs ++ ys) f again) refl
cuts_none h max xs ys (Ok None) e = rw (cuts-stop (Some h) max 0 xs e) refl
cuts_none h max xs ys (Ok (Some s)) e = absurd (none_whole max xs s e)

pub cuts-append : (h : IvfHead) (max n : ℕ) (xs ys : List ℕ) → cuts (Some h) max n (xs ++ ys) ≡ resume max (cuts (Some h) max n xs) ys
cuts-append h max zero xs ys = cuts_none h max xs ys (next_size max 0 xs) refl
cuts-append h max (suc n) xs ys = cuts_step h max n xs ys (next_size max (suc n) xs) refl (λ us vs. cuts-append h max n us vs)

-- the head

head_step : (l m : ℕ) (a b : Bool) (h : IvfHead) (r : Result (Option IvfHead) FileFault)
    → cond (nat_lt l 32) (Ok None) (cond (not a) (Err Signature) (cond (not b) (Err Codec) (Ok (Some h)))) ≡ r → r ≢ Ok None
    → cond (nat_lt (l + m) 32) (Ok None) (cond (not a) (Err Signature) (cond (not b) (Err Codec) (Ok (Some h)))) ≡ r
head_step l m a b h r e ne = grind (arith, nat_tests)

has_head : (l : ℕ) (x r : Result (Option IvfHead) FileFault) → cond (nat_lt l 32) (Ok None) x ≡ r → r ≢ Ok None → 32 ≤ l
has_head l x r e ne = grind (arith, nat_tests)

pub next_head-header : (xs : List ℕ) (r : Result (Option IvfHead) FileFault) → next_head xs ≡ r → r ≢ Ok None → 32 ≤ length xs
unfolding next_head
next_head-header xs r e ne = has_head (length xs) _ r e ne

head_of-append : (xs ys : List ℕ) → 32 ≤ length xs → parsed_ivf_head (xs ++ ys) ≡ parsed_ivf_head xs
head_of-append xs ys h =
    let w : little_number 2 (drop 12 (xs ++ ys)) ≡ little_number 2 (drop 12 xs) = number-append 12 2 xs ys (omega arith) in
    let hh : little_number 2 (drop 14 (xs ++ ys)) ≡ little_number 2 (drop 14 xs) = number-append 14 2 xs ys (omega arith) in
    let rate : little_number 4 (drop 16 (xs ++ ys)) ≡ little_number 4 (drop 16 xs) = number-append 16 4 xs ys (omega arith) in
    let scale : little_number 4 (drop 20 (xs ++ ys)) ≡ little_number 4 (drop 20 xs) = number-append 20 4 xs ys (omega arith) in
    rw (w, hh, rate, scale) refl

pub next_head-append : (xs ys : List ℕ) (r : Result (Option IvfHead) FileFault) → next_head xs ≡ r → r ≢ Ok None → next_head (xs ++ ys) ≡ r
unfolding next_head
next_head-append xs ys r e ne =
    let room : 32 ≤ length xs = has_head (length xs) _ r e ne in
    let four : 4 ≤ length xs = omega arith in
    let eight : 8 ≤ length xs = omega arith in
    let four_more : 4 ≤ length (drop 8 xs) = omega (arith, length-drop 8 xs) in
    rw (length-append xs ys, head_of-append xs ys room, take-append-le 4 xs ys four, drop-append-le 8 xs ys eight, take-append-le 4 (drop 8 xs) ys four_more)
    (head_step (length xs) (length ys) _ _ (parsed_ivf_head xs) r e ne)

read_step : (max n : ℕ) (xs ys : List ℕ) (r : Result (Option IvfHead) FileFault) → next_head xs ≡ r
    → read_file max n (xs ++ ys) ≡ resume max (read_file max n xs) ys
unfolding read_file
read_step max n xs ys (Err f) e =
    let again = next_head-append xs ys (Err f) e (λ x. cc) in
    rw (e, again) refl
read_step max n xs ys (Ok None) e = rw e refl
read_step max n xs ys (Ok (Some h)) e =
    let again = next_head-append xs ys (Ok (Some h)) e (λ x. cc) in
    let room : 32 ≤ length xs = next_head-header xs (Ok (Some h)) e (λ x. cc) in
    rw (e, again, drop-append-le 32 xs ys room) (cuts-append h max n (drop 32 xs) ys)

-- more bytes are read as if they had come at once
pub read-append : (max n : ℕ) (xs ys : List ℕ) → read_file max n (xs ++ ys) ≡ resume max (read_file max n xs) ys
read-append max n xs ys = read_step max n xs ys (next_head xs) refl
