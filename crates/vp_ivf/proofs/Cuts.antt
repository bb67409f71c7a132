-- Cutting one packet after another.
use Rattle.std.proofs.Common.{◌≡◌, ℕ, zero, suc, ◌-◌, ◌+◌, ◌<◌, Bool, true, false, cond, nat_lt, List, [], ◌∷◌, ◌++◌, length, drop, Option, Some, None, Result, Ok, Err, refl, sym, ap, ◌∙◌, append_assoc, arith}
use Rattle.std.proofs.lemmas.List.{append-nil, drop-drop}
use Rattle.std.specs.Result.{result_err}
use Rattle.vp_ivf.specs.declared.packet.Packet.{Packet}
use Rattle.vp_ivf.specs.declared.packet.IvfHead.{IvfHead}
use Rattle.vp_ivf.specs.declared.fault.FileFault.{FileFault}
use Rattle.vp_ivf.specs.declared.fault.FileFault.TheVariants.{TooMany, PacketTooLarge}
use Rattle.vp_ivf.specs.Ivf.{Contents, packet_size, packet_at, next_size, next_head, cuts, read_file, read_from, with_prefix, stop}

zero_step : {A : Type 0} (short : Bool) (s : ℕ) → cond short (Ok None) (Err TooMany) ≡ Ok (Some s) → A
zero_step true s h = cc
zero_step false s h = cc

-- a test that led to the whole packet
size_step : (short large part : Bool) (size s : ℕ)
    → cond short (Ok None) (cond large (Err PacketTooLarge) (cond part (Ok None) (Ok (Some size)))) ≡ Ok (Some s)
    → s ≡ size
size_step true large part size s h = cc
size_step false true part size s h = cc
size_step false false true size s h = cc
size_step false false false size s h = cc

pub next_size-size : (max n : ℕ) (b : List ℕ) (s : ℕ) → next_size max n b ≡ Ok (Some s) → s ≡ packet_size b
unfolding next_size
next_size-size max zero b s h = zero_step (nat_lt (length b) 12) s h
next_size-size max (suc n) b s h = size_step (nat_lt (length b) 12) (nat_lt max (packet_size b)) (nat_lt (length b) (12 + packet_size b)) (packet_size b) s h

pub with_prefix-front : (xs ys : List Packet) (r : Contents) → with_prefix xs (with_prefix ys r) ≡ with_prefix (xs ++ ys) r
with_prefix-front xs ys r = ap (λ ps. record r { packets = ps }) (sym (append_assoc xs ys r.packets))

-- the cuts where a packet is whole
pub cuts-whole : (head : Option IvfHead) (max n : ℕ) (b : List ℕ) (s : ℕ) → next_size max (suc n) b ≡ Ok (Some s)
    → cuts head max (suc n) b ≡ with_prefix (packet_at s b ∷ []) (cuts head max n (drop (12 + s) b))
unfolding cuts
cuts-whole head max n b s h = rw (h, ← next_size-size max (suc n) b s h) refl

pub cuts-stop : (head : Option IvfHead) (max n : ℕ) (b : List ℕ) → next_size max n b ≡ Ok None → cuts head max n b ≡ stop head n None b
unfolding cuts
cuts-stop head max zero b h = rw h refl
cuts-stop head max (suc n) b h = rw h refl

-- behind the head, nothing is read before the first packet is whole
pub waits : (head : Option IvfHead) (h : IvfHead) (max n : ℕ) (b : List ℕ) → head ≡ Some h → Ok None ≡ next_size max n b → read_from head max n b ≡ stop head n None b
waits head h max n b e w = rw e (cuts-stop (Some h) max n b (sym w))

pub cuts-fault : (head : Option IvfHead) (max n : ℕ) (b : List ℕ) (f : FileFault) → next_size max n b ≡ Err f → cuts head max n b ≡ stop head n (Some f) b
unfolding cuts
cuts-fault head max zero b f h = rw h refl
cuts-fault head max (suc n) b f h = rw h refl

-- one more packet was cut
pub goes_on : (head : Option IvfHead) (max left i used size : ℕ) (bytes : List ℕ) (packets : List Packet) (total : Contents)
    → i < left
    → next_size max (left - i) (drop used bytes) ≡ Ok (Some size)
    → with_prefix packets (cuts head max (left - i) (drop used bytes)) ≡ total
    → with_prefix (packets ++ packet_at size (drop used bytes) ∷ []) (cuts head max (left - (i + 1)) (drop (used + (12 + size)) bytes)) ≡ total
goes_on head max left i used size bytes packets total lt h so_far =
    let k : left - i ≡ suc (left - (i + 1)) = omega arith in
    let whole = cuts-whole head max (left - (i + 1)) (drop used bytes) size (rw (← k) h) in
    let one : with_prefix packets (cuts head max (left - i) (drop used bytes)) ≡ with_prefix (packets ++ packet_at size (drop used bytes) ∷ []) (cuts head max (left - (i + 1)) (drop (used + (12 + size)) bytes))
    = rw (k, whole, drop-drop (12 + size) used bytes) (with_prefix-front packets (packet_at size (drop used bytes) ∷ []) _) in
    sym one ∙ so_far

pub with_prefix-stop : (packets : List Packet) (head : Option IvfHead) (n : ℕ) (f : Option FileFault) (b : List ℕ) → with_prefix packets (stop head n f b) ≡ record { head = head; packets = packets; left = n; fault = f; rest = b }
with_prefix-stop packets head n f b = ap (λ ps. record { head = head; packets = ps; left = n; fault = f; rest = b }) (append-nil packets)

pub ends_waiting : (head : Option IvfHead) (max n used : ℕ) (bytes rest : List ℕ) (packets : List Packet) (total : Contents)
    → rest ≡ drop used bytes → Ok None ≡ next_size max n rest
    → with_prefix packets (cuts head max n (drop used bytes)) ≡ total
    → record { head = head; packets = packets; left = n; fault = None; rest = drop used bytes } ≡ total
ends_waiting head max n used bytes rest packets total r h so_far =
    let stopped = cuts-stop head max n (drop used bytes) (rw (← r) (sym h)) in
    sym (with_prefix-stop packets head n None (drop used bytes)) ∙ (sym (ap (λ x. with_prefix packets x) stopped) ∙ so_far)

pub ends_faulty : (head : Option IvfHead) (max n used : ℕ) (bytes rest : List ℕ) (packets : List Packet) (total : Contents) (f : FileFault)
    → rest ≡ drop used bytes → Err f ≡ next_size max n rest
    → with_prefix packets (cuts head max n (drop used bytes)) ≡ total
    → record { head = head; packets = packets; left = n; fault = Some f; rest = drop used bytes } ≡ total
ends_faulty head max n used bytes rest packets total f r h so_far =
    let stopped = cuts-fault head max n (drop used bytes) f (rw (← r) (sym h)) in
    sym (with_prefix-stop packets head n (Some f) (drop used bytes)) ∙ (sym (ap (λ x. with_prefix packets x) stopped) ∙ so_far)

-- where none may come, nothing is whole
none_whole : {A : Type 0} (short : Bool) (size : ℕ) → Ok (Some size) ≡ cond short (Ok None) (Err TooMany) → A
none_whole true size h = cc
none_whole false size h = cc

-- where no more may come
pub ends_full : (head : Option IvfHead) (max n used : ℕ) (bytes rest : List ℕ) (packets : List Packet) (total : Contents) (r : Result (Option ℕ) FileFault)
    → n ≡ 0 → rest ≡ drop used bytes → r ≡ next_size max 0 rest
    → with_prefix packets (cuts head max n (drop used bytes)) ≡ total
    → record { head = head; packets = packets; left = 0; fault = result_err r; rest = drop used bytes } ≡ total
unfolding next_size
ends_full head max n used bytes rest packets total (Err f) z e h so_far =
    ends_faulty head max 0 used bytes rest packets total f e h (rw z at so_far)
ends_full head max n used bytes rest packets total (Ok None) z e h so_far =
    ends_waiting head max 0 used bytes rest packets total e h (rw z at so_far)
ends_full head max n used bytes rest packets total (Ok (Some size)) z e h so_far =
    none_whole (nat_lt (length rest) 12) size h

drops : (used : ℕ) (b rest : List ℕ) → rest ≡ drop 32 b → drop (used + 32) b ≡ drop used rest
drops used b rest r =
    let e : used + 32 ≡ 32 + used = omega arith in
    rw (e, r, drop-drop used 32 b) refl

-- what is cut behind the head at the front
pub reads_behind : (max n used : ℕ) (b rest : List ℕ) (h : IvfHead) (head : Option IvfHead) (packets : List Packet) (left : ℕ) (fault : Option FileFault)
    → Ok (Some h) ≡ next_head b → rest ≡ drop 32 b
    → record { head = head; packets = packets; left = left; fault = fault; rest = drop used rest } ≡ cuts (Some h) max n rest
    → record { head = head; packets = packets; left = left; fault = fault; rest = drop (used + 32) b } ≡ read_file max n b
unfolding read_file
reads_behind max n used b rest h head packets left fault is_head r e =
    rw (← is_head, ← r) (ap (λ x. record { head = head; packets = packets; left = left; fault = fault; rest = x }) (drops used b rest r) ∙ e)
