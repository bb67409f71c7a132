-- What is written is read back.
use Rattle.std.proofs.Common.{◌≡◌, ℕ, zero, suc, ◌-◌, ◌+◌, ◌^◌, ◌≤◌, ◌<◌, false, nat_lt, List, [], ◌∷◌, ◌++◌, length, drop, Option, Some, None, Ok, refl, sym, ap, append_assoc, append-nil, arith}
use Rattle.std.proofs.lemmas.List.{length-append, drop_at, take_at}
use Rattle.std.proofs.lemmas.Bool.{le-ltb}
use Rattle.byteorder.specs.Endian.{little_number, little_bytes}
use Rattle.byteorder.specs.Numbers.{little_number-reads_back}
use Rattle.vp_ivf.specs.declared.packet.Packet.{Packet}
use Rattle.vp_ivf.specs.declared.packet.IvfHead.{IvfHead}
use Rattle.vp_ivf.specs.Ivf.{Contents, packet_size, packet_at, next_size, next_head, cuts, read_file, with_prefix}
use Rattle.vp_ivf.specs.Reader.{finish_answer}
use Rattle.vp_ivf.specs.Text.{head_text, packet_head_text, packet_text, packets_text}
use Rattle.vp_ivf.specs.Laws.{PacketFits, AllPacketsFit, IsReadBack, EndsWell, IsHead}
use Rattle.vp_ivf.proofs.Cuts.{cuts-whole, cuts-stop}

length-packet_head : (size time : ℕ) → length (packet_head_text size time) ≡ 12
unfolding packet_head_text
length-packet_head size time = refl

size-packet : (time : ℕ) (bytes rest : List ℕ) → length bytes < 2 ^ 32 → packet_size (packet_text time bytes ++ rest) ≡ length bytes
unfolding packet_head_text
size-packet time bytes rest h = little_number-reads_back 4 (length bytes) (little_bytes 8 time ++ bytes ++ rest) h

time-packet : (time : ℕ) (bytes rest : List ℕ) → time < 2 ^ 64 → little_number 8 (drop 4 (packet_text time bytes ++ rest)) ≡ time
unfolding packet_head_text
time-packet time bytes rest h = little_number-reads_back 8 time (bytes ++ rest) h

drop-packet : (time : ℕ) (bytes rest : List ℕ) → drop 12 (packet_text time bytes ++ rest) ≡ bytes ++ rest
unfolding packet_head_text
drop-packet time bytes rest = refl

length-packet : (time : ℕ) (bytes rest : List ℕ) → length (packet_text time bytes ++ rest) ≡ 12 + length bytes + length rest
length-packet time bytes rest = omega (arith, length-append (packet_text time bytes) rest, length-append (packet_head_text (length bytes) time) bytes, length-packet_head (length bytes) time)

next-packet : (max n : ℕ) (p : Packet) (rest : List ℕ) → PacketFits max p → next_size max (suc n) (packet_text p.time p.bytes ++ rest) ≡ Ok (Some (length p.bytes))
unfolding next_size
next-packet max n p rest f =
    let b = packet_text p.time p.bytes ++ rest in
    let len = length-packet p.time p.bytes rest in
    let size = size-packet p.time p.bytes rest f.size in
    let a : nat_lt (length b) 12 ≡ false = le-ltb (length b) 12 (omega arith) in
    let m : nat_lt max (length p.bytes) ≡ false = le-ltb max (length p.bytes) f.allowed in
    let w : nat_lt (length b) (12 + length p.bytes) ≡ false = le-ltb (length b) (12 + length p.bytes) (omega arith) in
    rw (size, a, m, w) refl

packet-back : (max : ℕ) (p : Packet) (rest : List ℕ) → PacketFits max p → packet_at (length p.bytes) (packet_text p.time p.bytes ++ rest) ≡ p
packet-back max p rest f =
    rw (time-packet p.time p.bytes rest f.time, drop-packet p.time p.bytes rest, take_at p.bytes rest (length p.bytes) refl) refl

next-none : (max n : ℕ) → next_size max n [] ≡ Ok None
unfolding next_size
next-none max zero = refl
next-none max (suc n) = refl

-- packets that stand before a rest are cut from it
pub cuts-before : (head : Option IvfHead) (max n : ℕ) (ps : List Packet) (rest : List ℕ) → AllPacketsFit max ps → length ps ≤ n
    → cuts head max n (packets_text ps ++ rest) ≡ with_prefix ps (cuts head max (n - length ps) rest)
cuts-before head max n [] rest f le = let e : n - 0 ≡ n = omega arith in rw e refl
cuts-before head max zero (p ∷ ps) rest f le = absurd (omega arith)
cuts-before head max (suc n) (p ∷ ps) rest f le =
    let e : suc n - suc (length ps) ≡ n - length ps = omega arith in
    let text = packet_text p.time p.bytes in
    let tail = packets_text ps ++ rest in
    let joined : packets_text (p ∷ ps) ++ rest ≡ text ++ tail = append_assoc text (packets_text ps) rest in
    let back : drop (12 + length p.bytes) (text ++ tail) ≡ tail
    = drop_at text tail (12 + length p.bytes) (omega (arith, length-append (packet_head_text (length p.bytes) p.time) p.bytes, length-packet_head (length p.bytes) p.time)) in
    rw (joined, cuts-whole head max n _ (length p.bytes) (next-packet max n p tail f.0), packet-back max p tail f.0, back, e)
    (ap (λ (r : Contents). with_prefix (p ∷ []) r) (cuts-before head max n ps rest f.1 (omega arith)))

pub cuts-text : (head : Option IvfHead) (max n : ℕ) (ps : List Packet) → AllPacketsFit max ps → length ps ≤ n
    → cuts head max n (packets_text ps) ≡ record { head = head; packets = ps; left = n - length ps; fault = None; rest = [] }
cuts-text head max n ps f le =
    rw (sym (append-nil (packets_text ps)), cuts-before head max n ps [] f le, cuts-stop head max (n - length ps) [] (next-none max (n - length ps)), append-nil ps) refl

head-back : (h : IvfHead) (count : ℕ) (rest : List ℕ) → IsHead h
    → next_head (head_text h.w h.h h.rate h.scale count ++ rest) ≡ Ok (Some h)
unfolding head_text next_head
head-back h count rest f =
    let long : nat_lt (length (head_text h.w h.h h.rate h.scale count ++ rest)) 32 ≡ false = le-ltb (length (head_text h.w h.h h.rate h.scale count ++ rest)) 32 (omega (arith, length-append (head_text h.w h.h h.rate h.scale count) rest)) in
    rw (long, little_number-reads_back 2 h.w rest f.0, little_number-reads_back 2 h.h rest f.1, little_number-reads_back 4 h.rate rest f.2, little_number-reads_back 4 h.scale rest f.3) refl

head_drop : (w h rate scale count : ℕ) (rest : List ℕ) → drop 32 (head_text w h rate scale count ++ rest) ≡ rest
unfolding head_text
head_drop w h rate scale count rest = refl

pub read_back : IsReadBack
unfolding read_file
read_back max n h count ps g f le =
    rw (head-back h count (packets_text ps) g, head_drop h.w h.h h.rate h.scale count (packets_text ps)) (cuts-text (Some h) max n ps f le)

pub ends_well : EndsWell
ends_well max n h count ps g f le = ap finish_answer (read_back max n h count ps g f le)
