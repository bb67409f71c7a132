-- The bytes are those of the packets that were cut, and then a rest.
use Rattle.std.proofs.Common.{◌≡◌, ℕ, zero, suc, ◌+◌, ◌≤◌, List, [], ◌∷◌, ◌++◌, length, take, drop, get_or, Option, Some, None, Result, Ok, Err, refl, sym, ap, ◌∙◌, append_assoc, arith}
use Rattle.std.proofs.lemmas.List.{drop-drop, length-drop, length-take-le, take-append-drop, get_or-drop}
use Rattle.std.proofs.lemmas.Bool.Decides.{nat_tests}
use Rattle.std.proofs.lemmas.Nat.{le_bytes_4, le_bytes_8}
use Rattle.std.specs.Int.{w32, w64, from_le_bytes}
use Rattle.byteorder.specs.Endian.{little_number, little_bytes}
use Rattle.byteorder.specs.Numbers.{little_from-take}
use Rattle.vp_ivf.specs.declared.packet.IvfHead.{IvfHead}
use Rattle.vp_ivf.specs.declared.fault.FileFault.{FileFault}
use Rattle.vp_ivf.specs.Ivf.{packet_size, packet_at, next_size, next_head, cuts, read_file}
use Rattle.vp_ivf.specs.Text.{packet_head_text, packet_text, packets_text}
use Rattle.vp_ivf.specs.Laws.{AreFileBytes, IsFaithful}
use Rattle.vp_ivf.proofs.Cuts.{cuts-whole, cuts-stop, cuts-fault, next_size-size}
use Rattle.vp_ivf.proofs.Append.{next_size-whole}

four : (ys : List ℕ) → little_number 4 ys ≡ from_le_bytes w32 ys
four ys = omega arith

eight : (ys : List ℕ) → little_number 8 ys ≡ from_le_bytes w64 ys
eight ys = omega arith

front_le : (n : ℕ) (b : List ℕ) (i : ℕ) → get_or (take n b) i 0 ≤ get_or b i 0
front_le zero b i = omega arith
front_le (suc n) [] i = omega arith
front_le (suc n) (x ∷ xs) zero = omega arith
front_le (suc n) (x ∷ xs) (suc i) = front_le n xs i

pub bytes_4 : (b : List ℕ) → AreFileBytes b → 4 ≤ length b → little_bytes 4 (little_number 4 b) ≡ take 4 b
bytes_4 b small long =
    le_bytes_4 (take 4 b) (little_number 4 b) (length-take-le 4 b long) (λ i. omega (arith, front_le 4 b i, small i))
    (sym (little_from-take 0 4 4 b (omega arith)) ∙ four (take 4 b))

pub bytes_8 : (b : List ℕ) → AreFileBytes b → 8 ≤ length b → little_bytes 8 (little_number 8 b) ≡ take 8 b
bytes_8 b small long =
    le_bytes_8 (take 8 b) (little_number 8 b) (length-take-le 8 b long) (λ i. omega (arith, front_le 8 b i, small i))
    (sym (little_from-take 0 8 8 b (omega arith)) ∙ eight (take 8 b))

packet_head_is : (size time : ℕ) (x y : List ℕ) → little_bytes 4 size ≡ x → little_bytes 8 time ≡ y → packet_head_text size time ≡ x ++ y
unfolding packet_head_text
packet_head_is size time x y d e = ap (λ z. z ++ little_bytes 8 time) d ∙ ap (λ z. x ++ z) e

-- the packet at the front has the bytes that stand there
packet_is_front : (s : ℕ) (b : List ℕ) → AreFileBytes b → s ≡ packet_size b → 12 + s ≤ length b
    → packet_text (packet_at s b).time (packet_at s b).bytes ++ drop (12 + s) b ≡ b
packet_is_front s b small size whole =
    let body = take s (drop 12 b) in
    let room : s ≤ length (drop 12 b) = omega (arith, length-drop 12 b) in
    let long : length body ≡ s = length-take-le s (drop 12 b) room in
    let small_rest : AreFileBytes (drop 4 b) = λ i. rw (get_or-drop 4 b i 0) (small (4 + i)) in
    let first : little_bytes 4 (length body) ≡ take 4 b = ap (λ n. little_bytes 4 n) (long ∙ size) ∙ bytes_4 b small (omega arith) in
    let second : little_bytes 8 (little_number 8 (drop 4 b)) ≡ take 8 (drop 4 b) = bytes_8 (drop 4 b) small_rest (omega (arith, length-drop 4 b)) in
    let head = packet_head_is (length body) (little_number 8 (drop 4 b)) (take 4 b) (take 8 (drop 4 b)) first second in
    let back : body ++ drop (12 + s) b ≡ drop 12 b = ap (λ x. body ++ x) (sym (drop-drop s 12 b)) ∙ take-append-drop s (drop 12 b) in
    let middle : take 8 (drop 4 b) ++ drop 12 b ≡ drop 4 b = ap (λ x. take 8 (drop 4 b) ++ x) (sym (drop-drop 8 4 b)) ∙ take-append-drop 8 (drop 4 b) in
    append_assoc _ body (drop (12 + s) b) ∙ (ap (λ x. x ++ (body ++ drop (12 + s) b)) head
    ∙ (append_assoc (take 4 b) (take 8 (drop 4 b)) _ ∙ (ap (λ x. take 4 b ++ (take 8 (drop 4 b) ++ x)) back
    ∙ (ap (λ x. take 4 b ++ x) middle ∙ take-append-drop 4 b))))

faithful_step : (h : Option IvfHead) (max n : ℕ) (b : List ℕ) (r : Result (Option ℕ) FileFault) → next_size max (suc n) b ≡ r → AreFileBytes b
    → ((c : List ℕ) → AreFileBytes c → packets_text (cuts h max n c).packets ++ (cuts h max n c).rest ≡ c)
    → packets_text (cuts h max (suc n) b).packets ++ (cuts h max (suc n) b).rest ≡ b
faithful_step h max n b (Err f) e small later = rw (cuts-fault h max (suc n) b f e) refl
faithful_step h max n b (Ok None) e small later = rw (cuts-stop h max (suc n) b e) refl
faithful_step h max n b (Ok (Some s)) e small later =
    let rest = drop (12 + s) b in
    let small_rest : AreFileBytes rest = λ i. rw (get_or-drop (12 + s) b i 0) (small (12 + s + i)) in
    rw (cuts-whole h max n b s e)
    (append_assoc (packet_text (packet_at s b).time (packet_at s b).bytes) (packets_text (cuts h max n rest).packets) (cuts h max n rest).rest
    ∙ (ap (λ x. packet_text (packet_at s b).time (packet_at s b).bytes ++ x) (later rest small_rest)
    ∙ packet_is_front s b small (next_size-size max (suc n) b s e) (next_size-whole max (suc n) b s e)))

none_whole : (max : ℕ) (xs : List ℕ) (s : ℕ) → next_size max 0 xs ≡ Ok (Some s) → ⊥
unfolding next_size
none_whole max xs s e = grind (arith, nat_tests)

faithful_none : (h : Option IvfHead) (max : ℕ) (b : List ℕ) (r : Result (Option ℕ) FileFault) → next_size max 0 b ≡ r
    → packets_text (cuts h max 0 b).packets ++ (cuts h max 0 b).rest ≡ b
faithful_none h max b (Err f) e = rw (cuts-fault h max 0 b f e) refl
faithful_none h max b (Ok None) e = rw (cuts-stop h max 0 b e) refl
faithful_none h max b (Ok (Some s)) e = absurd (none_whole max b s e)

pub cuts-faithful : (h : Option IvfHead) (max n : ℕ) (b : List ℕ) → AreFileBytes b → packets_text (cuts h max n b).packets ++ (cuts h max n b).rest ≡ b
cuts-faithful h max zero b small = faithful_none h max b (next_size max 0 b) refl
cuts-faithful h max (suc n) b small = faithful_step h max n b (next_size max (suc n) b) refl small (λ c s. cuts-faithful h max n c s)

clash : {A : Type 0} {x : A} → None ≡ Some x → ⊥
clash e = cc

by_head : (max n : ℕ) (b : List ℕ) (h : IvfHead) (r : Result (Option IvfHead) FileFault) → next_head b ≡ r → AreFileBytes b → (read_file max n b).head ≡ Some h
    → drop 32 b ≡ packets_text (read_file max n b).packets ++ (read_file max n b).rest
unfolding read_file
by_head max n b h (Err f) e small good = absurd (clash (rw e at good))
by_head max n b h (Ok None) e small good = absurd (clash (rw e at good))
by_head max n b h (Ok (Some g)) e small good =
    let small_rest : AreFileBytes (drop 32 b) = λ i. rw (get_or-drop 32 b i 0) (small (32 + i)) in
    rw e (sym (cuts-faithful (Some g) max n (drop 32 b) small_rest))

pub is_faithful : IsFaithful
is_faithful max n b h small good = by_head max n b h (next_head b) refl small good
