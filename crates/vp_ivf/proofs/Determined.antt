-- The plain laws determine a reading.
use Rattle.std.proofs.Common.{◌≡◌, ◌≢◌, ℕ, zero, suc, ◌-◌, ◌+◌, ◌≤◌, ◌<◌, Bool, true, false, cond, not, nat_lt, nat_eq, codes, List, [], ◌∷◌, length, drop, Option, Some, None, Result, Ok, Err, refl, sym, ap, ◌∙◌, append-nil, inl, arith}
use Rattle.std.specs.List.{starts_with}
use Rattle.std.proofs.lemmas.Bool.Decides.{nat_tests}
use Rattle.std.proofs.lemmas.List.{get_or-drop}
use Rattle.vp_ivf.specs.declared.packet.Packet.{Packet}
use Rattle.vp_ivf.specs.declared.packet.IvfHead.{IvfHead}
use Rattle.vp_ivf.specs.declared.fault.FileFault.{FileFault}
use Rattle.vp_ivf.specs.declared.fault.FileFault.TheVariants.{Signature, Codec, TooMany, PacketTooLarge, Torn, Ended}
use Rattle.vp_ivf.specs.Ivf.{Contents, parsed_ivf_head, packet_size, packet_at, next_head, next_size, stop, with_prefix, cuts, read_file}
use Rattle.vp_ivf.specs.Laws.{IsHeadIn, IsCut, ComesWith, MayGrow, IsReadingEndedBy, KeepsLaws, ObeysLaws, IsDetermined, AreFileBytes}
use Rattle.vp_ivf.proofs.Cuts.{cuts-whole, cuts-stop, cuts-fault}
use Rattle.vp_ivf.proofs.Faithful.{cuts-faithful}
use Rattle.vp_ivf.proofs.Few.{cuts-head, none_whole, short_head}
use Rattle.vp_ivf.proofs.Within.{counts_packets, cuts_what_fits, shows_next, shows_front, head_shows, next_head-fault}
use Rattle.vp_ivf.proofs.Written.{cuts-before}

-- ---- the head that bytes show

head_is : (l : ℕ) (a b : Bool) (h : IvfHead) → 32 ≤ l → a ≡ true → b ≡ true
    → cond (nat_lt l 32) (Ok None) (cond (not a) (Err Signature) (cond (not b) (Err Codec) (Ok (Some h)))) ≡ Ok (Some h)
head_is l a b h long first second = rw (first, second) (grind (arith, nat_tests))

next_head-good : (b : List ℕ) (h : IvfHead) → IsHeadIn b h → next_head b ≡ Ok (Some h)
unfolding next_head
next_head-good b h p = rw p.3 (head_is (length b) (starts_with nat_eq b (codes "DKIF")) (starts_with nat_eq (drop 8 b) (codes "VP80")) (parsed_ivf_head b) p.0 p.1 p.2)

next_head-short : (b : List ℕ) → length b < 32 → next_head b ≡ Ok None
unfolding next_head
next_head-short b short = grind (arith, nat_tests)

next_head-signature : (b : List ℕ) → 32 ≤ length b → starts_with nat_eq b (codes "DKIF") ≡ false → next_head b ≡ Err Signature
unfolding next_head
next_head-signature b long first = rw first (grind (arith, nat_tests))

next_head-codec : (b : List ℕ) → 32 ≤ length b → starts_with nat_eq b (codes "DKIF") ≡ true → starts_with nat_eq (drop 8 b) (codes "VP80") ≡ false → next_head b ≡ Err Codec
unfolding next_head
next_head-codec b long first second = rw (first, second) (grind (arith, nat_tests))

none_some : {A : Type 0} {x : A} → Some x ≢ None
none_some e = cc

-- ---- the end that the rest shows

-- it may grow
next_size-grows : (h : IvfHead) (max n : ℕ) (b : List ℕ) → MayGrow (Some h) max n b → next_size max n b ≡ Ok None
unfolding next_size
next_size-grows h max zero b g = grind (arith, nat_tests)
next_size-grows h max (suc n) b g = grind (arith, nat_tests)

grows : (h : IvfHead) (max n : ℕ) (b : List ℕ) → next_size max n b ≡ Ok None → MayGrow (Some h) max n b
unfolding next_size
grows h max zero b e = inl (grind (arith, nat_tests))
grows h max (suc n) b e = grind (arith, nat_tests)

-- it shows a fault
next_size-many : (max n : ℕ) (b : List ℕ) → n ≡ 0 → 12 ≤ length b → next_size max n b ≡ Err TooMany
unfolding next_size
next_size-many max n b none long = rw none (grind (arith, nat_tests))

next_size-large : (max n : ℕ) (b : List ℕ) → 1 ≤ n → 12 ≤ length b → max < packet_size b → next_size max n b ≡ Err PacketTooLarge
unfolding next_size
next_size-large max zero b one long large = absurd (omega arith)
next_size-large max (suc n) b one long large = grind (arith, nat_tests)

comes_next : (max n : ℕ) (b : List ℕ) (h : IvfHead) (f : FileFault) → next_size max n b ≡ Err f → ComesWith f (Some h)
unfolding next_size
comes_next max n b h Signature e = absurd (grind (arith, nat_tests))
comes_next max n b h Codec e = absurd (grind (arith, nat_tests))
comes_next max n b h TooMany e = none_some
comes_next max n b h PacketTooLarge e = none_some
comes_next max n b h Torn e = absurd (grind (arith, nat_tests))
comes_next max n b h Ended e = absurd (grind (arith, nat_tests))

-- ---- cuts end as the rest shows

ended_front : (max : ℕ) (front : List Packet) (r : Contents) (fault : Option FileFault) → IsReadingEndedBy max r fault → IsReadingEndedBy max (with_prefix front r) fault
ended_front max front r None p = p
ended_front max front r (Some f) p = (shows_front f max front r p.0, p.1)

ended_none : (h : IvfHead) (max : ℕ) (b : List ℕ) (r : Result (Option ℕ) FileFault) → next_size max 0 b ≡ r → IsReadingEndedBy max (cuts (Some h) max 0 b) (cuts (Some h) max 0 b).fault
ended_none h max b (Err f) e = rw (cuts-fault (Some h) max 0 b f e) (shows_next max 0 b (Some h) f e, comes_next max 0 b h f e)
ended_none h max b (Ok None) e = rw (cuts-stop (Some h) max 0 b e) (grows h max 0 b e)
ended_none h max b (Ok (Some s)) e = absurd (none_whole max b s e)

ended_more : (h : IvfHead) (max n : ℕ) (b : List ℕ) (r : Result (Option ℕ) FileFault) → next_size max (suc n) b ≡ r
    → ((c : List ℕ) → IsReadingEndedBy max (cuts (Some h) max n c) (cuts (Some h) max n c).fault)
    → IsReadingEndedBy max (cuts (Some h) max (suc n) b) (cuts (Some h) max (suc n) b).fault
ended_more h max n b (Err f) e later = rw (cuts-fault (Some h) max (suc n) b f e) (shows_next max (suc n) b (Some h) f e, comes_next max (suc n) b h f e)
ended_more h max n b (Ok None) e later = rw (cuts-stop (Some h) max (suc n) b e) (grows h max (suc n) b e)
ended_more h max n b (Ok (Some s)) e later =
    rw (cuts-whole (Some h) max n b s e) (ended_front max (packet_at s b ∷ []) (cuts (Some h) max n (drop (12 + s) b)) _ (later (drop (12 + s) b)))

cuts-ended : (h : IvfHead) (max n : ℕ) (b : List ℕ) → IsReadingEndedBy max (cuts (Some h) max n b) (cuts (Some h) max n b).fault
cuts-ended h max zero b = ended_none h max b (next_size max 0 b) refl
cuts-ended h max (suc n) b = ended_more h max n b (next_size max (suc n) b) refl (λ c. cuts-ended h max n c)

-- ---- a reading obeys

head_in : (b : List ℕ) (h : IvfHead) → next_head b ≡ Ok (Some h) → IsHeadIn b h
unfolding next_head
head_in b h e = head_good (length b) (starts_with nat_eq b (codes "DKIF")) (starts_with nat_eq (drop 8 b) (codes "VP80")) (parsed_ivf_head b) h _ e refl
  where
    head_good : (l : ℕ) (x y : Bool) (g h : IvfHead) (r : Result (Option IvfHead) FileFault)
        → cond (nat_lt l 32) (Ok None) (cond (not x) (Err Signature) (cond (not y) (Err Codec) (Ok (Some g)))) ≡ r → r ≡ Ok (Some h)
        → (32 ≤ l) × (x ≡ true) × (y ≡ true) × (h ≡ g)
    head_good l false y g h r e is = absurd (grind (arith, nat_tests))
    head_good l true false g h r e is = absurd (grind (arith, nat_tests))
    head_good l true true g h r e is = (grind (arith, nat_tests), refl, refl, grind (arith, nat_tests))

comes_head : (b : List ℕ) (f : FileFault) → next_head b ≡ Err f → ComesWith f None
unfolding next_head
comes_head b Signature e = refl
comes_head b Codec e = refl
comes_head b TooMany e = absurd (grind (arith, nat_tests))
comes_head b PacketTooLarge e = absurd (grind (arith, nat_tests))
comes_head b Torn e = absurd (grind (arith, nat_tests))
comes_head b Ended e = absurd (grind (arith, nat_tests))

cut_is : (max n : ℕ) (b : List ℕ) (r : Result (Option IvfHead) FileFault) → next_head b ≡ r → AreFileBytes b → IsCut b (read_file max n b).head (read_file max n b).packets (read_file max n b).rest
unfolding read_file
cut_is max n b (Err f) e small = rw e (refl, refl)
cut_is max n b (Ok None) e small = rw e (refl, refl)
cut_is max n b (Ok (Some h)) e small =
    let rest : AreFileBytes (drop 32 b) = λ i. rw (get_or-drop 32 b i 0) (small (32 + i)) in
    rw (e, cuts-head (Some h) max n (drop 32 b)) (head_in b h e, sym (cuts-faithful (Some h) max n (drop 32 b) rest))

read_ended : (max n : ℕ) (b : List ℕ) (r : Result (Option IvfHead) FileFault) → next_head b ≡ r → IsReadingEndedBy max (read_file max n b) (read_file max n b).fault
unfolding read_file
read_ended max n b (Err f) e = rw e (head_shows max n b f (next_head-fault b f e), comes_head b f e)
read_ended max n b (Ok None) e = rw e (short_head b e)
read_ended max n b (Ok (Some h)) e = rw e (cuts-ended h max n (drop 32 b))

pub obeys_laws : ObeysLaws
obeys_laws max n b small = record {
  cut = cut_is max n b (next_head b) refl small;
  fits = cuts_what_fits max n b small;
  count = counts_packets max n b;
  ended = read_ended max n b (next_head b) refl;
}

-- ---- nothing else does

-- what is cut at the rest
rest_is : (h : IvfHead) (max : ℕ) (r : Contents) → r.head ≡ Some h → IsReadingEndedBy max r r.fault → cuts (Some h) max r.left r.rest ≡ stop (Some h) r.left r.fault r.rest
rest_is h max r has ended = by_fault r.fault ended
  where
    by_fault : (fault : Option FileFault) → IsReadingEndedBy max r fault → cuts (Some h) max r.left r.rest ≡ stop (Some h) r.left fault r.rest
    by_fault None p = cuts-stop (Some h) max r.left r.rest (next_size-grows h max r.left r.rest (rw has at p))
    by_fault (Some Signature) p = absurd (none_some (sym has ∙ p.1))
    by_fault (Some Codec) p = absurd (none_some (sym has ∙ p.1))
    by_fault (Some TooMany) p = cuts-fault (Some h) max r.left r.rest TooMany (next_size-many max r.left r.rest p.0.0 p.0.1)
    by_fault (Some PacketTooLarge) p = cuts-fault (Some h) max r.left r.rest PacketTooLarge (next_size-large max r.left r.rest p.0.0 p.0.1 p.0.2)
    by_fault (Some Torn) p = absurd p.0
    by_fault (Some Ended) p = absurd p.0

-- with a head
headed : (max n : ℕ) (b : List ℕ) (h : IvfHead) (packets : List Packet) (left : ℕ) (fault : Option FileFault) (rest : List ℕ)
    → KeepsLaws max n b (record { head = Some h; packets = packets; left = left; fault = fault; rest = rest })
    → record { head = Some h; packets = packets; left = left; fault = fault; rest = rest } ≡ read_file max n b
unfolding read_file
headed max n b h packets left fault rest p =
    let e : n - length packets ≡ left = omega (arith, p.count) in
    let r : Contents = record { head = Some h; packets = packets; left = left; fault = fault; rest = rest } in
    rw (next_head-good b h p.cut.0, p.cut.1, cuts-before (Some h) max n packets rest p.fits (omega (arith, p.count)), e, rest_is h max r refl p.ended, append-nil packets) refl

-- without one
headless_by : (max n : ℕ) (b : List ℕ) (fault : Option FileFault) → IsReadingEndedBy max (stop None n fault b) fault → read_file max n b ≡ stop None n fault b
unfolding read_file
headless_by max n b None p = rw (next_head-short b p) refl
headless_by max n b (Some Signature) p = rw (next_head-signature b p.0.0 p.0.1) refl
headless_by max n b (Some Codec) p = rw (next_head-codec b p.0.0 p.0.1 p.0.2) refl
headless_by max n b (Some TooMany) p = absurd (p.1 refl)
headless_by max n b (Some PacketTooLarge) p = absurd (p.1 refl)
headless_by max n b (Some Torn) p = absurd p.0
headless_by max n b (Some Ended) p = absurd p.0

headless : (max n : ℕ) (b : List ℕ) (packets : List Packet) (left : ℕ) (fault : Option FileFault) (rest : List ℕ)
    → KeepsLaws max n b (record { head = None; packets = packets; left = left; fault = fault; rest = rest })
    → record { head = None; packets = packets; left = left; fault = fault; rest = rest } ≡ read_file max n b
headless max n b packets left fault rest p =
    let none : packets ≡ [] = p.cut.0 in
    let whole : rest ≡ b = p.cut.1 in
    let e : left ≡ n = omega (arith, p.count, ap length none) in
    rw (none, whole, e) (sym (headless_by max n b fault (rw (none, whole, e) at p.ended)))

by_head : (max n : ℕ) (b : List ℕ) (head : Option IvfHead) (packets : List Packet) (left : ℕ) (fault : Option FileFault) (rest : List ℕ)
    → KeepsLaws max n b (record { head = head; packets = packets; left = left; fault = fault; rest = rest })
    → record { head = head; packets = packets; left = left; fault = fault; rest = rest } ≡ read_file max n b
by_head max n b None packets left fault rest p = headless max n b packets left fault rest p
by_head max n b (Some h) packets left fault rest p = headed max n b h packets left fault rest p

pub is_determined : IsDetermined
is_determined max n b r p = by_head max n b r.head r.packets r.left r.fault r.rest p
