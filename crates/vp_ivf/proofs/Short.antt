-- What is left is less than a packet.
use Rattle.std.proofs.Common.{◌≡◌, ℕ, zero, suc, ◌+◌, ◌≤◌, ◌<◌, inl, inr, cond, nat_lt, List, length, drop, Option, Some, None, Result, Ok, Err, refl, arith}
use Rattle.std.proofs.lemmas.Bool.Decides.{nat_tests}
use Rattle.std.proofs.lemmas.Bool.{cases_lt}
use Rattle.vp_ivf.specs.declared.packet.IvfHead.{IvfHead}
use Rattle.vp_ivf.specs.declared.fault.FileFault.{FileFault}
use Rattle.vp_ivf.specs.declared.fault.FileFault.TheVariants.{TooMany, PacketTooLarge}
use Rattle.vp_ivf.specs.Ivf.{packet_size, next_size, next_head, cuts, read_file}
use Rattle.vp_ivf.specs.Laws.{HasTooFewBytes, CutsAll}
use Rattle.vp_ivf.proofs.Cuts.{cuts-whole, cuts-stop, cuts-fault}
use Rattle.vp_ivf.proofs.Few.{cuts-head, none_whole, short_head}

waits_zero : (l : ℕ) (r : Result (Option ℕ) FileFault) → cond (nat_lt l 12) (Ok None) (Err TooMany) ≡ r → r ≡ Ok None → l < 12
waits_zero l r e none = grind (arith, nat_tests)

waits_suc : (l max size : ℕ) (r : Result (Option ℕ) FileFault)
    → cond (nat_lt l 12) (Ok None) (cond (nat_lt max size) (Err PacketTooLarge) (cond (nat_lt l (12 + size)) (Ok None) (Ok (Some size)))) ≡ r
    → r ≡ Ok None → 12 ≤ l → l < 12 + size
waits_suc l max size r e none le = grind (arith, nat_tests)

-- where more bytes are wanted, what there is isn't a packet
waits : (max n : ℕ) (b : List ℕ) (h : IvfHead) → next_size max n b ≡ Ok None → HasTooFewBytes (Some h) b
unfolding next_size
waits max zero b h e = inl (waits_zero (length b) _ e refl)
waits max (suc n) b h e = elim (cases_lt (length b) 12) [
  | inl lt ↦ inl lt
  | inr le ↦ inr (waits_suc (length b) max (packet_size b) _ e refl le)
]

clash : {A : Type 0} {x : A} → Some x ≡ None → ⊥
clash e = cc

short_none : (max : ℕ) (b : List ℕ) (h : IvfHead) (r : Result (Option ℕ) FileFault) → next_size max 0 b ≡ r
    → (cuts (Some h) max 0 b).fault ≡ None → HasTooFewBytes (Some h) (cuts (Some h) max 0 b).rest
short_none max b h (Err f) e calm = absurd (clash (rw (cuts-fault (Some h) max 0 b f e) at calm))
short_none max b h (Ok None) e calm = rw (cuts-stop (Some h) max 0 b e) (waits max 0 b h e)
short_none max b h (Ok (Some s)) e calm = absurd (none_whole max b s e)

short_more : (max n : ℕ) (b : List ℕ) (h : IvfHead) (r : Result (Option ℕ) FileFault) → next_size max (suc n) b ≡ r
    → ((c : List ℕ) → (cuts (Some h) max n c).fault ≡ None → HasTooFewBytes (Some h) (cuts (Some h) max n c).rest)
    → (cuts (Some h) max (suc n) b).fault ≡ None → HasTooFewBytes (Some h) (cuts (Some h) max (suc n) b).rest
short_more max n b h (Err f) e later calm = absurd (clash (rw (cuts-fault (Some h) max (suc n) b f e) at calm))
short_more max n b h (Ok None) e later calm = rw (cuts-stop (Some h) max (suc n) b e) (waits max (suc n) b h e)
short_more max n b h (Ok (Some s)) e later calm =
    let whole = cuts-whole (Some h) max n b s e in
    rw whole (later (drop (12 + s) b) (rw whole at calm))

cuts-short : (max n : ℕ) (b : List ℕ) (h : IvfHead) → (cuts (Some h) max n b).fault ≡ None → HasTooFewBytes (Some h) (cuts (Some h) max n b).rest
cuts-short max zero b h calm = short_none max b h (next_size max 0 b) refl calm
cuts-short max (suc n) b h calm = short_more max n b h (next_size max (suc n) b) refl (λ c f. cuts-short max n c h f) calm

read_short : (max n : ℕ) (b : List ℕ) (r : Result (Option IvfHead) FileFault) → next_head b ≡ r
    → (read_file max n b).fault ≡ None → HasTooFewBytes (read_file max n b).head (read_file max n b).rest
unfolding read_file
read_short max n b (Err f) e calm = absurd (clash (rw e at calm))
read_short max n b (Ok None) e calm = rw e (short_head b e)
read_short max n b (Ok (Some h)) e calm = rw (e, cuts-head (Some h) max n (drop 32 b)) (cuts-short max n (drop 32 b) h (rw e at calm))

pub cuts_all : CutsAll
cuts_all max n b calm = read_short max n b (next_head b) refl calm
