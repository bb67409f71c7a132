-- Bools of probability 255 that are all false, passed over at once: each takes one from the range.
use Rattle.std.proofs.Common.{◌≡◌, ℕ, zero, suc, ◌+◌, ◌-◌, ◌*◌, ◌/◌, ◌%◌, ◌^◌, ◌<◌, ◌≤◌, Bool, false, List, ◌∷◌, length, inl, inr, refl, sym, ap, ◌∙◌, arith}
use Rattle.std.specs.Prelude.{replicate}
use Rattle.std.proofs.lemmas.Bool.{leb-false, lt-leb, cases_Bool}
use Rattle.std.proofs.lemmas.Nat.{shl_whole}
use Rattle.vp_bool.specs.Bools.{State, number, split_of, bool_of, rest_of, renormalised, read, bools, after_bools}
use Rattle.vp_bool.specs.Window.{high_bits, word_state, is_marked, IsAligned, IsLeftAligned, AreBytes}
use Rattle.vp_bool.proofs.Numbers.{scaled}
use Rattle.vp_bool.proofs.WindowLemmas.{number-bound}
use Rattle.vp_bool.proofs.BoolLemmas.{normal-still, front_leb, bound_at}
use Rattle.vp_bool.proofs.TopLemmas.{top_bool, front-is, aligned-by}
use Rattle.vp_bool.proofs.MarkLemmas.{aligned_word}

-- the state after n of them
abbrev pub passed : ℕ → State → State
passed n s = record s { range = s.range - n }

split_rare : (r : ℕ) → 128 ≤ r → r < 256 → split_of 255 r ≡ r - 1
split_rare r low high = omega arith

both : (a b : Bool) (s t : State) → a ≡ b → s ≡ t → ◌≡◌ {A = Bool × State} (a, s) (b, t)
both a b s t e f = cc

one : (s : State) → 129 ≤ s.range → s.range < 256 → s.value < (s.range - 1) * 2 ^ s.scale → read 255 s ≡ (false, passed 1 s)
unfolding read
one s low high below =
    let split : split_of 255 s.range ≡ s.range - 1 = split_rare s.range (omega arith) high in
    let is : bool_of 255 s ≡ false = rw split (lt-leb ((s.range - 1) * 2 ^ s.scale) s.value below) in
    let rest : rest_of 255 s ≡ passed 1 s = rw is (ap (λ r. record s { range = r }) split) in
    both (bool_of 255 s) false (renormalised 7 (rest_of 255 s)) (passed 1 s) is (ap (renormalised 7) rest ∙ normal-still 7 (passed 1 s) (omega arith))

pub pass : (n : ℕ) (s : State) → 128 + n ≤ s.range → s.range < 256 → s.value < (s.range - n) * 2 ^ s.scale
    → (bools (replicate n 255) s ≡ replicate n false) × (after_bools (replicate n 255) s ≡ passed n s)
unfolding bools after_bools
pass zero s low high below = let none : s.range - 0 ≡ s.range = omega arith in (refl, rw none refl)
pass (suc n) s low high below =
    let more : (s.range - suc n) * 2 ^ s.scale ≤ (s.range - 1) * 2 ^ s.scale = scaled (s.range - suc n) (s.range - 1) (2 ^ s.scale) (omega arith) in
    let first : read 255 s ≡ (false, passed 1 s) = one s (omega arith) high (omega (arith, below, more)) in
    let left : s.range - 1 - n ≡ s.range - suc n = omega arith in
    let on = pass n (passed 1 s) (omega arith) (omega arith) (rw left below) in
    (rw first (ap (λ (l : List Bool). false ∷ l) on.0), rw (after_bools, first) (on.1 ∙ ap (λ r. record s { range = r }) left))

-- the value of a word below a bound, as that of its state
below_plain : (r value c : ℕ) (bs : List ℕ) → IsLeftAligned value c → c ≤ 56 → AreBytes bs → value < r * 2 ^ 56
    → high_bits value c * 2 ^ (8 * length bs) + number bs < r * 2 ^ (c + 8 * length bs)
below_plain r value c bs aligned few bytes h =
    let front : high_bits value c < r * 2 ^ c = leb-false _ _ (sym (top_bool r value (high_bits value c) c aligned few) ∙ lt-leb _ _ h) in
    rw (bound_at r c (8 * length bs))
    (leb-false _ _ (front_leb (r * 2 ^ c) (high_bits value c) (number bs) (2 ^ (8 * length bs)) (number-bound bs bytes) ∙ lt-leb _ _ front))

pub below_word : (q value r c : ℕ) (bs : List ℕ) → IsAligned value c bs → c ≤ 56 → AreBytes bs → value < q * 2 ^ 56
    → (word_state value r c bs).value < q * 2 ^ (word_state value r c bs).scale
below_word q value r c bs aligned few bytes h = elim (cases_Bool (is_marked value c)) [
  | inl set ↦
      let mark = aligned set in
      let front : high_bits (value / 2 ^ 56 * 2 ^ 56) 0 ≡ value / 2 ^ 56 = front-is (value / 2 ^ 56 * 2 ^ 56) (value / 2 ^ 56) 0 refl in
      let below = below_plain q (value / 2 ^ 56 * 2 ^ 56) 0 bs (aligned-by (value / 2 ^ 56 * 2 ^ 56) (value / 2 ^ 56) 0 refl) (omega arith) bytes (omega (arith, mark.mark)) in
      rw set (rw front at below)
  | inr clear ↦ rw clear (below_plain q value c bs (aligned_word value c clear) few bytes h)
]

pub word_passed : (n value r c : ℕ) (bs : List ℕ) → passed n (word_state value r c bs) ≡ word_state value (r - n) c bs
word_passed n value r c bs = elim (cases_Bool (is_marked value c)) [
  | inl set ↦ rw set refl
  | inr clear ↦ rw clear refl
]

pub whole : (r : ℕ) → r < 256 → r * 2 ^ 56 % 2 ^ 64 ≡ r * 2 ^ 56
whole r high = shl_whole r 8 56 64 (omega arith) (omega arith)
