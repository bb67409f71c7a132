-- Windows whose value stands at the top of its word.
use Rattle.std.proofs.Common.{true, false, Bool, ◌≡◌, inl, inr, ℕ, suc, zero, ◌+◌, ◌-◌, ◌*◌, ◌%◌, ◌^◌, ◌<◌, ◌≤◌, List, [], ◌∷◌, length, get_or, take, drop, refl, sym, ap, ◌∙◌, arith}
use Rattle.std.specs.Prelude.{nat_lt, nat_le, ◌&&◌, ◌||◌, ◌==◌}
use Rattle.std.proofs.Math.Dec.{leb}
use Rattle.std.proofs.Math.Nat.{mul-div_cancel, mod-eq_of_lt, mod-le, le_of_mul-le-mul_right, lt_of_mul-lt-mul_right}
use Rattle.std.proofs.lemmas.Nat.{pow-add, pow_pos, mul-le}
use Rattle.std.proofs.lemmas.Bool.{leb-true, ltb-true, ne_eqb, cases_lt}
use Rattle.std.proofs.lemmas.List.{take_more, take_all, length-drop, take-append-drop}
use Rattle.vp_bool.specs.Bools.{State, number, renormalised}
use Rattle.vp_bool.specs.Window.{state, high_bits, IsLeftAligned, IsUnnormalised, AreBytes}
use Rattle.vp_bool.specs.declared.decoder.TheConstants.{DOUBLINGS}
use Rattle.vp_bool.proofs.Numbers.{scaled, power_up, double_pow}
use Rattle.vp_bool.proofs.WindowLemmas.{same_state, advanced_within}
use Rattle.vp_bool.proofs.BoolLemmas.{doublings, doubles, shifted, normal_by, bound_at, front_leb}
use Rattle.vp_bool.proofs.LawLemmas.{number-append}
use Rattle.vp_bool.proofs.EncoderLemmas.{number-push}

-- ---- how often a range doubles, by the table

abbrev is_doubling : ℕ → ℕ → Bool
is_doubling r n = (r == 0) || (nat_le n 7 && (nat_le 128 (r * 2 ^ n) && nat_lt (r * 2 ^ n) 256))

abbrev are_doublings : ℕ → List ℕ → Bool
are_doublings r [] = true
are_doublings r (n ∷ ns) = is_doubling r n && are_doublings (suc r) ns

table : are_doublings 0 DOUBLINGS ≡ true
table = refl

both : (a b : Bool) → (a && b) ≡ true → (a ≡ true) × (b ≡ true)
both true true e = (refl, refl)
both true false e = (refl, e)
both false b e = absurd cc

doubling_in : (ns : List ℕ) (r i : ℕ) → i < length ns → are_doublings r ns ≡ true → is_doubling (r + i) (get_or ns i 0) ≡ true
doubling_in [] r i lt e = absurd (omega arith)
doubling_in (n ∷ ns) r zero lt e =
    let none : r + 0 ≡ r = omega arith in
    rw none (both (is_doubling r n) (are_doublings (suc r) ns) e).0
doubling_in (n ∷ ns) r (suc i) lt e =
    let moved : r + suc i ≡ suc r + i = omega arith in
    rw moved (doubling_in ns (suc r) i (omega arith) (both (is_doubling r n) (are_doublings (suc r) ns) e).1)

pub record Doubling (r n : ℕ) : Type 0 where
  pub few : n ≤ 7
  pub low : 128 ≤ r * 2 ^ n
  pub high : r * 2 ^ n < 256

doubling_by : (r n : ℕ) (b : Bool) → b ≡ false → (b || (nat_le n 7 && (nat_le 128 (r * 2 ^ n) && nat_lt (r * 2 ^ n) 256))) ≡ true → Doubling r n
doubling_by r n true f e = absurd cc
doubling_by r n false f e =
    let first = both _ _ e in
    let second = both _ _ first.1 in
    record { few = leb-true _ _ first.0; low = leb-true _ _ second.0; high = ltb-true _ _ second.1 }

pub doubling : (r n : ℕ) → 0 < r → r < 256 → n ≡ get_or DOUBLINGS r 0 → Doubling r n
doubling r n some byte e =
    let none : 0 + r ≡ r = omega arith in
    let found = doubling_in DOUBLINGS 0 r (omega arith) table in
    rw e (doubling_by r (get_or DOUBLINGS r 0) (r == 0) (ne_eqb r 0 (λ z. absurd (omega arith))) (rw none at found))

no_fewer : (r n m : ℕ) → 128 ≤ r * 2 ^ n → r * 2 ^ m < 256 → m ≤ n
no_fewer r n m low high = elim (cases_lt n m) [
  | inl less ↦
      let double : 2 ^ suc n ≤ 2 ^ m = power_up (suc n) m less in
      let least : r * 2 ^ suc n ≤ r * 2 ^ m = mul-le r (2 ^ suc n) r (2 ^ m) (omega arith) double in
      absurd (omega (arith, double_pow r n))
  | inr same ↦ same
]

-- the table counts what the leading zeros tell
pub doubling-zeros : (r n : ℕ) → 0 < r → r < 256 → n ≡ get_or DOUBLINGS r 0 → n ≡ doublings r
doubling-zeros r n some byte e =
    let d = doubling r n some byte e in
    let z = doubles r some byte in
    omega (arith, no_fewer r n (doublings r) d.low z.high, no_fewer r (doublings r) n z.low d.high)

-- ---- numbers of bytes

pub number-more : (bytes : List ℕ) (i v b : ℕ) → i < length bytes → v ≡ number (take i bytes) → b ≡ get_or bytes i 0 → v * 256 + b ≡ number (take (i + 1) bytes)
number-more bytes i v b lt e f = rw (take_more bytes i 0 lt, number-push (take i bytes) (get_or bytes i 0), e, f) refl

-- ---- the front of a word

pub front-is : (word w c : ℕ) → word ≡ w * 2 ^ (56 - c) → high_bits word c ≡ w
front-is word w c e = rw e (mul-div_cancel w (pow_pos (56 - c)))

pub aligned-by : (word w c : ℕ) → word ≡ w * 2 ^ (56 - c) → IsLeftAligned word c
aligned-by word w c e = rw (front-is word w c e) e

pub front_small : (w r c : ℕ) (bs : List ℕ) → IsUnnormalised (state w r c bs) → w ≤ r * 2 ^ c
front_small w r c bs taken =
    let q : r * 2 ^ (c + 8 * length bs) ≡ r * 2 ^ c * 2 ^ (8 * length bs) = bound_at r c (8 * length bs) in
    let front : w * 2 ^ (8 * length bs) ≤ r * 2 ^ c * 2 ^ (8 * length bs) = omega (arith, taken.below) in
    le_of_mul-le-mul_right front (pow_pos (8 * length bs))

-- a split held against the word, and against its front
pub top_bool : (s word w c : ℕ) → word ≡ w * 2 ^ (56 - c) → c ≤ 56 → leb (s * 2 ^ 56) word ≡ leb (s * 2 ^ c) w
top_bool s word w c e few =
    let sum : 56 ≡ c + (56 - c) = omega arith in
    let bound : s * 2 ^ 56 ≡ s * 2 ^ c * 2 ^ (56 - c) = ap (λ k. s * 2 ^ k) sum ∙ bound_at s c (56 - c) in
    let none : w * 2 ^ (56 - c) ≡ w * 2 ^ (56 - c) + 0 = omega arith in
    rw (bound, e, none) (front_leb (s * 2 ^ c) w 0 (2 ^ (56 - c)) (pow_pos (56 - c)))

-- ---- the point moved on

pub word_room : (w r c n : ℕ) → w ≤ r * 2 ^ c → r * 2 ^ n < 256 → c ≤ 56 → w * 2 ^ (56 - c) * 2 ^ n < 2 ^ 64
word_room w r c n h high few =
    let sum : c + (56 - c) ≡ 56 = omega arith in
    let top : r * 2 ^ c * 2 ^ (56 - c) ≡ r * 2 ^ 56 = sym (bound_at r c (56 - c)) ∙ ap (λ k. r * 2 ^ k) sum in
    let word : w * 2 ^ (56 - c) ≤ r * 2 ^ 56 = rw (← top) (scaled w (r * 2 ^ c) (2 ^ (56 - c)) h) in
    let all : w * 2 ^ (56 - c) * 2 ^ n ≤ r * 2 ^ 56 * 2 ^ n = scaled _ _ (2 ^ n) word in
    omega arith

pub record IsMoved (word r c : ℕ) (bs : List ℕ) (s : State) : Type 0 where
  pub aligned : IsLeftAligned word c
  pub after : state (high_bits word c) r c bs ≡ s

moved_by : (word w r c : ℕ) (bs : List ℕ) (s : State) → word ≡ w * 2 ^ (56 - c) → state w r c bs ≡ s → IsMoved word r c bs s
moved_by word w r c bs s e f = record { aligned = aligned-by word w c e; after = rw (front-is word w c e) f }

moved_within : (w r c n : ℕ) (bs : List ℕ) → n ≤ c → c ≤ 56 → IsMoved (w * 2 ^ (56 - c) * 2 ^ n) (r * 2 ^ n) (c - n) bs (shifted n (state w r c bs))
moved_within w r c n bs h few =
    let sum : (56 - c) + n ≡ 56 - (c - n) = omega arith in
    moved_by _ w _ _ bs _ (sym (bound_at w (56 - c) n) ∙ ap (λ k. w * 2 ^ k) sum) (advanced_within n w (r * 2 ^ n) c bs h)

pub moved_on : (word w r c n : ℕ) (bs : List ℕ) → word ≡ w * 2 ^ (56 - c) → c ≤ 56 → IsUnnormalised (state w r c bs) → Doubling r n → n ≤ c
    → IsMoved (word * 2 ^ n % 2 ^ 64) (r * 2 ^ n % 2 ^ 32) (c - n) bs (renormalised 7 (state w r c bs))
moved_on word w r c n bs e few taken d within =
    let room : w * 2 ^ (56 - c) * 2 ^ n < 2 ^ 64 = word_room w r c n (front_small w r c bs taken) d.high few in
    let word' : w * 2 ^ (56 - c) * 2 ^ n % 2 ^ 64 ≡ w * 2 ^ (56 - c) * 2 ^ n = mod-eq_of_lt room in
    let range' : r * 2 ^ n % 2 ^ 32 ≡ r * 2 ^ n = mod-eq_of_lt (omega (arith, d.high)) in
    let norm : renormalised 7 (state w r c bs) ≡ shifted n (state w r c bs) = normal_by 7 n (state w r c bs) d.few d.low d.high in
    rw (e, word', range', norm) (moved_within w r c n bs within few)

-- ---- bytes taken

spread : (w p n q d : ℕ) → (w * p + n) * q + d ≡ w * (p * q) + (n * q + d)
spread w p n q d = omega arith

pub taken_more : (w r c t : ℕ) (bs : List ℕ) → t ≤ length bs → state (w * 2 ^ (8 * t) + number (take t bs)) r (c + 8 * t) (drop t bs) ≡ state w r c bs
taken_more w r c t bs h =
    let left : length (drop t bs) ≡ length bs - t = length-drop t bs in
    let bytes : 8 * length bs ≡ 8 * t + 8 * length (drop t bs) = omega arith in
    let powers : 2 ^ (8 * length bs) ≡ 2 ^ (8 * t) * 2 ^ (8 * length (drop t bs)) = ap (λ k. 2 ^ k) bytes ∙ pow-add 2 (8 * t) (8 * length (drop t bs)) in
    let parts : number bs ≡ number (take t bs) * 2 ^ (8 * length (drop t bs)) + number (drop t bs) = sym (ap number (take-append-drop t bs)) ∙ number-append (take t bs) (drop t bs) in
    same_state _ _ _ _ _ _ _ (spread w (2 ^ (8 * t)) (number (take t bs)) (2 ^ (8 * length (drop t bs))) (number (drop t bs)) ∙ sym (ap (λ k. w * k + number bs) powers ∙ ap (λ k. w * (2 ^ (8 * t) * 2 ^ (8 * length (drop t bs))) + k) parts)) (omega arith) refl

-- the word with the bytes
pub word_more : (word w c t n : ℕ) → word ≡ w * 2 ^ (56 - c) → c + 8 * t ≤ 56 → n < 2 ^ (8 * t) → word + n * 2 ^ (56 - (c + 8 * t)) % 2 ^ 64 ≡ (w * 2 ^ (8 * t) + n) * 2 ^ (56 - (c + 8 * t))
word_more word w c t n e few small =
    let sum : 56 - c ≡ 8 * t + (56 - (c + 8 * t)) = omega arith in
    let word' : w * 2 ^ (56 - c) ≡ w * 2 ^ (8 * t) * 2 ^ (56 - (c + 8 * t)) = ap (λ k. w * 2 ^ k) sum ∙ bound_at w (8 * t) (56 - (c + 8 * t)) in
    let below : n * 2 ^ (56 - (c + 8 * t)) ≤ 2 ^ (8 * t) * 2 ^ (56 - (c + 8 * t)) = scaled n (2 ^ (8 * t)) _ (omega arith) in
    let power : 2 ^ (8 * t) * 2 ^ (56 - (c + 8 * t)) ≡ 2 ^ (56 - c) = sym (pow-add 2 (8 * t) (56 - (c + 8 * t))) ∙ ap (λ k. 2 ^ k) (sym sum) in
    let most : 2 ^ (56 - c) ≤ 2 ^ 56 = power_up (56 - c) 56 (omega arith) in
    let whole : n * 2 ^ (56 - (c + 8 * t)) % 2 ^ 64 ≡ n * 2 ^ (56 - (c + 8 * t)) = mod-eq_of_lt (omega arith) in
    rw (whole, e, word') (omega arith)

-- a value in its word, and bytes below it
word_fits_at : (w c n k : ℕ) → c ≤ 56 → k ≤ 56 - c → n < 2 ^ (56 - c - k) → w * 2 ^ (56 - c) < 2 ^ 64 → w * 2 ^ (56 - c) + n * 2 ^ k < 2 ^ 64
word_fits_at w c n k few room small below =
    let sum : 64 ≡ (8 + c) + (56 - c) = omega arith in
    let whole : 2 ^ 64 ≡ 2 ^ (8 + c) * 2 ^ (56 - c) = ap (λ j. 2 ^ j) sum ∙ pow-add 2 (8 + c) (56 - c) in
    let front : w < 2 ^ (8 + c) = lt_of_mul-lt-mul_right (2 ^ (56 - c)) (rw (← whole) below) in
    let next : (w + 1) * 2 ^ (56 - c) ≤ 2 ^ (8 + c) * 2 ^ (56 - c) = scaled (w + 1) (2 ^ (8 + c)) (2 ^ (56 - c)) (omega arith) in
    let parts : 56 - c ≡ (56 - c - k) + k = omega arith in
    let power : 2 ^ (56 - c) ≡ 2 ^ (56 - c - k) * 2 ^ k = ap (λ j. 2 ^ j) parts ∙ pow-add 2 (56 - c - k) k in
    let tail : (n + 1) * 2 ^ k ≤ 2 ^ (56 - c - k) * 2 ^ k = scaled (n + 1) (2 ^ (56 - c - k)) (2 ^ k) (omega arith) in
    omega (arith, pow_pos k)

-- the window with the bytes
module _ (value c t n : ℕ) (bs : List ℕ) (aligned : IsLeftAligned value c) (low : c ≤ 6) (len : t ≤ length bs) (few : t ≤ 6) (is : n ≡ number (take t bs)) (small : n < 2 ^ (8 * t)) where
  pub word_is : value + n * 2 ^ (56 - (c + 8 * t)) % 2 ^ 64 ≡ (high_bits value c * 2 ^ (8 * t) + n) * 2 ^ (56 - (c + 8 * t))
  word_is = word_more value (high_bits value c) c t n aligned (omega arith) small

  pub taken_is : (r : ℕ) → state (high_bits value c * 2 ^ (8 * t) + n) r (c + 8 * t) (drop t bs) ≡ state (high_bits value c) r c bs
  taken_is r = rw is (taken_more (high_bits value c) r c t bs len)

  pub word_fits : value < 2 ^ 64 → value + n * 2 ^ (56 - (c + 8 * t)) % 2 ^ 64 < 2 ^ 64
  word_fits below =
      let k : ℕ = 56 - (c + 8 * t) in
      let left : 56 - c - k ≡ 8 * t = omega arith in
      let all = word_fits_at (high_bits value c) c n k (omega arith) (omega arith) (rw left small) (rw (← aligned) below) in
      let less : n * 2 ^ k % 2 ^ 64 ≤ n * 2 ^ k = mod-le (n * 2 ^ k) (2 ^ 64) in
      omega (arith, all, less, aligned)

  pub loaded_is : (r : ℕ) → state (high_bits (value + n * 2 ^ (56 - (c + 8 * t)) % 2 ^ 64) (c + 8 * t)) r (c + 8 * t) (drop t bs) ≡ state (high_bits value c) r c bs
  loaded_is r = rw (front-is _ (high_bits value c * 2 ^ (8 * t) + n) (c + 8 * t) word_is) (taken_is r)

  pub loaded_aligned : IsLeftAligned (value + n * 2 ^ (56 - (c + 8 * t)) % 2 ^ 64) (c + 8 * t)
  loaded_aligned = aligned-by _ (high_bits value c * 2 ^ (8 * t) + n) (c + 8 * t) word_is

pub bytes_drop : (t : ℕ) (bs : List ℕ) → AreBytes bs → AreBytes (drop t bs)
bytes_drop zero bs h = h
bytes_drop (suc t) [] h = h
bytes_drop (suc t) (b ∷ bs) h = bytes_drop t bs (λ i. h (suc i))

pub behind : (t : ℕ) (bs : List ℕ) → take (length bs - t) (drop t bs) ≡ drop t bs
behind t bs = let left = length-drop t bs in take_all _ (drop t bs) (omega (arith, left))

-- ---- the first window

pub first_word : (v r : ℕ) (bs : List ℕ) (s : State) → v < 256 → state v r 0 bs ≡ s → IsMoved (v * 2 ^ 56 % 2 ^ 64) r 0 bs s
first_word v r bs s byte e =
    let whole : v * 2 ^ 56 % 2 ^ 64 ≡ v * 2 ^ 56 = mod-eq_of_lt (omega arith) in
    rw whole (moved_by _ v r 0 bs s refl e)
