-- Bools read from a state.
use Rattle.std.proofs.Common.{add-one, ◌≡◌, ℕ, suc, zero, ◌+◌, ◌-◌, ◌*◌, ◌/◌, ◌%◌, ◌^◌, ◌<◌, ◌≤◌, List, [], ◌∷◌, length, Bool, true, false, cond, refl, sym, ap, ◌∙◌, arith, inl, inr}
use Rattle.std.proofs.lemmas.Bool.{lt-ltb, le-ltb, le-leb, lt-leb, leb-false, cases_lt, cond_both, eqb-false, or_right, le-ltb}
use Rattle.std.specs.Prelude.{◌==◌, ◌||◌}
use Rattle.std.proofs.Math.Dec.{leb, ltb}
use Rattle.std.proofs.lemmas.Nat.{pow-add, pow_pos, leading_top, mul-le, div_below, shl_whole}
use Rattle.std.specs.Int.Count.{count_leading_zeros}
use Rattle.std.proofs.Math.Nat.{pow-suc, mod-eq_of_lt}
use Rattle.vp_bool.specs.Bools.{State, number, doubled, doubled_at, renormalised, split_of, bool_of, rest_of, read, initial_state, whole_partition, literal}
use mir.Val.{bool_byte}
use Rattle.vp_bool.specs.Window.{st, state, advanced, IsNormalised, IsUnnormalised, AreBytes}
use Rattle.vp_bool.proofs.Numbers.{scaled, power_up, double_pow}
use Rattle.vp_bool.proofs.WindowLemmas.{number-bound}

-- ---- the split

pub split_below : (p range : ℕ) → p < 256 → 2 ≤ range → split_of p range < range
split_below p range byte h =
    let bound : (range - 1) * p ≤ (range - 1) * 255 = mul-le (range - 1) p (range - 1) 255 (omega arith) (omega arith) in
    let less : (range - 1) * p < (range - 1) * 2 ^ 8 = omega arith in
    let quotient : (range - 1) * p / 256 < range - 1 = div_below ((range - 1) * p) 256 (range - 1) (omega arith) less in
    omega arith

-- ---- doubling until the range is normal

-- the point moved on by n bits, and the range doubled as often
abbrev pub shifted : ℕ → State → State
shifted n s = record (advanced n s) { range = s.range * 2 ^ n }

pub same : (v w r q k l : ℕ) (a b : Bool) → v ≡ w → r ≡ q → k ≡ l → a ≡ b → st v r k a ≡ st w q l b
same v w r q k l a b e f g h = cc

-- no point moves before itself
pub or_none : (b c : Bool) → c ≡ false → (b || c) ≡ b
or_none true c e = refl
or_none false c e = e

pub below_suc : (n k : ℕ) → ltb k n ≡ ltb (suc k) (suc n)
below_suc n k = elim (cases_lt k n) [
  | inl less ↦ lt-ltb k n less ∙ sym (lt-ltb (suc k) (suc n) (omega arith))
  | inr most ↦ le-ltb k n most ∙ sym (le-ltb (suc k) (suc n) (omega arith))
]

shifted_zero : (s : State) → shifted 0 s ≡ s
shifted_zero s =
    let none : 0 - s.scale ≡ 0 = omega arith in
    same _ _ _ _ _ _ _ _ (rw none (omega arith)) (omega arith) (omega arith) (or_none _ _ (le-ltb s.scale 0 (omega arith)))

shifted_suc_at : (n v r k : ℕ) (b : Bool) → shifted n (doubled (st v r k b)) ≡ shifted (suc n) (st v r k b)
shifted_suc_at n v r zero b =
    let whole : n - 0 ≡ n = omega arith in
    let whole' : suc n - 0 ≡ suc n = omega arith in
    let value : 2 * v * 2 ^ (n - 0) ≡ v * 2 ^ (suc n - 0) = rw (whole, whole') (double_pow v n) in
    same _ _ _ _ _ _ _ _ value (double_pow r n) (omega arith) (sym (or_right b _ (lt-ltb 0 (suc n) (omega arith))))
shifted_suc_at n v r (suc k) b =
    let sub : suc n - suc k ≡ n - k = omega arith in
    let value : v * 2 ^ (n - k) ≡ v * 2 ^ (suc n - suc k) = rw sub refl in
    same _ _ _ _ _ _ _ _ value (double_pow r n) (omega arith) (ap (λ c. b || c) (below_suc n k))

shifted_suc : (n : ℕ) (s : State) → shifted n (doubled s) ≡ shifted (suc n) s
shifted_suc n s = shifted_suc_at n s.value s.range s.scale s.past

pub doubled-range : (k : ℕ) (s : State) → (doubled_at k s).range ≡ 2 * s.range
doubled-range zero s = refl
doubled-range (suc k) s = refl

-- a range that is still too low
pub still_low : (r n : ℕ) → r * 2 ^ suc n < 256 → r < 128
still_low r n high =
    let least : r * 1 ≤ r * 2 ^ n = mul-le r 1 r (2 ^ n) (omega arith) (omega (arith, pow_pos n)) in
    omega (arith, double_pow r n)

pub normal_by : (fuel n : ℕ) (s : State) → n ≤ fuel → 128 ≤ s.range * 2 ^ n → s.range * 2 ^ n < 256 → renormalised fuel s ≡ shifted n s
unfolding renormalised
normal_by zero zero s h low high = sym (shifted_zero s)
normal_by zero (suc n) s h low high = absurd (omega arith)
normal_by (suc fuel) zero s h low high =
    rw (le-ltb s.range 128 (omega arith)) (sym (shifted_zero s))
normal_by (suc fuel) (suc n) s h low high =
    let low' : 128 ≤ (doubled s).range * 2 ^ n = rw (doubled-range s.scale s) (omega (arith, double_pow s.range n)) in
    let high' : (doubled s).range * 2 ^ n < 256 = rw (doubled-range s.scale s) (omega (arith, double_pow s.range n)) in
    rw (lt-ltb s.range 128 (still_low s.range n high)) (normal_by fuel n (doubled s) (omega arith) low' high' ∙ shifted_suc n s)

-- how often a range doubles, by its leading zeros in a word of 32 bits
abbrev pub doublings : ℕ → ℕ
doublings r = count_leading_zeros 32 r - 24

pub record Doubles (r n : ℕ) : Type 0 where
  pub few : n ≤ 7
  pub low : 128 ≤ r * 2 ^ n
  pub high : r * 2 ^ n < 256

-- the product of two powers
together : (r j n : ℕ) → j + n ≡ 7 → 2 ^ j ≤ r → r < 2 ^ suc j → (128 ≤ r * 2 ^ n) × (r * 2 ^ n < 256)
together r j n e low high =
    let p : 2 ^ j * 2 ^ n ≡ 2 ^ 7 = sym (pow-add 2 j n) ∙ ap (λ k. 2 ^ k) e in
    let q : 2 ^ suc j ≡ 2 ^ j * 2 = pow-suc 2 j in
    let least : 2 ^ j * 2 ^ n ≤ r * 2 ^ n = scaled (2 ^ j) r (2 ^ n) low in
    let most : (r + 1) * 2 ^ n ≤ 2 ^ suc j * 2 ^ n = scaled (r + 1) (2 ^ suc j) (2 ^ n) (omega arith) in
    let most' : (r + 1) * 2 ^ n ≤ (2 ^ j * 2) * 2 ^ n = rw q at most in
    (omega arith, omega (arith, pow_pos n))

doubles_at : (r j : ℕ) → r < 256 → count_leading_zeros 32 r + suc j ≡ 32 → 2 ^ j ≤ r → r < 2 ^ suc j → Doubles r (doublings r)
doubles_at r j byte zeros low high =
    elim (cases_lt j 8) [
      | inl short ↦
          let e : j + doublings r ≡ 7 = omega arith in
          let both = together r j (doublings r) e low high in
          record { few = omega arith; low = both.0; high = both.1 }
      | inr long ↦
          let more : 2 ^ 8 ≤ 2 ^ j = power_up 8 j long in
          absurd (omega arith)
    ]

pub doubles : (r : ℕ) → 0 < r → r < 256 → Doubles r (doublings r)
doubles r some byte =
    let big : r < 2 ^ 32 = omega arith in
    let top = leading_top 32 r some big in
    doubles_at r top.0 byte top.1 top.2 top.3

pub normal-shifted : (s : State) → 0 < s.range → s.range < 256 → renormalised 7 s ≡ shifted (doublings s.range) s
normal-shifted s some byte =
    let d = doubles s.range some byte in
    normal_by 7 (doublings s.range) s d.few d.low d.high

-- a state whose range is 128 or more stays
pub normal-still : (n : ℕ) (s : State) → 128 ≤ s.range → renormalised n s ≡ s
unfolding renormalised
normal-still zero s h = refl
normal-still (suc n) s h = rw (le-ltb s.range 128 h) refl

-- ---- one bool, seen through a window

-- a product compared at its front
pub front_leb : (b v x q : ℕ) → x < q → leb (b * q) (v * q + x) ≡ leb b v
front_leb b v x q behind =
    elim (cases_lt v b) [
      | inl less ↦
          let more : (v + 1) * q ≤ b * q = scaled (v + 1) b q (omega arith) in
          rw (lt-leb b v less) (lt-leb (b * q) (v * q + x) (omega arith))
      | inr most ↦
          let more : b * q ≤ v * q = scaled b v q most in
          rw (le-leb b v most) (le-leb (b * q) (v * q + x) (omega arith))
    ]

-- the bound of a window is the bound of the state
pub bound_at : (s n l : ℕ) → s * 2 ^ (n + l) ≡ s * 2 ^ n * 2 ^ l
bound_at s n l = rw (pow-add 2 n l) (omega arith)

pub window_bool : (p v r n : ℕ) (bs : List ℕ) → AreBytes bs → leb (split_of p r * 2 ^ n) v ≡ bool_of p (state v r n bs)
window_bool p v r n bs bytes =
    rw (bound_at (split_of p r) n (8 * length bs)) (sym (front_leb (split_of p r * 2 ^ n) v (number bs) (2 ^ (8 * length bs)) (number-bound bs bytes)))

pub taken_off : (v b d x q : ℕ) → b + d ≡ v → d * q + x ≡ v * q + x - b * q
taken_off v b d x q e = rw (← e) (omega arith)

pub rest_true : (p v r n : ℕ) (bs : List ℕ) → AreBytes bs → split_of p r * 2 ^ n ≤ v → rest_of p (state v r n bs) ≡ state (v - split_of p r * 2 ^ n) (r - split_of p r) n bs
rest_true p v r n bs bytes above =
    let b : bool_of p (state v r n bs) ≡ true = sym (window_bool p v r n bs bytes) ∙ le-leb _ _ above in
    let value : v * 2 ^ (8 * length bs) + number bs - split_of p r * 2 ^ (n + 8 * length bs) ≡ (v - split_of p r * 2 ^ n) * 2 ^ (8 * length bs) + number bs =
    rw (bound_at (split_of p r) n (8 * length bs))
    (sym (taken_off v (split_of p r * 2 ^ n) (v - split_of p r * 2 ^ n) (number bs) (2 ^ (8 * length bs)) (omega arith))) in
    rw b (same _ _ _ _ _ _ _ _ value refl refl refl)

pub rest_false : (p v r n : ℕ) (bs : List ℕ) → AreBytes bs → v < split_of p r * 2 ^ n → rest_of p (state v r n bs) ≡ state v (split_of p r) n bs
rest_false p v r n bs bytes below =
    let b : bool_of p (state v r n bs) ≡ false = sym (window_bool p v r n bs bytes) ∙ lt-leb _ _ below in
    rw b refl

less_split : (v b d q : ℕ) → v ≤ (b + d) * q → v - b * q ≤ d * q
less_split v b d q high = omega arith

pub rest-taken : (p : ℕ) (s : State) → p < 256 → IsNormalised s → IsUnnormalised (rest_of p s)
rest-taken p s byte sound =
    let split : split_of p s.range < s.range = split_below p s.range byte (omega arith) in
    cond_both (bool_of p s) _ _ IsUnnormalised
    (λ e.
    let sum : split_of p s.range + (s.range - split_of p s.range) ≡ s.range = omega arith in
    let high : s.value ≤ (split_of p s.range + (s.range - split_of p s.range)) * 2 ^ s.scale = rw sum sound.below in
    record {
      below = less_split s.value (split_of p s.range) (s.range - split_of p s.range) (2 ^ s.scale) high;
      some = omega arith;
      byte = omega arith;
    })
    (λ e.
    let low : s.value < split_of p s.range * 2 ^ s.scale = leb-false _ _ e in
    record { below = omega arith; some = omega arith; byte = omega arith })

shifted_below : (v r j k : ℕ) → v ≤ r * 2 ^ k → v * 2 ^ (j - k) ≤ r * 2 ^ j * 2 ^ (k - j)
shifted_below v r j k h =
    let sum : k + (j - k) ≡ j + (k - j) = omega arith in
    let powers : 2 ^ k * 2 ^ (j - k) ≡ 2 ^ j * 2 ^ (k - j) = sym (pow-add 2 k (j - k)) ∙ ap (λ n. 2 ^ n) sum ∙ pow-add 2 j (k - j) in
    let products : r * (2 ^ k * 2 ^ (j - k)) ≡ r * (2 ^ j * 2 ^ (k - j)) = ap (λ n. r * n) powers in
    omega (arith, scaled v (r * 2 ^ k) (2 ^ (j - k)) h)

pub sound-normal : (s : State) → IsUnnormalised s → IsNormalised (renormalised 7 s)
sound-normal s taken =
    let d = doubles s.range taken.some taken.byte in
    rw (normal-shifted s taken.some taken.byte)
    (record {
      below = shifted_below s.value s.range (doublings s.range) s.scale taken.below;
      normal = d.low;
      byte = d.high;
    })

-- the bound as the code computes it
pub bound_whole : (p r n b : ℕ) → p < 256 → 128 ≤ r → r < 256 → n ≤ 56 → b ≡ split_of p r → b * 2 ^ n % 2 ^ 64 ≡ split_of p r * 2 ^ n
bound_whole p r n b byte low high few e =
    let below : split_of p r < r = split_below p r byte (omega arith) in
    rw e (shl_whole (split_of p r) 8 n 64 (omega arith) (omega arith))

-- the range as the code doubles it
pub range_whole : (r : ℕ) → 0 < r → r < 256 → r * 2 ^ doublings r % 2 ^ 32 ≡ r * 2 ^ doublings r
range_whole r some byte =
    let d = doubles r some byte in
    mod-eq_of_lt (omega arith)

-- ---- the first state

pub sound-start : (xs : List ℕ) → AreBytes xs → IsNormalised (initial_state xs)
unfolding initial_state whole_partition
sound-start [] bytes = record { below = omega arith; normal = omega arith; byte = omega arith }
sound-start (b ∷ bs) bytes =
    cond_both (b == 255) _ _ IsNormalised
    (λ _. record { below = omega arith; normal = omega arith; byte = omega arith })
    (λ e.
    let other : b ≡ 255 → ⊥ = eqb-false b 255 e in
    let byte : b < 256 = bytes 0 in
    let one : suc (length bs) - 1 ≡ length bs = omega arith in
    let behind : number bs < 2 ^ (8 * length bs) = number-bound bs (λ i. bytes (suc i)) in
    let front : (b + 1) * 2 ^ (8 * length bs) ≤ 255 * 2 ^ (8 * length bs) = scaled (b + 1) 255 (2 ^ (8 * length bs)) (omega arith) in
    record { below = rw one (omega arith); normal = omega arith; byte = omega arith })

-- ---- numbers

bit_value : (v k x : ℕ) (b : Bool) → (2 * v + bool_byte b) * 2 ^ k + x ≡ v * 2 ^ suc k + (cond b (2 ^ k) 0 + x)
bit_value v k x true = omega (arith, double_pow v k)
bit_value v k x false = omega (arith, double_pow v k)

-- a bit read, and the bits that are left
pub literal-value : (v n k : ℕ) (s : State) → n ≡ suc k → (2 * v + bool_byte (read 128 s).0) * 2 ^ k + (literal k (read 128 s).1).0 ≡ v * 2 ^ n + (literal n s).0
unfolding literal
literal-value v n k s e = rw e (bit_value v k (literal k (read 128 s).1).0 (read 128 s).0)

pub literal-after : (n k : ℕ) (s : State) → n ≡ suc k → (literal k (read 128 s).1).1 ≡ (literal n s).1
unfolding literal
literal-after n k s e = rw e refl

pub literal-none : (v n : ℕ) (s : State) → n ≡ 0 → (v * 2 ^ n + (literal n s).0 ≡ v) × ((literal n s).1 ≡ s)
unfolding literal
literal-none v n s e = rw e (omega arith, refl)

pub bit_room : (v n : ℕ) (b : Bool) → v < 2 ^ n → 2 * v + bool_byte b < 2 ^ (n + 1)
bit_room v n true h = rw (add-one n) (omega (arith, double_pow 1 n))
bit_room v n false h = rw (add-one n) (omega (arith, double_pow 1 n))
