-- Words that are marked, past the end of the partition.
use Rattle.std.proofs.Common.{true, false, ◌≡◌, ℕ, suc, zero, ◌+◌, ◌-◌, ◌*◌, ◌/◌, ◌%◌, ◌^◌, ◌<◌, ◌≤◌, List, [], ◌∷◌, length, refl, sym, ap, subst, inl, inr, ◌∙◌, cond, arith}
use Rattle.std.proofs.Math.Dec.{ltb}
use Rattle.std.proofs.lemmas.Bool.{ltb-false, lt-ltb, le-ltb, both_ways, cond_both, false_from_ne_true, cases_Bool}
use Rattle.std.proofs.lemmas.Nat.{pow-add, pow_pos, div-add-mod', mod-mul-add, div-mul-add}
use Rattle.std.proofs.Math.Nat.{mod-eq_of_lt, mul-div_cancel}
use Rattle.vp_bool.specs.Bools.{State, doubled, doubled_at, renormalised, bool_of, rest_of, read}
use Rattle.vp_bool.specs.Window.{state, past_end, high_bits, word_state, is_marked, IsMarked, IsAligned, IsLeftAligned, IsNormalised, IsUnnormalised}
use Rattle.vp_bool.proofs.Numbers.{power_up, scaled}
use Rattle.vp_bool.proofs.WindowLemmas.{same_state, advanced_past}
use Rattle.vp_bool.proofs.BoolLemmas.{shifted, normal_by, bound_at}
use Rattle.vp_bool.proofs.TopLemmas.{Doubling, IsMoved, moved_on, front_small}

-- ---- words without a mark

pub aligned_word : (word c : ℕ) → is_marked word c ≡ false → IsLeftAligned word c
aligned_word word c h =
    let none : word % 2 ^ (56 - c) ≡ 0 = omega (arith, ltb-false _ _ h) in
    omega (arith, div-add-mod' word (2 ^ (56 - c)))

pub unmarked : (word c : ℕ) → IsLeftAligned word c → is_marked word c ≡ false
unmarked word c h =
    let none : (high_bits word c * 2 ^ (56 - c) + 0) % 2 ^ (56 - c) ≡ 0 = mod-mul-add (high_bits word c) (2 ^ (56 - c)) 0 (pow_pos (56 - c)) in
    let front : high_bits word c * 2 ^ (56 - c) + 0 ≡ word = omega arith in
    le-ltb 0 (word % 2 ^ (56 - c)) (omega (arith, rw front at none))

pub aligned_more : (word c : ℕ) (bs : List ℕ) → IsAligned word c bs → 0 < length bs → IsLeftAligned word c
aligned_more word c bs h some = aligned_word word c (false_from_ne_true _ (λ mark. let none = (h mark).none in omega arith))

pub word_plain : (word r c : ℕ) (bs : List ℕ) → IsLeftAligned word c → word_state word r c bs ≡ state (high_bits word c) r c bs
word_plain word r c bs h = rw (unmarked word c h) refl

-- ---- words with a mark

pub marked_front : (x c : ℕ) → (x * 2 ^ 56 + 2 ^ (48 - c)) / 2 ^ 56 ≡ x
marked_front x c =
    let mark : 2 ^ (48 - c) ≤ 2 ^ 48 = power_up (48 - c) 48 (omega arith) in
    div-mul-add x (2 ^ 56) (2 ^ (48 - c)) (omega arith)

pub marked_word : (x c : ℕ) → c ≤ 48 → is_marked (x * 2 ^ 56 + 2 ^ (48 - c)) c ≡ true
marked_word x c few =
    let sum : 56 ≡ c + (56 - c) = omega arith in
    let front : x * 2 ^ 56 ≡ x * 2 ^ c * 2 ^ (56 - c) = ap (λ k. x * 2 ^ k) sum ∙ bound_at x c (56 - c) in
    let wide : 56 - c ≡ (48 - c) + 8 = omega arith in
    let power : 2 ^ (56 - c) ≡ 2 ^ (48 - c) * 2 ^ 8 = ap (λ k. 2 ^ k) wide ∙ pow-add 2 (48 - c) 8 in
    let low : (x * 2 ^ c * 2 ^ (56 - c) + 2 ^ (48 - c)) % 2 ^ (56 - c) ≡ 2 ^ (48 - c) =
    mod-mul-add (x * 2 ^ c) (2 ^ (56 - c)) (2 ^ (48 - c)) (omega (arith, pow_pos (48 - c))) in
    rw (front, low) (lt-ltb 0 (2 ^ (48 - c)) (pow_pos (48 - c)))

pub marked-is : (x c : ℕ) (bs : List ℕ) → c ≤ 48 → length bs ≡ 0 → IsMarked (x * 2 ^ 56 + 2 ^ (48 - c)) c bs
marked-is x c bs few none = record { few = few; mark = rw (marked_front x c) refl; none = none }

pub word_marked : (x r c : ℕ) (bs : List ℕ) → c ≤ 48 → word_state (x * 2 ^ 56 + 2 ^ (48 - c)) r c bs ≡ past_end (state x r 0 bs)
word_marked x r c bs few = rw (marked_word x c few, marked_front x c) refl

-- a mark says nothing of the range
pub word-range : (word r c : ℕ) (bs : List ℕ) → (word_state word r c bs).range ≡ r
word-range word r c bs = cond_both (is_marked word c) _ _ (λ (s : State). s.range ≡ r) (λ _. refl) (λ _. refl)

pub range_taken : (word r c : ℕ) (bs : List ℕ) → IsUnnormalised (word_state word r c bs) → (0 < r) × (r < 256)
range_taken word r c bs taken = let e = word-range word r c bs in (rw e at taken.some, rw e at taken.byte)

pub range_normal : (word r c : ℕ) (bs : List ℕ) → IsNormalised (word_state word r c bs) → (128 ≤ r) × (r < 256)
range_normal word r c bs sound = let e = word-range word r c bs in (rw e at sound.normal, rw e at sound.byte)

pub normal_from : (word r c : ℕ) (bs : List ℕ) → IsUnnormalised (word_state word r c bs) → 128 ≤ r → IsNormalised (word_state word r c bs)
normal_from word r c bs taken wide = record { below = taken.below; normal = rw (word-range word r c bs) wide; byte = taken.byte }

-- ---- states past the end

past_doubled_at : (k : ℕ) (s : State) → doubled_at k (past_end s) ≡ past_end (doubled_at k s)
past_doubled_at zero s = refl
past_doubled_at (suc k) s = refl

pub past_normal : (n : ℕ) (s : State) → renormalised n (past_end s) ≡ past_end (renormalised n s)
unfolding renormalised
past_normal zero s = refl
past_normal (suc n) s =
    elim (ltb s.range 128) as (λ b. cond b (renormalised n (doubled (past_end s))) (past_end s) ≡ past_end (cond b (renormalised n (doubled s)) s)) [
      | true ↦ ap (renormalised n) (past_doubled_at s.scale s) ∙ past_normal n (doubled s)
      | false ↦ refl
    ]

past_rest : (p : ℕ) (s : State) → rest_of p (past_end s) ≡ past_end (rest_of p s)
past_rest p s = elim (cases_Bool (bool_of p s)) [
  | inl above ↦ rw above refl
  | inr below ↦ rw below refl
]

pub past_bool : (p : ℕ) (s : State) → (read p (past_end s)).0 ≡ (read p s).0
unfolding read
past_bool p s = refl

pub past_after : (p : ℕ) (s : State) → (read p (past_end s)).1 ≡ past_end (read p s).1
unfolding read
past_after p s = ap (renormalised 7) (past_rest p s) ∙ past_normal 7 (rest_of p s)

-- ---- words moved on

pub record IsSettled (word r c : ℕ) (bs : List ℕ) (s : State) : Type 0 where
  pub after : word_state word r c bs ≡ s
  pub aligned : IsAligned word c bs
  pub few : c ≤ 56

pub settled_plain : (word r c : ℕ) (bs : List ℕ) (s : State) → c ≤ 56 → IsMoved word r c bs s → IsSettled word r c bs s
settled_plain word r c bs s few moved = record {
  after = word_plain word r c bs moved.aligned ∙ moved.after;
  aligned = λ mark. absurd (both_ways _ (unmarked word c moved.aligned) mark);
  few = few;
}

settled_mark : (word x r c : ℕ) (bs : List ℕ) (s : State) → word ≡ x * 2 ^ 56 + 2 ^ (48 - c) → c ≤ 48 → length bs ≡ 0 → past_end (state x r 0 bs) ≡ s
    → IsSettled word r c bs s
settled_mark word x r c bs s e few none is = rw e (record {
  after = word_marked x r c bs few ∙ is;
  aligned = λ _. marked-is x c bs few none;
  few = omega arith;
})

-- a whole number has no bits to move over
past_moved : (x r k : ℕ) (bs : List ℕ) → length bs ≡ 0 → Doubling r k → past_end (state (x * 2 ^ k) (r * 2 ^ k) 0 bs) ≡ renormalised 7 (past_end (state x r 0 bs))
past_moved x r k (b ∷ bs) none d = absurd (omega arith)
past_moved x r k [] none d =
    let norm : renormalised 7 (state x r 0 []) ≡ shifted k (state x r 0 []) = normal_by 7 k (state x r 0 []) d.few d.low d.high in
    let whole : k - 0 ≡ k = omega arith in
    let value : x * 2 ^ k * 1 + 0 ≡ (x * 1 + 0) * 2 ^ (k - 0) = rw whole (omega arith) in
    same_state _ _ _ _ _ true true value (omega arith) refl ∙ sym (past_normal 7 (state x r 0 []) ∙ ap past_end norm)

mark_moved : (x c k : ℕ) → k ≤ c → c ≤ 48 → x * 2 ^ k < 256 → (x * 2 ^ 56 + 2 ^ (48 - c)) * 2 ^ k % 2 ^ 64 ≡ x * 2 ^ k * 2 ^ 56 + 2 ^ (48 - (c - k))
mark_moved x c k h few small =
    let sum : 48 - (c - k) ≡ (48 - c) + k = omega arith in
    let power : 2 ^ (48 - (c - k)) ≡ 2 ^ (48 - c) * 2 ^ k = ap (λ n. 2 ^ n) sum ∙ pow-add 2 (48 - c) k in
    let low : 2 ^ (48 - (c - k)) ≤ 2 ^ 48 = power_up (48 - (c - k)) 48 (omega arith) in
    let all : (x * 2 ^ 56 + 2 ^ (48 - c)) * 2 ^ k ≡ x * 2 ^ k * 2 ^ 56 + 2 ^ (48 - (c - k)) = omega arith in
    rw all (mod-eq_of_lt (omega arith))

-- what a marked word is at most
past_small : (x r : ℕ) (bs : List ℕ) → length bs ≡ 0 → IsUnnormalised (past_end (state x r 0 bs)) → x ≤ r
past_small x r (b ∷ bs) none taken = absurd (omega arith)
past_small x r [] none taken = omega (arith, taken.below)

marked_on : (x r c k : ℕ) (bs : List ℕ) → k ≤ c → c ≤ 48 → length bs ≡ 0 → Doubling r k → IsUnnormalised (past_end (state x r 0 bs))
    → IsSettled ((x * 2 ^ 56 + 2 ^ (48 - c)) * 2 ^ k % 2 ^ 64) (r * 2 ^ k % 2 ^ 32) (c - k) bs (renormalised 7 (past_end (state x r 0 bs)))
marked_on x r c k bs h few none d taken =
    let range : r * 2 ^ k % 2 ^ 32 ≡ r * 2 ^ k = mod-eq_of_lt (omega (arith, d.high)) in
    let small : x * 2 ^ k < 256 = omega (arith, d.high, scaled x r (2 ^ k) (past_small x r bs none taken)) in
    rw range (settled_mark _ (x * 2 ^ k) _ (c - k) bs _ (mark_moved x c k h few small) (omega arith) none (past_moved x r k bs none d))

-- the word that the mark is set in, at the end of the partition
end_front : (x c : ℕ) → c ≤ 6 → (x * 2 ^ 56 + 2 ^ (48 - c)) / 2 ^ 49 * 2 ^ 49 + 1 ≡ x * 2 ^ 56 + 2 ^ (48 - 48)
end_front x c low =
    let mark : 2 ^ (48 - c) ≤ 2 ^ 48 = power_up (48 - c) 48 (omega arith) in
    let bits : x * 2 ^ 56 + 2 ^ (48 - c) ≡ x * 2 ^ 7 * 2 ^ 49 + 2 ^ (48 - c) = omega arith in
    rw (bits, div-mul-add (x * 2 ^ 7) (2 ^ 49) (2 ^ (48 - c)) (omega arith)) (omega arith)

plain_front : (w c : ℕ) → c ≤ 6 → w * 2 ^ (56 - c) / 2 ^ 49 * 2 ^ 49 ≡ w * 2 ^ (56 - c)
plain_front w c low =
    let sum : 56 - c ≡ (7 - c) + 49 = omega arith in
    let power : w * 2 ^ (56 - c) ≡ w * 2 ^ (7 - c) * 2 ^ 49 = ap (λ n. w * 2 ^ n) sum ∙ bound_at w (7 - c) 49 in
    rw (power, mul-div_cancel (w * 2 ^ (7 - c)) (pow_pos 49)) refl

ended_past : (w r c k : ℕ) (bs : List ℕ) → c < k → length bs ≡ 0 → Doubling r k → past_end (state (w * 2 ^ (k - c)) (r * 2 ^ k) 0 bs) ≡ renormalised 7 (state w r c bs)
ended_past w r c k (b ∷ bs) h none d = absurd (omega arith)
ended_past w r c k [] h none d =
    advanced_past k w (r * 2 ^ k) c h ∙ sym (normal_by 7 k (state w r c []) d.few d.low d.high)

word_most : (w r c k : ℕ) → w ≤ r * 2 ^ c → r * 2 ^ k < 256 → c ≤ 56 → w * 2 ^ (56 - c) * 2 ^ k ≤ 255 * 2 ^ 56
word_most w r c k h high few =
    let sum : c + (56 - c) ≡ 56 = omega arith in
    let top : r * 2 ^ c * 2 ^ (56 - c) ≡ r * 2 ^ 56 = sym (bound_at r c (56 - c)) ∙ ap (λ n. r * 2 ^ n) sum in
    let word : w * 2 ^ (56 - c) ≤ r * 2 ^ 56 = rw (← top) (scaled w (r * 2 ^ c) (2 ^ (56 - c)) h) in
    let all : w * 2 ^ (56 - c) * 2 ^ k ≤ r * 2 ^ 56 * 2 ^ k = scaled _ _ (2 ^ k) word in
    omega arith

ended_on : (w r c k : ℕ) (bs : List ℕ) → c < k → c ≤ 6 → length bs ≡ 0 → Doubling r k → IsUnnormalised (state w r c bs)
    → IsSettled ((w * 2 ^ (56 - c) / 2 ^ 49 * 2 ^ 49 + 1) * 2 ^ k % 2 ^ 64) (r * 2 ^ k % 2 ^ 32) (48 - k) bs (renormalised 7 (state w r c bs))
ended_on w r c k bs h low none d taken =
    let range : r * 2 ^ k % 2 ^ 32 ≡ r * 2 ^ k = mod-eq_of_lt (omega (arith, d.high)) in
    let sum : (56 - c) + k ≡ (k - c) + 56 = omega arith in
    let word : w * 2 ^ (56 - c) * 2 ^ k ≡ w * 2 ^ (k - c) * 2 ^ 56 = sym (bound_at w (56 - c) k) ∙ ap (λ n. w * 2 ^ n) sum ∙ bound_at w (k - c) 56 in
    let mark : 2 ^ k ≤ 2 ^ 7 = power_up k 7 d.few in
    let power : 48 - (48 - k) ≡ k = omega (arith, d.few) in
    let room : w * 2 ^ (56 - c) * 2 ^ k ≤ 255 * 2 ^ 56 = word_most w r c k (front_small w r c bs taken) d.high (omega arith) in
    let all : (w * 2 ^ (56 - c) + 1) * 2 ^ k ≡ w * 2 ^ (k - c) * 2 ^ 56 + 2 ^ (48 - (48 - k)) = rw power (omega (arith, word)) in
    let whole : (w * 2 ^ (56 - c) + 1) * 2 ^ k % 2 ^ 64 ≡ (w * 2 ^ (56 - c) + 1) * 2 ^ k = mod-eq_of_lt (omega arith) in
    rw (range, plain_front w c low)
    (settled_mark _ (w * 2 ^ (k - c)) _ (48 - k) bs _ (whole ∙ all) (omega arith) none (ended_past w r c k bs h none d))

-- ---- the word of a window, moved on

module _ (value r c k : ℕ) (bs : List ℕ) (aligned : IsAligned value c bs) (few : c ≤ 56) (taken : IsUnnormalised (word_state value r c bs)) (d : Doubling r k) where
  state_is : IsMarked value c bs → word_state value r c bs ≡ past_end (state (value / 2 ^ 56) r 0 bs)
  state_is mark = ap (λ v. word_state v r c bs) mark.mark ∙ word_marked (value / 2 ^ 56) r c bs mark.few

  pub moved_along : k ≤ c → IsSettled (value * 2 ^ k % 2 ^ 64) (r * 2 ^ k % 2 ^ 32) (c - k) bs (renormalised 7 (word_state value r c bs))
  moved_along h = elim (cases_Bool (is_marked value c)) [
    | inl set ↦
        let mark = aligned set in
        let is = state_is mark in
        let on = marked_on (value / 2 ^ 56) r c k bs h mark.few mark.none d (rw is at taken) in
        rw is (subst (λ v. IsSettled (v * 2 ^ k % 2 ^ 64) (r * 2 ^ k % 2 ^ 32) (c - k) bs (renormalised 7 (past_end (state (value / 2 ^ 56) r 0 bs)))) (sym mark.mark) on)
    | inr clear ↦
        let left = aligned_word value c clear in
        let plain = word_plain value r c bs left in
        rw plain (settled_plain _ _ _ bs _ (omega arith) (moved_on value (high_bits value c) r c k bs left few (rw plain at taken) d h))
  ]

  pub moved_loaded : (word n : ℕ) (left : List ℕ) → 0 < length bs → 7 ≤ n → n ≤ 56 → IsLeftAligned word n
      → state (high_bits word n) r n left ≡ state (high_bits value c) r c bs
      → IsSettled (word * 2 ^ k % 2 ^ 64) (r * 2 ^ k % 2 ^ 32) (n - k) left (renormalised 7 (word_state value r c bs))
  moved_loaded word n left some enough most front same =
      let old = aligned_more value c bs aligned some in
      let plain : word_state value r c bs ≡ state (high_bits word n) r n left = word_plain value r c bs old ∙ sym same in
      rw plain (settled_plain _ _ _ left _ (omega arith) (moved_on word (high_bits word n) r n k left front most (rw plain at taken) d (omega (arith, d.few))))

  pub moved_ended : c < k → length bs ≡ 0 → IsSettled ((value / 2 ^ 49 * 2 ^ 49 + 1) * 2 ^ k % 2 ^ 64) (r * 2 ^ k % 2 ^ 32) (48 - k) bs (renormalised 7 (word_state value r c bs))
  moved_ended h none =
      let low : c ≤ 6 = omega (arith, d.few) in
      elim (cases_Bool (is_marked value c)) [
        | inl set ↦
            let mark = aligned set in
            let is = state_is mark in
            let on = marked_on (value / 2 ^ 56) r 48 k bs (omega (arith, d.few)) (omega arith) none d (rw is at taken) in
            let end : value / 2 ^ 49 * 2 ^ 49 + 1 ≡ value / 2 ^ 56 * 2 ^ 56 + 2 ^ (48 - 48) = ap (λ v. v / 2 ^ 49 * 2 ^ 49 + 1) mark.mark ∙ end_front (value / 2 ^ 56) c low in
            rw (is, end) on
        | inr clear ↦
            let left = aligned_word value c clear in
            let plain = word_plain value r c bs left in
            let on = ended_on (high_bits value c) r c k bs h low none d (rw plain at taken) in
            rw plain (subst (λ v. IsSettled ((v / 2 ^ 49 * 2 ^ 49 + 1) * 2 ^ k % 2 ^ 64) (r * 2 ^ k % 2 ^ 32) (48 - k) bs (renormalised 7 (state (high_bits value c) r c bs))) (sym left) on)
      ]
