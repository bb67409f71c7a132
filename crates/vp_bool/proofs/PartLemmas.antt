-- One bool taken from a window whose value stands at the top of its word.
use Rattle.std.proofs.Common.{true, false, Bool, ◌≡◌, ◌⊎◌, inl, inr, ℕ, ◌+◌, ◌-◌, ◌*◌, ◌/◌, ◌%◌, ◌^◌, ◌<◌, ◌≤◌, List, length, refl, sym, ap, subst, ◌∙◌, arith}
use Rattle.std.proofs.lemmas.Bool.{leb-true, leb-false, le-leb, lt-leb, both_ways, cases_Bool}
use Rattle.std.proofs.Math.Dec.{leb}
use Rattle.vp_bool.specs.Bools.{State, renormalised, read, split_of, rest_of}
use Rattle.vp_bool.specs.Window.{state, past_end, high_bits, word_state, is_marked, IsMarked, IsAligned, IsLeftAligned, IsNormalised, IsUnnormalised, AreBytes}
use Rattle.vp_bool.proofs.Numbers.{power_up}
use Rattle.vp_bool.proofs.BoolLemmas.{front_leb, bound_at, bound_whole, taken_off, window_bool, rest_true, rest_false, rest-taken}
use Rattle.vp_bool.proofs.TopLemmas.{top_bool, front-is, aligned-by}
use Rattle.vp_bool.proofs.MarkLemmas.{range_normal, aligned_word, unmarked, word_plain, word_marked, marked-is, past_normal, past_bool, past_after}

-- a bool of a word without a mark
record IsPlainPart (p : ℕ) (s : State) (bit : Bool) (word r c : ℕ) (bs : List ℕ) : Type 0 where
  aligned : IsLeftAligned word c
  taken : IsUnnormalised (state (high_bits word c) r c bs)
  value : bit ≡ (read p s).0
  after : renormalised 7 (state (high_bits word c) r c bs) ≡ (read p s).1

part_of : (p : ℕ) (s : State) (bit : Bool) (word w r c : ℕ) (bs : List ℕ) → word ≡ w * 2 ^ (56 - c) → p < 256 → IsNormalised s → rest_of p s ≡ state w r c bs → bit ≡ (read p s).0 → IsPlainPart p s bit word r c bs
unfolding read
part_of p s bit word w r c bs e byte sound is b = record {
  aligned = aligned-by word w c e;
  taken = rw (front-is word w c e, ← is) (rest-taken p s byte sound);
  value = b;
  after = rw (front-is word w c e, ← is) refl;
}

module _ (p value r c : ℕ) (bs : List ℕ) (byte : p < 256) (aligned : IsLeftAligned value c) (few : c ≤ 56) (sound : IsNormalised (state (high_bits value c) r c bs)) (bytes : AreBytes bs) where
  -- the word holds the bool
  plain_test : leb (split_of p r * 2 ^ 56) value ≡ (read p (state (high_bits value c) r c bs)).0
  unfolding read
  plain_test = top_bool (split_of p r) value (high_bits value c) c aligned few ∙ window_bool p (high_bits value c) r c bs bytes

  plain_true : split_of p r * 2 ^ 56 ≤ value → IsPlainPart p (state (high_bits value c) r c bs) true (value - split_of p r * 2 ^ 56) (r - split_of p r) c bs
  plain_true h =
      let above : split_of p r * 2 ^ c ≤ high_bits value c = leb-true _ _ (sym (top_bool (split_of p r) value (high_bits value c) c aligned few) ∙ le-leb _ _ h) in
      let sum : 56 ≡ c + (56 - c) = omega arith in
      let bound : split_of p r * 2 ^ 56 ≡ split_of p r * 2 ^ c * 2 ^ (56 - c) = ap (λ k. split_of p r * 2 ^ k) sum ∙ bound_at (split_of p r) c (56 - c) in
      let off = taken_off (high_bits value c) (split_of p r * 2 ^ c) (high_bits value c - split_of p r * 2 ^ c) 0 (2 ^ (56 - c)) (omega arith) in
      part_of p _ true _ (high_bits value c - split_of p r * 2 ^ c) (r - split_of p r) c bs (omega (arith, off, bound, aligned)) byte sound (rest_true p (high_bits value c) r c bs bytes above) (sym (sym plain_test ∙ le-leb _ _ h))

  plain_false : value < split_of p r * 2 ^ 56 → IsPlainPart p (state (high_bits value c) r c bs) false value (split_of p r) c bs
  plain_false h =
      let below : high_bits value c < split_of p r * 2 ^ c = leb-false _ _ (sym (top_bool (split_of p r) value (high_bits value c) c aligned few) ∙ lt-leb _ _ h) in
      part_of p _ false value (high_bits value c) (split_of p r) c bs aligned byte sound (rest_false p (high_bits value c) r c bs bytes below) (sym (sym plain_test ∙ lt-leb _ _ h))

-- a bool of a word, which may be marked
pub record IsPart (p : ℕ) (s : State) (bit : Bool) (word r c : ℕ) (bs : List ℕ) : Type 0 where
  pub aligned : IsAligned word c bs
  pub taken : IsUnnormalised (word_state word r c bs)
  pub value : bit ≡ (read p s).0
  pub after : renormalised 7 (word_state word r c bs) ≡ (read p s).1

plain_part : (p : ℕ) (s t : State) (bit : Bool) (word r c : ℕ) (bs : List ℕ) → s ≡ t → IsPlainPart p t bit word r c bs → IsPart p s bit word r c bs
plain_part p s t bit word r c bs e h =
    let plain = word_plain word r c bs h.aligned in
    rw e (record {
      aligned = λ mark. absurd (both_ways _ (unmarked word c h.aligned) mark);
      taken = rw plain h.taken;
      value = h.value;
      after = rw plain h.after;
    })

marked_part : (p : ℕ) (s t : State) (bit : Bool) (x r c : ℕ) (bs : List ℕ) → c ≤ 48 → length bs ≡ 0 → s ≡ past_end t → IsPlainPart p t bit (x * 2 ^ 56) r 0 bs
    → IsPart p s bit (x * 2 ^ 56 + 2 ^ (48 - c)) r c bs
marked_part p s t bit x r c bs few none e h =
    let front : high_bits (x * 2 ^ 56) 0 ≡ x = front-is (x * 2 ^ 56) x 0 refl in
    let marked = word_marked x r c bs few in
    let taken : IsUnnormalised (state x r 0 bs) = rw front at h.taken in
    let after : renormalised 7 (state x r 0 bs) ≡ (read p t).1 = rw front at h.after in
    rw e (record {
      aligned = λ _. marked-is x c bs few none;
      taken = rw marked (record { below = taken.below; some = taken.some; byte = taken.byte });
      value = h.value ∙ sym (past_bool p t);
      after = rw marked (past_normal 7 (state x r 0 bs) ∙ ap past_end after ∙ sym (past_after p t));
    })

module _ (p value r c : ℕ) (bs : List ℕ) (byte : p < 256) (aligned : IsAligned value c bs) (few : c ≤ 56) (sound : IsNormalised (word_state value r c bs)) (bytes : AreBytes bs) where
  abbrev whole : ℕ
  whole = value / 2 ^ 56

  -- the word without its mark
  module _ (mark : IsMarked value c bs) where
    state_is : word_state value r c bs ≡ past_end (state whole r 0 bs)
    state_is = ap (λ v. word_state v r c bs) mark.mark ∙ word_marked whole r c bs mark.few

    front : high_bits (whole * 2 ^ 56) 0 ≡ whole
    front = front-is (whole * 2 ^ 56) whole 0 refl

    sound_front : IsNormalised (state (high_bits (whole * 2 ^ 56) 0) r 0 bs)
    sound_front =
        let s : IsNormalised (past_end (state whole r 0 bs)) = rw state_is at sound in
        rw front (record { below = s.below; normal = s.normal; byte = s.byte })

    mark_low : 2 ^ (48 - c) ≤ 2 ^ 48
    mark_low = power_up (48 - c) 48 (omega arith)

    front_is : state (high_bits (whole * 2 ^ 56) 0) r 0 bs ≡ state whole r 0 bs
    front_is = rw front refl

  cases : (IsMarked value c bs) ⊎ (IsLeftAligned value c × IsNormalised (state (high_bits value c) r c bs) × (word_state value r c bs ≡ state (high_bits value c) r c bs))
  cases = elim (cases_Bool (is_marked value c)) [
    | inl set ↦ inl (aligned set)
    | inr clear ↦
        let left = aligned_word value c clear in
        let plain = word_plain value r c bs left in
        inr (left, rw plain at sound, plain)
  ]

  -- the word holds the bool
  pub test : leb (split_of p r * 2 ^ 56) value ≡ (read p (word_state value r c bs)).0
  test = elim cases [
    | inl mark ↦
        let cut : leb (split_of p r * 2 ^ 56) (whole * 2 ^ 56 + 2 ^ (48 - c)) ≡ leb (split_of p r) whole =
        front_leb (split_of p r) whole (2 ^ (48 - c)) (2 ^ 56) (omega (arith, mark_low mark)) in
        let clean : leb (split_of p r * 2 ^ 56) (whole * 2 ^ 56) ≡ leb (split_of p r) whole =
        ap (λ k. leb (split_of p r * 2 ^ 56) k) (omega arith) ∙ front_leb (split_of p r) whole 0 (2 ^ 56) (omega arith) in
        let bool = plain_test p (whole * 2 ^ 56) r 0 bs byte (aligned-by (whole * 2 ^ 56) whole 0 refl) (omega arith) (sound_front mark) bytes in
        ap (λ v. leb (split_of p r * 2 ^ 56) v) mark.mark ∙ cut ∙ sym clean ∙ bool ∙ ap (λ s. (read p s).0) (front_is mark)
        ∙ sym (past_bool p (state whole r 0 bs)) ∙ ap (λ s. (read p s).0) (sym (state_is mark))
    | inr plain ↦ rw (plain.2) (plain_test p value r c bs byte plain.0 few plain.1 bytes)
  ]

  pub whole_bound : (b : ℕ) → b ≡ split_of p r → b * 2 ^ 56 % 2 ^ 64 ≡ split_of p r * 2 ^ 56
  whole_bound b e = let range = range_normal value r c bs sound in bound_whole p r 56 b byte range.0 range.1 (omega arith) e

  pub part_true : split_of p r * 2 ^ 56 ≤ value → IsPart p (word_state value r c bs) true (value - split_of p r * 2 ^ 56) (r - split_of p r) c bs
  part_true h = elim cases [
    | inl mark ↦
        let above : split_of p r ≤ whole = omega (arith, mark.mark, mark_low mark) in
        let left : value - split_of p r * 2 ^ 56 ≡ (whole - split_of p r) * 2 ^ 56 + 2 ^ (48 - c) = omega (arith, mark.mark) in
        let cut : whole * 2 ^ 56 - split_of p r * 2 ^ 56 ≡ (whole - split_of p r) * 2 ^ 56 = omega arith in
        let part = plain_true p (whole * 2 ^ 56) r 0 bs byte (aligned-by (whole * 2 ^ 56) whole 0 refl) (omega arith) (sound_front mark) bytes (omega arith) in
        rw left (marked_part p _ _ true (whole - split_of p r) (r - split_of p r) c bs mark.few mark.none (state_is mark ∙ ap past_end (sym (front_is mark))) (rw cut at part))
    | inr plain ↦ plain_part p _ _ true _ _ c bs plain.2 (plain_true p value r c bs byte plain.0 few plain.1 bytes h)
  ]

  pub part_false : value < split_of p r * 2 ^ 56 → IsPart p (word_state value r c bs) false value (split_of p r) c bs
  part_false h = elim cases [
    | inl mark ↦
        let part = plain_false p (whole * 2 ^ 56) r 0 bs byte (aligned-by (whole * 2 ^ 56) whole 0 refl) (omega arith) (sound_front mark) bytes (omega (arith, mark.mark)) in
        let is = marked_part p (word_state value r c bs) _ false whole (split_of p r) c bs mark.few mark.none (state_is mark ∙ ap past_end (sym (front_is mark))) part in
        subst (λ v. IsPart p (word_state value r c bs) false v (split_of p r) c bs) (sym mark.mark) is
    | inr plain ↦ plain_part p _ _ false _ _ c bs plain.2 (plain_false p value r c bs byte plain.0 few plain.1 bytes h)
  ]
