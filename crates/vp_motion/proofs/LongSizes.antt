-- A long magnitude is read bit by bit.
use Rattle.std.proofs.Common.{◌≡◌, ◌∙◌, ℕ, ◌+◌, ◌-◌, ◌^◌, Bool, true, false, cond, List, refl, ap, arith, nat_lt}
use Rattle.std.specs.Prelude.{slice_index}
use Rattle.vp_bool.specs.Bools.{State, read}
use Rattle.vp_bool.specs.Reader as reader
use Rattle.vp_bool.specs.Reader.{Reader, give, rows, when}
use Rattle.vp_bool.proofs.ReaderLemmas.{rows-more, rows-none}
use Rattle.vp_motion.specs.Motion.{long_size, with_bit}
use Rattle.vp_motion.specs.Pieces.{bit, long_bits}

added_by : (set : Bool) (n p : ℕ) → cond set (n + p) n ≡ n + cond set p 0
added_by true n p = refl
added_by false n p = omega arith

with_bit-is : (ps : List ℕ) (i n : ℕ) (s : State) → with_bit ps i n s ≡ (n + (bit ps i s).0, (bit ps i s).1)
unfolding with_bit bit reader.bind
with_bit-is ps i n s = λ j. (added_by (read (slice_index ps (9 + i)) s).0 n (2 ^ i) j, (read (slice_index ps (9 + i)) s).1)

last_by : (over : Bool) (ps : List ℕ) (n : ℕ) (s : State) → cond over (with_bit ps 3 n) (give (n + 8)) s ≡ (n + (when over (bit ps 3) 8 s).0, (when over (bit ps 3) 8 s).1)
last_by true ps n s = with_bit-is ps 3 n s
last_by false ps n s = refl

module _ (ps : List ℕ) (s : State) where
  abbrev after : ℕ → State → State
  after i t = (bit ps i t).1

  abbrev s3 : State
  s3 = after 2 (after 1 (after 0 s))

  abbrev first : ℕ
  first = (bit ps 0 s).0

  abbrev low : ℕ
  low = first + (bit ps 1 (after 0 s)).0 + (bit ps 2 (after 1 (after 0 s))).0

  low_read : rows 3 (with_bit ps) 0 s ≡ (low, s3)
  low_read =
      let f : ℕ → ℕ → Reader ℕ = with_bit ps in
      let e0 : rows 1 f 0 s ≡ (first, after 0 s) = rows-more 0 f 0 0 _ s s _ (rows-none f 0 s) (with_bit-is ps 0 0 s ∙ ap (λ (n : ℕ). (n, after 0 s)) (omega arith)) in
      let e1 = rows-more 1 f 0 _ _ s _ _ e0 (with_bit-is ps 1 first (after 0 s)) in
      rows-more 2 f 0 _ _ s _ _ e1 (with_bit-is ps 2 _ _)

  abbrev high_bit : ℕ → ℕ → Reader ℕ
  high_bit i = with_bit ps (9 - i)

  abbrev s4 : State
  s4 = after 9 s3

  abbrev s5 : State
  s5 = after 8 s4

  abbrev s6 : State
  s6 = after 7 s5

  abbrev s7 : State
  s7 = after 6 s6

  abbrev s8 : State
  s8 = after 5 s7

  abbrev others : ℕ
  others = low + (bit ps 9 s3).0 + (bit ps 8 s4).0 + (bit ps 7 s5).0 + (bit ps 6 s6).0 + (bit ps 5 s7).0 + (bit ps 4 s8).0

  others_read : rows 6 high_bit low s3 ≡ (others, after 4 s8)
  others_read =
      let e0 = rows-more 0 high_bit low low _ s3 s3 _ (rows-none high_bit low s3) (with_bit-is ps 9 low s3) in
      let e1 = rows-more 1 high_bit low _ _ s3 _ _ e0 (with_bit-is ps 8 _ s4) in
      let e2 = rows-more 2 high_bit low _ _ s3 _ _ e1 (with_bit-is ps 7 _ s5) in
      let e3 = rows-more 3 high_bit low _ _ s3 _ _ e2 (with_bit-is ps 6 _ s6) in
      let e4 = rows-more 4 high_bit low _ _ s3 _ _ e3 (with_bit-is ps 5 _ s7) in
      rows-more 5 high_bit low _ _ s3 _ _ e4 (with_bit-is ps 4 _ s8)

  pub long_size_bits : long_size ps s ≡ long_bits ps s
  unfolding long_size long_bits reader.bind
  long_size_bits = rw (low_read, others_read) (last_by (nat_lt 15 others) ps others (after 4 s8))

pub long_sizes : (ps : List ℕ) → long_size ps ≡ long_bits ps
long_sizes ps = λ i s. long_size_bits ps s i
