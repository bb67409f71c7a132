-- How sizes and levels are written.
use Rattle.std.proofs.Common.{◌≡◌, ◌≢◌, ℕ, ℤ, pos, negsuc, zero, suc, ◌+◌, ◌*◌, ◌/◌, ◌%◌, ◌^◌, ◌<◌, ◌≤◌, Bool, false, eqb, ltb, List, [], length, drop, get_or, refl, sym, arith, add-one}
use Rattle.std.specs.Prelude.{unsigned_abs}
use Rattle.std.specs.Int.{from_bool}
use Rattle.std.proofs.Math.Nat.{div-div-eq-div-mul}
use Rattle.std.proofs.Math.Seq.{drop-cons}
use Rattle.std.proofs.lemmas.List.{drop_all}
use Rattle.std.proofs.lemmas.Bool.{le-ltb}
use lib.Signed.{lt_z}
use native.Mathlib.Numerals.{unary_clauses}
use Rattle.vp_bool.specs.Bools.{read}
use Rattle.vp_bool.specs.Reader.{give}
use Rattle.vp_bool.specs.Intervals.{Interval}
use Rattle.vp_bool.specs.Writing.{Continues, Writes}
use Rattle.vp_bool.proofs.WritingLemmas.{Writes-then, Continues-none, Continues-given}
use Rattle.vp_tables.specs.declared.modes.Token.{Token}
use Rattle.vp_tables.specs.declared.modes.Token.TheVariants as token_is
use Rattle.vp_tables.specs.Tables.{least_magnitude, extra_probabilities}
use Rattle.vp_tokens.specs.Levels.{bits, level_magnitude, signed_level}
use Rattle.vp_tokens.specs.Written.{IsTokenOf}

-- ---- bits

parity : (r : ℕ) → r < 2 → from_bool (eqb r 1) ≡ r
parity zero h = refl
parity (suc zero) h = refl
parity (suc (suc r)) h = absurd (omega arith)

pub next_bit : (v k : ℕ) → 2 * (v / 2 ^ suc k) + from_bool (eqb (v / 2 ^ k % 2) 1) ≡ v / 2 ^ k
next_bit v k =
    let half : v / 2 ^ suc k ≡ v / 2 ^ k / 2 = simp unary_clauses (sym (div-div-eq-div-mul v (2 ^ k) 2)) in
    let low : v / 2 ^ k % 2 < 2 = omega arith in
    rw (half, parity _ low) (omega arith)

pub bits_written : (v i : ℕ) (ps : List ℕ) (b : Bool) {old new : Interval} → i < length ps → Writes (read (get_or ps i 0)) old new b
    → Continues (bits v (drop i ps)) (bits (2 * v + from_bool b) (drop (i + 1) ps)) old new
unfolding bits
bits_written v i ps b lt w =
    rw (add-one, drop-cons ps i 0 lt) (Writes-then (λ bit. bits (2 * v + from_bool bit) (drop (suc i) ps)) w (Continues-none _ _))

pub bits_end : (v w i : ℕ) (ps : List ℕ) (old : Interval) → length ps ≤ i → v ≡ w → Continues (bits v (drop i ps)) (give w) old old
unfolding bits
bits_end v w i ps old le same = rw (drop_all i ps le) (Continues-given same old)

-- a magnitude that is its token's only one
only_size : (t : Token) (v : ℕ) (old : Interval) → extra_probabilities t ≡ [] → least_magnitude t ≡ v → Writes (level_magnitude t) old old v
unfolding level_magnitude bits
only_size t v old none same = rw none (Writes-then _ (Continues-none _ old) (Continues-given (rw same (omega arith)) old))

-- magnitudes below 5 have no extra bits
pub size_unwritten : (t : Token) (v : ℕ) (old : Interval) → IsTokenOf t v → v < 5 → Writes (level_magnitude t) old old v
unfolding least_magnitude extra_probabilities
size_unwritten token_is.EndOfBlock v old is small = absurd (let on = is.goes_on in cc)
size_unwritten token_is.Zero v old is small = only_size token_is.Zero v old refl (omega (arith, is.least, is.extra))
size_unwritten token_is.One v old is small = only_size token_is.One v old refl (omega (arith, is.least, is.extra))
size_unwritten token_is.Two v old is small = only_size token_is.Two v old refl (omega (arith, is.least, is.extra))
size_unwritten token_is.Three v old is small = only_size token_is.Three v old refl (omega (arith, is.least, is.extra))
size_unwritten token_is.Four v old is small = only_size token_is.Four v old refl (omega (arith, is.least, is.extra))
size_unwritten token_is.Category1 v old is small = absurd (omega (arith, is.least))
size_unwritten token_is.Category2 v old is small = absurd (omega (arith, is.least))
size_unwritten token_is.Category3 v old is small = absurd (omega (arith, is.least))
size_unwritten token_is.Category4 v old is small = absurd (omega (arith, is.least))
size_unwritten token_is.Category5 v old is small = absurd (omega (arith, is.least))
size_unwritten token_is.Category6 v old is small = absurd (omega (arith, is.least))

-- ---- signs

pub sign_written : (z : ℤ) (b : Bool) {old new : Interval} → z ≢ pos 0 → b ≡ lt_z z (pos 0) → Writes (read 128) old new b → Writes (signed_level (unsigned_abs z)) old new z
unfolding signed_level
sign_written (pos zero) b ne e w = absurd (ne refl)
sign_written (pos (suc n)) b ne e w =
    let no : ltb (suc n) 0 ≡ false = le-ltb (suc n) 0 (omega arith) in
    Writes-then _ w (Continues-given (rw (e, no) refl) _)
sign_written (negsuc n) b ne e w = Writes-then _ w (Continues-given (rw e refl) _)

pub sign_unwritten : (z : ℤ) (old : Interval) → z ≡ pos 0 → Writes (signed_level (unsigned_abs z)) old old z
unfolding signed_level
sign_unwritten z old e = rw e (Continues-none _ _)
