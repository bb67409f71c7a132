-- How a level is written by its magnitude.
use Rattle.std.proofs.Common.{◌≡◌, ℕ, ℤ, false, refl, arith}
use Rattle.std.specs.Prelude.{unsigned_abs}
use Rattle.vp_bool.specs.Reader.{Reader}
use Rattle.vp_bool.specs.Intervals.{Interval}
use Rattle.vp_bool.specs.Writing.{Writes}
use Rattle.vp_tables.specs.declared.modes.Token.{Token}
use Rattle.vp_tables.specs.declared.modes.Token.TheVariants.{Zero, One}
use Rattle.vp_tables.specs.Tables.{least_magnitude, extra_probabilities}
use Rattle.vp_tokens.specs.Levels.{is_end, level_magnitude, signed_level}
use Rattle.vp_tokens.specs.Written.{IsTokenOf, IsLevelWritten}
use Rattle.vp_tokens.proofs.WritingLemmas.{size_unwritten, sign_unwritten}
use Rattle.vp_tokens.proofs.BlockWriting.{abs_zero}

zero_is : IsTokenOf Zero 0
unfolding least_magnitude extra_probabilities
zero_is = record { goes_on = refl; least = omega arith; extra = omega arith }

one_is : IsTokenOf One 1
unfolding least_magnitude extra_probabilities
one_is = record { goes_on = refl; least = omega arith; extra = omega arith }

module _ (m : Reader Token) where
  pub any_level : (t : Token) (n : ℕ) (z : ℤ) {old mid later new : Interval} → n ≡ unsigned_abs z → is_end t ≡ false → Writes m old mid t
      → Writes (level_magnitude t) mid later n → Writes (signed_level n) later new z → IsLevelWritten m (unsigned_abs z) z old new
  any_level t n z {mid = mid} {later = later} e going wt ws wl =
      record { what = t; goes_on = going; mid = mid; later = later; token = wt; magnitude = rw e at ws; sign = rw e at wl }

  pub zero_level : (z : ℤ) {old new : Interval} → unsigned_abs z ≡ 0 → Writes m old new Zero → IsLevelWritten m (unsigned_abs z) z old new
  zero_level z {new = new} e w = record {
    what = Zero;
    goes_on = refl;
    mid = new;
    later = new;
    token = w;
    magnitude = rw e (size_unwritten Zero 0 new zero_is (omega arith));
    sign = sign_unwritten z new (abs_zero z e);
  }

  pub one_level : (z : ℤ) {old mid new : Interval} → unsigned_abs z ≡ 1 → Writes m old mid One → Writes (signed_level (unsigned_abs z)) mid new z
      → IsLevelWritten m (unsigned_abs z) z old new
  one_level z {mid = mid} e w sign = record {
    what = One;
    goes_on = refl;
    mid = mid;
    later = mid;
    token = w;
    magnitude = rw e (size_unwritten One 1 mid one_is (omega arith));
    sign = sign;
  }
