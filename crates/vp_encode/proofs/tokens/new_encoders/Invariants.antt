use Rattle.std.proofs.Common.{◌≡◌, ◌<◌, ℕ, length, get_or}
use Rattle.vp_bool.specs.Intervals.{whole_interval}
use Rattle.vp_encode.proofs.tokens.new_encoders.Given as goal

abbrev pub invariant-loop : goal.invariant-loop
invariant-loop l = record {
  count : length l.encoders.items ≡ l.counter;
  empty : (i : ℕ) → i < l.counter → get_or l.encoders.items i whole_interval ≡ whole_interval;
}
