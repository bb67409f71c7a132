use Rattle.std.proofs.Common.{◌≡◌, ℕ, List, length}
use Rattle.vp_bool.specs.Bools.{State}
use Rattle.vp_bool.specs.Reader.{each}
use Rattle.vp_head.specs.Probabilities.{entry_at}
use Rattle.vp_head.proofs.probabilities.read_entries.Given as goal

abbrev pub invariant-loop-i : goal.invariant-loop-i
invariant-loop-i l = record {
  len : length l.old ≡ 11;
  so_far : (xs : List ℕ) (s : State) → each 0 l.from (entry_at l.table) xs s ≡ (l.fn.old, l.fn.d) → each 0 l.i (entry_at l.table) xs s ≡ (l.old, l.d);
}
