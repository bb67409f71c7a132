-- Calls that are counted.
use Rattle.std.proofs.Common.{ℕ, ◌+◌, ◌-◌, ◌^◌, arith, inl, inr}
use Rattle.std.proofs.lemmas.Bool.{cases_lt}
use Rattle.vp_base.specs.Counted.{one_more, HasRisenBy}

pub risen_by_none : (old : ℕ) → HasRisenBy 0 old old
risen_by_none old = inl (omega arith)

pub risen_by_one_more : (n old new : ℕ) → HasRisenBy n old new → HasRisenBy (n + 1) old (one_more new)
risen_by_one_more n old new (inl e) =
    elim (cases_lt (old + n) (2 ^ 64 - 1)) [
      | inl less ↦ inl (omega arith)
      | inr more ↦ inr (omega arith, omega arith)
    ]
risen_by_one_more n old new (inr e) =
    let first = e.0 in
    let second = e.1 in
    inr (omega arith, omega arith)
