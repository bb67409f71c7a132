-- The bounds of the numbers of a list, by a test that computes.
use Rattle.std.proofs.Common.{◌≡◌, ℕ, zero, suc, ◌<◌, ◌≤◌, Bool, true, ◌&&◌, nat_le, List, [], ◌∷◌, length, get_or, refl, arith}
use Rattle.std.proofs.lemmas.Bool.Decides.{nat_tests}
use Rattle.vp_tree.proofs.Walks.{and_left, and_right}
use Rattle.vp_tables.specs.declared.factors.TheConstants.{AC_FACTORS, DC_FACTORS}
use Rattle.vp_tables.specs.Tables.{ac_factor, dc_factor}

abbrev pub are_within : ℕ → ℕ → List ℕ → Bool
are_within low high [] = true
are_within low high (x ∷ xs) = nat_le low x && nat_le x high && are_within low high xs

pub record IsWithin (low high n : ℕ) : Type 0 where
  pub least : low ≤ n
  pub greatest : n ≤ high

both : (low high n : ℕ) → nat_le low n ≡ true → nat_le n high ≡ true → IsWithin low high n
both low high n h k = record { least = grind (arith, nat_tests); greatest = grind (arith, nat_tests) }

pub within : (low high : ℕ) (xs : List ℕ) (i : ℕ) → are_within low high xs ≡ true → i < length xs → IsWithin low high (get_or xs i 0)
within low high [] i h k = absurd (omega arith)
within low high (x ∷ xs) zero h k =
    let e : nat_le low x && nat_le x high ≡ true = and_left (nat_le low x && nat_le x high) _ h in
    both low high x (and_left (nat_le low x) _ e) (and_right (nat_le low x) _ e)
within low high (x ∷ xs) (suc i) h k = within low high xs i (and_right (nat_le low x && nat_le x high) _ h) (omega arith)

pub dc_least : (i : ℕ) → i < 128 → 4 ≤ dc_factor i
unfolding dc_factor
dc_least i h = (within 4 157 DC_FACTORS i refl h).least

pub dc_greatest : (i : ℕ) → i < 128 → dc_factor i ≤ 157
unfolding dc_factor
dc_greatest i h = (within 4 157 DC_FACTORS i refl h).greatest

pub ac_least : (i : ℕ) → i < 128 → 4 ≤ ac_factor i
unfolding ac_factor
ac_least i h = (within 4 284 AC_FACTORS i refl h).least

pub ac_greatest : (i : ℕ) → i < 128 → ac_factor i ≤ 284
unfolding ac_factor
ac_greatest i h = (within 4 284 AC_FACTORS i refl h).greatest

pub ruleset factor_bounds = (dc_least, dc_greatest, ac_least, ac_greatest)
