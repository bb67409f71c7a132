-- Vector probabilities by seven bits.
use Rattle.std.proofs.Common.{◌≡◌, ℕ, ◌*◌, ◌/◌, ◌%◌, ◌<◌, cond, false, ◌⊎◌, inl, inr, arith, refl}
use Rattle.std.specs.Prelude.{◌==◌}
use Rattle.std.proofs.lemmas.Bool.{ne_eqb}

-- the half of it is what the seven bits say
pub halved : (old new : ℕ) → (new ≡ 1) ⊎ ((new % 2 ≡ 0) × (0 < new)) → cond (new / 2 == 0) 1 (2 * (new / 2)) ≡ new
halved old new (inl e) = rw e refl
halved old new (inr h) =
    let some : (new / 2 == 0) ≡ false = ne_eqb (new / 2) 0 (λ e. omega (arith, h.0, h.1)) in
    rw some (omega (arith, h.0))
