-- A number of n bits is below 2 ^ n.
use Rattle.std.proofs.lemmas.Grind.{pow_more}
use Rattle.std.proofs.Common.{add-one, ℕ, zero, suc, ◌+◌, ◌^◌, ◌<◌, Bool, true, false, cond, arith, lit<}
use Rattle.vp_bool.specs.Bools.{State, read, literal}

top_bit : (b : Bool) (p r : ℕ) → r < p → cond b p 0 + r < p + p
top_bit true p r h = omega arith
top_bit false p r h = omega arith

pub literal-small : (n : ℕ) (s : State) → (literal n s).0 < 2 ^ n
unfolding literal
literal-small zero s = lit< tt
literal-small (suc n) s =
    let h : (literal n (read 128 s).1).0 < 2 ^ n = literal-small n (read 128 s).1 in
    let k = top_bit (read 128 s).0 (2 ^ n) (literal n (read 128 s).1).0 h in
    rw (← add-one n) (omega (arith, pow_more 2 n))
