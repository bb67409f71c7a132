use Rattle.vp_decode.proofs.Words.{◌≡◌, ℕ, zero, suc, ◌*◌, ◌^◌, ◌%◌, ◌<◌, ◌≤◌, arith, refl, count_of}
use Rattle.vp_decode.proofs.parsed_packet.partition_count.Goals as goal

-- one, doubled n times
doubled : (n : ℕ) → n ≤ 3 → (1 * 2 ^ n % 18446744073709551616 ≡ 2 ^ n) × (1 * 2 ^ n % 18446744073709551616 ≤ 8) × (0 < 1 * 2 ^ n % 18446744073709551616)
doubled zero small = (refl, omega arith, omega arith)
doubled (suc zero) small = (refl, omega arith, omega arith)
doubled (suc (suc zero)) small = (refl, omega arith, omega arith)
doubled (suc (suc (suc zero))) small = (refl, omega arith, omega arith)
doubled (suc (suc (suc (suc n)))) small = absurd (omega arith)

pub returns : goal.returns
unfolding count_of
returns c = let is = doubled c.args.log2 c.requires in record { value = is.0; few = is.1; some = is.2 }
