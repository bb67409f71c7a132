use Rattle.std.proofs.Common.{◌<◌, ◌^◌, arith}
use Rattle.vp_y4m.proofs.DecimalLemmas.{decimal_is_short}
use Rattle.vp_y4m.proofs.writing.put_number.Goals as goal

pub put_digits-requires : goal.put_digits-requires
put_digits-requires c = let e = decimal_is_short c.args.n (let f : c.args.n < 2 ^ 32 = omega arith in f) in omega arith

pub returns-clause-place : goal.returns-clause-place
returns-clause-place c = let e = decimal_is_short c.args.n (let f : c.args.n < 2 ^ 32 = omega arith in f) in omega arith
