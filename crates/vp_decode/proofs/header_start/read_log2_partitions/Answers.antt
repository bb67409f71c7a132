use Rattle.vp_decode.proofs.Words.{◌<◌, ◌^◌, arith, literal}
use Rattle.vp_head.proofs.Numbers.{literal-small}
use Rattle.vp_decode.proofs.header_start.read_log2_partitions.Goals as goal

pub returns-clause-few : goal.returns-clause-few
returns-clause-few c =
    let few : (literal 2 c.pass_level_deltas.new.d).0 < 2 ^ 2 = literal-small 2 c.pass_level_deltas.new.d in
    omega (arith, c.literal.ensures.value)
