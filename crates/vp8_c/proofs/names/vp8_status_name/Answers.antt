use Rattle.std.proofs.Common.{◌≡◌, ◌∙◌, length, ap, arith}
use Rattle.vp8_c.specs.Names.{status_name}
use Rattle.vp8_c.proofs.NameLemmas.{put_ended}
use Rattle.vp8_c.proofs.names.vp8_status_name.Goals as goal

pub returns-then-name-out-clause-copied : goal.returns-then-name-out-clause-copied
returns-then-name-out-clause-copied c fits =
    let is : c.as_bytes-name.result.now ≡ status_name c.args.status = c.as_bytes-name.ensures.value ∙ c.status_name.ensures in
    put_ended (status_name c.args.status) c.args.out.now c.copy_from_slice.new.self (length c.as_bytes-name.result.now)
    (c.copy_from_slice.ensures.after ∙ is) (ap length is) (let t = c.if-name-out.true in omega arith)
