use Rattle.std.proofs.Common.{rules, ◌<◌, ℕ, List, refl, subst, flat_map, arith}
use Rattle.httpdate.specs.Date.{date_text}
use Rattle.vp_mio.specs.Growth.{GrowsBy}
use Rattle.vp_mio.specs.Lines.{printed}
use Rattle.vp_mio.proofs.access_log.put_time.Goals as goal

pub returns-in-Ok : goal.returns-in-Ok
returns-in-Ok c =
    let early : c.args.seconds < 253402300800 = search (rules, c.in-Ok.ensures.succeeds) in (
      date_text c.in-Ok.date,
      (λ h. (c.in-Ok.date, c.in-Ok.ensures.value, refl), λ h. absurd (omega arith)),
      subst (λ (text : List ℕ). GrowsBy c.args.line.now c.put.new.self (flat_map printed text)) c.to_bytes.ensures c.put.ensures,
    )
