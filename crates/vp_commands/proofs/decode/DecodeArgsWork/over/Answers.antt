use Rattle.vp_commands.proofs.decode.DecodeArgsWork.over.Goals as goal

pub returns : goal.returns
returns g c =
    let done = c.decode_all.ensures in record {
      limits = c.limits_of-limits.result;
      usual = c.limits_of-limits.ensures;
      file = done.decoded.0;
      consumed = done.decoded.1;
      answer = rw (← c.form_of.ensures) done.decoded.2;
      end = done.end;
      torn = done.torn;
      device = done.device;
      quiet = done.quiet;
    }
