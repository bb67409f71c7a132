use Rattle.vp_commands.proofs.range.DecodeRangeArgsWork.over.Goals as goal

pub returns : goal.returns
returns g c =
    let done = c.decode_range.ensures.decoded in record {
      limits = c.limits_of-limits.result;
      usual = c.limits_of-limits.ensures;
      range = c.range_of-range.result;
      first_is = c.range_of-range.ensures.first;
      last_is = c.range_of-range.ensures.last;
      file = done.file;
      consumed = done.consumed;
      answer = rw (← c.form_of-form.ensures) done.answer;
      end = done.end;
      torn = done.torn;
      device = done.device;
      quiet = done.quiet;
    }
