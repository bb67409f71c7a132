use Rattle.std.proofs.Common.{length}
use Rattle.vp_commands.proofs.encode.encode_over.Goals as goal

pub returns-then-encoding : goal.returns-then-encoding
returns-then-encoding g c =
    let done = c.encode_live.ensures.answer in record {
      limits = c.limits_of-limits.result;
      usual = c.limits_of-limits.ensures;
      file = done.file;
      consumed = done.consumed;
      answer = rw (c.if-encoding.true, ← c.settings_of-settings.ensures) (length done.frames, done.answer);
      end = done.end;
      torn = done.torn;
      device = done.device;
      quiet = done.quiet;
    }

pub returns-else-encoding : goal.returns-else-encoding
returns-else-encoding g c =
    let done = c.encode_all_watched.ensures.answer in record {
      limits = c.limits_of-limits.result;
      usual = c.limits_of-limits.ensures;
      file = done.file;
      consumed = done.consumed;
      answer = rw (c.if-encoding.false, ← c.settings_of-settings.ensures) done.answer;
      end = done.end;
      torn = done.torn;
      device = done.device;
      quiet = done.quiet;
    }
