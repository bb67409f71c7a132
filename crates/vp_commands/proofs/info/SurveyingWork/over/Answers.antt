use Rattle.std.proofs.Common.{refl, ap}
use Rattle.std.specs.Prelude.{Ok, Err}
use Rattle.vp_commands.proofs.info.SurveyingWork.over.Goals as goal

pub returns-in-Ok : goal.returns-in-Ok
returns-in-Ok g c =
    let done = c.in-Ok.ensures in (
      Ok c.in-Ok.survey,
      refl,
      record {
        limits = c.limits_of.result;
        usual = c.limits_of.ensures;
        file = done.surveyed.0;
        consumed = done.surveyed.1;
        answer = done.surveyed.2;
        end = done.end;
        torn = done.torn;
        device = done.device;
        quiet = done.quiet;
      },
    )

pub returns-in-Err : goal.returns-in-Err
returns-in-Err g c =
    let done = c.in-Err.ensures in (
      Err c.in-Err.fault,
      ap Err c.from.ensures,
      record {
        limits = c.limits_of.result;
        usual = c.limits_of.ensures;
        file = done.surveyed.0;
        consumed = done.surveyed.1;
        answer = done.surveyed.2;
        end = done.end;
        torn = done.torn;
        device = done.device;
        quiet = done.quiet;
      },
    )
