use Rattle.vp_app.proofs.many.work.Goals as goal

pub returns-clause-works : goal.returns-clause-works
returns-clause-works g c = record {
  read = c.catch_up.new.server;
  end = c.serve-over.new.server;
  ended = c.serve-over.result;
  reads_on = c.catch_up.ensures.files;
  turns = c.serve-over.ensures.turns;
  well_ends = c.is_well.ensures;
  over = λ e. c.serve-over.ensures.over (c.is_well.ensures e);
}
