use Rattle.vp_live.proofs.LawLemmas.{are_encoded, faults_are}
use Rattle.vp_live.proofs.laws.live_files_are_encoded_files.Goals as goal

pub returns-clause-reports : goal.returns-clause-reports
returns-clause-reports c = are_encoded

pub returns-clause-faults : goal.returns-clause-faults
returns-clause-faults c = faults_are
