use Rattle.vp_bool.proofs.ReaderLemmas.{each-none, gives, Gives}
use Rattle.vp_head.specs.Probabilities.{context_rows}
use Rattle.vp_head.proofs.probabilities.read_context.Goals as goal
use Rattle.vp_head.proofs.probabilities.read_context.Goals.{After-read_entries-then-not-pass_tail, Else-not-pass_tail}

one_by_one : (c : After-read_entries-then-not-pass_tail) → Gives (context_rows c.args.table.now c.args.old.now c.args.d.now) c.read_entries-then-not-pass_tail.new.old c.read_entries-then-not-pass_tail.new.d
one_by_one c =
    let first = c.read_entries.ensures c.args.old.now c.args.d.now (rw (c.copy-own.ensures) (each-none _ _ _ _)) in
    gives _ _ _ (c.read_entries-then-not-pass_tail.ensures c.args.old.now c.args.d.now (rw (c.pass_tail.ensures.kept c.if-not-pass_tail.true) first))

at_once : (c : Else-not-pass_tail) → Gives (context_rows c.args.table.now c.args.old.now c.args.d.now) c.read_entries.new.old c.pass_tail.new.d
at_once c =
    let first = c.read_entries.ensures c.args.old.now c.args.d.now (rw (c.copy-own.ensures) (each-none _ _ _ _)) in
    gives _ _ _ (c.pass_tail.ensures.passed c.if-not-pass_tail.false c.args.old.now _ c.args.d.now first)

pub returns-then-not-pass_tail-clause-value : goal.returns-then-not-pass_tail-clause-value
returns-then-not-pass_tail-clause-value c = (one_by_one (goal.at.returns-then-not-pass_tail-clause-value c).After-read_entries-then-not-pass_tail).value

pub returns-then-not-pass_tail-clause-rest : goal.returns-then-not-pass_tail-clause-rest
returns-then-not-pass_tail-clause-rest c = (one_by_one (goal.at.returns-then-not-pass_tail-clause-rest c).After-read_entries-then-not-pass_tail).rest

pub returns-else-not-pass_tail-clause-value : goal.returns-else-not-pass_tail-clause-value
returns-else-not-pass_tail-clause-value c = (at_once (goal.at.returns-else-not-pass_tail-clause-value c).Else-not-pass_tail).value

pub returns-else-not-pass_tail-clause-rest : goal.returns-else-not-pass_tail-clause-rest
returns-else-not-pass_tail-clause-rest c = (at_once (goal.at.returns-else-not-pass_tail-clause-rest c).Else-not-pass_tail).rest
