use Rattle.std.proofs.Common.{◌++◌, ◌∷◌, [], refl}
use Rattle.std.proofs.lemmas.Result.{err_from_is_err_and}
use Rattle.vp_commands.proofs.CheckLemmas.{none_done, one_done, stopped}
use Rattle.vp_commands.proofs.check.check_each.Goals as goal

pub loop-name-init : goal.loop-name-init
loop-name-init g c = ([], rw c.none-total.ensures (none_done c.args.work.now.limits c.args.work.now.style _ _))

pub returns-in_err-counts-clause-checked : goal.returns-in_err-counts-clause-checked
returns-in_err-counts-clause-checked g c =
    let inv = c.loop-name.invariant in
    let now = c.check_one.ensures.checked in
    let p = err_from_is_err_and c.from_residual.result c.from_residual.ensures.1 in
    rw (p.1) (
      inv.0 ++ now.0 ∷ [],
      stopped c.args.work.now.limits c.args.work.now.style c.args.work.now.names.now c.loop-name.name-index _ inv.0 now.0 c.loop-name.total c.loop-name.well _ _ _ _ _ c.loop-name-test.true inv.1 now.1,
      tt,
    )

pub loop-name-preserved : goal.loop-name-preserved
loop-name-preserved g c =
    let inv = c.loop-name.invariant in
    let now = c.in_ok-counts.ensures.checked in (
      inv.0 ++ now.0 ∷ [],
      one_done c.args.work.now.limits c.args.work.now.style c.args.work.now.names.now c.loop-name.name-index _ inv.0 now.0 c.loop-name.total c.with-total.result c.in_ok-counts.counts c.loop-name.well _ c.in_ok-counts.sound
          _ _ _ _ _ _ c.loop-name-test.true inv.1 now.1 now.2.2 now.2.0 now.2.1 c.with-total.ensures refl,
    )
