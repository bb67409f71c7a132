use Rattle.std.proofs.Common.{◌≡◌, ◌⊎◌, subst}
use Rattle.vp_still.specs.Found.{IsFoundIn}
use Rattle.vp_still.specs.Faults.{IsFaultIn}
use Rattle.vp_still.specs.declared.fault.FindFault.TheVariants as find_fault
use Rattle.vp_commands.specs.Commands.{read_side}
use Rattle.vp_commands.proofs.PictureLemmas.{made, unfound}
use Rattle.vp_commands.proofs.picture.picture_of.Goals as goal

pub returns-in-Ok : goal.returns-in-Ok
returns-in-Ok g c =
    made c.args.wanted.now c.make.result c.in-Ok.found c.limits_of.result c.in_ok-file.file.items
    (read_side g.R.Read.remaining c.args.input.now) (read_side g.R.Read.remaining c.read_file.new.input)
    c.limits_of.ensures c.in_ok-file.ensures.file
    (subst (λ file. IsFoundIn c.limits_of.result file c.args.wanted.now.packet c.in-Ok.found) c.deref.ensures.value c.in-Ok.ensures.found)
    c.make.ensures.number c.make.ensures.width c.make.ensures.height c.make.ensures.alpha c.make.ensures.unmade c.make.ensures.file

pub returns : goal.returns
returns g c =
    unfound c.args.wanted.now c.in-Err.fault c.limits_of.result c.in_ok-file.file.items
    (read_side g.R.Read.remaining c.args.input.now) (read_side g.R.Read.remaining c.read_file.new.input)
    c.limits_of.ensures c.in_ok-file.ensures.file
    (subst (λ file. (c.in-Err.fault ≡ find_fault.Memory) ⊎ IsFaultIn c.limits_of.result file c.args.wanted.now.packet c.in-Err.fault) c.deref.ensures.value
    c.in-Err.ensures.fault)
