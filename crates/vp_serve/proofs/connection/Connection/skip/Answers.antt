use Rattle.std.proofs.Common.{◌≤◌, length, drop, subst, sym, arith, length-drop}
use Rattle.vp_serve.specs.Connection.{Connection}
use Rattle.vp_serve.proofs.connection.Connection.skip.Goals as goal

pub overflow_add-self : goal.overflow_add-self
overflow_add-self c =
    let P : Connection → Type 0 = λ t. c.args.count ≤ length t.unsubmitted in
    let h : c.args.count ≤ length (drop c.self.inside.submitted c.self.inside.input) = subst P (sym c.self.view_is) c.requires in
    omega (arith, length-drop c.self.inside.submitted c.self.inside.input)
