use Rattle.std.proofs.Common.{Option, ℕ, subst, arith}
use Rattle.vp_serve.specs.Turns.{IsNextOpen}
use Rattle.vp_serve.proofs.Cursor.{below_from, above_best, below_best, first_best}
use Rattle.vp_serve.proofs.connection.nearer.Goals as goal

pub returns-then-from : goal.returns-then-from
returns-then-from c xs h x is = below_from c.args.from c.args.number c.args.next x xs h is (omega (arith, c.if-from.true, c.from.ensures))

pub returns-then-best-number : goal.returns-then-best-number
returns-then-best-number c xs h x is = above_best c.args.from c.args.number c.in-Some.best x xs (subst (λ (o : Option ℕ). IsNextOpen c.args.from xs o) c.in-Some.is h) is (omega (arith, c.if-best-number.true))

pub returns-else-best-number : goal.returns-else-best-number
returns-else-best-number c xs h x is =
    below_best c.args.from c.args.number c.in-Some.best x xs (subst (λ (o : Option ℕ). IsNextOpen c.args.from xs o) c.in-Some.is h) is (omega (arith, c.if-from.false, c.from.ensures)) (omega (arith, c.if-best-number.false))

pub returns-in-None : goal.returns-in-None
returns-in-None c xs h x is = first_best c.args.from c.args.number x xs (subst (λ (o : Option ℕ). IsNextOpen c.args.from xs o) c.in-None.is h) is (omega (arith, c.if-from.false, c.from.ensures))
