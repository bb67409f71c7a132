use Rattle.std.proofs.Common.{rules, ◌∙◌, ◌+◌, ◌<◌, ◌^◌, subst, sym, unsigned_abs}
use Rattle.vp_transform.specs.Transform.{times_hadamard}
use Rattle.vp_transform.proofs.Along.{get, FourFit, rows_read, rows_along}
use Rattle.vp_transform.proofs.Products.{products_fit}
use Rattle.vp_transform.proofs.hadamard.by_rows.Goals as goal

pub returns : goal.returns
unfolding times_hadamard
returns c =
    let i : FourFit c.row-a.result = λ k l. search rules in
    let j : FourFit c.row-b.result = λ k l. search rules in
    let m : FourFit c.row-c.result = λ k l. search rules in
    let n : FourFit c.row-d.result = λ k l. search rules in
    let e = rows_read _ _ _ _ i j m n ∙ rows_along c.row-a.ensures c.row-b.ensures c.row-c.ensures c.row-d.ensures in
    record { value = e; sizes = λ k l. subst (λ v. unsigned_abs (get v k) + 3 < 2 ^ 63) (sym e) (products_fit c.args.x.now c.requires k l) }
