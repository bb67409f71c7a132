use Rattle.std.proofs.Common.{◌≡◌, ◌==◌, ◌∷◌, ◌∙◌, [], ℕ, List, Bool, true, false, cond, take, subst, sym, arith}
use Rattle.std.proofs.lemmas.Bool.Decides.{nat_tests}
use Rattle.vp_serve.specs.Transfer.{Logs, Grows}
use Rattle.vp_serve.proofs.Continuing.{prefix_of}
use Rattle.vp_serve.proofs.main_loop.read_piece.Goals as goal

pub returns-then-count-eq0-clause-logs : goal.returns-then-count-eq0-clause-logs
returns-then-count-eq0-clause-logs g c =
    let a = g.T.Transport.log c.args.transport.now in
    let b = g.T.Transport.log c.read_file-count.new.self in
    let n = c.read_file-count.result in
    let none : (n == 0) ≡ true = grind (arith, nat_tests, c.if-count-eq0.true) in
    subst (λ (t : Bool). Logs a b (cond t [] (Grows c.args.place c.args.name.now (take n c.read_file-count.new.buffer) ∷ []))) none c.read_file-count.ensures.logs

pub returns-clause-logs : goal.returns-clause-logs
returns-clause-logs g c =
    let a = g.T.Transport.log c.args.transport.now in
    let b = g.T.Transport.log c.read_file-count.new.self in
    let n = c.read_file-count.result in
    let some : (n == 0) ≡ false = grind (arith, nat_tests, c.if-count-eq0.false) in
    let piece : c.from_vec.result ≡ take n c.read_file-count.new.buffer = c.from_vec.ensures ∙ c.truncate.ensures.items
    ∙ prefix_of n c.in-Ok.buffer.len c.read_file-count.new.buffer _ (omega (arith, c.read_file-count.ensures.within, c.in-Ok.ensures, c.deref_mut.ensures.len, c.read_file-count.auto)) c.read_file-count.ensures.within in
    subst (λ (l : List ℕ). Logs a b (Grows c.args.place c.args.name.now l ∷ [])) (sym piece)
    (subst (λ (t : Bool). Logs a b (cond t [] (Grows c.args.place c.args.name.now (take n c.read_file-count.new.buffer) ∷ []))) some c.read_file-count.ensures.logs)
