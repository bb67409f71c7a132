-- Traces, one after another.
use Rattle.std.proofs.Common.{◌++◌, ◌∷◌, [], List, subst}
use Rattle.vp_serve.specs.ServerLoop.{LoopState, Action, IsTrace}

pub joined : (old mid new : LoopState) (xs ys : List Action) → IsTrace old xs mid → IsTrace mid ys new → IsTrace old (xs ++ ys) new
joined old mid new [] ys h k = subst (λ (x : LoopState). IsTrace x ys new) h k
joined old mid new (x ∷ xs) ys h k = (h.0, h.1, joined h.0 mid new xs ys h.2 k)
