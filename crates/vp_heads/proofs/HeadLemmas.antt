-- The bytes of a head ask for one thing.
use Rattle.std.proofs.Common.{◌≡◌, ◌∙◌, ℕ, List, ap, sym, inl, inr, []}
use Rattle.httparse.proofs.GrammarLemmas.{request_unique}
use Rattle.matchit.specs.Rows.{RowsOf}
use Rattle.matchit.specs.Router.{RouteOf}
use Rattle.vp_heads.specs.declared.routes.Page.{Page}
use Rattle.vp_heads.specs.declared.request.Request.{Request}
use Rattle.vp_heads.specs.Requests.{asked, IsRequestFor}

pub asked_unique : (routes : RowsOf (RouteOf Page)) (names : List (List ℕ)) (bytes : List ℕ) (a b : Request) → IsRequestFor routes names bytes a → IsRequestFor routes names bytes b → a ≡ b
asked_unique routes names bytes a b (inl (h, is, e)) (inl (k, was, f)) =
    e ∙ ap (asked routes names) (request_unique bytes h k [] [] is.reads was.reads).0 ∙ sym f
asked_unique routes names bytes a b (inl (h, is, e)) (inr (none, f)) = absurd (none h is)
asked_unique routes names bytes a b (inr (none, e)) (inl (k, was, f)) = absurd (none k was)
asked_unique routes names bytes a b (inr (none, e)) (inr (neither, f)) = e ∙ sym f
