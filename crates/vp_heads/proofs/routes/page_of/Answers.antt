use Rattle.std.proofs.Common.{refl, sym}
use Rattle.vp_heads.proofs.Pages.{page_at-text, page_at-other}
use Rattle.vp_heads.proofs.routes.page_of.Goals as goal

pub returns-in_default : goal.returns-in_default
returns-in_default c = sym (page_at-other c.args.router.now c.args.path.now c.in_default.ensures.cases.0)

pub returns-in-Ok-at : goal.returns-in-Ok-at
returns-in-Ok-at c =
    rw (page_at-text c.args.router.now c.args.path.now c.in-Ok.ensures.cases.1, ← c.in-Ok.ensures.cases.0, c.in-Ok-at.ensures.found) refl
