use Rattle.std.proofs.Common.{refl}
use Rattle.matchit.proofs.OnLiterals.{matchit_on_literals}
use Rattle.vp_heads.specs.Routes.{our_routes, still_routes}
use Rattle.vp_heads.proofs.routes.add_still_pages.Goals as goal

pub add-requires : goal.add-requires
unfolding matchit_on_literals our_routes
add-requires c = rw c.requires refl

pub add-requires-2 : goal.add-requires-2
unfolding matchit_on_literals our_routes
add-requires-2 c = rw (c.in_ok-add.ensures, c.requires) refl

pub returns : goal.returns
unfolding still_routes
returns c = rw (c.in_ok-add.ensures, c.requires) at c.add-2.ensures
