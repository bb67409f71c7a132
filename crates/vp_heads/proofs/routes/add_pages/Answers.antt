use Rattle.std.proofs.Common.{refl}
use Rattle.matchit.proofs.OnLiterals.{matchit_on_literals}
use Rattle.vp_heads.specs.Routes.{our_routes}
use Rattle.vp_heads.proofs.routes.add_pages.Goals as goal

pub add-requires : goal.add-requires
unfolding matchit_on_literals
add-requires c = rw c.requires refl

pub add-requires-2 : goal.add-requires-2
unfolding matchit_on_literals
add-requires-2 c = rw (c.in_ok-add.ensures, c.requires) refl

pub add-requires-3 : goal.add-requires-3
unfolding matchit_on_literals
add-requires-3 c = rw (c.in_ok-add-2.ensures, c.in_ok-add.ensures, c.requires) refl

pub add-requires-4 : goal.add-requires-4
unfolding matchit_on_literals
add-requires-4 c = rw (c.in_ok-add-3.ensures, c.in_ok-add-2.ensures, c.in_ok-add.ensures, c.requires) refl

pub returns : goal.returns
unfolding our_routes
returns c = rw (c.in_ok-add-3.ensures, c.in_ok-add-2.ensures, c.in_ok-add.ensures, c.requires) at c.add-4.ensures
