use Rattle.std.proofs.Common.{◌≡◌, ◌∙◌, refl, ℕ, Option, Some, None}
use Rattle.std.specs.Option.{unwrap_or, option_map_or}
use Rattle.vp_base.specs.Grid.{entry}
use Rattle.vp_tables.specs.declared.modes.SubMode.TheVariants as sub_is
use Rattle.vp_modes.specs.Entry.{Modes, plain}
use Rattle.vp_modes.specs.Map.{sub_of}
use Rattle.vp_modes.proofs.contexts.mode_near.Goals as goal

-- a macroblock that the grid doesn't have counts as one with the default modes
sub_of_some : (e : Option Modes) (k : ℕ) → sub_of (unwrap_or e plain) k ≡ option_map_or (λ a. sub_of a k) e sub_is.Dc
unfolding sub_of plain
sub_of_some (Some m) k = refl
sub_of_some None k = refl

pub returns-in-There : goal.returns-in-There
returns-in-There g c =
    rw c.in-There.is
    (c.sub_mode.ensures ∙ sub_of_some (entry (g.G.ModeGrid.grid c.args.map.now) c.in-There.other) c.in-There.k)
