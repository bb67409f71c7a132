use Rattle.std.proofs.Common.{◌∙◌, ap}
use Rattle.vp_base.specs.Grid.{Grid, entry, changed}
use Rattle.vp_base.proofs.GridLemmas.{entry-here, entry-elsewhere}
use Rattle.vp_motion.specs.Vector.{MacroblockMotion}
use Rattle.vp_motion.proofs.map.VectorMap.set.Goals as goal

pub returns-clause-here : goal.returns-clause-here
unfolding changed
returns-clause-here c =
    let g : Grid MacroblockMotion = record { columns = c.self.inside.columns; rows = c.self.inside.rows; entries = c.self.inside.entries.items } in
    let e : MacroblockMotion = record { reference = c.args.reference; mode = c.args.mode; vectors = c.args.vectors.now } in
    entry-here g c.args.place e c.self.invariant.0 (rw c.self.view_is c.requires.place)

pub returns-clause-elsewhere : goal.returns-clause-elsewhere
unfolding changed
returns-clause-elsewhere c p apart =
    let g : Grid MacroblockMotion = record { columns = c.self.inside.columns; rows = c.self.inside.rows; entries = c.self.inside.entries.items } in
    let e : MacroblockMotion = record { reference = c.args.reference; mode = c.args.mode; vectors = c.args.vectors.now } in
    entry-elsewhere g c.args.place e p (rw c.self.view_is c.requires.place) apart ∙ ap (λ h. entry h p) c.self.view_is
