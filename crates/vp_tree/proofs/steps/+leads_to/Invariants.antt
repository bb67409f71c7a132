use Rattle.std.proofs.Common.{◌-◌, length}
use Rattle.vp_tree.proofs.steps.+leads_to.Given as goal

abbrev pub decreases-leads_to : goal.decreases-leads_to
decreases-leads_to g l = length l.tree.now - l.place
