use Rattle.vp_motion.proofs.Spellings.{told_same}
use Rattle.vp_motion.proofs.vector.Candidates.can_give.Goals as goal

pub returns-in-Zero : goal.returns-in-Zero
returns-in-Zero c = rw c.in-Zero.is (told_same _ _ _ c.is_same.ensures)

pub returns-in-Nearest : goal.returns-in-Nearest
returns-in-Nearest c = rw (c.in-Nearest.is, ← c.self.view_is) (told_same _ _ _ c.is_same-in-Nearest.ensures)

pub returns-in-Near : goal.returns-in-Near
returns-in-Near c = rw (c.in-Near.is, ← c.self.view_is) (told_same _ _ _ c.is_same-in-Near.ensures)
