use Rattle.vp_bool.specs.Reader as reader
use Rattle.std.proofs.Common.{refl}
use Rattle.vp_tree.specs.Tree.{walk, walk_from}
use Rattle.vp_modes.proofs.walks.read_inter_luma.Goals as goal

pub returns-then-read-clause-value : goal.returns-then-read-clause-value
unfolding walk_from walk reader.bind
returns-then-read-clause-value c = rw (← c.if-not-read.ensures.value, ← c.read.ensures.rest, ← c.if-not-read-2.ensures.value, ← c.read-else-not-read.ensures.rest, ← c.if-read.ensures.value) refl

pub returns-else-read-clause-value : goal.returns-else-read-clause-value
unfolding walk_from walk reader.bind
returns-else-read-clause-value c = rw (← c.if-not-read.ensures.value, ← c.read.ensures.rest, ← c.if-not-read-2.ensures.value, ← c.read-else-not-read.ensures.rest, ← c.if-read.ensures.value) refl

pub returns-else-read-clause-rest : goal.returns-else-read-clause-rest
unfolding walk_from walk reader.bind
returns-else-read-clause-rest c = rw (← c.if-not-read.ensures.value, ← c.read.ensures.rest, ← c.if-not-read-2.ensures.value, ← c.read-else-not-read.ensures.rest, ← c.if-read.ensures.value) c.read-then-not-read-2.ensures.rest
