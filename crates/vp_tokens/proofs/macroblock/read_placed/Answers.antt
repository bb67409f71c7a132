use Rattle.vp_tokens.proofs.FlagLemmas.{above-place, left-place}
use Rattle.vp_tokens.proofs.macroblock.read_placed.Goals as goal

pub bounds-flags-up-2 : goal.bounds-flags-up-2
bounds-flags-up-2 c = above-place c.args.k c.requires.k_in

pub bounds-flags-side-2 : goal.bounds-flags-side-2
bounds-flags-side-2 c = left-place c.args.k c.requires.k_in
