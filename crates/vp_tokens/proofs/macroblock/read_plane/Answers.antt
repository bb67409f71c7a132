use Rattle.std.proofs.Common.{◌≡◌, ◌+◌, sym, arith}
use Rattle.vp_bool.proofs.ReaderLemmas.{Gives, rows-more, rows-none, gives}
use Rattle.vp_tokens.specs.Placed.{reading, placed, plane}
use Rattle.vp_tokens.proofs.Reading.{pair_is}
use Rattle.vp_tokens.proofs.macroblock.read_plane.Goals as goal
use Rattle.vp_tokens.proofs.macroblock.read_plane.Goals.{After-loop-i}

pub loop-i-init : goal.loop-i-init
loop-i-init c = record { so_far = rw (c.copy-own.ensures) (rows-none _ _ _) }

pub loop-i-preserved : goal.loop-i-preserved
loop-i-preserved c =
    let e = c.read_placed.ensures in
    record {
      so_far = rows-more c.loop-i.i (λ j. placed c.bands_of-bands.result.now c.first_of-first.result (c.args.k + j)) _ _ _ _ _ _ c.loop-i.invariant.so_far
          (pair_is _ _ _ (sym e.value) (sym e.rest));
    }

read : (c : After-loop-i) → Gives (plane c.args.probabilities.now c.args.kind c.args.k c.args.count (reading c.args.blocks.now c.args.flags.now) c.args.d.now) (reading c.loop-i.blocks c.loop-i.flags) c.loop-i.own
unfolding plane
read c =
    let e : c.loop-i.i ≡ c.args.count = omega arith in
    gives _ _ _ (rw (e, c.bands_of-bands.ensures, c.first_of-first.ensures.value) at c.loop-i.invariant.so_far)

pub returns-clause-value : goal.returns-clause-value
returns-clause-value c = (read (goal.at.returns-clause-value c).After-loop-i).value

pub returns-clause-rest : goal.returns-clause-rest
returns-clause-rest c = (read (goal.at.returns-clause-rest c).After-loop-i).rest
