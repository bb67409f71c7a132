use Rattle.std.proofs.Common.{◌∙◌, sym, arith, rules}
use Rattle.vp_bool.proofs.ReaderLemmas.{gives}
use Rattle.vp_tokens.proofs.ZeroLemmas.{zeros-found, zeros-more, zeros-done}
use Rattle.vp_tokens.proofs.block.pass_zeros.Goals as goal

pub returns-then-read : goal.returns-then-read
returns-then-read c =
    let l = c.loop-position in
    let e = sym l.invariant.so_far ∙ zeros-found c.args.bands.now l.position l.context _ _ _ c.loop-position-test.true c.row_of-row.ensures (sym c.read.ensures.value ∙ c.if-read.true) c.read.ensures.rest in
    let g = gives _ _ _ e in
    record { value = g.value; rest = g.rest; later = omega arith; inside = omega arith }

pub loop-position-preserved : goal.loop-position-preserved
loop-position-preserved c =
    let l = c.loop-position in
    record {
      context_in = omega arith;
      so_far = sym (zeros-more c.args.bands.now l.position l.context _ _ _ c.loop-position-test.true c.row_of-row.ensures (sym c.read.ensures.value ∙ c.if-read.false) c.read.ensures.rest) ∙ l.invariant.so_far;
    }

pub returns : goal.returns
returns c =
    let l = c.loop-position in
    let g = gives _ _ _ (sym l.invariant.so_far ∙ zeros-done c.args.bands.now l.position l.context l.d c.loop-position-test.false) in
    record { value = g.value; rest = g.rest; later = search rules; inside = search rules }
