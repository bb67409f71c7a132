use Rattle.std.proofs.Common.{◌≡◌, ◌+◌, ◌<◌, ◌≤◌, pos, get_or, refl, inl, inr, subst, ap, arith, rules}
use Rattle.std.proofs.lemmas.Int.{to_z-of_z}
use mir.Syntax.{w16}
use mir.Val.{SFits}
use Rattle.vp_bool.proofs.WritingLemmas.{Continues-then}
use Rattle.vp_tokens.specs.Block.{Block, IsBlock, level_of}
use Rattle.vp_tokens.specs.Levels.{first_of}
use Rattle.vp_tokens.proofs.BlockWriting.{block_begun, end_written, level_written, done_written, so_far, so_far-none, so_far-more, so_far-all, not_last, start_next}
use Rattle.vp_tokens.proofs.block_writing.write_block.Goals as goal

pub loop-i-init : goal.loop-i-init
loop-i-init c =
    let v = c.args.what.now in
    let good : IsBlock v = subst (λ (b : Block). IsBlock b) c.what.view_is c.what.invariant in
    record {
      context_in = c.requires.context_in;
      from_in = inl refl;
      before = λ h. absurd (let e = c.first_of-i.ensures.value in omega arith);
      left = rw (c.bands_of-bands.ensures, c.first_of-i.ensures.value, so_far-none c.args.kind v good.whole c.requires.spelled) (block_begun c.args.probabilities.now c.args.kind c.args.context _);
    }

pub loop-i-preserved : goal.loop-i-preserved
loop-i-preserved c =
    let v = c.args.what.now in
    let i = c.loop-i.i in
    let first = first_of c.args.kind in
    let good : IsBlock v = subst (λ (b : Block). IsBlock b) c.what.view_is c.what.invariant in
    let end : c.what.inside.end ≡ v.end = ap (λ (b : Block). b.end) c.what.view_is in
    let z = get_or c.what.inside.levels i (pos 0) in
    let here : z ≡ level_of v i = ap (λ (b : Block). level_of b i) c.what.view_is in
    let fits : SFits w16 z = search rules in
    let w = rw (to_z-of_z w16 z fits) at c.in_ok-next.ensures.written in
    let next = rw (to_z-of_z w16 z fits) at c.in_ok-next.ensures.context in
    let start = rw (to_z-of_z w16 z fits) at c.in_ok-next.ensures.from in
    let one = level_written c.bands_of-bands.result.now i c.loop-i.context c.loop-i.from _ z (so_far first i v) c.loop-i-test.true c.row_of.ensures w in
    let low : first ≤ i = omega (arith, c.first_of-i.ensures.value) in
    let whole = good.whole in
    let more = so_far-more first i v low (omega arith) in
    record {
      context_in = omega (arith, next);
      from_in = start_next _ _ start (λ e small. let n : i + 1 < v.end = not_last c.args.kind v i c.requires.spelled (omega arith) (rw here at e) small in omega arith);
      before = λ h. omega arith;
      left = rw (next, start, here, ← more) (Continues-then c.loop-i.invariant.left (rw here at one));
    }

pub returns-then-i-end : goal.returns-then-i-end
returns-then-i-end c =
    let v = c.args.what.now in
    let i = c.loop-i.i in
    let first = first_of c.args.kind in
    let good : IsBlock v = subst (λ (b : Block). IsBlock b) c.what.view_is c.what.invariant in
    let end : c.what.inside.end ≡ v.end = ap (λ (b : Block). b.end) c.what.view_is in
    let low : first ≤ i = omega (arith, c.first_of-i.ensures.value) in
    let all = so_far-all c.args.kind i v good c.requires.spelled low (omega arith) (λ h. let b = c.loop-i.invariant.before h in omega arith) in
    let root : c.loop-i.from ≡ 0 = elim c.loop-i.invariant.from_in [
      | inl e ↦ e
      | inr second ↦ absurd (let more = second.1 c.loop-i-test.true in omega arith)
    ] in
    let w = end_written c.bands_of-bands.result.now i c.loop-i.context c.loop-i.from (so_far first i v) c.loop-i-test.true root c.in_ok-write_end_of_block.ensures in
    Continues-then (rw all at c.loop-i.invariant.left) (rw all at w)

pub returns : goal.returns
returns c =
    let v = c.args.what.now in
    let i = c.loop-i.i in
    let first = first_of c.args.kind in
    let good : IsBlock v = subst (λ (b : Block). IsBlock b) c.what.view_is c.what.invariant in
    let end : c.what.inside.end ≡ v.end = ap (λ (b : Block). b.end) c.what.view_is in
    let low : first ≤ i = omega (arith, c.first_of-i.ensures.value) in
    let few = good.count in
    let all = so_far-all c.args.kind i v good c.requires.spelled low (omega arith) (λ h. let b = c.loop-i.invariant.before h in omega arith) in
    let w = done_written c.bands_of-bands.result.now i c.loop-i.context c.loop-i.from (so_far first i v) c.loop-i.e c.loop-i-test.false in
    Continues-then (rw all at c.loop-i.invariant.left) (rw all at w)
