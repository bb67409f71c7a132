use Rattle.std.proofs.Common.{◌∙◌, sym, ap, arith, rules, Some, None}
use Rattle.std.specs.Prelude.{option_map}
use Rattle.std.proofs.lemmas.Int.{to_z-of_z}
use mir.Syntax.{w16}
use mir.Val.{SFits}
use Rattle.vp_bool.proofs.ReaderLemmas.{gives}
use Rattle.vp_tokens.specs.declared.block.Nonzero.{Nonzero}
use Rattle.vp_tokens.specs.Zeros.{NonzeroAt}
use Rattle.vp_tokens.proofs.LevelLemmas.{tokens_from-banded, level_done, no_tokens-good, good-more}
use Rattle.vp_tokens.proofs.ZeroLemmas.{block-ends, block-goes_on, passed, all_zeros, nonzero-read}
use Rattle.vp_tokens.proofs.block.read_block.Goals as goal

pub loop-i-init : goal.loop-i-init
loop-i-init c = record {
  context_in = c.requires.context_in;
  before = omega arith;
  good = no_tokens-good;
  inside = omega (arith, c.requires.first_in);
  so_far = tokens_from-banded c.args.bands.now c.args.first c.args.context c.args.d.now c.requires.first_in;
}

pub returns-then-end_of_block : goal.returns-then-end_of_block
returns-then-end_of_block c =
    let l = c.loop-i in
    let e = sym l.invariant.so_far ∙ block-ends c.args.bands.now l.i l.context _ _ _ _ c.loop-i-test.true c.row_of.ensures (sym c.end_of_block.ensures.value ∙ c.if-end_of_block.true) c.end_of_block.ensures.rest in
    let g = gives _ _ _ e in
    record { value = g.value; rest = g.rest }

-- the token that is found, as the definition has it
abbrev found_at : Nonzero → NonzeroAt
found_at n = record { position = n.position; row = n.row.now }

pub returns-in_default : goal.returns-in_default
returns-in_default c =
    let l = c.loop-i in
    let none = ap (option_map found_at) (sym c.in_default.is) ∙ c.pass_zeros.ensures.value in
    let goes = block-goes_on c.args.bands.now l.i l.context _ l.found _ _ c.loop-i-test.true c.row_of.ensures (sym c.end_of_block.ensures.value ∙ c.if-end_of_block.false) c.end_of_block.ensures.rest in
    let all = passed c.args.bands.now l.i l.context l.found None _ _ c.loop-i-test.true l.invariant.good l.invariant.before none c.pass_zeros.ensures.rest in
    let g = gives _ _ _ (sym l.invariant.so_far ∙ goes ∙ all ∙ all_zeros c.args.bands.now l.found.levels c.pass_zeros.new.d) in
    record { value = c.end_after_last.ensures ∙ g.value; rest = g.rest }

pub loop-i-preserved : goal.loop-i-preserved
loop-i-preserved c =
    let l = c.loop-i in
    let t = c.nonzero-token in
    let m = c.read_magnitude-magnitude in
    let r = c.read_signed in
    let next = found_at c.in-Some.next in
    let fits : SFits w16 r.result = search rules in
    let some = ap (option_map found_at) (sym c.in-Some.is) ∙ c.pass_zeros.ensures.value in
    let goes = block-goes_on c.args.bands.now l.i l.context _ l.found _ _ c.loop-i-test.true c.row_of.ensures (sym c.end_of_block.ensures.value ∙ c.if-end_of_block.false) c.end_of_block.ensures.rest in
    let zeros = passed c.args.bands.now l.i l.context l.found (Some next) _ _ c.loop-i-test.true l.invariant.good l.invariant.before some c.pass_zeros.ensures.rest in
    let read = nonzero-read c.args.bands.now l.found.levels next _ _ r.result _ _ _ _ t.ensures.value t.ensures.rest m.ensures.value m.ensures.rest r.ensures.value r.ensures.rest in
    record {
      context_in = c.context_after_token-context.ensures.small;
      before = rw c.put.ensures (omega arith);
      good = rw (c.put.ensures, to_z-of_z w16 r.result fits) (good-more l.found next.position r.result c.in-Some.ensures.inside l.invariant.good (omega (arith, c.in-Some.ensures.later, l.invariant.before)) r.ensures.within);
      inside = omega (arith, c.in-Some.ensures.inside);
      so_far = rw (c.put.ensures, to_z-of_z w16 r.result fits, c.context_after_token-context.ensures.value, m.ensures.context) (sym (goes ∙ zeros ∙ read) ∙ l.invariant.so_far);
    }

pub returns : goal.returns
returns c =
    let l = c.loop-i in
    let g = gives _ _ _ (sym l.invariant.so_far ∙ level_done c.args.bands.now l.i l.context 0 l.found l.d c.loop-i-test.false) in
    record { value = g.value; rest = g.rest }
