use Rattle.std.proofs.Common.{◌≡◌, ◌∙◌, Option, Some, None, true, is_some, sym, ap, subst, true≢false}
use Rattle.std.specs.Prelude.{IfSome}
use Rattle.vp_quant.specs.declared.factors.Factors.{Factors}
use Rattle.vp_recon.specs.Predictor.{macroblock_of}
use Rattle.vp_choose.specs.Coding.{HasPrediction, HasLevels}
use Rattle.vp_recon.specs.Given.{IsGiven}
use Rattle.vp_choose.specs.declared.subblocks.Subblocks.{Subblocks}
use Rattle.vp_choose.specs.declared.coding.Coding.{Coding}
use Rattle.vp_choose.proofs.coding.Coding.complete.Goals as goal

of_some : (E : Type 0) (P : Subblocks → Type 0) (o : Option Subblocks) → is_some o ≡ true → IfSome o P → IfSome o (λ s. P s → E) → E
of_some E P None e h more = absurd (true≢false (sym e))
of_some E P (Some s) e h more = more h

pub returns-clause-rebuilt : goal.returns-clause-rebuilt
returns-clause-rebuilt c predictor pred =
    let coding : Coding = c.args.self.now in
    let tokens = c.tokens-tokens.result in
    let same : c.is_some-by_subblocks.result ≡ is_some coding.subblocks = c.is_some-by_subblocks.ensures ∙ ap (λ (a : Coding). is_some a.subblocks) c.self.view_is in
    let given : IsGiven (macroblock_of predictor tokens c.args.factors.now) c.args.place c.args.picture.now coding.prediction = record {
      at_once = λ off. pred.at_once (sym pred.sub_modes ∙ off);
      by_subblocks = λ on. of_some _ _ coding.subblocks (sym pred.sub_modes ∙ on) c.tokens-tokens.ensures.by_subblocks (pred.by_subblocks tokens);
      u = pred.u;
      v = pred.v;
    } in
    c.rebuild_from.ensures predictor (rw same pred.sub_modes) (rw same pred.y2)
    (subst (λ (a : Coding). IsGiven (macroblock_of predictor tokens c.args.factors.now) c.args.place c.args.picture.now a.prediction) (sym c.self.view_is) given)

pub returns-clause-levels : goal.returns-clause-levels
returns-clause-levels c original predictor cut pred =
    subst (λ (f : Factors). HasPrediction predictor f c.args.place c.args.picture.now c.args.self.now → HasLevels original predictor f c.args.place c.args.picture.now c.args.self.now c.tokens-tokens.result) c.raw.ensures
    (c.tokens-tokens.ensures.levels original c.args.picture.now c.args.place predictor cut) pred
