use Rattle.vp_decode.proofs.Words.{◌≡◌, ◌≢◌, ◌∙◌, Some, refl, sym, ap, subst, Place, Grid, Has, entry, Image, Header, Modes, Tokens, Blocks, any_token, without_tokens, AreContextsAt, predictor_of, Level, FrameInfo, factors_at, level_at, FrameDecoder, IsMacroblockAt, IsMacroblockStep, IsSameFrame}
use Rattle.vp_decode.proofs.ReadingLemmas.{one_frame, set_same, step_made}
use Rattle.vp_decode.proofs.frame_decoder.FrameDecoder.decode_macroblock.Goals as goal
use Rattle.vp_decode.proofs.frame_decoder.FrameDecoder.decode_macroblock.Goals.{Joined-modes, then-modes+then-not-is_by_subblocks, else-modes}

-- the state before the macroblock, and after it but for its filter level
abbrev before : Joined-modes → FrameDecoder
before c = record { info = c.self.inside.info.now; contexts = c.self.inside.contexts; picture = c.self.inside.picture; levels = c.self.inside.levels }

abbrev after : Joined-modes → Grid Level → FrameDecoder
after c levels = record { info = c.if-modes.self-inside.info.now; contexts = c.if-modes.self-inside.contexts; picture = c.if-modes.self-inside.picture; levels = levels }

kept : (c : Joined-modes) → IsSameFrame (before c) (after c c.if-modes.self-inside.levels)
kept c = elim c.if-modes.branch [
  | then-modes+then-not-is_by_subblocks w ↦
      let made = w.predict_macroblock.ensures without_tokens (factors_at c.self.inside.info.now c.args.place) refl in
      rw w.self-inside-is (record {
        info = refl;
        width = ap (λ (p : Image). p.width) made;
        height = ap (λ (p : Image). p.height) made;
        level_columns = refl;
        level_rows = refl;
        contexts = w.skip_macroblock.ensures.columns;
      })
  | else-modes w ↦ rw w.self-inside-is (record {
    info = refl;
    width = ap (λ (p : Image). p.width) w.rebuild_macroblock_by.ensures;
    height = ap (λ (p : Image). p.height) w.rebuild_macroblock_by.ensures;
    level_columns = refl;
    level_rows = refl;
    contexts = w.read_macroblock.ensures.columns;
  })
]

step : (c : Joined-modes) (g : Grid Blocks) (levels : Grid Level) → Has g c.args.place → AreContextsAt g c.args.place c.self.inside.contexts
    → ((tokens : Tokens) → c.if-modes.coded ≡ any_token tokens → entry levels c.args.place ≡ Some (level_at c.self.inside.info.now c.args.place tokens))
    → ((q : Place) → q ≢ c.args.place → entry levels q ≡ entry c.if-modes.self-inside.levels q)
    → IsMacroblockStep c.self.inside.info.now c.args.place g c.args.d.now c.if-modes.d (before c) (after c levels)
step c g levels has stands here elsewhere =
    let f : FrameInfo = c.self.inside.info.now in
    let at : IsMacroblockAt f c.args.place c.args.macroblock.now =
    subst (λ (a : FrameDecoder). IsMacroblockAt a.info c.args.place c.args.macroblock.now) (sym c.self.view_is) c.requires.macroblock in
    let skips = ap (λ (m : Modes). m.skip) (c.modes.view_is ∙ at.modes) in
    elim c.if-modes.branch [
      | then-modes+then-not-is_by_subblocks w ↦
          let none = w.skip_macroblock.ensures.value g c.args.d.now f.header.probabilities.coefficients stands in
          rw (w.self-inside-is, w.d-is)
          (step_made f c.args.place g c.args.d.now c.args.d.now (before c) _ (predictor_of c.args.macroblock.now.predictor) _ _ _ without_tokens (factors_at f c.args.place)
          at.predictor refl c.has_y2-has_y2.ensures (sym w.if-modes.true ∙ skips) refl (λ i. (sym none i).0) (λ i. (sym none i).1)
          (w.skip_macroblock.ensures.stands g has stands) (w.predict_macroblock.ensures without_tokens (factors_at f c.args.place) refl)
          (here without_tokens w.coded-is) (rw w.self-inside-is at elsewhere))
      | else-modes w ↦
          let read = w.read_macroblock in
          rw (w.self-inside-is, w.d-is)
          (step_made f c.args.place g c.args.d.now read.new.d (before c) _ (predictor_of c.args.macroblock.now.predictor) _ _ _ read.new.tokens w.factors.result.now
          at.predictor (ap (λ (h : Header). h.probabilities.coefficients) w.header-header.ensures) c.has_y2-has_y2.ensures skips
          (w.factors.ensures c.args.place at) (read.ensures.value g stands) (read.ensures.rest g stands) (read.ensures.stands g has stands) w.rebuild_macroblock_by.ensures
          (here read.new.tokens (w.coded-is ∙ w.any-coded.ensures)) (rw w.self-inside-is at elsewhere))
    ]

pub invariant_of-self : goal.invariant_of-self
invariant_of-self c =
    let j : Joined-modes = (goal.at.invariant_of-self c).Joined-modes in
    one_frame (before j) (after j c.set.new.self) (set_same (before j) _ _ _ _ c.set.ensures.changed (kept j)) c.self.invariant

pub returns-clause-same : goal.returns-clause-same
returns-clause-same c =
    let j : Joined-modes = (goal.at.returns-clause-same c).Joined-modes in rw (← c.self.view_is) (set_same (before j) _ _ _ _ c.set.ensures.changed (kept j))

pub returns-clause-step : goal.returns-clause-step
returns-clause-step c = λ g has stands.
    let j : Joined-modes = (goal.at.returns-clause-step c).Joined-modes in
    subst (λ (a : FrameDecoder). IsMacroblockStep a.info c.args.place g c.args.d.now c.if-modes.d a (after j c.set.new.self)) c.self.view_is
    (step j g c.set.new.self has (rw (← c.self.view_is) at stands)
    (λ tokens coded. c.set.ensures.here ∙ ap (λ (l : Level). Some l) (c.level.ensures c.args.place tokens
    (subst (λ (a : FrameDecoder). IsMacroblockAt a.info c.args.place c.args.macroblock.now) (sym c.self.view_is) c.requires.macroblock) coded))
    c.set.ensures.elsewhere)
