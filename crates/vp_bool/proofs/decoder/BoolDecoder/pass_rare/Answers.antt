use Rattle.std.proofs.Common.{◌≡◌, ℕ, ◌+◌, ◌-◌, ◌*◌, ◌%◌, ◌^◌, ◌<◌, ◌≤◌, arith, ◌∙◌, ap, sym}
use Rattle.vp_bool.specs.Bools.{State, bools, after_bools}
use Rattle.std.specs.Prelude.{replicate, false}
use Rattle.vp_bool.specs.Window.{window_state, word_state, IsNormalised}
use Rattle.vp_bool.proofs.MarkLemmas.{word-range, range_normal}
use Rattle.vp_bool.proofs.PassLemmas.{pass, passed, below_word, word_passed, whole}
use Rattle.vp_bool.proofs.decoder.BoolDecoder.pass_rare.Goals as goal
use Rattle.vp_bool.proofs.decoder.BoolDecoder.pass_rare.Goals.{Else-self-from}

below : (c : Else-self-from) → (window_state c.self.inside.window).value < ((window_state c.self.inside.window).range - c.args.count) * 2 ^ (window_state c.self.inside.window).scale
below c =
    let w = c.self.inside.window in
    let good = c.self.invariant in
    let range : ℕ = w.range - c.args.count in
    let whole_range = range_normal w.value w.range w.count w.rest.now good.sound in
    let small : range < 256 = omega (arith, whole_range.1) in
    let bound : c.from.result * 2 ^ 56 % 2 ^ 64 ≡ range * 2 ^ 56 = ap (λ n. n * 2 ^ 56 % 2 ^ 64) c.from.ensures ∙ whole range small in
    rw (word-range w.value w.range w.count w.rest.now)
    (below_word range w.value w.range w.count w.rest.now good.aligned good.few good.bytes (rw (← bound) c.if-self-from.false))

all : (c : Else-self-from) → (bools (replicate c.args.count 255) (window_state c.self.inside.window) ≡ replicate c.args.count false)
    × (after_bools (replicate c.args.count 255) (window_state c.self.inside.window) ≡ passed c.args.count (window_state c.self.inside.window))
all c =
    let w = c.self.inside.window in
    let wide : 128 + c.args.count ≤ w.range = omega (arith, c.if-range-lt128.false) in
    pass c.args.count (window_state w) (rw (word-range w.value w.range w.count w.rest.now) wide) c.self.invariant.sound.byte (below c)

-- the window with the range that is left
left : (c : Else-self-from) → passed c.args.count (window_state c.self.inside.window) ≡ word_state c.self.inside.window.value (c.self.inside.window.range - c.args.count) c.self.inside.window.count c.self.inside.window.rest.now
left c = let w = c.self.inside.window in word_passed c.args.count w.value w.range w.count w.rest.now

sound : (s : State) (n : ℕ) → s.value < (s.range - n) * 2 ^ s.scale → 128 ≤ s.range - n → s.range < 256 → IsNormalised (passed n s)
sound s n below wide byte = record { below = omega arith; normal = wide; byte = omega arith }

pub invariant_of-self : goal.invariant_of-self
invariant_of-self c =
    let good = c.self.invariant in
    let e = (goal.at.invariant_of-self c).Else-self-from in
    let w = c.self.inside.window in
    let range : (window_state w).range ≡ w.range = word-range w.value w.range w.count w.rest.now in
    record {
      sound = rw (← left e) (sound (window_state w) c.args.count (below e) (rw range c.if-range-lt128.false) good.sound.byte);
      few = good.few;
      aligned = good.aligned;
      bytes = good.bytes;
    }

pub returns-clause-bools : goal.returns-clause-bools
returns-clause-bools c = λ h. ap (λ s. bools (replicate c.args.count 255) s) (sym c.self.view_is) ∙ (all (goal.at.returns-clause-bools c).Else-self-from).0

pub returns-clause-after : goal.returns-clause-after
returns-clause-after c = λ h.
    let e = (goal.at.returns-clause-after c).Else-self-from in
    sym (left e) ∙ sym (all e).1 ∙ ap (λ s. after_bools (replicate c.args.count 255) s) c.self.view_is
