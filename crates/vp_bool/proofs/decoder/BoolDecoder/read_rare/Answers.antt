use Rattle.std.proofs.Common.{◌≡◌, ℕ, ◌+◌, ◌-◌, ◌*◌, ◌/◌, ◌%◌, ◌^◌, ◌<◌, ◌≤◌, false, arith, ◌∙◌, ap, sym}
use Rattle.vp_bool.specs.Bools.{read, split_of}
use Rattle.vp_bool.specs.Window.{window_state, word_state, IsWindow}
use Rattle.vp_bool.specs.declared.decoder.Window.{Window}
use Rattle.vp_bool.proofs.BoolLemmas.{normal-still}
use Rattle.vp_bool.proofs.LawLemmas.{reads_on}
use Rattle.vp_bool.proofs.MarkLemmas.{word-range, normal_from}
use Rattle.vp_bool.proofs.PartLemmas.{IsPart, part_false, whole_bound}
use Rattle.vp_bool.proofs.decoder.BoolDecoder.read_rare.Goals as goal
use Rattle.vp_bool.proofs.decoder.BoolDecoder.read_rare.Goals.{Else-self-from}

-- the split, and what is left of a false bool
split_is : (p from r : ℕ) → from ≡ p → 1 + from * (r - 1) / 256 ≡ split_of p r
split_is p from r e = let c : from * (r - 1) ≡ (r - 1) * p = rw e (omega arith) in ap (λ n. 1 + n / 256) c

left : (w : Window) (p from split : ℕ) → p < 256 → IsWindow w → from ≡ p → split ≡ 1 + from * (w.range - 1) / 256 → w.value < split * 2 ^ 56 % 2 ^ 64
    → IsPart p (window_state w) false w.value (split_of p w.range) w.count w.rest.now
left w p from split byte good e is below =
    let own : split ≡ split_of p w.range = is ∙ split_is p from w.range e in
    let b = whole_bound p w.value w.range w.count w.rest.now byte good.aligned good.few good.sound good.bytes split own in
    part_false p w.value w.range w.count w.rest.now byte good.aligned good.few good.sound good.bytes (rw (← b) below)

kept : (c : Else-self-from) → IsPart c.args.probability (window_state c.self.inside.window) false c.self.inside.window.value (split_of c.args.probability c.self.inside.window.range) c.self.inside.window.count c.self.inside.window.rest.now
kept c =
    left c.self.inside.window c.args.probability c.from.result c.from-else-split-lt128.result (omega arith) c.self.invariant c.from.ensures c.from-else-split-lt128.ensures c.if-self-from.false

-- the state of the window with the split as its range
rest : (c : Else-self-from) → word_state c.self.inside.window.value (1 + c.from.result * (c.self.inside.window.range - 1) / 256) c.self.inside.window.count c.self.inside.window.rest.now
    ≡ (read c.args.probability c.args.self.now).1
rest c =
    let w = c.self.inside.window in
    let own = split_is c.args.probability c.from.result w.range c.from.ensures in
    let now = word_state w.value (split_of c.args.probability w.range) w.count w.rest.now in
    let wide : 128 ≤ split_of c.args.probability w.range = rw (← own) c.if-split-lt128.false in
    let wide' : 128 ≤ now.range = rw (word-range w.value (split_of c.args.probability w.range) w.count w.rest.now) wide in
    ap (λ r. word_state w.value r w.count w.rest.now) own
    ∙ sym (normal-still 7 now wide') ∙ (kept c).after ∙ ap (λ s. (read c.args.probability s).1) c.self.view_is

pub invariant_of-self : goal.invariant_of-self
invariant_of-self c =
    let w = c.self.inside.window in
    let good = c.self.invariant in
    let own = split_is c.args.probability c.from.result w.range c.from.ensures in
    let taken = (left w c.args.probability c.from.result c.from-else-split-lt128.result (omega arith) good c.from.ensures c.from-else-split-lt128.ensures c.if-self-from.false).taken in
    record {
      sound = rw own (normal_from w.value (split_of c.args.probability w.range) w.count w.rest.now taken (rw (← own) c.if-split-lt128.false));
      few = good.few;
      aligned = good.aligned;
      bytes = good.bytes;
    }

pub returns-clause-value : goal.returns-clause-value
returns-clause-value c = (kept (goal.at.returns-clause-value c).Else-self-from).value ∙ ap (λ s. (read c.args.probability s).0) c.self.view_is

pub returns-clause-rest : goal.returns-clause-rest
returns-clause-rest c = rest (goal.at.returns-clause-rest c).Else-self-from

pub returns-clause-run : goal.returns-clause-run
returns-clause-run c =
    reads_on c.args.probability c.args.self.now _ _ (omega arith) ((kept (goal.at.returns-clause-run c).Else-self-from).value ∙ ap (λ s. (read c.args.probability s).0) c.self.view_is) (rest (goal.at.returns-clause-run c).Else-self-from)
