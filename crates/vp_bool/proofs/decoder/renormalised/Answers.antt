use Rattle.std.proofs.Common.{◌≡◌, ◌-◌, ◌*◌, ◌≤◌, ◌%◌, ◌^◌, ℕ, List, length, get_or, inl, inr, arith}
use Rattle.std.proofs.lemmas.Bool.{cases_lt}
use Rattle.vp_bool.specs.Bools.{renormalised}
use Rattle.vp_bool.specs.Window.{word_state, AreBytes, IsUnnormalised}
use Rattle.vp_bool.specs.declared.decoder.TheConstants.{DOUBLINGS}
use Rattle.vp_bool.proofs.BoolLemmas.{sound-normal}
use Rattle.vp_bool.proofs.TopLemmas.{Doubling, doubling}
use Rattle.vp_bool.proofs.MarkLemmas.{IsSettled, range_taken, moved_along, moved_loaded, moved_ended}
use Rattle.vp_bool.proofs.decoder.renormalised.Goals as goal
use Rattle.vp_bool.proofs.decoder.renormalised.Goals.{then-shift-now, else-shift-now, Joined-shift-now}

-- the shift, by the table
few : (r n v c : ℕ) (bs : List ℕ) → IsUnnormalised (word_state v r c bs) → n ≡ get_or DOUBLINGS r 0 → Doubling r n
few r n v c bs taken e = let range = range_taken v r c bs taken in doubling r n range.0 range.1 e

pub load-now-requires-clause-low : goal.load-now-requires-clause-low
load-now-requires-clause-low c =
    omega (arith, (few c.args.range c.from-shift.result c.args.value c.args.window.count c.args.window.rest.now c.requires.taken c.from-shift.ensures).few)

-- the word that is left, after the bytes that were loaded
settles : (c : Joined-shift-now) → IsSettled (c.if-shift-now.now.value * 2 ^ c.from-shift.result % 2 ^ 64) (c.args.range * 2 ^ c.from-shift.result % 2 ^ 32) (c.if-shift-now.now.count - c.from-shift.result) c.if-shift-now.now.rest.now (renormalised 7 (word_state c.args.value c.args.range c.args.window.count c.args.window.rest.now)) × AreBytes c.if-shift-now.now.rest.now × (c.from-shift.result ≤ c.if-shift-now.now.count)
settles c =
    let w = c.args.window in
    let d = few c.args.range c.from-shift.result c.args.value w.count w.rest.now c.requires.taken c.from-shift.ensures in
    elim c.if-shift-now.branch [
      | then-shift-now b ↦
          rw (b.now-is)
          (moved_along c.args.value c.args.range w.count c.from-shift.result w.rest.now c.requires.aligned c.requires.few c.requires.taken d b.if-shift-now.true, c.requires.bytes, b.if-shift-now.true)
      | else-shift-now b ↦ elim (cases_lt 0 (length w.rest.now)) [
        | inl some ↦
            let more = b.load-now.ensures.more some in
            rw (b.now-is)
            (moved_loaded c.args.value c.args.range w.count c.from-shift.result w.rest.now c.requires.aligned c.requires.few c.requires.taken d b.load-now.result.value b.load-now.result.count b.load-now.result.rest.now some more.enough more.few more.aligned (more.same c.args.range), more.bytes, omega (arith, d.few, more.enough))
        | inr none ↦
            let length-none : length w.rest.now ≡ 0 = omega arith in
            let end = b.load-now.ensures.none length-none in
            rw (b.now-is, end.value, end.count, end.rest)
            (moved_ended c.args.value c.args.range w.count c.from-shift.result w.rest.now c.requires.aligned c.requires.few c.requires.taken d b.if-shift-now.false length-none, c.requires.bytes, omega (arith, d.few))
      ]
    ]

pub overflow_shl-result : goal.overflow_shl-result
overflow_shl-result c =
    omega (arith, (few c.args.range c.from-shift.result c.args.value c.args.window.count c.args.window.rest.now c.requires.taken c.from-shift.ensures).few)

pub overflow_shl-result-2 : goal.overflow_shl-result-2
overflow_shl-result-2 c =
    omega (arith, (few c.args.range c.from-shift.result c.args.value c.args.window.count c.args.window.rest.now c.requires.taken c.from-shift.ensures).few)

pub overflow_sub-result : goal.overflow_sub-result
overflow_sub-result c = (settles (goal.at.overflow_sub-result c).Joined-shift-now).2

pub returns-clause-after : goal.returns-clause-after
returns-clause-after c = (settles (goal.at.returns-clause-after c).Joined-shift-now).0.after

pub returns-clause-window : goal.returns-clause-window
returns-clause-window c =
    let s = settles (goal.at.returns-clause-window c).Joined-shift-now in
    record { sound = rw s.0.after (sound-normal _ c.requires.taken); few = s.0.few; aligned = s.0.aligned; bytes = s.1 }
