use Rattle.std.proofs.Common.{◌≡◌, ◌∙◌, ap, arith, refl}
use Rattle.vp_bool.specs.Intervals.{write}
use Rattle.vp_bool.specs.Spelling.{spells}
use Rattle.vp_bool.proofs.IntervalLemmas.{open-write}
use Rattle.vp_bool.proofs.WritingLemmas.{Writes-read}
use Rattle.vp_bool.proofs.encoder.BoolEncoder.write_pair.Goals as goal

pub invariant_of-self-2 : goal.invariant_of-self-2
invariant_of-self-2 c =
    record {
      valid =
          rw (c.added-self-inside.ensures.write c.make_room.new.bytes.items, c.added-pending.ensures.write c.make_room.new.bytes.items, c.make_room.ensures.same)
          (open-write c.args.second c.args.second_probability _ (omega arith) (open-write c.args.first c.args.first_probability _ (omega arith) c.self.invariant.valid));
      pending = c.added-self-inside.ensures.pending;
      most = omega (arith, c.added-self-inside.ensures.few, c.added-pending.ensures.few, c.in_ok-make_room.ensures.room);
      bytes = c.make_room.ensures.bytes;
      limit = c.make_room.ensures.limit;
      ahead = c.make_room.ensures.ahead;
      empty = λ h. absurd (omega (arith, h, c.in_ok-make_room.ensures.asked));
    }

written : (c : goal.After-self-1) → spells c.make_room.new.bytes.items c.added-self-inside.result ≡ write c.args.second c.args.second_probability (write c.args.first c.args.first_probability c.args.self.now)
written c =
    c.added-self-inside.ensures.write c.make_room.new.bytes.items
    ∙ ap (write c.args.second c.args.second_probability)
    (c.added-pending.ensures.write c.make_room.new.bytes.items ∙ ap (write c.args.first c.args.first_probability) (c.make_room.ensures.same ∙ c.self.view_is))

pub returns-clause-ok : goal.returns-clause-ok
returns-clause-ok c = written c

pub returns-clause-reads_first : goal.returns-clause-reads_first
returns-clause-reads_first c = Writes-read c.args.first_probability c.args.first (omega arith) refl

pub returns-clause-reads_second : goal.returns-clause-reads_second
returns-clause-reads_second c = Writes-read c.args.second_probability c.args.second (omega arith) (written c)
