use Rattle.std.proofs.Common.{◌≡◌, suc, ◌+◌, ◌-◌, arith, ◌∙◌, sym}
use Rattle.vp_bool.specs.Bools.{read, literal}
use Rattle.vp_bool.proofs.LawLemmas.{reads_number_on}
use Rattle.vp_bool.proofs.BoolLemmas.{literal-value, literal-after, literal-none, bit_room}
use Rattle.vp_bool.proofs.decoder.BoolDecoder.literal.Goals as goal

pub loop-bit-preserved : goal.loop-bit-preserved
loop-bit-preserved c =
    let left = c.args.bits - c.loop-bit._bit in
    let behind = c.args.bits - (c.loop-bit._bit + 1) in
    let one : left ≡ suc behind = omega arith in
    rw (c.from.ensures, c.read_even.ensures.value, c.read_even.ensures.rest)
    (record {
      value = literal-value c.loop-bit.value left behind c.loop-bit.self one ∙ c.loop-bit.invariant.value;
      after = literal-after left behind c.loop-bit.self one ∙ c.loop-bit.invariant.after;
      room = bit_room c.loop-bit.value c.loop-bit._bit (read 128 c.loop-bit.self).0 c.loop-bit.invariant.room;
    })

value : (c : goal.After-loop-bit) → c.loop-bit.value ≡ (literal c.args.bits c.args.self.now).0
value c =
    sym (literal-none c.loop-bit.value (c.args.bits - c.loop-bit._bit) c.loop-bit.self (omega arith)).0 ∙ c.loop-bit.invariant.value

after : (c : goal.After-loop-bit) → c.loop-bit.self ≡ (literal c.args.bits c.args.self.now).1
after c =
    sym (literal-none c.loop-bit.value (c.args.bits - c.loop-bit._bit) c.loop-bit.self (omega arith)).1 ∙ c.loop-bit.invariant.after

pub returns-clause-value : goal.returns-clause-value
returns-clause-value c = value c

pub returns-clause-rest : goal.returns-clause-rest
returns-clause-rest c = after c

pub returns-clause-run : goal.returns-clause-run
returns-clause-run c = reads_number_on c.args.bits c.args.self.now _ _ (value c) (after c)
