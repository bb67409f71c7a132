use Rattle.std.proofs.Common.{◌<◌, ◌^◌, length, ap, arith, inl, inr}
use Rattle.std.proofs.lemmas.Result.{IfOk-weaker, IfErr-weaker}
use Rattle.vp_tables.specs.Modes.{is_by_subblocks}
use Rattle.vp_modes.specs.Entry.{Modes}
use Rattle.vp_tokens.specs.Partitions.{lists}
use Rattle.vp_encode.proofs.packet.write_packet.Goals as goal

pub write_tokens-requires-clause-plain : goal.write_tokens-requires-clause-plain
write_tokens-requires-clause-plain c = λ p inside inter. ap (λ (m : Modes). is_by_subblocks m.luma) ((c.requires.told.modes p inside).inter inter)

pub put_together-requires-clause-first : goal.put_together-requires-clause-first
put_together-requires-clause-first c = omega (arith, ap length c.deref.ensures.value, c.in_ok-first.first.ok.0, c.len.ensures, c.if-len-gt-MOST_FIRST.false)

pub returns-then-len-gt-MOST_FIRST-clause-too_long : goal.returns-then-len-gt-MOST_FIRST-clause-too_long
returns-then-len-gt-MOST_FIRST-clause-too_long c e = inl (c.in_ok-first.first.items, c.in_ok-first.ensures, omega (arith, c.in_ok-first.first.ok.0, c.len.ensures, c.if-len-gt-MOST_FIRST.true))

pub returns : goal.returns
returns c =
    let first = rw (← c.deref.ensures.value) at c.in_ok-first.ensures in
    let parts = rw (← c.deref-2.ensures.value) at c.in_ok-parts.ensures.parts in
    let short : length c.deref.result.now < 2 ^ 19 = omega (arith, ap length c.deref.ensures.value, c.in_ok-first.first.ok.0, c.len.ensures, c.if-len-gt-MOST_FIRST.false) in
    record {
      packet = IfOk-weaker c.put_together.result _ _
          (λ v x. record { first = c.deref.result.now; parts = lists c.deref-2.result.now; together = x; short = short; first_is = first; parts_are = parts }) c.put_together.ensures.together;
      too_long = IfErr-weaker c.put_together.result _ _
          (λ e long is. inr (lists c.deref-2.result.now, parts, long is)) c.put_together.ensures.too_long;
    }
