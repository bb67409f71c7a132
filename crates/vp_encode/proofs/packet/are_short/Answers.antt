use Rattle.std.proofs.Common.{◌≡◌, ◌∙◌, ◌<◌, ◌-◌, [], length, take, get_or, arith, inl, inr, below_more}
use Rattle.std.proofs.lemmas.Bool.{cases_lt}
use Rattle.std.proofs.lemmas.List.{length-map, length-take, get_or-take, get_or_past}
use Rattle.vp_tokens.specs.Partitions.{lists}
use Rattle.vp_tokens.proofs.PuttingLemmas.{list_at}
use Rattle.vp_encode.proofs.packet.are_short.Goals.{After-len}
use Rattle.vp_encode.proofs.packet.are_short.Goals as goal

-- the part among all
here : (c : After-len) → get_or (lists c.args.parts.now) c.loop-part.part-index [] ≡ c.part-item.result.items
here c =
    let parts = c.args.parts.now in
    let inside : c.loop-part.part-index < length parts - 1 = omega (arith, c.loop-part-test.true, length-take (length parts - 1) parts) in
    list_at parts c.loop-part.part-index c.part-item.result (omega arith) (c.part-item.is ∙ get_or-take (length parts - 1) parts c.loop-part.part-index c.part-item.result inside)

pub returns-then-len-gt-MOST_PART-clause-long : goal.returns-then-len-gt-MOST_PART-clause-long
returns-then-len-gt-MOST_PART-clause-long c e =
    let parts = c.args.parts.now in (
      c.loop-part.part-index,
      omega (arith, c.loop-part-test.true, length-take (length parts - 1) parts, length-map parts (λ v. v.items)),
      rw (here (goal.at.returns-then-len-gt-MOST_PART-clause-long c).After-len) (omega (arith, c.part-item.result.ok.0)),
    )

pub loop-part-preserved : goal.loop-part-preserved
loop-part-preserved c = below_more _ _ c.loop-part.invariant (rw (here (goal.at.loop-part-preserved c).After-len) (omega (arith, c.part-item.result.ok.0)))

pub returns-clause-short : goal.returns-clause-short
returns-clause-short c e i =
    let parts = c.args.parts.now in
    let long = length-take (length parts - 1) parts in
    elim (cases_lt i (length parts - 1)) [
      | inl inside ↦ rw (get_or-take (length parts - 1) (lists parts) i [] inside) (c.loop-part.invariant i (omega (arith, long, c.loop-part-test.false)))
      | inr past ↦ rw (get_or_past (take (length parts - 1) (lists parts)) i [] (omega (arith, length-take (length parts - 1) (lists parts)))) (omega arith)
    ]
