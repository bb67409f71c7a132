use Rattle.std.proofs.Common.{◌≡◌, ◌∙◌, ◌<◌, ◌++◌, ℕ, List, [], length, get_or, ap, arith}
use Rattle.std.proofs.lemmas.List.{append-nil, length-map}
use Rattle.byteorder.specs.Endian.{little_bytes}
use Rattle.vp_tokens.specs.Partitions.{lists, size_bytes}
use Rattle.vp_tokens.proofs.PuttingLemmas.{list_at, put_more}
use Rattle.vp_tokens.proofs.partitions.put_sizes.Goals as goal

pub overflow_cast-len : goal.overflow_cast-len
overflow_cast-len c =
    let here = list_at c.args.parts.now c.loop-part.part-index c.part-item.result c.loop-part-test.true c.part-item.is in
    let low = rw here at (c.requires c.loop-part.part-index) in
    omega (arith, c.part-item.result.ok.0)

pub write_u24-requires-clause-fits : goal.write_u24-requires-clause-fits
write_u24-requires-clause-fits c =
    let here = list_at c.args.parts.now c.loop-part.part-index c.part-item.result c.loop-part-test.true c.part-item.is in
    let low = rw here at (c.requires c.loop-part.part-index) in
    omega (arith, c.part-item.result.ok.0)

pub loop-part-preserved : goal.loop-part-preserved
loop-part-preserved c =
    let ps = lists c.args.parts.now in
    let i = c.loop-part.part-index in
    let here = list_at c.args.parts.now i c.part-item.result c.loop-part-test.true c.part-item.is in
    let len : c.len.result ≡ length (get_or ps i []) = rw here (omega (arith, c.part-item.result.ok.0)) in
    let entry = c.write_u24.ensures ∙ append-nil (little_bytes 3 c.len.result) ∙ ap (little_bytes 3) len in
    let within : i < length ps = omega (arith, length-map c.args.parts.now (λ v. v.items)) in
    put_more size_bytes _ _ _ ps i within c.loop-part.invariant (c.in_ok-extend_from_slice.ensures.items ∙ ap (λ (l : List ℕ). c.loop-part.bytes.items ++ l) entry)
