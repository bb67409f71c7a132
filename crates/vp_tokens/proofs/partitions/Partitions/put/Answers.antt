use Rattle.std.proofs.Common.{◌≡◌, ◌∙◌, ◌-◌, ◌<◌, ◌++◌, List, ℕ, length, take, sym, ap, arith}
use Rattle.std.proofs.lemmas.List.{take-map, take_all, append-nil, length-map}
use Rattle.vp_tokens.specs.Partitions.{lists}
use Rattle.vp_tokens.proofs.PuttingLemmas.{table, put_is_cut, list_at, put_more}
use Rattle.vp_tokens.proofs.partitions.Partitions.put.Goals as goal

pub put_sizes-requires : goal.put_sizes-requires
put_sizes-requires c i = rw (take-map (λ v. v.items) (length c.args.parts.now - 1) c.args.parts.now) at (c.requires.sizes i)

pub loop-part-init : goal.loop-part-init
loop-part-init c =
    let n = length c.args.parts.now - 1 in
    c.in_ok-put_sizes.ensures
    ∙ (λ j. c.new-bytes.ensures.items j ++ table (lists (take n c.args.parts.now)))
    ∙ ap table (sym (take-map (λ v. v.items) n c.args.parts.now))
    ∙ sym (append-nil (table (take n (lists c.args.parts.now))))

pub loop-part-preserved : goal.loop-part-preserved
loop-part-preserved c =
    let ps = lists c.args.parts.now in
    let i = c.loop-part.part-index in
    let here = list_at c.args.parts.now i c.part-item.result c.loop-part-test.true c.part-item.is in
    let within : i < length ps = omega (arith, length-map c.args.parts.now (λ v. v.items)) in
    put_more (λ p. p) _ _ _ ps i within c.loop-part.invariant (c.in_ok-extend_from_slice.ensures.items ∙ ap (λ (l : List ℕ). c.loop-part.bytes.items ++ l) (c.deref.ensures.value ∙ sym here))

pub returns : goal.returns
returns c =
    let ps = lists c.args.parts.now in
    let whole : length ps ≡ length c.args.parts.now = length-map c.args.parts.now (λ v. v.items) in
    let all = take_all c.loop-part.part-index ps (omega arith) in
    put_is_cut ps (length c.args.parts.now) c.loop-part.bytes.items whole c.requires.some c.requires.sizes (rw all at c.loop-part.invariant)
