use Rattle.std.proofs.Common.{◌≡◌, Some, slice_get, arith}
use Rattle.vp_tree.proofs.Spellings.{path_within, Writes-path}
use Rattle.vp_tree.proofs.writing.write_tree_from.Goals as goal

pub write_path-requires : goal.write_path-requires
write_path-requires g c k step e =
    let p = c.path_from-path.ensures in
    let here : slice_get c.path_from-path.result.items k ≡ Some step = rw (← c.as_slice.ensures.value) e in
    let within = path_within c.args.tree.now c.path_from-path.result.items c.args.from p.place k step c.requires.formed c.requires.from_in p.is_path here in
    omega (arith, within, c.requires.probs_in)

pub returns : goal.returns
returns g c d =
    let written = rw (c.as_slice.ensures.value) at c.in_ok-write_path.ensures in
    Writes-path c.args.tree.now c.args.probabilities.now c.path_from-path.result.items c.args.from c.args.leaf _ _ c.requires.formed c.requires.from_in
    (λ i. omega (arith, c.type_inv.probabilities i))
    c.path_from-path.ensures
    written
    d
