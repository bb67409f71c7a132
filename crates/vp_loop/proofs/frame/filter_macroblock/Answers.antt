use Rattle.std.proofs.Common.{◌∙◌, ℕ, ◌*◌, Option, Some, ap, sym}
use Rattle.vp_base.specs.Image.{Image}
use Rattle.vp_loop.specs.declared.limits.EdgeLimits.{EdgeLimits}
use Rattle.vp_loop.specs.declared.limits.FilterKind.{FilterKind}
use Rattle.vp_loop.specs.Edges.{chroma_limits, block_filtered}
use Rattle.vp_loop.proofs.frame.filter_macroblock.Goals as goal

-- luma by one value of the limits, chroma by another
abbrev planes : ℕ → ℕ → Image → Option EdgeLimits → Option EdgeLimits → Image
planes column row p luma chroma = record p {
  luma = block_filtered 16 luma (16 * column) (16 * row) p.luma;
  u = block_filtered 8 (chroma_limits chroma) (8 * column) (8 * row) p.u;
  v = block_filtered 8 (chroma_limits chroma) (8 * column) (8 * row) p.v;
}

pub returns-in-None : goal.returns-in-None
unfolding block_filtered
returns-in-None c = ap (λ (l : Option EdgeLimits). planes c.args.column c.args.row c.args.picture.now l l) (sym c.in-None.is ∙ c.of.ensures)

pub returns-in-Simple : goal.returns-in-Simple
unfolding block_filtered
returns-in-Simple c =
    let limits = c.in-Some.limits in
    let p = c.args.picture.now in
    c.filter_planes.ensures
    ∙ (ap (λ (k : FilterKind). planes c.args.column c.args.row p (Some limits) (Some (record limits { kind = k }))) (sym c.in-Simple.is)
    ∙ ap (λ (l : Option EdgeLimits). planes c.args.column c.args.row p l l) (sym c.in-Some.is ∙ c.of.ensures))
