-- A macroblock is filtered plane by plane or edge by edge.
use Rattle.std.proofs.Common.{◌≡◌, ◌*◌, Option, Some, None, refl}
use Rattle.vp_loop.specs.declared.limits.EdgeLimits.{EdgeLimits}
use Rattle.vp_loop.specs.declared.limits.FilterKind.{FilterKind}
use Rattle.vp_loop.specs.declared.limits.FilterKind.TheVariants as filter_is
use Rattle.vp_loop.specs.Edges.{edge_limits, chroma_limits, block_edges, block_filtered}
use Rattle.vp_loop.specs.Laws.{filtered_by_edges, EdgeByEdge}

pub edge_by_edge : EdgeByEdge
unfolding block_filtered block_edges
edge_by_edge level column row p = go (edge_limits level)
  where
    by_kind : (kind : FilterKind) (limits : EdgeLimits) → let all = Some (record limits { kind = kind }) in
        filtered_by_edges all column row p ≡ record p {
          luma = block_filtered 16 all (16 * column) (16 * row) p.luma;
          u = block_filtered 8 (chroma_limits all) (8 * column) (8 * row) p.u;
          v = block_filtered 8 (chroma_limits all) (8 * column) (8 * row) p.v;
        }
    by_kind filter_is.Simple limits = refl
    by_kind filter_is.Normal limits = refl

    go : (limits : Option EdgeLimits) → filtered_by_edges limits column row p ≡ record p {
      luma = block_filtered 16 limits (16 * column) (16 * row) p.luma;
      u = block_filtered 8 (chroma_limits limits) (8 * column) (8 * row) p.u;
      v = block_filtered 8 (chroma_limits limits) (8 * column) (8 * row) p.v;
    }
    go None = refl
    go (Some limits) = by_kind limits.kind limits
