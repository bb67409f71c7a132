use Rattle.std.proofs.Common.{◌≡◌, ℕ, subst, sym}
use Rattle.vp_stream.specs.Seeking.{saturating_count}
use Rattle.vp_hub.specs.declared.event.Event.TheVariants.{Bytes}
use Rattle.vp_hub.specs.declared.picture_cache.PictureCache.{PictureCache}
use Rattle.vp_hub.specs.Hub.{connection_state_of}
use Rattle.vp_hub.specs.Work.{HaveCursors, CostsPiece, CostsPieceAtMost, Hub, IsWorked}
use Rattle.vp_hub.proofs.hub.Hub.bytes.Goals as goal

pub ask-requires-clause-cursors : goal.ask-requires-clause-cursors
ask-requires-clause-cursors c = subst (λ (p : PictureCache). HaveCursors c.self.inside.streams.sources p.kept.cursors) (sym c.begin.ensures) c.self.invariant.1

pub returns-clause-worked : goal.returns-clause-worked
returns-clause-worked c =
    let streams = c.self.inside.streams in
    let one = connection_state_of c.args.number c.self.inside.connections.items in
    let new : Hub = record {
      state = record { streams = streams; connections = c.ask.new.connections.items };
      cache = c.ask.new.pictures.kept.cache;
      cursors = c.ask.new.pictures.kept.cursors;
      work = c.ask.new.pictures.work;
    } in
    subst (λ (old : Hub). IsWorked old (Bytes c.args.number c.args.piece.now) c.ask.result new) c.self.view_is (record {
      work = λ e.
          subst (λ (p : PictureCache). (cost : ℕ) × CostsPiece streams c.args.piece.now one p.kept c.ask.new.pictures.kept cost
          × (c.ask.new.pictures.work ≡ saturating_count 0 cost)) c.begin.ensures (c.ask.ensures.work e);
      most = λ e.
          subst (λ (p : PictureCache). CostsPieceAtMost streams c.args.piece.now one p.kept c.ask.new.pictures.kept c.ask.new.pictures.work)
          c.begin.ensures (c.ask.ensures.most e);
    })
