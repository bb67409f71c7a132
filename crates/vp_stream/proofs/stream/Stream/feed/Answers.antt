use Rattle.std.proofs.Common.{◌≡◌, ◌++◌, List, None, ◌∙◌, sym, ap, subst, arith}
use Rattle.std.proofs.lemmas.Grind.{common_steps}
use Rattle.vp_ivf.specs.declared.packet.Packet.{Packet}
use Rattle.vp_ivf.specs.Reader.{refusal}
use Rattle.vp_stream.specs.Stream.{Stream, IsStreamAfter}
use Rattle.vp_stream.proofs.KeptLemmas.{room_after, kept_after, after_taking, stands_on}
use Rattle.vp_stream.proofs.stream.Stream.feed.Goals as goal

pub keep_waiting-requires-clause-few : goal.keep_waiting-requires-clause-few
keep_waiting-requires-clause-few c =
    let calm : refusal c.self.inside.reader ≡ None = grind (arith, common_steps) in
    omega (
      arith,
      c.self.inside.limits.packets_in_range.1,
      c.try_reserve.ensures.len,
      c.self.inside.packets.ok.0,
      room_after c.self.inside.limits c.self.inside.reader c.feed-result.new.self c.self.inside.packets.items c.feed-result.result c.args.piece.now
          c.self.invariant.taken c.self.invariant.room c.feed-result.ensures.memory (c.feed-result.ensures.reading calm),
    )

pub invariant_of-self-2 : goal.invariant_of-self-2
invariant_of-self-2 c =
    let calm : refusal c.self.inside.reader ≡ None = grind (arith, common_steps) in
    kept_after c.self.inside.limits c.self.inside.reader c.feed-result.new.self c.keep_waiting.new.reader c.self.inside.packets.items c.keep_waiting.new.packets.items c.keep_waiting.new.keys.items
    c.self.invariant.max c.feed-result.ensures.limits.0
    (room_after c.self.inside.limits c.self.inside.reader c.feed-result.new.self c.self.inside.packets.items c.feed-result.result c.args.piece.now
    c.self.invariant.taken c.self.invariant.room c.feed-result.ensures.memory (c.feed-result.ensures.reading calm))
    c.keep_waiting.ensures.reader
    (c.keep_waiting.ensures.packets ∙ ap (λ (ps : List Packet). ps ++ c.feed-result.new.self.reading.packets) c.try_reserve.ensures.items)
    c.keep_waiting.ensures.keys

pub returns-clause-stands : goal.returns-clause-stands
returns-clause-stands c = λ refuses kept h stands.
    let calm : refusal c.self.inside.reader ≡ None = grind (arith, common_steps) in
    let new = after_taking c.self.inside.limits c.self.inside.reader c.feed-result.new.self c.keep_waiting.new.reader c.self.inside.packets.items c.keep_waiting.new.packets.items c.args.piece.now
    c.self.invariant.max (c.feed-result.ensures.reading calm kept) c.keep_waiting.ensures.reader
    (c.keep_waiting.ensures.packets ∙ ap (λ (ps : List Packet). ps ++ c.feed-result.new.self.reading.packets) c.try_reserve.ensures.items) in
    stands_on _ _ h c.args.piece.now new (subst (λ (s : Stream). IsStreamAfter s h) (sym c.self.view_is) stands)
