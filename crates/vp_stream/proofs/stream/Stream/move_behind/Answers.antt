use Rattle.std.proofs.Common.{◌≡◌, ◌∙◌, ap, arith}
use Rattle.std.proofs.lemmas.Grind.{common_steps}
use Rattle.std.proofs.lemmas.Result.{on_ok_weaker, on_err_weaker}
use Rattle.vp_stream.specs.Seeking.{seek_start}
use Rattle.vp_stream.specs.Stream.{Stream}
use Rattle.vp_stream.proofs.AnswerLemmas.{first_le}
use Rattle.vp_stream.proofs.CursorLemmas.{moved_behind, amount}
use Rattle.vp_stream.proofs.stream.Stream.move_behind.Goals as goal

pub place-requires : goal.place-requires
place-requires c =
    let start : c.unwrap_or-start.result ≡ seek_start c.args.self.now.reading.packets c.args.n = grind (arith, common_steps) in
    omega (arith, start, first_le c.args.self.now.reading.packets c.args.n)

pub returns-clause-cursor : goal.returns-clause-cursor
returns-clause-cursor c =
    let ps = c.args.self.now.reading.packets in
    let limits = c.args.self.now.limits in
    let start : c.unwrap_or-start.result ≡ seek_start ps c.args.n = grind (arith, common_steps) in
    let items : c.deref-3.result.now ≡ ps = grind (arith, common_steps) in
    let own : c.self.inside.limits ≡ limits = ap (λ (s : Stream). s.limits) c.self.view_is in
    on_ok_weaker c.decode_each.result
    (λ e. moved_behind limits c.self.inside.limits ps c.deref-3.result.now c.args.n c.unwrap_or-start.result c.next.result c.args.cursor.now c.place.new.self c.decode_each.new.self
    (λ state packet. c.key_packet_resets.ensures limits state packet) (λ packet. c.first_byte_says_kind.ensures.inter limits packet)
    start c.requires.there c.requires.cursor.decoded own items c.place.ensures.place c.next.ensures e)
    c.decode_each.ensures.cursor

pub returns-clause-count : goal.returns-clause-count
returns-clause-count c =
    let ps = c.args.self.now.reading.packets in
    let start : c.unwrap_or-start.result ≡ seek_start ps c.args.n = grind (arith, common_steps) in
    let items : c.deref-3.result.now ≡ ps = grind (arith, common_steps) in
    on_ok_weaker c.decode_each.result
    (λ e. e ∙ amount c.self.inside.limits ps c.deref-3.result.now c.args.n c.unwrap_or-start.result c.next.result c.args.decoded.now c.args.cursor.now c.place.new.self
    start c.requires.there items c.place.ensures.place c.next.ensures c.requires.none)
    c.decode_each.ensures.count

pub returns-clause-most : goal.returns-clause-most
returns-clause-most c =
    let ps = c.args.self.now.reading.packets in
    let start : c.unwrap_or-start.result ≡ seek_start ps c.args.n = grind (arith, common_steps) in
    let items : c.deref-3.result.now ≡ ps = grind (arith, common_steps) in
    on_err_weaker c.decode_each.result
    (λ l. omega (
      arith,
      l,
      amount c.self.inside.limits ps c.deref-3.result.now c.args.n c.unwrap_or-start.result c.next.result c.args.decoded.now c.args.cursor.now c.place.new.self
          start c.requires.there items c.place.ensures.place c.next.ensures c.requires.none,
    ))
    c.decode_each.ensures.most
