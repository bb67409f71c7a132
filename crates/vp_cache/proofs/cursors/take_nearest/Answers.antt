use Rattle.std.proofs.Common.{◌∙◌, ap, sym, Option, Some, None, ℕ}
use Rattle.vp_cache.specs.Cursors.{without}
use Rattle.vp_cache.proofs.CursorLemmas.{nearest_found, removed, taken, nearest_seen, place_seen}
use Rattle.vp_cache.proofs.cursors.take_nearest.Goals as goal

pub returns-in_err-place-clause-entries : goal.returns-in_err-place-clause-entries
returns-in_err-place-clause-entries c =
    let near = nearest_seen c.args.stream_no c.args.start c.args.end c.args.entries.now.items c.deref.result.now c.nearest.result (Some c.in_ok-next.next) c.deref.ensures.value c.nearest.ensures c.in_ok-next.was in
    let place = place_seen c.args.stream_no c.in_ok-next.next c.args.entries.now.items c.deref-2.result.now c.place_of.result None c.deref-2.ensures.value c.place_of.ensures.place c.in_err-place.was in
    absurd (nearest_found c.args.stream_no c.args.start c.args.end c.in_ok-next.next c.args.entries.now.items near place)

pub returns-in_err-place-clause-cursor : goal.returns-in_err-place-clause-cursor
returns-in_err-place-clause-cursor c =
    let near = nearest_seen c.args.stream_no c.args.start c.args.end c.args.entries.now.items c.deref.result.now c.nearest.result (Some c.in_ok-next.next) c.deref.ensures.value c.nearest.ensures c.in_ok-next.was in
    let place = place_seen c.args.stream_no c.in_ok-next.next c.args.entries.now.items c.deref-2.result.now c.place_of.result None c.deref-2.ensures.value c.place_of.ensures.place c.in_err-place.was in
    absurd (nearest_found c.args.stream_no c.args.start c.args.end c.in_ok-next.next c.args.entries.now.items near place)

pub returns-clause-entries : goal.returns-clause-entries
returns-clause-entries c =
    let near = nearest_seen c.args.stream_no c.args.start c.args.end c.args.entries.now.items c.deref.result.now c.nearest.result (Some c.in_ok-next.next) c.deref.ensures.value c.nearest.ensures c.in_ok-next.was in
    let place = place_seen c.args.stream_no c.in_ok-next.next c.args.entries.now.items c.deref-2.result.now c.place_of.result (Some c.in_ok-place.place) c.deref-2.ensures.value c.place_of.ensures.place c.in_ok-place.was in
    c.remove.ensures.items
    ∙ (removed c.args.stream_no c.in_ok-next.next c.args.entries.now.items c.in_ok-place.place c.remove.result place
    ∙ ap (λ (o : Option ℕ). without c.args.stream_no o c.args.entries.now.items) (sym near))

pub returns-clause-cursor : goal.returns-clause-cursor
returns-clause-cursor c =
    let near = nearest_seen c.args.stream_no c.args.start c.args.end c.args.entries.now.items c.deref.result.now c.nearest.result (Some c.in_ok-next.next) c.deref.ensures.value c.nearest.ensures c.in_ok-next.was in
    let place = place_seen c.args.stream_no c.in_ok-next.next c.args.entries.now.items c.deref-2.result.now c.place_of.result (Some c.in_ok-place.place) c.deref-2.ensures.value c.place_of.ensures.place c.in_ok-place.was in
    let at = taken c.args.stream_no c.in_ok-next.next c.args.entries.now.items c.in_ok-place.place c.remove.result place c.remove.ensures.value in
    (near ∙ ap Some (sym at.0), at.1)
