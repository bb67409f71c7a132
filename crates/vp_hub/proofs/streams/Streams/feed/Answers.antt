use Rattle.std.proofs.Common.{◌≡◌, ◌∙◌, ℕ, List, Some, ap, subst, sym}
use Rattle.std.specs.Prelude.{slice_get, slice_set, IsOk}
use Rattle.std.proofs.lemmas.Option.{slice_get-get_or}
use Rattle.vp_heads.specs.Routes.{name_index}
use Rattle.vp_hub.specs.Pages.{Streams}
use Rattle.vp_hub.specs.declared.source.Source.{Source}
use Rattle.vp_hub.specs.Hub.{AreKept, Outcome, at_name, fed}
use Rattle.vp_hub.specs.Work.{HaveCursors}
use Rattle.vp_hub.proofs.Growing.{at_name_there, one_grows, one_keeps_cursors}
use Rattle.vp_hub.proofs.streams.Streams.feed.Goals as goal

pub returns-clause-kept : goal.returns-clause-kept
returns-clause-kept c entries kept =
    let there : slice_get c.self.inside.sources.items c.in-Some.place ≡ Some c.in-Some-get_mut.source.now =
    slice_get-get_or c.self.inside.sources.items c.in-Some.place c.in-Some-get_mut.source.now c.in-Some-get_mut.ensures.item.3.0
    ∙ ap Some (sym c.in-Some-get_mut.ensures.value) in
    one_grows c.in-Some.place c.in-Some-get_mut.source.now c.feed_source.new.source c.self.inside.sources.items entries there c.feed_source.ensures.grown
    (subst (λ (s : Streams). AreKept s.sources entries) (sym c.self.view_is) kept)

pub returns-clause-cursors : goal.returns-clause-cursors
returns-clause-cursors c cursors kept =
    let there : slice_get c.self.inside.sources.items c.in-Some.place ≡ Some c.in-Some-get_mut.source.now =
    slice_get-get_or c.self.inside.sources.items c.in-Some.place c.in-Some-get_mut.source.now c.in-Some-get_mut.ensures.item.3.0
    ∙ ap Some (sym c.in-Some-get_mut.ensures.value) in
    one_keeps_cursors c.in-Some.place c.in-Some-get_mut.source.now c.feed_source.new.source c.self.inside.sources.items cursors there c.feed_source.ensures.cursors c.feed_source.ensures.limits
    (subst (λ (s : Streams). HaveCursors s.sources cursors) (sym c.self.view_is) kept)

pub returns-in_default-get_mut-clause-cursors : goal.returns-in_default-get_mut-clause-cursors
returns-in_default-get_mut-clause-cursors c cursors kept = subst (λ (s : Streams). HaveCursors s.sources cursors) (sym c.self.view_is) kept

pub returns-clause-fine : goal.returns-clause-fine
returns-clause-fine c e =
    let there : slice_get c.self.inside.sources.items c.in-Some.place ≡ Some c.in-Some-get_mut.source.now =
    slice_get-get_or c.self.inside.sources.items c.in-Some.place c.in-Some-get_mut.source.now c.in-Some-get_mut.ensures.item.3.0
    ∙ ap Some (sym c.in-Some-get_mut.ensures.value) in
    let was : Streams = record { names = c.self.inside.names.items; sources = c.self.inside.sources.items; webp = c.self.inside.webp } in
    let done = at_name_there (fed c.args.piece.now) c.args.name.now was c.in-Some.place c.in-Some-get_mut.source.now (ap (λ (names : List (List ℕ)). name_index names c.args.name.now) (sym c.deref.ensures.value) ∙ sym c.in-Some.ensures.place) there in
    subst (λ (s : Streams). IsOk (at_name (fed c.args.piece.now) c.args.name.now s).1) c.self.view_is
    (subst (λ (r : Streams × Outcome). IsOk r.1) (sym done) (c.feed_source.ensures.fine e))

pub returns-clause-step : goal.returns-clause-step
returns-clause-step c e =
    let there : slice_get c.self.inside.sources.items c.in-Some.place ≡ Some c.in-Some-get_mut.source.now =
    slice_get-get_or c.self.inside.sources.items c.in-Some.place c.in-Some-get_mut.source.now c.in-Some-get_mut.ensures.item.3.0
    ∙ ap Some (sym c.in-Some-get_mut.ensures.value) in
    let was : Streams = record { names = c.self.inside.names.items; sources = c.self.inside.sources.items; webp = c.self.inside.webp } in
    let done = at_name_there (fed c.args.piece.now) c.args.name.now was c.in-Some.place c.in-Some-get_mut.source.now (ap (λ (names : List (List ℕ)). name_index names c.args.name.now) (sym c.deref.ensures.value) ∙ sym c.in-Some.ensures.place) there in
    subst (λ (s : Streams). (record was { sources = slice_set was.sources c.in-Some.place c.feed_source.new.source }, c.feed_source.result) ≡ at_name (fed c.args.piece.now) c.args.name.now s) c.self.view_is
    (ap (λ (r : Source × Outcome). (record was { sources = slice_set was.sources c.in-Some.place r.0 }, r.1)) (c.feed_source.ensures.step e) ∙ sym done)
