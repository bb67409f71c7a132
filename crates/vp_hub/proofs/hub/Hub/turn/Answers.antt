use Rattle.std.proofs.Common.{◌≡◌, ◌∙◌, ℕ, List, Err, refl, ap, subst, sym}
use Rattle.std.specs.Prelude.{◌≢◌}
use Rattle.vp_hub.specs.declared.connection.Connection.{Connection}
use Rattle.vp_hub.specs.declared.event.Event.{Event}
use Rattle.vp_hub.specs.declared.event.Event.TheVariants.{Feed, End, Open, Bytes, Shut}
use Rattle.vp_hub.specs.declared.event.HubFault.TheVariants.{Memory}
use Rattle.vp_hub.specs.declared.picture_cache.PictureCache.{PictureCache}
use Rattle.vp_hub.specs.declared.picture_cache.Pictures.{Pictures}
use Rattle.vp_hub.specs.Pages.{Streams}
use Rattle.vp_hub.specs.Hub.{AreKept, HubState, HubStep, IsFine, IsStep, Outcome, after_memory, with_connections, with_streams}
use Rattle.vp_hub.specs.Work.{HaveCursors, Hub, IsWork, IsWorkAtMost, IsWorked}
use Rattle.vp_hub.proofs.hub.Hub.turn.Goals as goal

abbrev state : Streams → List Connection → HubState
state streams connections = record { streams = streams; connections = connections }

abbrev hub_of : HubState → PictureCache → Hub
hub_of s p = record { state = s; cache = p.kept.cache; cursors = p.kept.cursors; work = p.work }

-- one event with its answer, from what its call says
stepped : (hub : Hub) (s t : HubState) (p : PictureCache) (event e : Event) (o : Outcome) → hub_of s p ≡ hub → event ≡ e
    → (o ≡ Err Memory → IsFine e s) → (o ≡ Err Memory → t ≡ after_memory e s) → (o ≢ Err Memory → HubStep e s (t, o)) → IsStep hub.state event o t
stepped hub s t p event e o is at fine after step =
    subst (λ (h : Hub). IsStep h.state event o t) is (subst (λ (d : Event). IsStep s d o t) (sym at) (λ k. record { fine = fine k; after = after k }, step))

-- an event that decodes nothing
worked : (hub : Hub) (s t : HubState) (p now : PictureCache) (event e : Event) (o : Outcome) → hub_of s p ≡ hub → event ≡ e → now ≡ record { kept = p.kept; work = 0 }
    → ((x : Pictures) → IsWork e s x x 0) → ((x : Pictures) → IsWorkAtMost e s x x 0) → IsWorked hub event o (hub_of t now)
worked hub s t p now event e o is at begun cost most =
    let kept : Pictures = record { cache = p.kept.cache; cursors = p.kept.cursors } in
    let idle : PictureCache = record { kept = p.kept; work = 0 } in
    let done : IsWorked (hub_of s p) e o (hub_of t idle) = record { work = λ k. (0, cost kept, refl); most = λ k. most kept } in
    subst (λ (h : Hub). IsWorked h event o (hub_of t now)) is
    (subst (λ (d : Event). IsWorked (hub_of s p) d o (hub_of t now)) (sym at)
    (subst (λ (q : PictureCache). IsWorked (hub_of s p) e o (hub_of t q)) (sym begun) done))

-- the events with the text that the calls get
feed_is : (event : Event) (name own piece bytes : List ℕ) → event ≡ Feed name piece → own ≡ name → bytes ≡ piece → event ≡ Feed own bytes
feed_is event name own piece bytes at name_is piece_is = at ∙ (ap (λ (x : List ℕ). Feed x piece) (sym name_is) ∙ ap (λ (x : List ℕ). Feed own x) (sym piece_is))

end_is : (event : Event) (name own : List ℕ) → event ≡ End name → own ≡ name → event ≡ End own
end_is event name own at name_is = at ∙ ap (λ (x : List ℕ). End x) (sym name_is)

bytes_is : (event : Event) (number : ℕ) (piece bytes : List ℕ) → event ≡ Bytes number piece → bytes ≡ piece → event ≡ Bytes number bytes
bytes_is event number piece bytes at piece_is = at ∙ ap (λ (x : List ℕ). Bytes number x) (sym piece_is)

pub invariant_of-self : goal.invariant_of-self
invariant_of-self c =
    let was = subst (λ (p : PictureCache). AreKept c.self.inside.streams.sources p.kept.cache.entries × HaveCursors c.self.inside.streams.sources p.kept.cursors) (sym c.begin.ensures) c.self.invariant in
    (c.feed.ensures.kept c.begin.new.self.kept.cache.entries was.0, c.feed.ensures.cursors c.begin.new.self.kept.cursors was.1)

pub invariant_of-self-in-End : goal.invariant_of-self-in-End
invariant_of-self-in-End c =
    let was = subst (λ (p : PictureCache). AreKept c.self.inside.streams.sources p.kept.cache.entries × HaveCursors c.self.inside.streams.sources p.kept.cursors) (sym c.begin.ensures) c.self.invariant in
    (c.end.ensures.kept c.begin.new.self.kept.cache.entries was.0, c.end.ensures.cursors c.begin.new.self.kept.cursors was.1)

pub invariant_of-self-in-Open : goal.invariant_of-self-in-Open
invariant_of-self-in-Open c = subst (λ (p : PictureCache). AreKept c.self.inside.streams.sources p.kept.cache.entries × HaveCursors c.self.inside.streams.sources p.kept.cursors) (sym c.begin.ensures) c.self.invariant

pub invariant_of-self-in-Bytes : goal.invariant_of-self-in-Bytes
invariant_of-self-in-Bytes c = subst (λ (p : PictureCache). AreKept c.self.inside.streams.sources p.kept.cache.entries × HaveCursors c.self.inside.streams.sources p.kept.cursors) (sym c.begin.ensures) c.self.invariant

pub invariant_of-self-in-Shut : goal.invariant_of-self-in-Shut
invariant_of-self-in-Shut c = subst (λ (p : PictureCache). AreKept c.self.inside.streams.sources p.kept.cache.entries × HaveCursors c.self.inside.streams.sources p.kept.cursors) (sym c.begin.ensures) c.self.invariant

pub returns-in-Feed-clause-step : goal.returns-in-Feed-clause-step
returns-in-Feed-clause-step c =
    let i = c.self.inside in
    let connections = i.connections.items in
    let s = state i.streams connections in
    stepped c.args.self.now s (state c.feed.new.self connections) i.pictures c.args.event.now (Feed c.as_slice.result.now c.as_slice-in-Feed.result.now) c.feed.result c.self.view_is
    (feed_is c.args.event.now c.in-Feed.name c.as_slice.result.now c.in-Feed.piece c.as_slice-in-Feed.result.now c.in-Feed.is c.as_slice.ensures c.as_slice-in-Feed.ensures)
    c.feed.ensures.fine (λ k. ap (λ (x : Streams). state x connections) (c.feed.ensures.memory k)) (λ k. ap (with_streams s) (c.feed.ensures.step k))

pub returns-in-Feed-clause-worked : goal.returns-in-Feed-clause-worked
returns-in-Feed-clause-worked c =
    let i = c.self.inside in
    worked c.args.self.now (state i.streams i.connections.items) (state c.feed.new.self i.connections.items) i.pictures c.begin.new.self c.args.event.now (Feed c.in-Feed.name c.in-Feed.piece) c.feed.result
    c.self.view_is c.in-Feed.is c.begin.ensures (λ x. (refl, refl)) (λ x. (refl, refl))

pub returns-in-End-clause-step : goal.returns-in-End-clause-step
returns-in-End-clause-step c =
    let i = c.self.inside in
    let s = state i.streams i.connections.items in
    stepped c.args.self.now s (state c.end.new.self i.connections.items) i.pictures c.args.event.now (End c.as_slice-in-End.result.now) c.end.result c.self.view_is
    (end_is c.args.event.now c.in-End.name c.as_slice-in-End.result.now c.in-End.is c.as_slice-in-End.ensures)
    (λ k. absurd (c.end.ensures.memory k)) (λ k. absurd (c.end.ensures.memory k)) (λ k. ap (with_streams s) c.end.ensures.step)

pub returns-in-End-clause-worked : goal.returns-in-End-clause-worked
returns-in-End-clause-worked c =
    let i = c.self.inside in
    worked c.args.self.now (state i.streams i.connections.items) (state c.end.new.self i.connections.items) i.pictures c.begin.new.self c.args.event.now (End c.in-End.name) c.end.result
    c.self.view_is c.in-End.is c.begin.ensures (λ x. (refl, refl)) (λ x. (refl, refl))

pub returns-in-Open-clause-step : goal.returns-in-Open-clause-step
returns-in-Open-clause-step c =
    let i = c.self.inside in
    let s = state i.streams i.connections.items in
    stepped c.args.self.now s (state i.streams c.open_one.new.connections.items) i.pictures c.args.event.now (Open c.in-Open.number) c.open_one.result c.self.view_is c.in-Open.is
    c.open_one.ensures.fine (λ k. ap (λ (l : List Connection). state i.streams l) (c.open_one.ensures.memory k)) (λ k. ap (with_connections s) (c.open_one.ensures.step k))

pub returns-in-Open-clause-worked : goal.returns-in-Open-clause-worked
returns-in-Open-clause-worked c =
    let i = c.self.inside in
    worked c.args.self.now (state i.streams i.connections.items) (state i.streams c.open_one.new.connections.items) i.pictures c.begin.new.self c.args.event.now (Open c.in-Open.number) c.open_one.result
    c.self.view_is c.in-Open.is c.begin.ensures (λ x. (refl, refl)) (λ x. (refl, refl))

pub returns-in-Bytes-clause-step : goal.returns-in-Bytes-clause-step
returns-in-Bytes-clause-step c =
    let s = state c.self.inside.streams c.self.inside.connections.items in
    let at = bytes_is c.args.event.now c.in-Bytes.number c.in-Bytes.piece c.as_slice-in-Bytes.result.now c.in-Bytes.is c.as_slice-in-Bytes.ensures in
    subst (λ (h : Hub). IsStep h.state c.args.event.now c.bytes.result c.bytes.new.self.state) c.self.view_is
    (subst (λ (e : Event). IsStep s e c.bytes.result c.bytes.new.self.state) (sym at) c.bytes.ensures.step)

pub returns-in-Bytes-clause-worked : goal.returns-in-Bytes-clause-worked
returns-in-Bytes-clause-worked c =
    let i = c.self.inside in
    let s = state i.streams i.connections.items in
    let e : Event = Bytes c.in-Bytes.number c.as_slice-in-Bytes.result.now in
    let at = bytes_is c.args.event.now c.in-Bytes.number c.in-Bytes.piece c.as_slice-in-Bytes.result.now c.in-Bytes.is c.as_slice-in-Bytes.ensures in
    let w = subst (λ (q : PictureCache). IsWorked (hub_of s q) e c.bytes.result c.bytes.new.self) c.begin.ensures c.bytes.ensures.worked in
    let was : IsWorked (hub_of s i.pictures) e c.bytes.result c.bytes.new.self = record { work = w.work; most = w.most } in
    subst (λ (h : Hub). IsWorked h c.args.event.now c.bytes.result c.bytes.new.self) c.self.view_is
    (subst (λ (d : Event). IsWorked (hub_of s i.pictures) d c.bytes.result c.bytes.new.self) (sym at) was)

pub returns-in-Shut-clause-step : goal.returns-in-Shut-clause-step
returns-in-Shut-clause-step c =
    let i = c.self.inside in
    let s = state i.streams i.connections.items in
    stepped c.args.self.now s (state i.streams c.shut_one.new.connections.items) i.pictures c.args.event.now (Shut c.in-Shut.number) c.shut_one.result c.self.view_is c.in-Shut.is
    (λ k. absurd (c.shut_one.ensures.memory k)) (λ k. absurd (c.shut_one.ensures.memory k)) (λ k. ap (with_connections s) c.shut_one.ensures.step)

pub returns-in-Shut-clause-worked : goal.returns-in-Shut-clause-worked
returns-in-Shut-clause-worked c =
    let i = c.self.inside in
    worked c.args.self.now (state i.streams i.connections.items) (state i.streams c.shut_one.new.connections.items) i.pictures c.begin.new.self c.args.event.now (Shut c.in-Shut.number) c.shut_one.result
    c.self.view_is c.in-Shut.is c.begin.ensures (λ x. (refl, refl)) (λ x. (refl, refl))
