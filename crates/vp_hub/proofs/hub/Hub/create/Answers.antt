use Rattle.std.proofs.Common.{◌≡◌, ◌∙◌, ℕ, Bool, List, [], ap, subst, sym}
use Rattle.std.proofs.lemmas.Option.{none-some}
use Rattle.vp_base.specs.declared.limits.Limits.{Limits}
use Rattle.vp_cache.specs.Cache.{Cache, empty}
use Rattle.vp_cache.specs.Cursors.{Cursors as CursorList, no_cursors}
use Rattle.vp_hub.specs.declared.connection.Connection.{Connection}
use Rattle.vp_hub.specs.Pages.{Streams}
use Rattle.vp_hub.specs.Heads.{KeepsPartial}
use Rattle.vp_hub.specs.Hub.{AreKept, HubState, connection_state_of, new_hub_state, stream_limits}
use Rattle.vp_hub.specs.Work.{HaveCursors, Hub}
use Rattle.vp_hub.proofs.Growing.{nothing_kept, no_cursors_yet}
use Rattle.vp_hub.proofs.hub.Hub.create.Goals as goal

new_state : (webp : Bool) (names : List (List ℕ)) (limits : Limits) (streams : Streams) (connections : List Connection) → streams ≡ (new_hub_state webp names limits).streams → connections ≡ []
    → ◌≡◌ {A = HubState} (record { streams = streams; connections = connections }) (new_hub_state webp names limits)
new_state webp names limits streams connections is none =
    let with_streams : Streams → HubState = λ s. record { streams = s; connections = connections } in
    let with_connections : List Connection → HubState = λ l. record { streams = (new_hub_state webp names limits).streams; connections = l } in
    ap with_streams is ∙ ap with_connections none

new_hub : (state first : HubState) (cache none : Cache) (cursors fresh : CursorList) → state ≡ first → cache ≡ none → cursors ≡ fresh
    → ◌≡◌ {A = Hub} (record { state = state; cache = cache; cursors = cursors; work = 0 }) (record { state = first; cache = none; cursors = fresh; work = 0 })
new_hub state first cache none cursors fresh state_is cache_is cursors_are =
    let with_state : HubState → Hub = λ s. record { state = s; cache = cache; cursors = cursors; work = 0 } in
    let with_cache : Cache → Hub = λ k. record { state = first; cache = k; cursors = cursors; work = 0 } in
    let with_cursors : CursorList → Hub = λ k. record { state = first; cache = none; cursors = k; work = 0 } in
    ap with_state state_is ∙ (ap with_cache cache_is ∙ ap with_cursors cursors_are)

pub invariant_of-result : goal.invariant_of-result
invariant_of-result c = (
  subst (λ (t : Cache). AreKept c.in-Ok-new.streams.sources t.entries) (sym c.in-Ok-new-2.ensures) (nothing_kept c.in-Ok-new.streams.sources),
  subst (λ (s : Streams). HaveCursors s.sources c.in-Ok.cursors) (sym c.in-Ok-new.ensures)
      (no_cursors_yet c.args.names.items c.args.limits c.in-Ok.cursors
      (ap (λ (k : CursorList). k.limits) c.in-Ok.ensures.list ∙ c.limits_of_stream.ensures)
      (λ number s. c.in-Ok.ensures.stands number s.stream)),
)

pub returns-clause-hub : goal.returns-clause-hub
returns-clause-hub c =
    new_hub (record { streams = c.in-Ok-new.streams; connections = c.new-4.result.items }) (new_hub_state c.args.webp c.args.names.items c.args.limits)
    c.in-Ok-new-2.cache (empty c.args.limits.cache) c.in-Ok.cursors (no_cursors c.args.cursors (stream_limits c.args.limits))
    (new_state c.args.webp c.args.names.items c.args.limits c.in-Ok-new.streams c.new-4.result.items c.in-Ok-new.ensures c.new-4.ensures.items)
    c.in-Ok-new-2.ensures (c.in-Ok.ensures.list ∙ ap (λ (l : Limits). no_cursors c.args.cursors l) c.limits_of_stream.ensures)

pub returns-clause-partial : goal.returns-clause-partial
returns-clause-partial c =
    subst (λ (l : List Connection). (n : ℕ) → KeepsPartial (connection_state_of n l)) (sym c.new-4.ensures.items)
    (λ n state_of_connection there. absurd (none-some state_of_connection there))

pub returns-clause-stands : goal.returns-clause-stands
returns-clause-stands c = new_state c.args.webp c.args.names.items c.args.limits c.in-Ok-new.streams c.new-4.result.items c.in-Ok-new.ensures c.new-4.ensures.items
