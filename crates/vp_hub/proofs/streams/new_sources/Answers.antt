use Rattle.std.proofs.Common.{◌≡◌, ◌∙◌, ◌++◌, ◌∷◌, ◌+◌, ◌<◌, [], ℕ, List, map, take, length, get_or, ap, sym}
use Rattle.std.proofs.lemmas.List.{map-append, take_all, take_more}
use Rattle.vp_base.specs.declared.limits.Limits.{Limits}
use Rattle.vp_stream.specs.Stream.{Stream as StreamState, initial_stream}
use Rattle.vp_hub.specs.declared.source.Source.{Source}
use Rattle.vp_hub.specs.declared.source.StreamEnd.TheVariants.{Open}
use Rattle.vp_hub.specs.Hub.{new_source, stream_limits}
use Rattle.vp_hub.proofs.streams.new_sources.Goals as goal

-- one more new stream
one_more : (limits own : Limits) (names : List (List ℕ)) (i : ℕ) (sources new : List Source) (stream : StreamState) → i < length names
    → own ≡ stream_limits limits → stream ≡ initial_stream own → sources ≡ map (λ _. new_source limits) (take i names)
    → new ≡ sources ++ record { stream = stream; end = Open } ∷ [] → new ≡ map (λ _. new_source limits) (take (i + 1) names)
one_more limits own names i sources new stream less own_is stream_is so_far pushed =
    let of : List ℕ → Source = λ _. new_source limits in
    let with_stream : StreamState → Source = λ s. record { stream = s; end = Open } in
    let more : map of (take (i + 1) names) ≡ map of (take i names) ++ new_source limits ∷ [] =
    ap (λ (l : List (List ℕ)). map of l) (take_more names i [] less) ∙ map-append of (take i names) (get_or names i [] ∷ []) in
    let same : with_stream stream ≡ new_source limits = ap with_stream (stream_is ∙ ap initial_stream own_is) in
    pushed ∙ (ap (λ (l : List Source). l ++ with_stream stream ∷ []) so_far ∙ (ap (λ (s : Source). map of (take i names) ++ s ∷ []) same ∙ sym more))

pub loop-name-preserved : goal.loop-name-preserved
loop-name-preserved c =
    one_more c.args.limits c.limits_of_stream.result c.args.names.now c.loop-name._name-index c.loop-name.sources.items c.push.new.self.items c.new.result c.loop-name-test.true
    c.limits_of_stream.ensures c.new.ensures.state c.loop-name.invariant c.in_ok-push.ensures.items

pub returns : goal.returns
returns c = rw (take_all c.loop-name._name-index c.args.names.now c.loop-name-test.false) at c.loop-name.invariant
