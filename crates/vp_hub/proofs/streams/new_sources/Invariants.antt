use Rattle.std.proofs.Common.{◌≡◌, map, take}
use Rattle.vp_hub.specs.Hub.{new_source}
use Rattle.vp_hub.proofs.streams.new_sources.Given as goal

abbrev pub invariant-loop-name : goal.invariant-loop-name
invariant-loop-name l = l.sources.items ≡ map (λ _. new_source l.limits) (take l._name-index l.names)
