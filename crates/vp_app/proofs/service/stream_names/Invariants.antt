use Rattle.std.proofs.Common.{◌≡◌, take}
use Rattle.vp_app.specs.Serving.{names_of}
use Rattle.vp_app.proofs.service.stream_names.Given as goal

abbrev pub invariant-loop-stream : goal.invariant-loop-stream
invariant-loop-stream l = l.names.items ≡ names_of (take l.stream-index l.streams)
