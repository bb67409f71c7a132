-- What the streams are fed.
use Rattle.std.specs.Prelude.{◌≡◌, ◌++◌, ◌∷◌, [], Bool, false, not, List, Option, Some, None, flat_map, if◌then◌else◌}
use Rattle.vp_hub.specs.Hub.{HubState}
use Rattle.vp_hub.specs.View.{is_memory}
use Rattle.vp_serve.specs.declared.options.FilePiece.{FilePiece}
use Rattle.vp_serve.specs.declared.options.ServeOptions.{ServeOptions}
use Rattle.vp_serve.specs.ServerLoop.{LoopState, initial, IsTrace, Action, Accepted, Rejected, Received, Submitted}
use Rattle.vp_serve.specs.ServerLoop.{Sent, Closed, Grown, Fed, Ended, Waited}

-- the pieces that were read from the files
abbrev pub grown_in : Action → List FilePiece
grown_in (Accepted c now) = []
grown_in (Rejected c fault) = []
grown_in (Received c bytes) = []
grown_in (Submitted c now line o) = []
grown_in (Sent c now bytes) = []
grown_in (Closed c now reason o) = []
grown_in (Grown piece) = piece ∷ []
grown_in (Fed piece o) = []
grown_in (Ended name o) = []
grown_in (Waited busy clock) = []

-- those that were fed, and that memory was not refused for
abbrev pub fed_in : Action → List FilePiece
fed_in (Accepted c now) = []
fed_in (Rejected c fault) = []
fed_in (Received c bytes) = []
fed_in (Submitted c now line o) = []
fed_in (Sent c now bytes) = []
fed_in (Closed c now reason o) = []
fed_in (Grown piece) = []
fed_in (Fed piece o) = if is_memory o then [] else piece ∷ []
fed_in (Ended name o) = []
fed_in (Waited busy clock) = []

-- a stream took a piece, or refused it
abbrev pub is_fed : Action → Bool
is_fed (Fed piece o) = not (is_memory o)
is_fed _ = false

-- memory was refused for a piece that was fed, so that it goes on waiting
abbrev pub is_refused : Action → Bool
is_refused (Fed piece o) = is_memory o
is_refused _ = false

abbrev pub fed_pieces : Option FilePiece → List FilePiece
fed_pieces None = []
fed_pieces (Some piece) = piece ∷ []

-- whatever happens, each piece that was read is fed once, in order, or is the one that waits
abbrev pub FilesAreFed : Type 0
FilesAreFed = (options : ServeOptions) (s : HubState) (trace : List Action) (d : LoopState)
    → IsTrace (initial options s) trace d
    → flat_map grown_in trace ≡ flat_map fed_in trace ++ fed_pieces d.waiting
