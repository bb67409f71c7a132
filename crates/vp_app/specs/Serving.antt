-- A run of `vp8 serve`: the files are fed to a new hub, and then connections are served one after another. Pinned by
-- the tests `one_connection_over_tcp` and `a_connection_behind_a_refused_one_is_served`.
use Rattle.std.specs.Prelude.{◌≡◌, ◌⊎◌, ◌+◌, ℕ, Bool, List, [], ◌∷◌, length, map, codes, Option, None, Result, Err}
use Rattle.std.specs.Prelude.{is_ok, MatchBool}
use Rattle.std.specs.List.{list_all}
use Rattle.std.specs.Str.{bytes_eq}
use Rattle.std.specs.Io.KnownBytes.{Consumes}
use Rattle.vp_base.specs.Counted.{HasFailed}
use Rattle.vp_base.specs.declared.limits.Limits.{Limits}
use Rattle.vp_cache.specs.Cache.{empty}
use Rattle.vp_cache.specs.Cursors.{no_cursors}
use Rattle.vp_hub.specs.declared.session.ServeFault.{ServeFault}
use Rattle.vp_hub.specs.declared.session.ServeFault.TheVariants.{Device}
use Rattle.vp_hub.specs.Hub.{HubState, new_hub_state, stream_limits}
use Rattle.vp_hub.specs.Work.{Hub}
use Rattle.vp_hub.specs.Sessions.{IsSession, IsTurnedAway}
use Rattle.vp_args.specs.declared.serve_args.NamedFile.{NamedFile}
use Rattle.vp_commands.specs.Usual.{AreLimits}
use Rattle.vp_app.specs.Feeding.{IsFed}

-- ---- the hub

-- the names of the streams
abbrev pub names_of : List NamedFile → List (List ℕ)
names_of streams = map (λ s. s.name.now) streams

-- a new hub for the streams, which shows WebP files or not, with this number of cached pictures and with this number of
-- cursors
abbrev pub IsNewHub : Bool → List NamedFile → ℕ → ℕ → Hub → Type 0
IsNewHub webp streams cache cursors hub =
    (limits : Limits) × AreLimits cache limits × (hub ≡ record {
      state = new_hub_state webp (names_of streams) limits;
      cache = empty limits.cache;
      cursors = no_cursors cursors (stream_limits limits);
      work = 0;
    })

-- ---- the files

-- the stream is fed its file; for `-` that is the rest of standard input
abbrev pub IsFileFed : NamedFile → HubState → HubState → Option (List ℕ) → Option (List ℕ) → Type 0
IsFileFed s old new before after =
    (file : List ℕ) × MatchBool (bytes_eq s.file.now (codes "-"))
    (Consumes before after file × IsFed s.name.now old new file after)
    ((after ≡ before) × ((left : Option (List ℕ)) × IsFed s.name.now old new file left))

-- all streams, one after another
abbrev pub AreFilesFed : List NamedFile → HubState → HubState → Option (List ℕ) → Option (List ℕ) → Type 0
AreFilesFed [] old new before after = (new ≡ old) × (after ≡ before)
AreFilesFed (s ∷ streams) old new before after =
    (mid : HubState) × (between : Option (List ℕ)) × IsFileFed s old mid before between
    × AreFilesFed streams mid new between after

-- ---- the connections

-- a session over a socket, about whose bytes nothing is known; the hub's state is as before, its cache may have changed
abbrev pub IsSocketSession : ℕ → HubState → Result (Unit {0}) ServeFault → Type 0
IsSocketSession number s o = (old new : Hub) × (old.state ≡ s) × (new.state ≡ s)
    × ((read : List ℕ) × (failures : ℕ) × IsSession number old new o read None None None (HasFailed 0 failures))

-- No connection could be accepted; or it was refused by the hub; or it was served. The hub's state is as before.
abbrev pub IsServed : ℕ → HubState → Result (Unit {0}) ServeFault → Type 0
IsServed number s o = (o ≡ Err Device) ⊎ (IsTurnedAway number s s o ⊎ IsSocketSession number s o)

-- connections one after another, numbered from this number on
abbrev pub AreServed : ℕ → HubState → List (Result (Unit {0}) ServeFault) → Type 0
AreServed number s [] = Unit {0}
AreServed number s (o ∷ os) = IsServed number s o × AreServed (number + 1) s os

-- this many connections are served; the result says whether each was served to its end
pub record IsServing (connections : ℕ) (s : HubState) (well : Bool) : Type 0 where
  pub outcomes : List (Result (Unit {0}) ServeFault)
  pub count : length outcomes ≡ connections
  pub served : AreServed 0 s outcomes
  pub well_is : well ≡ list_all is_ok outcomes

-- ---- the whole run: all files are fed into a new hub, and then the connections are served
pub record IsService (webp : Bool) (streams : List NamedFile) (cache connections : ℕ) (well : Bool)
    (before after : Option (List ℕ)) : Type 0 where
  pub hub : Hub
  pub fed : HubState
  pub begins : IsNewHub webp streams cache 0 hub
  pub feeds : AreFilesFed streams hub.state fed before after
  pub serves : IsServing connections fed well
