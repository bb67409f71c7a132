-- A run of `vp8 serve --max-connections`: the loop of vp_serve over a new hub.
use Rattle.std.specs.Prelude.{◌≡◌, ◌*◌, ℕ, Bool, true, List, [], Option, None, Result, Ok, Err, MatchBool}
use Rattle.std.specs.Prelude.{if◌then◌else◌}
use Rattle.vp_hub.specs.Hub.{HubState}
use Rattle.vp_hub.specs.Work.{Hub}
use Rattle.vp_args.specs.declared.serve_args.ServeManyArgs.{ServeManyArgs}
use Rattle.vp_serve.specs.declared.options.ServeOptions.{ServeOptions}
use Rattle.vp_serve.specs.ServerLoop.{LoopState, initial, is_over}
use Rattle.vp_serve.specs.LoopTurns.{FollowsFiles, TakesLoopTurns}
use Rattle.vp_app.specs.declared.many.ManyFault.{ManyFault}
use Rattle.vp_app.specs.Serving.{AreFilesFed, IsNewHub, names_of}

-- what the server is limited to
abbrev pub options_of : ServeManyArgs → ServeOptions
options_of many = record {
  max_connections = many.max_connections;
  total_connections = many.service.connections;
  idle_timeout = many.idle_timeout * 1000;
  poll_interval = many.poll_interval;
}

-- before the loop the streams are fed their files, to their ends; files that are followed are fed in the loop alone
abbrev pub IsFedBefore : ServeManyArgs → HubState → HubState → Option (List ℕ) → Option (List ℕ) → Type 0
IsFedBefore many old fed before after =
    MatchBool many.follow ((fed ≡ old) × (after ≡ before)) (AreFilesFed many.service.streams.items old fed before after)

-- the streams whose files are followed
abbrev pub followed_names : ServeManyArgs → List (List ℕ)
followed_names many = if many.follow then names_of many.service.streams.items else []

-- The followed files of these streams are read on, and then the loop takes its turns: to its end, or as many as it may
-- take. If all is well, it came to its end, and all connections were served.
pub record WorksLoop (names : List (List ℕ)) (start : LoopState) (well : Bool) : Type 0 where
  pub read : LoopState
  pub end : LoopState
  pub ended : Bool
  pub reads_on : FollowsFiles names start read None None
  pub turns : TakesLoopTurns names ended read end None None
  pub well_ends : well ≡ true → ended ≡ true
  pub over : well ≡ true → is_over end ≡ true

-- ---- the whole run
pub record IsServiceOfMany (many : ServeManyArgs) (well : Bool) (before after : Option (List ℕ)) : Type 0 where
  pub hub : Hub
  pub fed : HubState
  pub begins : IsNewHub many.service.webp many.service.streams.items many.service.cache many.cursors hub
  pub feeds : IsFedBefore many hub.state fed before after
  pub works : WorksLoop (followed_names many) (initial (options_of many) fed) well

-- many connections are served, or there was a fault before that
abbrev pub ServesMany : ServeManyArgs → Result Bool ManyFault → Option (List ℕ) → Option (List ℕ) → Type 0
ServesMany many (Ok well) before after = IsServiceOfMany many well before after
ServesMany many (Err fault) before after = Unit {0}

-- the exit status: 0 only if all connections were served and no followed file had a fault
abbrev pub status_by_many : Result Bool ManyFault → ℕ
status_by_many (Ok true) = 0
status_by_many _ = 1
