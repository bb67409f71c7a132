-- A whole run of `vp8 serve`, from a new hub on.
use Rattle.std.proofs.Common.{ℕ, Bool, Option, List, Result}
use Rattle.std.specs.Prelude.{Ok, Err, IfOk}
use Rattle.vp_hub.specs.Hub.{HubState}
use Rattle.vp_hub.specs.Work.{Hub}
use Rattle.vp_serve.specs.ServerLoop.{initial}
use Rattle.vp_args.specs.declared.serve_args.ServeArgs.{ServeArgs}
use Rattle.vp_args.specs.declared.serve_args.ServeManyArgs.{ServeManyArgs}
use Rattle.vp_app.specs.declared.many.ManyFault.{ManyFault}
use Rattle.vp_app.specs.declared.service.ServiceFault.{ServiceFault}
use Rattle.vp_commands.specs.Commands.{Side}
use Rattle.vp_app.specs.Program.{ServesConnections}
use Rattle.vp_app.specs.Many.{IsFedBefore, ServesMany, WorksLoop, followed_names, options_of}
use Rattle.vp_app.specs.Serving.{AreFilesFed, IsNewHub, IsServing}

pub runs_many : (many : ServeManyArgs) (done : Result Bool ManyFault) (hub : Hub) (fed : HubState) (before after : Option (List ℕ))
    → IsNewHub many.service.webp many.service.streams.items many.service.cache many.cursors hub → IsFedBefore many hub.state fed before after
    → IfOk done (WorksLoop (followed_names many) (initial (options_of many) fed)) → ServesMany many done before after
runs_many many (Ok well) hub fed before after new feeds works = record { hub = hub; fed = fed; begins = new; feeds = feeds; works = works }
runs_many many (Err fault) hub fed before after new feeds works = tt

pub runs_service : (service : ServeArgs) (done : Result Bool ServiceFault) (hub : Hub) (i i' : Side) → IsNewHub service.webp service.streams.items service.cache 0 hub
    → IfOk done (λ well. (fed : HubState) × AreFilesFed service.streams.items hub.state fed i.bytes i'.bytes × IsServing service.connections fed well)
    → ServesConnections service done i i'
runs_service service (Ok well) hub i i' new served = record { hub = hub; fed = served.0; begins = new; feeds = served.1; serves = served.2 }
runs_service service (Err fault) hub i i' new served = tt
