-- The effect of the program on its standard streams, and its exit status, for the command that the arguments ask for.
-- Pinned by the tests `one_connection_over_tcp` and `info_that_is_not_printed_has_status_1`.
use Rattle.std.specs.Prelude.{◌≡◌, ◌⊎◌, ℕ, Bool, true, false, List, codes, Result, Ok, Err}
use Rattle.clap.specs.Walk.{Row, first_of}
use Rattle.vp_args.specs.declared.check_args.CheckArgs.{CheckArgs}
use Rattle.vp_args.specs.declared.decode_args.DecodeArgs.{DecodeArgs}
use Rattle.vp_args.specs.declared.decode_args.DecodeRangeArgs.{DecodeRangeArgs}
use Rattle.vp_args.specs.declared.info_args.InfoArgs.{InfoArgs}
use Rattle.vp_args.specs.declared.serve_args.ServeArgs.{ServeArgs}
use Rattle.vp_args.specs.declared.serve_args.ServeManyArgs.{ServeManyArgs}
use Rattle.vp_args.specs.Args.{ParsedArgs, checks, decodes, decodes_range, encodes, tells, pictures, serves}
use Rattle.vp_args.specs.Args.{serves_many, nothing, AreMiswanted, AreNoFileLimits, IsCheckFor, IsDecodeFor}
use Rattle.vp_args.specs.Args.{IsInfoFor, IsNoDecoding, IsNoEncoding, IsNoPicture, IsRangeFor}
use Rattle.vp_args.specs.Args.{IsNoService, IsNoServiceOfMany, IsServiceFor, IsServiceOfMany}
use Rattle.vp_commands.specs.Commands.{Side, DoesCheck, DoesDecode, DoesDecodeRange, DoesEncode, DoesInfo, DoesPicture}
use Rattle.vp_commands.specs.Commands.{IsUnbegun, IsUsageFault}
use Rattle.vp_app.specs.declared.service.ServiceFault.{ServiceFault}
use Rattle.vp_app.specs.declared.many.ManyFault.{ManyFault}
use Rattle.vp_app.specs.Serving.{IsService}
use Rattle.vp_app.specs.Many.{ServesMany, status_by_many}

-- the connections are served; of a fault before that, of files, names, address or memory, nothing is said
abbrev pub ServesConnections : ServeArgs → Result Bool ServiceFault → Side → Side → Type 0
ServesConnections service (Ok well) input input' = IsService service.webp service.streams.items service.cache
    service.connections well input.bytes input'.bytes
ServesConnections service (Err fault) input input' = Unit {0}

-- the exit status of serving: 0 only if all connections are served to their ends
abbrev pub status_by_service : Result Bool ServiceFault → ℕ
status_by_service (Ok true) = 0
status_by_service _ = 1

-- the effect of `vp8 serve`; nothing is printed unless the address is asked for
abbrev pub DoesServe : List Row → List ℕ → List ℕ → List (List ℕ) → ℕ → Side → Side → Side → Side → Type 0
DoesServe rows address connections operands status input input' output output' =
    (service : ServeArgs) × (done : Result Bool ServiceFault) × IsServiceFor rows address connections operands service
    × (status ≡ status_by_service done) × ServesConnections service done input input'
    × (service.show_address ≡ false → output' ≡ output)

-- the same for many connections at once
abbrev pub DoesServeMany : List Row → List ℕ → List (List ℕ) → ℕ → Side → Side → Side → Side → Type 0
DoesServeMany rows address operands status input input' output output' =
    (many : ServeManyArgs) × (done : Result Bool ManyFault) × IsServiceOfMany rows address operands many
    × (status ≡ status_by_many done) × ServesMany many done input.bytes input'.bytes
    × (many.service.show_address ≡ false → output' ≡ output)

-- the effect of a task; memory may run out before it begins, and values may be refused
abbrev pub Does : ParsedArgs → ℕ → Side → Side → Side → Side → Type 0
Does (decodes rows from to) status input input' output output' =
    ((d : DecodeArgs) × IsDecodeFor rows from to d × DoesDecode d status input input' output output')
    ⊎ (IsUnbegun status input input' output output' ⊎ (IsNoDecoding rows
    × IsUsageFault status input input' output output'))
Does (decodes_range rows from to) status input input' output output' =
    ((r : DecodeRangeArgs) × IsRangeFor rows from to r × DoesDecodeRange r status input input' output output')
    ⊎ (IsUnbegun status input input' output output'
    ⊎ ((AreMiswanted (first_of (codes "frame") rows) (first_of (codes "frames") rows) ⊎ IsNoDecoding rows)
    × IsUsageFault status input input' output output'))
Does (encodes rows from to) status input input' output output' =
    DoesEncode rows from to status input input' output output'
    ⊎ (IsUnbegun status input input' output output' ⊎ (IsNoEncoding rows
    × IsUsageFault status input input' output output'))
Does (tells rows files) status input input' output output' =
    ((i : InfoArgs) × IsInfoFor rows files i × DoesInfo i status input input' output output')
    ⊎ (IsUnbegun status input input' output output' ⊎ (AreNoFileLimits rows
    × IsUsageFault status input input' output output'))
Does (checks rows files) status input input' output output' =
    ((c : CheckArgs) × IsCheckFor rows files c × DoesCheck c status input input' output output')
    ⊎ (IsUnbegun status input input' output output' ⊎ (AreNoFileLimits rows
    × IsUsageFault status input input' output output'))
Does (pictures rows from to) status input input' output output' =
    DoesPicture rows from to status input input' output output'
    ⊎ (IsUnbegun status input input' output output' ⊎ (IsNoPicture rows to
    × IsUsageFault status input input' output output'))
Does (serves rows address connections operands) status input input' output output' =
    DoesServe rows address connections operands status input input' output output'
    ⊎ (IsUnbegun status input input' output output' ⊎ (IsNoService rows connections operands
    × IsUsageFault status input input' output output'))
Does (serves_many rows address operands) status input input' output output' =
    DoesServeMany rows address operands status input input' output output'
    ⊎ (IsUnbegun status input input' output output' ⊎ (IsNoServiceOfMany rows operands
    × IsUsageFault status input input' output output'))
Does nothing status input input' output output' = IsUnbegun status input input' output output'
    ⊎ IsUsageFault status input input' output output'
