-- What is asked of the program is done.
use Rattle.std.proofs.Common.{None, Ok}
use Rattle.vp_base.specs.Counted.{HasFailed}
use Rattle.vp_hub.specs.Hub.{HubState}
use Rattle.vp_hub.specs.Work.{Hub}
use Rattle.vp_hub.specs.Sessions.{IsSession, IsTurnedAway}
use Rattle.vp_app.specs.Serving.{IsServed}
use Rattle.std.proofs.Common.{◌≡◌, ◌⊎◌, inl, inr, List, [], ◌∷◌, ℕ, Bool, false, refl, subst}
use Rattle.std.specs.Prelude.{Result}
use Rattle.clap.specs.Kinds.{HasKind, IsAmong, Kinds}
use Rattle.clap.specs.Values.{kind_of}
use Rattle.clap.specs.Walk.{Text}
use Rattle.clap.specs.declared.error.Error.{Error}
use Rattle.clap.specs.declared.error.kind.ErrorKind.TheVariants.{OutOfMemory}
use Rattle.vp_encode.specs.declared.report.EncodeReport.{EncodeReport}
use Rattle.vp_encode.specs.declared.report.EncodeAllFault.{EncodeAllFault}
use Rattle.vp_args.specs.declared.check_args.CheckArgs.{CheckArgs}
use Rattle.vp_args.specs.declared.decode_args.DecodeArgs.{DecodeArgs}
use Rattle.vp_args.specs.declared.decode_args.DecodeRangeArgs.{DecodeRangeArgs}
use Rattle.vp_args.specs.declared.info_args.InfoArgs.{InfoArgs}
use Rattle.vp_args.specs.declared.encode_args.EncodeArgs.{EncodeArgs}
use Rattle.vp_args.specs.declared.serve_args.ServeArgs.{ServeArgs}
use Rattle.vp_app.specs.declared.service.ServiceFault.{ServiceFault}
use Rattle.vp_args.specs.declared.args.Task.{Task}
use Rattle.vp_args.specs.declared.args.Task.TheVariants.{Check, Decode, DecodeRange, Encode, Info, Picture, Serve, ServeMany, Nothing}
use Rattle.vp_args.specs.declared.args.Refusal.{Refusal}
use Rattle.vp_args.specs.declared.args.Refusal.TheVariants.{ClapError, Value}
use Rattle.vp_args.specs.declared.serve_args.ServeManyArgs.{ServeManyArgs}
use Rattle.vp_app.specs.declared.many.ManyFault.{ManyFault}
use Rattle.vp_commands.specs.declared.picture.MadePicture.{MadePicture}
use Rattle.vp_commands.specs.declared.picture_fault.PictureFault.{PictureFault}
use Rattle.vp_args.specs.declared.picture_args.PictureArgs.{PictureArgs}
use Rattle.vp_app.specs.Many.{ServesMany, status_by_many}
use Rattle.vp_args.specs.Args.{ParsedArgs, checks, decodes, decodes_range, encodes, tells, pictures, serves, serves_many, nothing, parsed_args, faults_of, IsForMemory, IsInvalidValue, IsTaskFor, IsMistake, IsRefusalFor, HasInvalidValue, AreMistaken}
use Rattle.vp_commands.specs.Commands.{DoesCheck, DoesDecode, DoesDecodeRange, DoesInfo, EncodesFile, IsMadeInput, Over, Side, encoding_of, status_by_picture, status_by_report}
use Rattle.vp_commands.specs.Commands.{IsUnbegun, IsUsageFault}
use Rattle.vp_app.specs.Program.{Does, ServesConnections, status_by_service}

-- ---- what is planned is done

pub does_decode : (asked : ParsedArgs) (plan : Task) (d : DecodeArgs) (status : ℕ) (i i' o o' : Side)
    → plan ≡ Decode d → IsTaskFor asked plan → DoesDecode d status i i' o o' → Does asked status i i' o o'
does_decode asked plan d status i i' o o' e h w = go asked (subst (IsTaskFor asked) e h)
  where
    go : (x : ParsedArgs) → IsTaskFor x (Decode d) → Does x status i i' o o'
    go (decodes rows f t) p = inl (d, p, w)
    go (decodes_range rows f t) p = absurd p
    go (encodes rows f t) p = absurd p
    go (tells r f) p = absurd p
    go (checks r f) p = absurd p
    go (serves r a c t) p = absurd p
    go (pictures r f g) p = absurd p
    go (serves_many r a t) p = absurd p
    go nothing p = absurd p

pub does_decode_range : (asked : ParsedArgs) (plan : Task) (wanted : DecodeRangeArgs) (status : ℕ) (i i' o o' : Side)
    → plan ≡ DecodeRange wanted → IsTaskFor asked plan → DoesDecodeRange wanted status i i' o o' → Does asked status i i' o o'
does_decode_range asked plan wanted status i i' o o' e h w = go asked (subst (IsTaskFor asked) e h)
  where
    go : (x : ParsedArgs) → IsTaskFor x (DecodeRange wanted) → Does x status i i' o o'
    go (decodes rows f t) p = absurd p
    go (decodes_range rows f t) p = inl (wanted, p, w)
    go (encodes rows f t) p = absurd p
    go (tells r f) p = absurd p
    go (checks r f) p = absurd p
    go (serves r a c t) p = absurd p
    go (pictures r f g) p = absurd p
    go (serves_many r a t) p = absurd p
    go nothing p = absurd p

pub does_encode : (asked : ParsedArgs) (plan : Task) (encoding : EncodeArgs) (done : Result EncodeReport EncodeAllFault) (status : ℕ) (i i' o o' : Side)
    → plan ≡ Encode encoding → IsTaskFor asked plan → status ≡ status_by_report done
    → EncodesFile (encoding_of encoding) encoding.input.now encoding.output.now done i i' o o' → Does asked status i i' o o'
does_encode asked plan encoding done status i i' o o' e h s d = go asked (subst (IsTaskFor asked) e h)
  where
    go : (x : ParsedArgs) → IsTaskFor x (Encode encoding) → Does x status i i' o o'
    go (decodes flag f t) p = absurd p
    go (decodes_range rows f t) p = absurd p
    go (encodes rows f t) p =
        inl (encoding, done, p, s, rw (← p.input_is, ← p.output_is) d)
    go (tells r f) p = absurd p
    go (checks r f) p = absurd p
    go (serves r a c t) p = absurd p
    go (pictures r f g) p = absurd p
    go (serves_many r a t) p = absurd p
    go nothing p = absurd p

pub does_tell : (asked : ParsedArgs) (plan : Task) (wanted : InfoArgs) (status : ℕ) (i i' o o' : Side)
    → plan ≡ Info wanted → IsTaskFor asked plan → DoesInfo wanted status i i' o o' → Does asked status i i' o o'
does_tell asked plan wanted status i i' o o' e h w = go asked (subst (IsTaskFor asked) e h)
  where
    go : (x : ParsedArgs) → IsTaskFor x (Info wanted) → Does x status i i' o o'
    go (decodes r f g) p = absurd p
    go (decodes_range rows f g) p = absurd p
    go (encodes rows f g) p = absurd p
    go (tells rows files) p = inl (wanted, p, w)
    go (checks r f) p = absurd p
    go (serves r a c t) p = absurd p
    go (pictures r f g) p = absurd p
    go (serves_many r a t) p = absurd p
    go nothing p = absurd p

pub does_check : (asked : ParsedArgs) (plan : Task) (wanted : CheckArgs) (status : ℕ) (i i' o o' : Side)
    → plan ≡ Check wanted → IsTaskFor asked plan → DoesCheck wanted status i i' o o' → Does asked status i i' o o'
does_check asked plan wanted status i i' o o' e h w = go asked (subst (IsTaskFor asked) e h)
  where
    go : (x : ParsedArgs) → IsTaskFor x (Check wanted) → Does x status i i' o o'
    go (decodes r f g) p = absurd p
    go (decodes_range rows f g) p = absurd p
    go (encodes rows f g) p = absurd p
    go (tells r f) p = absurd p
    go (checks rows files) p = inl (wanted, p, w)
    go (pictures r f g) p = absurd p
    go (serves r a c t) p = absurd p
    go (serves_many r a t) p = absurd p
    go nothing p = absurd p

pub does_picture : (asked : ParsedArgs) (plan : Task) (wanted : PictureArgs) (done : Result MadePicture PictureFault) (status : ℕ) (i i' o : Side)
    → plan ≡ Picture wanted → IsTaskFor asked plan → status ≡ status_by_picture done → Over wanted.input.now (IsMadeInput wanted done) i i'
    → Does asked status i i' o o
does_picture asked plan wanted done status i i' o e h s d = go asked (subst (IsTaskFor asked) e h)
  where
    go : (x : ParsedArgs) → IsTaskFor x (Picture wanted) → Does x status i i' o o
    go (decodes flag f g) p = absurd p
    go (decodes_range rows f g) p = absurd p
    go (encodes rows f g) p = absurd p
    go (tells r f) p = absurd p
    go (checks r f) p = absurd p
    go (pictures rows f g) p = inl (wanted, done, p, s, subst (λ name. Over name (IsMadeInput wanted done) i i') p.input_is d, refl)
    go (serves r a c t) p = absurd p
    go (serves_many r a t) p = absurd p
    go nothing p = absurd p

pub does_serve : (asked : ParsedArgs) (plan : Task) (service : ServeArgs) (done : Result Bool ServiceFault) (status : ℕ) (i i' o o' : Side)
    → plan ≡ Serve service → IsTaskFor asked plan → status ≡ status_by_service done → ServesConnections service done i i' → (service.show_address ≡ false → o' ≡ o)
    → Does asked status i i' o o'
does_serve asked plan service done status i i' o o' e h s d q = go asked (subst (IsTaskFor asked) e h)
  where
    go : (x : ParsedArgs) → IsTaskFor x (Serve service) → Does x status i i' o o'
    go (decodes flag f g) p = absurd p
    go (decodes_range rows f g) p = absurd p
    go (encodes rows f g) p = absurd p
    go (tells r f) p = absurd p
    go (checks r f) p = absurd p
    go (serves rows address connections operands) p = inl (service, done, p, s, d, q)
    go (pictures r f g) p = absurd p
    go (serves_many r a t) p = absurd p
    go nothing p = absurd p

pub does_serve_many : (asked : ParsedArgs) (plan : Task) (many : ServeManyArgs) (done : Result Bool ManyFault) (status : ℕ) (i i' o o' : Side)
    → plan ≡ ServeMany many → IsTaskFor asked plan → status ≡ status_by_many done → ServesMany many done i.bytes i'.bytes
    → (many.service.show_address ≡ false → o' ≡ o) → Does asked status i i' o o'
does_serve_many asked plan many done status i i' o o' e h s d q = go asked (subst (IsTaskFor asked) e h)
  where
    go : (x : ParsedArgs) → IsTaskFor x (ServeMany many) → Does x status i i' o o'
    go (decodes flag f g) p = absurd p
    go (decodes_range rows f g) p = absurd p
    go (encodes rows f g) p = absurd p
    go (tells r f) p = absurd p
    go (checks r f) p = absurd p
    go (serves r a c t) p = absurd p
    go (pictures r f g) p = absurd p
    go (serves_many rows address operands) p = inl (many, done, p, s, d, q)
    go nothing p = absurd p

pub does_nothing : (asked : ParsedArgs) (plan : Task) (i o : Side) → plan ≡ Nothing → IsTaskFor asked plan → Does asked 2 i i o o
does_nothing asked plan i o e h = go asked (subst (IsTaskFor asked) e h)
  where
    go : (x : ParsedArgs) → IsTaskFor x Nothing → Does x 2 i i o o
    go (decodes flag f g) p = absurd p
    go (decodes_range rows f g) p = absurd p
    go (encodes rows f g) p = absurd p
    go (tells r f) p = absurd p
    go (checks r f) p = absurd p
    go (serves r a c t) p = absurd p
    go (pictures r f g) p = absurd p
    go (serves_many r a t) p = absurd p
    go nothing p = inr (refl, refl, refl)

unbegun : (asked : ParsedArgs) (status : ℕ) (i i' o o' : Side) → IsUnbegun status i i' o o' → Does asked status i i' o o'
unbegun (decodes r f g) status i i' o o' h = inr (inl h)
unbegun (decodes_range rows f g) status i i' o o' h = inr (inl h)
unbegun (encodes rows f g) status i i' o o' h = inr (inl h)
unbegun (tells r f) status i i' o o' h = inr (inl h)
unbegun (checks r f) status i i' o o' h = inr (inl h)
unbegun (serves r a c t) status i i' o o' h = inr (inl h)
unbegun (pictures r f g) status i i' o o' h = inr (inl h)
unbegun (serves_many r a t) status i i' o o' h = inr (inl h)
unbegun nothing status i i' o o' h = inl h

misused : (asked : ParsedArgs) (status : ℕ) (i i' o o' : Side) → HasInvalidValue asked → IsUsageFault status i i' o o' → Does asked status i i' o o'
misused (decodes r f g) status i i' o o' m h = inr (inr (m, h))
misused (decodes_range rows f g) status i i' o o' m h = inr (inr (m, h))
misused (encodes rows f g) status i i' o o' m h = inr (inr (m, h))
misused (tells r f) status i i' o o' m h = inr (inr (m, h))
misused (checks r f) status i i' o o' m h = inr (inr (m, h))
misused (serves r a c t) status i i' o o' m h = inr (inr (m, h))
misused (pictures r f g) status i i' o o' m h = inr (inr (m, h))
misused (serves_many r a t) status i i' o o' m h = inr (inr (m, h))
misused nothing status i i' o o' m h = absurd m

for_memory : (e : Error) (kinds : Kinds) → kinds ≡ [] → HasKind kinds e → kind_of e ≡ OutOfMemory
for_memory e [] none (inl h) = h
for_memory e [] none (inr h) = absurd h
for_memory e (k ∷ ks) none h = cc

pub does_refused : (words : List Text) (refusal : Refusal) (status : ℕ) (i o o' : Side) → IsRefusalFor words refusal
    → (IsForMemory refusal → (status ≡ 1) × (o' ≡ o)) → (IsInvalidValue refusal → (status ≡ 2) × (o' ≡ o)) → faults_of words ≡ []
    → Does (parsed_args words) status i i o o'
does_refused words (ClapError e) status i o o' h memory value none =
    let m = memory (for_memory e (faults_of words) none h) in unbegun (parsed_args words) status i i o o' (m.0, refl, m.1)
does_refused words (Value t) status i o o' h memory value none =
    let v = value tt in misused (parsed_args words) status i i o o' h.1 (v.0, refl, v.1)

-- ---- the laws

pub is_session : (number : ℕ) (s : HubState) → IsServed number s (Ok tt) → IsTurnedAway number s s (Ok tt)
    ⊎ ((old new : Hub) × (old.state ≡ s) × (new.state ≡ s) × ((read : List ℕ) × (failures : ℕ) × IsSession number old new (Ok tt) read None None None (HasFailed 0 failures)))
is_session number s (inl e) = absurd cc
is_session number s (inr h) = h

-- ---- words with a fault

-- the error of mistaken words is for want of memory, or a mistake
pub mistaken_words : (words : List Text) (refusal : Refusal) → IsRefusalFor words refusal → AreMistaken words → IsForMemory refusal ⊎ IsMistake refusal
mistaken_words words (ClapError e) (inl memory) m = inl memory
mistaken_words words (ClapError e) (inr among) m =
    inr (λ k. m.no_help (subst (λ x. IsAmong x (faults_of words)) k among), λ k. m.no_version (subst (λ x. IsAmong x (faults_of words)) k among))
mistaken_words words (Value t) h m = absurd (m.some h.0)
