-- What `vp8 picture` makes of its input.
use Rattle.std.proofs.Common.{◌≡◌, ◌⊎◌, inl, inr, List, ℕ, false}
use Rattle.std.specs.Prelude.{Result, Ok, Err, IfOk, IfErr}
use Rattle.vp_base.specs.declared.limits.Limits.{Limits}
use Rattle.vp_scale.specs.Scale.{factor_of, scaled_side}
use Rattle.vp_still.specs.declared.found.Found.{Found}
use Rattle.vp_still.specs.declared.fault.FindFault.{FindFault}
use Rattle.vp_still.specs.declared.fault.FindFault.TheVariants as find_fault
use Rattle.vp_still.specs.Found.{IsFoundIn}
use Rattle.vp_still.specs.Faults.{IsFaultIn}
use Rattle.vp_args.specs.declared.picture_args.PictureArgs.{PictureArgs}
use Rattle.vp_commands.specs.declared.picture.MadePicture.{MadePicture}
use Rattle.vp_commands.specs.declared.picture_fault.PictureFault.{PictureFault}
use Rattle.vp_commands.specs.declared.picture_fault.PictureFault.TheVariants.{Find, TooLong, Device, ReadTurns, Memory}
use Rattle.vp_commands.specs.Usual.{AreLimitsOf}
use Rattle.vp_commands.specs.Commands.{IsFileRead, IsMadeInput, Over, Side, is_stream}
use Rattle.vp_commands.specs.Picturing.{is_told, IsPictureFile, IsUnmade}
use Rattle.vp_commands.proofs.WorkLemmas.{over_by, over_file}

-- of faults that tell nothing of the input's bytes nothing is said
pub unmade : (p : PictureArgs) (fault : PictureFault) (i j : Side) → is_told fault ≡ false → IsMadeInput p (Err fault) i j
unmade p (Find e) i j h = cc
unmade p TooLong i j h = cc
unmade p Device i j h = tt
unmade p ReadTurns i j h = tt
unmade p Memory i j h = tt

pub unfound : (p : PictureArgs) (e : FindFault) (limits : Limits) (file : List ℕ) (i j : Side) → AreLimitsOf p.limits limits → IsFileRead file i j
    → (e ≡ find_fault.Memory) ⊎ IsFaultIn limits file p.packet e → IsMadeInput p (Err (Find e)) i j
unfound p e limits file i j usual read (inl m) = (file, read, inl m)
unfound p e limits file i j usual read (inr f) = (file, read, inr (limits, usual, f))

pub made : (p : PictureArgs) (done : Result MadePicture PictureFault) (found : Found) (limits : Limits) (file : List ℕ) (i j : Side)
    → AreLimitsOf p.limits limits → IsFileRead file i j → IsFoundIn limits file p.packet found → IfOk done (λ m. m.number ≡ found.number)
    → IfOk done (λ m. m.dim.w ≡ scaled_side (factor_of p.scale) found.dim.w)
    → IfOk done (λ m. m.dim.h ≡ scaled_side (factor_of p.scale) found.dim.h) → IfOk done (λ m. m.has_alpha ≡ found.has_alpha)
    → IfErr done (IsUnmade p found) → IfOk done (λ m. IsPictureFile p.form p.scale p.qi found m.bytes m.coding)
    → IsMadeInput p done i j
made p (Ok m) found limits file i j usual read is number width height alpha none form = (
  file,
  read,
  record {
    limits = limits;
    usual = usual;
    found = found;
    found_is = is;
    number_is = number;
    width_is = width;
    height_is = height;
    alpha_is = alpha;
    made = form;
  },
)
made p (Err TooLong) found limits file i j usual read is number width height alpha none form =
    (file, read, record { limits = limits; usual = usual; found = found; found_is = is; long = none })
made p (Err (Find e)) found limits file i j usual read is number width height alpha none form = cc
made p (Err Device) found limits file i j usual read is number width height alpha none form = tt
made p (Err ReadTurns) found limits file i j usual read is number width height alpha none form = tt
made p (Err Memory) found limits file i j usual read is number width height alpha none form = tt

pub over_written : (name : List ℕ) (p : PictureArgs) (done : Result MadePicture PictureFault) (m : MadePicture) (old new : Side)
    → IfOk done (λ n. n ≡ m) → IfErr done (λ fault. is_told fault ≡ false) → Over name (IsMadeInput p (Ok m)) old new
    → Over name (IsMadeInput p done) old new
over_written name p (Ok n) m old new same none o = over_by name (IsMadeInput p (Ok m)) (IsMadeInput p (Ok n)) old new (λ a b w. rw same w) o
over_written name p (Err fault) m old new same none o =
    over_by name (IsMadeInput p (Ok m)) (IsMadeInput p (Err fault)) old new (λ a b w. unmade p fault a b none) o

pub over_device : (name : List ℕ) (p : PictureArgs) (old : Side) → is_stream name ≡ false → Over name (IsMadeInput p (Err Device)) old old
over_device name p old e = over_file name (IsMadeInput p (Err Device)) old old old e tt
