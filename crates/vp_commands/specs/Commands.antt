-- The effect of each command on its standard streams and files, and its exit status. Pinned by the tests
-- `pictures_of_over_16777216_pixels_are_too_large` and `info_that_is_not_printed_has_status_1`.
use Rattle.std.specs.Prelude.{◌≡◌, ◌≢◌, ◌⊎◌, ℕ, Bool, true, false, List, [], ◌∷◌, length, codes, Option, Some, None}
use Rattle.std.specs.Prelude.{Result, Ok, Err, OnOk, IfOk, MatchBool, nat_eq, nat_lt, not, ◌&&◌, ◌||◌, if◌then◌else◌}
use Rattle.std.specs.List.{list_all}
use Rattle.std.specs.Str.{bytes_eq}
use Rattle.std.specs.Io.KnownBytes.{Appends, Consumes, IsAtEnd}
use Rattle.vp_base.specs.declared.limits.Limits.{Limits}
use Rattle.vp_base.specs.declared.counted.Counted.{Counted as CountedStream}
use Rattle.vp_base.specs.Counted.{counted_contents, counted_failures, counted_remaining, HasFailed}
use Rattle.vp_ivf.specs.declared.fault.FileFault.{FileFault}
use Rattle.vp_ivf.specs.declared.fault.FileFault.TheVariants as file_fault
use Rattle.vp_encode.specs.declared.settings.Settings.{Settings}
use Rattle.vp_encode.specs.declared.report.EncodeReport.{EncodeReport}
use Rattle.vp_encode.specs.declared.report.EncodeAllFault.{EncodeAllFault}
use Rattle.vp_encode.specs.declared.report.EncodeAllFault.TheVariants as encode_fault
use Rattle.vp_encode.specs.File.{IsEncodeAnswerFor as IsEncoderAnswerFor}
use Rattle.vp_live.specs.Live.{IsLiveAnswer}
use Rattle.vp_stream.specs.declared.form.Form.{Form}
use Rattle.vp_stream.specs.declared.form.Form.TheVariants.{I420, Y4m}
use Rattle.vp_stream.specs.declared.report.Report.{Report}
use Rattle.vp_stream.specs.declared.fault.DecodeFault.{DecodeFault}
use Rattle.vp_stream.specs.declared.fault.DecodeFault.TheVariants.{File, Device, Memory}
use Rattle.vp_stream.specs.declared.fault.SurveyFault.{SurveyFault}
use Rattle.vp_stream.specs.declared.outcomes.Survey.{Survey}
use Rattle.vp_stream.specs.Transcode.{read_fault_by}
use Rattle.vp_stream.specs.Written.{IsDecodeAnswerFor, IsSurveyFor}
use Rattle.vp_frames.specs.declared.report.RangeReport.{RangeReport}
use Rattle.vp_frames.specs.declared.range.PacketRange.{PacketRange}
use Rattle.vp_frames.specs.Written.{IsRangeAnswerFor}
use Rattle.clap.specs.Walk.{Row, texts}
use Rattle.vp_check.specs.declared.checked.Checked.{Checked}
use Rattle.vp_check.specs.Checks.{IsCheckFor as IsCheckAnswerFor}
use Rattle.vp_lines.specs.CheckLines.{checks_text, is_well}
use Rattle.vp_lines.specs.Listing.{survey_text}
use Rattle.vp_lines.specs.Sums.{PrintsSums}
use Rattle.vp_commands.specs.Status.{status_by, status_of}
use Rattle.vp_commands.specs.Usual.{AreLimitsOf}
use Rattle.vp_lines.specs.declared.styles.LineStyle.{LineStyle}
use Rattle.vp_lines.specs.declared.styles.LineStyle.TheVariants.{Counted, Packets, Json}
use Rattle.vp_args.specs.declared.check_args.CheckArgs.{CheckArgs}
use Rattle.vp_args.specs.declared.decode_args.DecodeArgs.{DecodeArgs}
use Rattle.vp_args.specs.declared.decode_args.DecodeRangeArgs.{DecodeRangeArgs}
use Rattle.vp_args.specs.declared.file_limits.FileLimits.{FileLimits}
use Rattle.vp_args.specs.declared.info_args.InfoArgs.{InfoArgs}
use Rattle.vp_args.specs.declared.encode_args.EncodeArgs.{EncodeArgs}
use Rattle.vp_args.specs.declared.encode_args.EncodeOptions.{EncodeOptions}
use Rattle.vp_commands.specs.declared.picture.MadePicture.{MadePicture}
use Rattle.vp_commands.specs.declared.picture_fault.PictureFault.{PictureFault}
use Rattle.vp_commands.specs.declared.picture_fault.PictureFault.TheVariants.{Find, TooLong}
use Rattle.vp_commands.specs.Picturing.{IsPictureOf, IsTooLongOf, is_foreign}
use Rattle.vp_still.specs.Faults.{IsFaultIn}
use Rattle.vp_still.specs.declared.fault.FindFault.{FindFault}
use Rattle.vp_still.specs.declared.fault.FindFault.TheVariants as find_fault
use Rattle.vp_args.specs.declared.picture_args.PictureArgs.{PictureArgs}
use Rattle.vp_args.specs.Args.{IsEncodeFor, IsPictureFor}

-- ---- standard streams

-- the bytes that a reader has left, or that a writer holds, if they are known; and the number of failed calls
pub record Side : Type 0 where
  pub bytes : Option (List ℕ)
  pub failures : ℕ

-- the side of a reader
abbrev pub read_side : {R : Type 0} → (R → Option (List ℕ)) → CountedStream R → Side
read_side remaining r = record { bytes = counted_remaining remaining r; failures = counted_failures r }

-- the side of a writer
abbrev pub written_side : {W : Type 0} → (W → Option (List ℕ)) → CountedStream W → Side
written_side contents w = record { bytes = counted_contents contents w; failures = counted_failures w }

-- the name is that of a standard stream
abbrev pub is_stream : List ℕ → Bool
is_stream name = bytes_eq name (codes "-")

-- If the name is `-`, the work is done over the standard stream. Else it is done over a file, about whose bytes nothing
-- is known, and the standard stream is unchanged.
abbrev pub Over : List ℕ → (Side → Side → Type 0) → Side → Side → Type 0
Over name Work old new = MatchBool (is_stream name) (Work old new) ((new ≡ old) × ((a : Side) × (b : Side) × Work a b))

-- a file couldn't be opened or created, or the output is the input file: the work ended by one of these faults
abbrev pub IsUnopened : {T F : Type 0} → F → F → List ℕ → Result T F → Type 0
IsUnopened device memory name done = (is_stream name ≡ false) × ((done ≡ Err device) ⊎ (done ≡ Err memory))

-- work from the input of a name, which is done over it, unless it can't be opened
abbrev pub WorksFrom : {T F : Type 0} → F → F → List ℕ → (Result T F → Side → Side → Side → Side → Type 0) → Result T F
    → Side → Side → Side → Side → Type 0
WorksFrom device memory from Work done input input' output output' =
    (IsUnopened device memory from done × (input' ≡ input) × (output' ≡ output))
    ⊎ Over from (λ a b. Work done a b output output') input input'

-- work to the output of a name, once the input is open
abbrev pub WorksInto : {T F : Type 0} → F → F → List ℕ → (Result T F → Side → Side → Side → Side → Type 0) → Result T F
    → Side → Side → Side → Side → Type 0
WorksInto device memory to Work done input input' output output' =
    (IsUnopened device memory to done × (input' ≡ input) × (output' ≡ output))
    ⊎ Over to (Work done input input') output output'

-- work from the input of a name that writes to none of the streams
abbrev pub LooksAt : {T : Type 0} → List ℕ → (Result T DecodeFault → Side → Side → Type 0) → Result T DecodeFault → Side
    → Side → Type 0
LooksAt from Work done input input' = (IsUnopened Device Memory from done × (input' ≡ input))
    ⊎ Over from (Work done) input input'

-- ---- vp8 decode

-- the form is YUV4MPEG2
abbrev pub is_y4m : Form → Bool
is_y4m I420 = false
is_y4m Y4m = true

-- the form of the pictures, as the option says
abbrev pub form_by : Bool → Form
form_by false = I420
form_by true = Y4m

-- the result of `decode_all`
pub record IsFileDecoded (most : FileLimits) (form : Form) (done : Result Report DecodeFault) (input input' output output' : Side)
    : Type 0 where
  pub limits : Limits
  pub usual : AreLimitsOf most limits
  pub file : List ℕ
  pub consumed : Consumes input.bytes input'.bytes file
  pub answer : IsDecodeAnswerFor limits form done
      (HasFailed output.failures output'.failures) file output.bytes output'.bytes
  pub end : OnOk done (IsAtEnd input'.bytes)
  pub torn : done ≡ Err (File file_fault.Torn) → IsAtEnd input'.bytes
  pub device : done ≡ Err Device → HasFailed input.failures input'.failures ⊎ HasFailed output.failures output'.failures
  pub quiet : done ≢ Err Device → (input'.failures ≡ input.failures) × (output'.failures ≡ output.failures)

-- decodes to the output file, once the input is open
abbrev pub DecodesInto : FileLimits → Form → List ℕ → Result Report DecodeFault → Side → Side → Side → Side → Type 0
DecodesInto most form to = WorksInto Device Memory to (IsFileDecoded most form)

-- decodes from the input file to the output file
abbrev pub DecodesFile : FileLimits → Form → List ℕ → List ℕ → Result Report DecodeFault → Side → Side → Side → Side
    → Type 0
DecodesFile most form from to = WorksFrom Device Memory from (DecodesInto most form to)

-- ---- vp8 decode, for a range of packets

-- the result of `decode_range` for the packets from the first to the last
pub record IsFileRangeDecoded (most : FileLimits) (form : Form) (first last : ℕ) (done : Result RangeReport DecodeFault)
    (input input' output output' : Side) : Type 0 where
  pub limits : Limits
  pub usual : AreLimitsOf most limits
  pub range : PacketRange
  pub first_is : range.first ≡ first
  pub last_is : range.last ≡ last
  pub file : List ℕ
  pub consumed : Consumes input.bytes input'.bytes file
  pub answer : IsRangeAnswerFor limits form file range done
      (HasFailed output.failures output'.failures) output.bytes output'.bytes
  pub end : OnOk done (IsAtEnd input'.bytes)
  pub torn : done ≡ Err (File file_fault.Torn) → IsAtEnd input'.bytes
  pub device : done ≡ Err Device → HasFailed input.failures input'.failures ⊎ HasFailed output.failures output'.failures
  pub quiet : done ≢ Err Device → (input'.failures ≡ input.failures) × (output'.failures ≡ output.failures)

-- decodes a range to the output file, once the input is open
abbrev pub DecodesRangeInto : FileLimits → Form → ℕ → ℕ → List ℕ → Result RangeReport DecodeFault → Side → Side
    → Side → Side → Type 0
DecodesRangeInto most form first last to = WorksInto Device Memory to (IsFileRangeDecoded most form first last)

-- decodes a range from the input file to the output file
abbrev pub DecodesRange : FileLimits → Form → ℕ → ℕ → List ℕ → List ℕ → Result RangeReport DecodeFault → Side → Side
    → Side → Side → Type 0
DecodesRange most form first last from to = WorksFrom Device Memory from (DecodesRangeInto most form first last to)

-- the exit status: 0 only if the last packet of the range exists and no packet of the range has a fault
abbrev pub status_by_range : ℕ → Result RangeReport DecodeFault → ℕ
status_by_range last (Ok report) = if nat_lt last report.count then status_by report.faults else 1
status_by_range last (Err fault) = 1

-- ---- vp8 info

-- the result of `survey`
pub record IsFileSurveyed (most : FileLimits) (told : Result Survey SurveyFault) (input input' : Side) : Type 0 where
  pub limits : Limits
  pub usual : AreLimitsOf most limits
  pub file : List ℕ
  pub consumed : Consumes input.bytes input'.bytes file
  pub answer : IsSurveyFor limits told file
  pub end : IfOk told (λ s. s.fault ≡ None → IsAtEnd input'.bytes)
  pub torn : IfOk told (λ s. s.fault ≡ Some file_fault.Torn → IsAtEnd input'.bytes)
  pub device : told ≡ Err SurveyFault.Device → HasFailed input.failures input'.failures
  pub quiet : told ≢ Err SurveyFault.Device → input'.failures ≡ input.failures

-- a fault of reading as a fault of decoding
abbrev pub told_as : Result Survey SurveyFault → Result Survey DecodeFault
told_as (Ok survey) = Ok survey
told_as (Err fault) = Err (read_fault_by fault)

-- surveys an open input
abbrev pub SurveysInput : FileLimits → Result Survey DecodeFault → Side → Side → Type 0
SurveysInput most done input input' = (told : Result Survey SurveyFault) × (done ≡ told_as told)
    × IsFileSurveyed most told input input'

-- surveys the input file
abbrev pub SurveysFile : FileLimits → List ℕ → Result Survey DecodeFault → Side → Side → Type 0
SurveysFile most from = LooksAt from (SurveysInput most)

-- the exit status for the file's fault
abbrev pub status_by_fault : Option FileFault → ℕ
status_by_fault None = 0
status_by_fault (Some fault) = 1

-- a call of the output was counted as failed, and the status is 1
abbrev pub IsUnwritten : ℕ → Side → Side → Type 0
IsUnwritten status output output' = (status ≡ 1) × HasFailed output.failures output'.failures

-- the survey is printed, or the output failed; without a survey nothing is printed
abbrev pub PrintsSurvey : Result Survey DecodeFault → ℕ → Side → Side → Type 0
PrintsSurvey (Ok survey) status output output' = ((status ≡ status_by_fault survey.fault)
    × Appends output.bytes output'.bytes (survey_text survey)) ⊎ IsUnwritten status output output'
PrintsSurvey (Err fault) status output output' = (status ≡ 1) × (output' ≡ output)

-- ---- vp8 check

-- the result of `check`
pub record IsFileChecked (most : FileLimits) (told : Result Checked SurveyFault) (input input' : Side) : Type 0 where
  pub limits : Limits
  pub usual : AreLimitsOf most limits
  pub file : List ℕ
  pub consumed : Consumes input.bytes input'.bytes file
  pub answer : IsCheckAnswerFor limits told file
  pub end : IfOk told (λ c. c.fault ≡ None → IsAtEnd input'.bytes)
  pub torn : IfOk told (λ c. c.fault ≡ Some file_fault.Torn → IsAtEnd input'.bytes)
  pub device : told ≡ Err SurveyFault.Device → HasFailed input.failures input'.failures
  pub quiet : told ≢ Err SurveyFault.Device → input'.failures ≡ input.failures

-- a fault of reading as a fault of decoding
abbrev pub checked_as : Result Checked SurveyFault → Result Checked DecodeFault
checked_as (Ok checked) = Ok checked
checked_as (Err fault) = Err (read_fault_by fault)

-- checks an open input
abbrev pub ChecksInput : FileLimits → Result Checked DecodeFault → Side → Side → Type 0
ChecksInput most done input input' = (told : Result Checked SurveyFault) × (done ≡ checked_as told)
    × IsFileChecked most told input input'

-- checks a file
abbrev pub ChecksFile : FileLimits → List ℕ → Result Checked DecodeFault → Side → Side → Type 0
ChecksFile most from = LooksAt from (ChecksInput most)

-- checks the first of these files, one after another, as many as there are results
abbrev pub AreFilesChecked : FileLimits → List (List ℕ) → List (Result Checked DecodeFault) → Side → Side → Type 0
AreFilesChecked most names [] input input' = input' ≡ input
AreFilesChecked most [] (done ∷ dones) input input' = ⊥
AreFilesChecked most (name ∷ names) (done ∷ dones) input input' = (next : Side)
    × ChecksFile most name done input next × AreFilesChecked most names dones next input'

-- the exit status: 0 only if nothing is wrong with any file, as far as this form of the lines tells
abbrev pub status_by_checks : LineStyle → List (Result Checked DecodeFault) → ℕ
status_by_checks style dones = if list_all (is_well style) dones then 0 else 1

-- all files are checked, and all lines are printed; or the output failed
abbrev pub PrintsChecks : LineStyle → List (List ℕ) → List (Result Checked DecodeFault) → ℕ → Side → Side → Type 0
PrintsChecks style names dones status output output' = ((length dones ≡ length names)
    × (status ≡ status_by_checks style dones)
    × Appends output.bytes output'.bytes (checks_text style names dones)) ⊎ IsUnwritten status output output'

-- checks files, and prints what is found
abbrev pub ChecksEach : FileLimits → LineStyle → List (List ℕ) → ℕ → Side → Side → Side → Side → Type 0
ChecksEach most style names status input input' output output' = (dones : List (Result Checked DecodeFault))
    × AreFilesChecked most names dones input input' × PrintsChecks style names dones status output output'

-- ---- vp8 encode

-- the encoder's settings, as the options say
abbrev pub settings_of : EncodeOptions → Settings
settings_of o = record {
  qi = o.qi;
  level = o.level;
  sharpness = o.sharpness;
  simple = o.simple;
  key_every = o.key_every;
  golden_every = o.golden_every;
  range = o.range;
  subpel = o.subpel;
  partitions = o.partitions;
}

-- what is asked of the encoder: its settings, whether packets are written while pictures are read, and the greatest
-- files
pub record Encoding : Type 0 where
  pub settings : Settings
  pub live : Bool
  pub most : FileLimits

-- as the arguments say
abbrev pub encoding_of : EncodeArgs → Encoding
encoding_of e = record { settings = settings_of e.options; live = e.live; most = e.limits }

-- the answer of `encode_all`, which writes after the last picture, or of `encode_live`
abbrev pub IsAnswerOf : Bool → Limits → Settings → Result EncodeReport EncodeAllFault → List ℕ → Option (List ℕ)
    → Option (List ℕ) → Type 0
IsAnswerOf false limits settings done file before after = IsEncoderAnswerFor limits settings done file before after
IsAnswerOf true limits settings done file before after =
    (pictures : ℕ) × IsLiveAnswer pictures limits settings done file before after

-- the result of `encode_all` or of `encode_live`
pub record IsFileEncoded (encoding : Encoding) (done : Result EncodeReport EncodeAllFault)
    (input input' output output' : Side) : Type 0 where
  pub limits : Limits
  pub usual : AreLimitsOf encoding.most limits
  pub file : List ℕ
  pub consumed : Consumes input.bytes input'.bytes file
  pub answer : IsAnswerOf encoding.live limits encoding.settings done file output.bytes output'.bytes
  pub end : OnOk done (IsAtEnd input'.bytes)
  pub torn : done ≡ Err encode_fault.Torn → IsAtEnd input'.bytes
  pub device : done ≡ Err encode_fault.Device → HasFailed input.failures input'.failures
      ⊎ HasFailed output.failures output'.failures
  pub quiet : done ≢ Err encode_fault.Device → (input'.failures ≡ input.failures) × (output'.failures ≡ output.failures)

-- encodes to the output file, once the input is open
abbrev pub EncodesInto : Encoding → List ℕ → Result EncodeReport EncodeAllFault → Side → Side → Side → Side → Type 0
EncodesInto encoding to = WorksInto encode_fault.Device encode_fault.Memory to (IsFileEncoded encoding)

-- encodes from the input file to the output file
abbrev pub EncodesFile : Encoding → List ℕ → List ℕ → Result EncodeReport EncodeAllFault → Side → Side → Side → Side
    → Type 0
EncodesFile encoding from to = WorksFrom encode_fault.Device encode_fault.Memory from (EncodesInto encoding to)

-- the exit status of encoding
abbrev pub status_by_report : Result EncodeReport EncodeAllFault → ℕ
status_by_report (Ok report) = 0
status_by_report (Err fault) = 1

-- ---- the effect of a command, with this exit status

-- memory ran out before anything was done
abbrev pub IsUnbegun : ℕ → Side → Side → Side → Side → Type 0
IsUnbegun status input input' output output' = (status ≡ 1) × (input' ≡ input) × (output' ≡ output)

-- the arguments are refused before anything is done
abbrev pub IsUsageFault : ℕ → Side → Side → Side → Side → Type 0
IsUsageFault status input input' output output' = (status ≡ 2) × (input' ≡ input) × (output' ≡ output)

-- sums are printed in place of pictures
abbrev pub is_summed : DecodeArgs → Bool
is_summed d = d.md5 || d.md5_each

-- work whose pictures are only summed up: done over a writer of which nothing is known here
abbrev pub Summed : (Side → Side → Side → Side → Type 0) → Side → Side → Type 0
Summed Work input input' = (a : Side) × (b : Side) × Work input input' a b

-- sums up the pictures of the input file
abbrev pub SumsFile : {T : Type 0} → (Result T DecodeFault → Side → Side → Side → Side → Type 0) → List ℕ
    → Result T DecodeFault → Side → Side → Type 0
SumsFile Work from = LooksAt from (λ done. Summed (Work done))

-- the lines of the sums are printed, with this status, or the output failed; after a fault nothing is printed
abbrev pub PrintsSum : {T : Type 0} → Bool → Result T DecodeFault → List ℕ → ℕ → ℕ → Side → Side → Type 0
PrintsSum each (Ok report) name good status output output' =
    ((status ≡ good) × PrintsSums each name output.bytes output'.bytes) ⊎ IsUnwritten status output output'
PrintsSum each (Err fault) name good status output output' = (status ≡ 1) × (output' ≡ output)

-- writes the pictures
abbrev pub WritesPictures : DecodeArgs → ℕ → Side → Side → Side → Side → Type 0
WritesPictures d status input input' output output' =
    (form : Form) × (done : Result Report DecodeFault) × (is_y4m form ≡ d.y4m) × (status ≡ status_of done)
    × DecodesFile d.limits form d.input.now d.output.now done input input' output output'

-- prints the sums of the pictures
abbrev pub SumsPictures : DecodeArgs → ℕ → Side → Side → Side → Side → Type 0
SumsPictures d status input input' output output' =
    (form : Form) × (done : Result Report DecodeFault) × (is_y4m form ≡ d.y4m)
    × SumsFile (IsFileDecoded d.limits form) d.input.now done input input'
    × PrintsSum d.md5_each done d.output.now (status_of done) status output output'

-- the effect of `vp8 decode`
abbrev pub DoesDecode : DecodeArgs → ℕ → Side → Side → Side → Side → Type 0
DoesDecode d status input input' output output' = MatchBool (is_summed d) (SumsPictures d status input input' output output')
    (WritesPictures d status input input' output output')

-- writes the pictures of a range of packets
abbrev pub WritesRange : DecodeRangeArgs → ℕ → Side → Side → Side → Side → Type 0
WritesRange r status input input' output output' =
    (form : Form) × (done : Result RangeReport DecodeFault) × (is_y4m form ≡ r.decoding.y4m)
    × (status ≡ status_by_range r.last done)
    × DecodesRange r.decoding.limits form r.first r.last r.decoding.input.now r.decoding.output.now done input input'
    output output'

-- prints the sums of the pictures of a range of packets
abbrev pub SumsRange : DecodeRangeArgs → ℕ → Side → Side → Side → Side → Type 0
SumsRange r status input input' output output' =
    (form : Form) × (done : Result RangeReport DecodeFault) × (is_y4m form ≡ r.decoding.y4m)
    × SumsFile (IsFileRangeDecoded r.decoding.limits form r.first r.last) r.decoding.input.now done input input'
    × PrintsSum r.decoding.md5_each done r.decoding.output.now (status_by_range r.last done) status output output'

-- the effect of `vp8 decode` for a range of packets
abbrev pub DoesDecodeRange : DecodeRangeArgs → ℕ → Side → Side → Side → Side → Type 0
DoesDecodeRange r status input input' output output' =
    MatchBool (is_summed r.decoding) (SumsRange r status input input' output output')
    (WritesRange r status input input' output output')

-- the effect of `vp8 encode`
abbrev pub DoesEncode : List Row → List ℕ → List ℕ → ℕ → Side → Side → Side → Side → Type 0
DoesEncode rows from to status input input' output output' =
    (e : EncodeArgs) × (done : Result EncodeReport EncodeAllFault) × IsEncodeFor rows from to e
    × (status ≡ status_by_report done) × EncodesFile (encoding_of e) from to done input input' output output'

-- the lines of one file are asked for, without marks
abbrev pub is_plain : InfoArgs → Bool
is_plain i = nat_eq (length i.files.items) 1 && not (i.long || i.json)

-- the form of the lines that `info` prints otherwise
abbrev pub info_style : InfoArgs → LineStyle
info_style i = if i.json then Json else Packets i.long (nat_lt 1 (length i.files.items))

-- the first name
abbrev pub first_name : List (List ℕ) → List ℕ
first_name [] = []
first_name (name ∷ names) = name

-- surveys a file, and prints what is found
abbrev pub ListsFile : FileLimits → List ℕ → ℕ → Side → Side → Side → Side → Type 0
ListsFile most from status input input' output output' =
    (done : Result Survey DecodeFault) × SurveysFile most from done input input'
    × PrintsSurvey done status output output'

-- the effect of `vp8 info`
abbrev pub DoesInfo : InfoArgs → ℕ → Side → Side → Side → Side → Type 0
DoesInfo i status input input' output output' =
    MatchBool (is_plain i) (ListsFile i.limits (first_name (texts i.files.items)) status input input' output output')
    (ChecksEach i.limits (info_style i) (texts i.files.items) status input input' output output')

-- the effect of `vp8 check`
abbrev pub DoesCheck : CheckArgs → ℕ → Side → Side → Side → Side → Type 0
DoesCheck c status input input' output output' =
    ChecksEach c.limits (Counted c.verbose) (texts c.files.items) status input input' output output'

-- the file is read to its end, unless it begins as neither an IVF nor a WebP file
pub record IsFileRead (file : List ℕ) (input input' : Side) : Type 0 where
  pub consumed : Consumes input.bytes input'.bytes file
  pub end : is_foreign file ≡ false → IsAtEnd input'.bytes

-- the input gives no picture, for this reason
abbrev pub IsFoundFault : PictureArgs → FindFault → List ℕ → Type 0
IsFoundFault p e file =
    (e ≡ find_fault.Memory) ⊎ ((limits : Limits) × AreLimitsOf p.limits limits × IsFaultIn limits file p.packet e)

-- the picture of an open input, or its fault; if it can't be read, nothing is said
abbrev pub IsMadeInput : PictureArgs → Result MadePicture PictureFault → Side → Side → Type 0
IsMadeInput p (Ok made) input input' = (file : List ℕ) × IsFileRead file input input' × IsPictureOf p file made
IsMadeInput p (Err (Find e)) input input' = (file : List ℕ) × IsFileRead file input input' × IsFoundFault p e file
IsMadeInput p (Err TooLong) input input' = (file : List ℕ) × IsFileRead file input input' × IsTooLongOf p file
IsMadeInput p (Err _) input input' = Unit {0}

-- the exit status of `vp8 picture`
abbrev pub status_by_picture : Result MadePicture PictureFault → ℕ
status_by_picture (Ok made) = 0
status_by_picture (Err fault) = 1

-- the effect of `vp8 picture`; the picture is written to a file, about whose bytes nothing is said
abbrev pub DoesPicture : List Row → List ℕ → List ℕ → ℕ → Side → Side → Side → Side → Type 0
DoesPicture rows from to status input input' output output' =
    (p : PictureArgs) × (done : Result MadePicture PictureFault) × IsPictureFor rows from to p
    × (status ≡ status_by_picture done) × Over from (IsMadeInput p done) input input' × (output' ≡ output)
