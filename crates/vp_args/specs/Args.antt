-- The command line: commands, options and operands in the terms of the crate clap, and the tasks that they select.
-- Pinned by the tests `usual_settings`, `each_option_sets_its_own` and `served_as_asked`.
use Rattle.std.specs.Prelude.{◌≡◌, ◌≢◌, ◌⊎◌, ◌<◌, ◌≤◌, ◌==◌, ◌||◌, ◌^◌, ℕ, Bool, true, false, not, List, [], ◌∷◌}
use Rattle.std.specs.Prelude.{length, map, nat_eq, nat_lt, Option, Some, None, codes, if◌then◌else◌}
use Rattle.std.specs.List.{after_first, before_first, ends_with, list_all, list_any, position_or_len}
use Rattle.std.specs.Str.{bytes_eq}
use Rattle.std.specs.Str.Parse.{digits_value, IsNumeral}
use Rattle.clap.specs.Lexer.{usize_max, long_of, short_of}
use Rattle.clap.specs.Values.{kind_of}
use Rattle.clap.specs.Kinds.{Kinds, HasKind, IsAmong}
use Rattle.clap.specs.Walk.{Row, Rule, Text, all_of, first_of, one_of, texts}
use Rattle.clap.specs.Simple.{App, new_app, new_rule, on_top, subcommand_of, with_rule, with_subcommand}
use Rattle.clap.specs.Faults.{fault_of}
use Rattle.clap.specs.declared.builder.action.ArgAction.TheVariants.{Set, Append, SetTrue}
use Rattle.clap.specs.declared.error.kind.ErrorKind.TheVariants.{DisplayHelp, DisplayVersion, OutOfMemory}
use Rattle.vp_args.specs.declared.check_args.CheckArgs.{CheckArgs}
use Rattle.vp_args.specs.declared.decode_args.DecodeArgs.{DecodeArgs}
use Rattle.vp_args.specs.declared.decode_args.DecodeRangeArgs.{DecodeRangeArgs}
use Rattle.vp_args.specs.declared.encode_args.EncodeArgs.{EncodeArgs}
use Rattle.vp_args.specs.declared.encode_args.EncodeOptions.{EncodeOptions}
use Rattle.vp_args.specs.declared.file_limits.FileLimits.{FileLimits}
use Rattle.vp_args.specs.declared.info_args.InfoArgs.{InfoArgs}
use Rattle.vp_scale.specs.declared.scale.Scale.{Scale}
use Rattle.vp_scale.specs.Scale.{factor_of}
use Rattle.vp_args.specs.declared.picture_args.StillForm.{StillForm}
use Rattle.vp_args.specs.declared.picture_args.StillForm.TheVariants.{WebP, Y4m, I420, Ppm}
use Rattle.vp_args.specs.declared.picture_args.PictureArgs.{PictureArgs}
use Rattle.vp_args.specs.declared.serve_args.NamedFile.{NamedFile}
use Rattle.vp_args.specs.declared.serve_args.ServeArgs.{ServeArgs}
use Rattle.vp_args.specs.declared.serve_args.ServeManyArgs.{ServeManyArgs}
use Rattle.vp_args.specs.declared.args.Task.{Task}
use Rattle.vp_args.specs.declared.args.Refusal.{Refusal}
use Rattle.vp_args.specs.declared.args.Refusal.TheVariants.{ClapError, Value}
use Rattle.vp_args.specs.declared.args.Task.TheVariants.{Check, Decode, DecodeRange, Encode, Info, Picture}
use Rattle.vp_args.specs.declared.args.Task.TheVariants.{Serve, ServeMany, Nothing}

-- ---- the commands

-- an option with a value, which help gives one name
abbrev pub setting_rule : Text → Rule
setting_rule name = record (new_rule name) { long = Some name; action = Some Set; value_names = 1 }

-- a flag
abbrev pub flag_rule : Text → Rule
flag_rule name = record (new_rule name) { long = Some name; action = Some SetTrue }

-- an operand
abbrev pub operand_rule : Text → Rule
operand_rule name = record (new_rule name) { required = true; action = Some Set }

-- an argument that must be present, or need not be
abbrev pub required_if : Bool → Rule → Rule
required_if must r = record r { required = must }

-- an operand that takes one value or more
abbrev pub operands_rule : Text → Rule
operands_rule name =
    record (operand_rule name) {
      range = Some (record { start_inclusive = 1; end_inclusive = usize_max });
      action = Some Append;
    }

-- the command with these additional arguments
abbrev pub with_rules : App → List Rule → App
with_rules a [] = a
with_rules a (r ∷ rs) = with_rules (with_rule a r) rs

-- the options of `decode`
abbrev pub picture_rules : List Rule
picture_rules =
    flag_rule (codes "y4m") ∷ setting_rule (codes "frame")
    ∷ setting_rule (codes "frames") ∷ flag_rule (codes "md5") ∷ flag_rule (codes "md5-each") ∷ []

-- the limits on files
abbrev pub limit_rules : List Rule
limit_rules = setting_rule (codes "max-packets") ∷ setting_rule (codes "max-pixels") ∷ []

-- the flag for long work, and the limits on files
abbrev pub reading_rules : List Rule
reading_rules = flag_rule (codes "progress") ∷ limit_rules

-- vp8 decode [--y4m] [--frame N | --frames A-B] [--md5] [--md5-each] [reading] IN [OUT]
abbrev pub decode_app : App
decode_app =
    with_rules (with_rules (with_rules (new_app (codes "decode")) picture_rules) reading_rules) (operand_rule (codes "IN")
    ∷ required_if false (operand_rule (codes "OUT")) ∷ [])

-- the options for coding and filtering macroblocks
abbrev pub macroblock_rules : List Rule
macroblock_rules =
    setting_rule (codes "qi") ∷ setting_rule (codes "filter") ∷ setting_rule (codes "sharpness")
    ∷ flag_rule (codes "simple") ∷ []

-- the options for sequences of frames
abbrev pub frame_rules : List Rule
frame_rules =
    setting_rule (codes "key-every") ∷ setting_rule (codes "golden-every") ∷ setting_rule (codes "range")
    ∷ flag_rule (codes "subpel")
    ∷ setting_rule (codes "partitions") ∷ []

-- the flags for the work, and the limits on files
abbrev pub encoding_rules : List Rule
encoding_rules = flag_rule (codes "progress") ∷ flag_rule (codes "live") ∷ limit_rules

-- the two files
abbrev pub file_rules : List Rule
file_rules = operand_rule (codes "IN") ∷ operand_rule (codes "OUT") ∷ []

-- vp8 encode [options] IN OUT
abbrev pub encode_app : App
encode_app =
    with_rules (with_rules (with_rules (with_rules (new_app (codes "encode")) macroblock_rules) frame_rules)
    encoding_rules) file_rules

-- vp8 info [--long] [--json] [reading] IN..
abbrev pub info_app : App
info_app =
    with_rules (with_rules (with_rules (new_app (codes "info")) (flag_rule (codes "long") ∷ flag_rule (codes "json") ∷ []))
    reading_rules) (operands_rule (codes "IN") ∷ [])

-- vp8 check [--verbose] [reading] IN..
abbrev pub check_app : App
check_app =
    with_rules (with_rules (with_rules (new_app (codes "check")) (flag_rule (codes "verbose") ∷ [])) reading_rules)
    (operands_rule (codes "IN") ∷ [])

-- vp8 picture [--packet N] [--scale K] [--qi Q] [limits] IN OUT
abbrev pub picture_app : App
picture_app =
    with_rules (with_rules (with_rules (new_app (codes "picture")) (setting_rule (codes "packet")
    ∷ setting_rule (codes "scale")
    ∷ setting_rule (codes "qi") ∷ [])) limit_rules) file_rules

-- an argument that must be present
abbrev pub required : Rule → Rule
required r = record r { required = true }

-- the options of `serve`; the number of connections may be left out if many are served at once
abbrev pub service_rules : Bool → List Rule
service_rules many =
    required (setting_rule (codes "listen")) ∷ required_if (not many) (setting_rule (codes "connections"))
    ∷ setting_rule (codes "cache")
    ∷ flag_rule (codes "show-address")
    ∷ flag_rule (codes "webp") ∷ []

-- its options for many connections at once
abbrev pub many_rules : Bool → List Rule
many_rules many =
    required_if many (setting_rule (codes "max-connections")) ∷ setting_rule (codes "idle-timeout")
    ∷ setting_rule (codes "cursors") ∷ []

-- its options for files that grow, and for the log
abbrev pub follow_rules : List Rule
follow_rules =
    flag_rule (codes "follow") ∷ setting_rule (codes "poll-interval")
    ∷ flag_rule (codes "access-log") ∷ []

-- its operands
abbrev pub stream_rules : List Rule
stream_rules = operands_rule (codes "NAME=FILE") ∷ []

-- vp8 serve --listen ADDR --connections N [options] NAME=FILE..
-- vp8 serve --listen ADDR --max-connections K [options] NAME=FILE..
abbrev pub serve_app : Bool → App
serve_app many =
    with_rules (with_rules
    (with_rules (with_rules (new_app (codes "serve")) (service_rules many)) (many_rules many)) follow_rules)
    stream_rules

-- the program's command without its subcommands
abbrev pub vp8_app : App
vp8_app = on_top (λ s. record s { has_version = true; subcommand_required = true }) (new_app (codes "vp8"))

-- the program's command with its subcommands
unfoldable pub program : Bool → App
program many = with_subcommand (with_subcommand (with_subcommand (with_subcommand
    (with_subcommand (with_subcommand vp8_app decode_app.top) encode_app.top) info_app.top) check_app.top)
    picture_app.top) (serve_app many).top

-- the byte after the name of an option, and after the name of a stream
abbrev pub is_equals : ℕ → Bool
is_equals byte = byte == 61

-- the options for many connections at once
abbrev pub many_options : List Text
many_options =
    codes "--max-connections" ∷ codes "--idle-timeout" ∷ codes "--cursors"
    ∷ codes "--follow" ∷ codes "--poll-interval" ∷ codes "--access-log" ∷ []

-- the argument is an option for many connections at once
abbrev pub is_many_option : Text → Bool
is_many_option word = list_any (λ option. bytes_eq option (before_first is_equals word)) many_options

-- such an argument, or one after it
abbrev pub asks_many_at : Text → Bool → Bool
asks_many_at word later = if bytes_eq word (codes "--") then false else is_many_option word || later

-- such an option comes before `--`
unfoldable pub asks_many : List Text → Bool
asks_many [] = false
asks_many (w ∷ ws) = asks_many_at w (asks_many ws)

-- ---- the task that the arguments ask for

-- the task that the arguments ask for
pub data ParsedArgs : Type 0 where
  -- the options, and the two files
  decodes : List Row → Text → Text → ParsedArgs
  -- the options, and the two files
  decodes_range : List Row → Text → Text → ParsedArgs
  -- the options, and the two files
  encodes : List Row → Text → Text → ParsedArgs
  -- the options, and the files
  tells : List Row → List Text → ParsedArgs
  -- the options, and the files
  checks : List Row → List Text → ParsedArgs
  -- the options, and the two files
  pictures : List Row → Text → Text → ParsedArgs
  -- the options, the address, the number of connections, and the operands
  serves : List Row → Text → Text → List Text → ParsedArgs
  -- the options, the address, and the operands
  serves_many : List Row → Text → List Text → ParsedArgs
  nothing : ParsedArgs

-- the task, if both operands are present
abbrev pub with_operands : (Text → Text → ParsedArgs) → Option Text → Option Text → ParsedArgs
with_operands ask (Some input) (Some output) = ask input output
with_operands ask _ _ = nothing

-- the file of pictures; `-` if it is not named
abbrev pub named_output : Option Text → Text
named_output None = codes "-"
named_output (Some output) = output

-- the pictures that `decode` is to write: all, or those of a range if an option says which
abbrev pub decoding_of : List Row → Option Text → Option Text → Text → Text → ParsedArgs
decoding_of rows None None = decodes rows
decoding_of rows _ _ = decodes_range rows

-- the task of `decode`, if there is a file of packets
abbrev pub decoding_at : List Row → Option Text → Option Text → ParsedArgs
decoding_at rows None output = nothing
decoding_at rows (Some input) output =
    decoding_of rows (first_of (codes "frame") rows) (first_of (codes "frames") rows) input (named_output output)

-- the task of `info` or `check`, if there are files
abbrev pub with_files : (List Text → ParsedArgs) → Option (List Text) → ParsedArgs
with_files ask (Some files) = ask files
with_files ask None = nothing

-- the task, if the required options and the operands are present
abbrev pub with_service : List Row → Option Text → Option Text → Option (List Text) → ParsedArgs
with_service rows (Some address) (Some connections) (Some operands) = serves rows address connections operands
with_service rows _ _ _ = nothing

-- the task for many connections at once, if the address and the operands are present
abbrev pub with_service_of_many : List Row → Option Text → Option (List Text) → ParsedArgs
with_service_of_many rows (Some address) (Some operands) = serves_many rows address operands
with_service_of_many rows _ _ = nothing

-- the task of `serve` for one connection after another
abbrev pub turns_of : List Row → ParsedArgs
turns_of rows =
    with_service rows (first_of (codes "listen") rows) (first_of (codes "connections") rows)
    (all_of (codes "NAME=FILE") rows)

-- the task of `serve` for many connections at once
abbrev pub many_of : List Row → ParsedArgs
many_of rows = with_service_of_many rows (first_of (codes "listen") rows) (all_of (codes "NAME=FILE") rows)

-- the task of `serve`: many connections at once, if the option says how many, or one after another
abbrev pub service_of : List Row → Option Text → ParsedArgs
service_of rows None = turns_of rows
service_of rows (Some most) = many_of rows

-- the task, given a subcommand's name and its arguments
abbrev pub asked_at : Text → List Row → ParsedArgs
asked_at name rows =
    if bytes_eq name (codes "decode")
    then decoding_at rows (first_of (codes "IN") rows) (first_of (codes "OUT") rows)
    else (if bytes_eq name (codes "encode")
    then with_operands (encodes rows) (first_of (codes "IN") rows) (first_of (codes "OUT") rows)
    else (if bytes_eq name (codes "info") then with_files (tells rows) (all_of (codes "IN") rows)
    else (if bytes_eq name (codes "check") then with_files (checks rows) (all_of (codes "IN") rows)
    else (if bytes_eq name (codes "picture")
    then with_operands (pictures rows) (first_of (codes "IN") rows) (first_of (codes "OUT") rows)
    else (if bytes_eq name (codes "serve") then service_of rows (first_of (codes "max-connections") rows)
    else nothing)))))

-- the task, given a subcommand, if there is one
abbrev pub parsed_command : Option (Text × List Row) → ParsedArgs
parsed_command None = nothing
parsed_command (Some p) = asked_at p.0 p.1

-- the task, given arguments that clap accepts
abbrev pub parsed_args : List Text → ParsedArgs
parsed_args words = parsed_command (subcommand_of (program (asks_many words)) words)

-- the kinds of errors for which clap refuses the arguments
abbrev pub faults_of : List Text → Kinds
faults_of words = fault_of (program (asks_many words)) words

-- ---- the values of the task

-- a flag by its value; it isn't set if it has none
abbrev pub IsFlag : Option Text → Bool → Type 0
IsFlag None flag = flag ≡ false
IsFlag (Some t) flag = (t ≡ codes "true" → flag ≡ true) × (t ≡ codes "false" → flag ≡ false)

-- the text is a decimal number without a sign
abbrev pub IsDecimal : Text → ℕ → Type 0
IsDecimal text number = IsNumeral 10 text × (number ≡ digits_value 10 text)

-- an option's number by its value, or the default
abbrev pub IsNumber : Option Text → ℕ → ℕ → Type 0
IsNumber None usual number = number ≡ usual
IsNumber (Some text) usual number = IsDecimal text number

-- the byte between the numbers of a range
abbrev pub is_dash : ℕ → Bool
is_dash byte = byte == 45

-- the text is two decimal numbers, split at its first `-`, and the first is not above the second
abbrev pub IsSpan : Text → ℕ → ℕ → Type 0
IsSpan text first last = IsDecimal (before_first is_dash text) first × IsDecimal (after_first is_dash text) last
    × (first ≤ last)

-- the packets that `--frame` or `--frames` names: one, or those from the first to the last
abbrev pub AreWanted : Option Text → Option Text → ℕ → ℕ → Type 0
AreWanted (Some frame) None first last = IsDecimal frame first × (last ≡ first)
AreWanted None (Some frames) first last = IsSpan frames first last
AreWanted _ _ first last = ⊥

-- the limits on files, with the defaults
pub record AreFileLimits (rows : List Row) (l : FileLimits) : Type 0 where
  pub packets_are : IsNumber (first_of (codes "max-packets") rows) 1048576 l.packets
  pub pixels_are : IsNumber (first_of (codes "max-pixels") rows) 16777216 l.pixels

-- the sums that `decode` prints; if it prints none, the file of pictures is named
pub record AreSums (rows : List Row) (md5 each : Bool) : Type 0 where
  pub md5_is : IsFlag (one_of (codes "md5") rows) md5
  pub each_is : IsFlag (one_of (codes "md5-each") rows) each
  pub named : md5 ≡ false → each ≡ false → first_of (codes "OUT") rows ≢ None

-- what `decode` makes of the pictures, and the files
pub record IsDecodeFor (rows : List Row) (from to : Text) (d : DecodeArgs) : Type 0 where
  pub y4m_is : IsFlag (one_of (codes "y4m") rows) d.y4m
  pub sums_are : AreSums rows d.md5 d.md5_each
  pub progress_is : IsFlag (one_of (codes "progress") rows) d.progress
  pub limits_are : AreFileLimits rows d.limits
  pub input_is : d.input.now ≡ from
  pub output_is : d.output.now ≡ to

-- the same for a range of packets
pub record IsRangeFor (rows : List Row) (from to : Text) (d : DecodeRangeArgs) : Type 0 where
  pub decoding : IsDecodeFor rows from to d.decoding
  pub wanted : AreWanted (first_of (codes "frame") rows) (first_of (codes "frames") rows) d.first d.last

-- the arguments of `info`
pub record IsInfoFor (rows : List Row) (files : List Text) (i : InfoArgs) : Type 0 where
  pub long_is : IsFlag (one_of (codes "long") rows) i.long
  pub json_is : IsFlag (one_of (codes "json") rows) i.json
  pub progress_is : IsFlag (one_of (codes "progress") rows) i.progress
  pub limits_are : AreFileLimits rows i.limits
  pub files_are : texts i.files.items ≡ files

-- the settings of the encoder, with the defaults
pub record AreSettings (rows : List Row) (s : EncodeOptions) : Type 0 where
  pub qi : IsNumber (first_of (codes "qi") rows) 32 s.qi
  pub level : IsNumber (first_of (codes "filter") rows) 16 s.level
  pub sharpness : IsNumber (first_of (codes "sharpness") rows) 0 s.sharpness
  pub simple : IsFlag (one_of (codes "simple") rows) s.simple
  pub key_every : IsNumber (first_of (codes "key-every") rows) 64 s.key_every
  pub golden_every : IsNumber (first_of (codes "golden-every") rows) 0 s.golden_every
  pub range : IsNumber (first_of (codes "range") rows) 16 s.range
  pub subpel : IsFlag (one_of (codes "subpel") rows) s.subpel
  pub partitions : IsNumber (first_of (codes "partitions") rows) 1 s.partitions

-- the arguments of `encode`
pub record IsEncodeFor (rows : List Row) (from to : Text) (e : EncodeArgs) : Type 0 where
  pub settings_are : AreSettings rows e.options
  pub progress_is : IsFlag (one_of (codes "progress") rows) e.progress
  pub live_is : IsFlag (one_of (codes "live") rows) e.live
  pub limits_are : AreFileLimits rows e.limits
  pub input_is : e.input.now ≡ from
  pub output_is : e.output.now ≡ to

-- the packet whose picture is wanted: the one with this number, or the first that shows one
abbrev pub IsPacket : Option Text → Option ℕ → Type 0
IsPacket None packet = packet ≡ None
IsPacket (Some text) None = ⊥
IsPacket (Some text) (Some number) = IsDecimal text number

-- a file's name has this end
unfoldable pub has_end : Text → Text → Bool
has_end name end = ends_with nat_eq name end

-- the form of a picture's file, by the end of its name
abbrev pub form_by_name : Text → Option StillForm
form_by_name name =
    if has_end name (codes ".webp") then Some WebP
    else (if has_end name (codes ".y4m") then Some Y4m
    else (if has_end name (codes ".i420") then Some I420
    else (if has_end name (codes ".ppm") then Some Ppm else None)))

-- the arguments of `picture`
pub record IsPictureFor (rows : List Row) (from to : Text) (p : PictureArgs) : Type 0 where
  pub packet_is : IsPacket (first_of (codes "packet") rows) p.packet
  pub scale_is : IsNumber (first_of (codes "scale") rows) 1 (factor_of p.scale)
  pub qi_is : IsNumber (first_of (codes "qi") rows) 8 p.qi
  pub limits_are : AreFileLimits rows p.limits
  pub form_is : form_by_name to ≡ Some p.form
  pub input_is : p.input.now ≡ from
  pub output_is : p.output.now ≡ to

-- the arguments of `check`
pub record IsCheckFor (rows : List Row) (files : List Text) (c : CheckArgs) : Type 0 where
  pub verbose_is : IsFlag (one_of (codes "verbose") rows) c.verbose
  pub progress_is : IsFlag (one_of (codes "progress") rows) c.progress
  pub limits_are : AreFileLimits rows c.limits
  pub files_are : texts c.files.items ≡ files

-- the name and the file in an operand of `serve`, split at its first `=`
abbrev pub parted : Text → Text × Text
parted operand = (before_first is_equals operand, after_first is_equals operand)

-- the operand has a `=`
abbrev pub is_parted : Text → Bool
is_parted operand = nat_lt (position_or_len is_equals operand) (length operand)

-- all operands have a `=`, and these are their names and files
abbrev pub AreNamed : List Text → List NamedFile → Type 0
AreNamed operands streams =
    (list_all is_parted operands ≡ true) × (map (λ stream. (stream.name.now, stream.file.now)) streams
    ≡ map parted operands)

-- the arguments of `serve`: the streams and files are as the operands say
pub record IsServiceFor (rows : List Row) (address connections : Text) (operands : List Text) (s : ServeArgs)
    : Type 0 where
  pub address_is : s.listen.now ≡ address
  pub connections_are : IsDecimal connections s.connections
  pub cache_is : IsNumber (first_of (codes "cache") rows) 16 s.cache
  pub shows : IsFlag (one_of (codes "show-address") rows) s.show_address
  pub stills : IsFlag (one_of (codes "webp") rows) s.webp
  pub streams_are : AreNamed operands s.streams.items

-- the file is standard input
abbrev pub is_input : NamedFile → Bool
is_input stream = bytes_eq stream.file.now (codes "-")

-- the arguments of `serve` for many connections at once
pub record IsServiceOfMany (rows : List Row) (address : Text) (operands : List Text) (s : ServeManyArgs) : Type 0 where
  pub address_is : s.service.listen.now ≡ address
  pub connections_are : IsNumber (first_of (codes "connections") rows) 4294967295 s.service.connections
  pub cache_is : IsNumber (first_of (codes "cache") rows) 16 s.service.cache
  pub shows : IsFlag (one_of (codes "show-address") rows) s.service.show_address
  pub stills : IsFlag (one_of (codes "webp") rows) s.service.webp
  pub streams_are : AreNamed operands s.service.streams.items
  pub most_are : IsNumber (first_of (codes "max-connections") rows) 64 s.max_connections
  pub timeout_is : IsNumber (first_of (codes "idle-timeout") rows) 30 s.idle_timeout
  pub follows : IsFlag (one_of (codes "follow") rows) s.follow
  pub interval_is : IsNumber (first_of (codes "poll-interval") rows) 100 s.poll_interval
  pub cursors_are : IsNumber (first_of (codes "cursors") rows) 16 s.cursors
  pub logs : IsFlag (one_of (codes "access-log") rows) s.access_log
  pub files : s.follow ≡ true → list_any is_input s.service.streams.items ≡ false

-- the task has the values that the arguments ask for
abbrev pub IsTaskFor : ParsedArgs → Task → Type 0
IsTaskFor (decodes rows from to) (Decode d) = IsDecodeFor rows from to d
IsTaskFor (decodes_range rows from to) (DecodeRange d) = IsRangeFor rows from to d
IsTaskFor (encodes rows from to) (Encode e) = IsEncodeFor rows from to e
IsTaskFor (tells rows files) (Info i) = IsInfoFor rows files i
IsTaskFor (checks rows files) (Check c) = IsCheckFor rows files c
IsTaskFor (pictures rows from to) (Picture p) = IsPictureFor rows from to p
IsTaskFor (serves rows address connections operands) (Serve s) = IsServiceFor rows address connections operands s
IsTaskFor (serves_many rows address operands) (ServeMany s) = IsServiceOfMany rows address operands s
IsTaskFor nothing Nothing = Unit {0}
IsTaskFor _ _ = ⊥

-- ---- refused values

-- the text is not a decimal number below the bound
abbrev pub IsNoDecimal : ℕ → Text → Type 0
IsNoDecimal bound text = IsNumeral 10 text → digits_value 10 text < bound → ⊥

-- the option has a value that is not such a number
abbrev pub IsMisnumbered : ℕ → Option Text → Type 0
IsMisnumbered bound None = ⊥
IsMisnumbered bound (Some text) = IsNoDecimal bound text

-- a part of the text is not a decimal number below 2 ^ 32, or the first number is above the second
abbrev pub IsNoSpan : Text → Type 0
IsNoSpan text =
    IsNoDecimal (2 ^ 32) (before_first is_dash text) ⊎ (IsNoDecimal (2 ^ 32) (after_first is_dash text)
    ⊎ digits_value 10 (after_first is_dash text) < digits_value 10 (before_first is_dash text))

-- the value of `--frame` or `--frames` is refused, or both are given
abbrev pub AreMiswanted : Option Text → Option Text → Type 0
AreMiswanted (Some frame) (Some frames) = Unit {0}
AreMiswanted (Some frame) None = IsNoDecimal (2 ^ 32) frame
AreMiswanted None (Some frames) = IsNoSpan frames
AreMiswanted None None = ⊥

-- some option of `encode` is not a number of its type
abbrev pub AreNoSettings : List Row → Type 0
AreNoSettings rows =
    IsMisnumbered 256 (first_of (codes "qi") rows) ⊎ (IsMisnumbered 256 (first_of (codes "filter") rows)
    ⊎ (IsMisnumbered 256 (first_of (codes "sharpness") rows) ⊎
    (IsMisnumbered (2 ^ 32) (first_of (codes "key-every") rows)
    ⊎ (IsMisnumbered (2 ^ 32) (first_of (codes "golden-every") rows)
    ⊎ (IsMisnumbered 256 (first_of (codes "range") rows)
    ⊎ IsMisnumbered 256 (first_of (codes "partitions") rows))))))

-- the option has a value that is not a number from 1 to this one
abbrev pub IsOutside : ℕ → Option Text → Type 0
IsOutside most None = ⊥
IsOutside most (Some text) = IsNumeral 10 text → 0 < digits_value 10 text → digits_value 10 text ≤ most → ⊥

-- a limit on files is refused
abbrev pub AreNoFileLimits : List Row → Type 0
AreNoFileLimits rows =
    IsOutside 16777216 (first_of (codes "max-packets") rows) ⊎ IsOutside 268402689 (first_of (codes "max-pixels") rows)

-- the file of pictures is not named, and no sum is asked for
abbrev pub HasNoOutput : List Row → Type 0
HasNoOutput rows = (first_of (codes "OUT") rows ≡ None) × IsFlag (one_of (codes "md5") rows) false
    × IsFlag (one_of (codes "md5-each") rows) false

-- a limit on files is refused, or there is nothing to write
abbrev pub IsNoDecoding : List Row → Type 0
IsNoDecoding rows = AreNoFileLimits rows ⊎ HasNoOutput rows

-- some value of `encode` is refused
abbrev pub IsNoEncoding : List Row → Type 0
IsNoEncoding rows = AreNoSettings rows ⊎ AreNoFileLimits rows

-- the number of cached pictures is not from 1 to 4096
abbrev pub IsNoCache : Option Text → Type 0
IsNoCache None = ⊥
IsNoCache (Some text) = IsNumeral 10 text → 0 < digits_value 10 text → digits_value 10 text < 4097 → ⊥

-- some value of `serve` is refused
abbrev pub IsNoService : List Row → Text → List Text → Type 0
IsNoService rows connections operands =
    IsNoDecimal (2 ^ 32) connections ⊎ (IsNoCache (first_of (codes "cache") rows) ⊎ list_all is_parted operands ≡ false)

-- the option has a value that is not a number from 0 to this one
abbrev pub IsAbove : ℕ → Option Text → Type 0
IsAbove most None = ⊥
IsAbove most (Some text) = IsNumeral 10 text → digits_value 10 text ≤ most → ⊥

-- standard input is to be followed
abbrev pub FollowsInput : List Row → List Text → Type 0
FollowsInput rows operands =
    IsFlag (one_of (codes "follow") rows) true
    × ((streams : List NamedFile) × AreNamed operands streams × (list_any is_input streams ≡ true))

-- some value of `serve` for many connections at once is refused
abbrev pub IsNoServiceOfMany : List Row → List Text → Type 0
IsNoServiceOfMany rows operands =
    IsOutside 64 (first_of (codes "max-connections") rows) ⊎ (IsOutside 86400 (first_of (codes "idle-timeout") rows)
    ⊎ (IsOutside 60000 (first_of (codes "poll-interval") rows) ⊎ (IsAbove 64 (first_of (codes "cursors") rows)
    ⊎ (IsMisnumbered (2 ^ 32) (first_of (codes "connections") rows)
    ⊎ (IsNoCache (first_of (codes "cache") rows)
    ⊎ (list_all is_parted operands ≡ false ⊎ FollowsInput rows operands))))))

-- the option has a value by which no picture's sides are divided
abbrev pub IsNoScale : Option Text → Type 0
IsNoScale None = ⊥
IsNoScale (Some text) = IsNumeral 10 text → (scale : Scale) → digits_value 10 text ≡ factor_of scale → ⊥

-- some value of `picture` is refused, or the name of the written file does not say its form
abbrev pub IsNoPicture : List Row → Text → Type 0
IsNoPicture rows to =
    IsMisnumbered (2 ^ 32) (first_of (codes "packet") rows) ⊎ (IsNoScale (first_of (codes "scale") rows)
    ⊎ (IsAbove 127 (first_of (codes "qi") rows) ⊎ (AreNoFileLimits rows ⊎ form_by_name to ≡ None)))

-- some value is refused
abbrev pub HasInvalidValue : ParsedArgs → Type 0
HasInvalidValue (decodes rows from to) = IsNoDecoding rows
HasInvalidValue (decodes_range rows from to) =
    AreMiswanted (first_of (codes "frame") rows) (first_of (codes "frames") rows) ⊎ IsNoDecoding rows
HasInvalidValue (tells rows files) = AreNoFileLimits rows
HasInvalidValue (checks rows files) = AreNoFileLimits rows
HasInvalidValue (encodes rows from to) = IsNoEncoding rows
HasInvalidValue (pictures rows from to) = IsNoPicture rows to
HasInvalidValue (serves rows address connections operands) = IsNoService rows connections operands
HasInvalidValue (serves_many rows address operands) = IsNoServiceOfMany rows operands
HasInvalidValue _ = ⊥

-- a refusal after clap accepted the arguments: out of memory, or a refused value
abbrev pub IsRefusal : ParsedArgs → Refusal → Type 0
IsRefusal asked (ClapError e) = kind_of e ≡ OutOfMemory
IsRefusal asked (Value text) = HasInvalidValue asked

-- memory runs out, or an operand has no `=`
abbrev pub IsNoNaming : List Text → Refusal → Type 0
IsNoNaming operands (ClapError e) = kind_of e ≡ OutOfMemory
IsNoNaming operands (Value text) = list_all is_parted operands ≡ false

-- the refusal is about a value
abbrev pub IsInvalidValue : Refusal → Type 0
IsInvalidValue (ClapError e) = ⊥
IsInvalidValue (Value text) = Unit {0}

-- the refusal is because memory ran out
abbrev pub IsForMemory : Refusal → Type 0
IsForMemory (ClapError e) = kind_of e ≡ OutOfMemory
IsForMemory (Value text) = ⊥

-- the error is neither a request for help nor for the version
abbrev pub IsMistake : Refusal → Type 0
IsMistake (ClapError e) = (kind_of e ≢ DisplayHelp) × (kind_of e ≢ DisplayVersion)
IsMistake (Value text) = Unit {0}

-- clap refuses the arguments; or it accepts them, and a value is refused
abbrev pub IsRefusalFor : List Text → Refusal → Type 0
IsRefusalFor words (ClapError e) = HasKind (faults_of words) e
IsRefusalFor words (Value text) = (faults_of words ≡ []) × HasInvalidValue (parsed_args words)

-- the argument is not a flag, not an option, and not `--`
pub record IsOperand (word : Text) : Type 0 where
  pub separator : bytes_eq word (45 ∷ 45 ∷ []) ≡ false
  pub long : long_of word ≡ None
  pub short : short_of word ≡ None

-- clap refuses the arguments, and they don't ask for help or the version
pub record AreMistaken (words : List Text) : Type 0 where
  pub some : faults_of words ≢ []
  pub no_help : IsAmong DisplayHelp (faults_of words) → ⊥
  pub no_version : IsAmong DisplayVersion (faults_of words) → ⊥
