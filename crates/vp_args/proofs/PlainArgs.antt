-- Words in their plain order: the rows that clap reads from them, each command's in one equation.
use Rattle.std.proofs.Common.{◌≡◌, [], ◌∷◌, Bool, List, ap, refl}
use Rattle.std.specs.Prelude.{None, Some, codes}
use Rattle.clap.specs.Walk.{Row, Text, first_of, one_of}
use Rattle.clap.specs.Faults.{fault_of}
use Rattle.clap.specs.Simple.{subcommand_of}
use Rattle.clap.specs.declared.builder.value_parser.Reading.TheVariants.{AsWritten}
use Rattle.clap.specs.declared.parser.matches.ValueSource.TheVariants.{CommandLine, DefaultValue}
use Rattle.clap.proofs.OnLiterals.{clap_on_literals}
use Rattle.vp_args.specs.Args.{parsed_args, parsed_command, asks_many, checks, decodes, decodes_range, faults_of, pictures, program, tells, IsOperand}

-- an argument with these values
abbrev given : Text → List Text → Row
given name texts = record { id = name; values = texts; count = None; source = Some CommandLine; reading = AsWritten }

-- a flag that is there
abbrev set : Text → Row
set name = given name (codes "true" ∷ [])

-- a flag that is not there
abbrev unset : Text → Row
unset name = record { id = name; values = codes "false" ∷ []; count = None; source = Some DefaultValue; reading = AsWritten }

-- ---- vp8 info IN

abbrev info_words : Text → Text → List Text
info_words name input = name ∷ codes "info" ∷ input ∷ []

info_taken_by : (many : Bool) (name input : Text) → IsOperand input → fault_of (program many) (info_words name input) ≡ []
unfolding program clap_on_literals
info_taken_by many name input h = rw (h.separator, h.long, h.short) refl

pub info_taken : (name input : Text) → IsOperand input → faults_of (info_words name input) ≡ []
info_taken name input h = info_taken_by (asks_many (info_words name input)) name input h

abbrev info_rows : Text → List Row
info_rows input = given (codes "IN") (input ∷ []) ∷ unset (codes "long") ∷ unset (codes "json") ∷ unset (codes "progress") ∷ []

info_read : (many : Bool) (name input : Text) → IsOperand input
    → subcommand_of (program many) (info_words name input) ≡ Some (codes "info", info_rows input)
unfolding program clap_on_literals
info_read many name input h = rw (h.separator, h.long, h.short) refl

pub info_asked : (name input : Text) → IsOperand input
    → (rows : List Row) × (parsed_args (info_words name input) ≡ tells rows (input ∷ [])) × (one_of (codes "long") rows ≡ Some (codes "false"))
    × (one_of (codes "json") rows ≡ Some (codes "false")) × (first_of (codes "max-packets") rows ≡ None) × (first_of (codes "max-pixels") rows ≡ None)
info_asked name input h =
    (info_rows input, ap parsed_command (info_read (asks_many (info_words name input)) name input h), refl, refl, refl, refl)

-- ---- vp8 decode IN OUT

abbrev decode_words : Text → Text → Text → List Text
decode_words name input output = name ∷ codes "decode" ∷ input ∷ output ∷ []

decode_taken_by : (many : Bool) (name input output : Text) → IsOperand input → IsOperand output
    → fault_of (program many) (decode_words name input output) ≡ []
unfolding program clap_on_literals
decode_taken_by many name input output h k = rw (h.separator, h.long, h.short, k.separator, k.long, k.short) refl

pub decode_taken : (name input output : Text) → IsOperand input → IsOperand output
    → faults_of (decode_words name input output) ≡ []
decode_taken name input output h k = decode_taken_by (asks_many (decode_words name input output)) name input output h k

-- the flags of decode that are not there, but for --y4m
abbrev no_sums : List Row
no_sums = unset (codes "md5") ∷ unset (codes "md5-each") ∷ unset (codes "progress") ∷ []

abbrev files : Text → Text → List Row → List Row
files input output rows = given (codes "IN") (input ∷ []) ∷ given (codes "OUT") (output ∷ []) ∷ rows

decode_read : (many : Bool) (name input output : Text) → IsOperand input → IsOperand output
    → subcommand_of (program many) (decode_words name input output)
    ≡ Some (codes "decode", files input output (unset (codes "y4m") ∷ no_sums))
unfolding program clap_on_literals
decode_read many name input output h k = rw (h.separator, h.long, h.short, k.separator, k.long, k.short) refl

pub decode_asked : (name input output : Text) → IsOperand input → IsOperand output
    → (rows : List Row) × (parsed_args (decode_words name input output) ≡ decodes rows input output) × (one_of (codes "y4m") rows ≡ Some (codes "false"))
    × (one_of (codes "md5") rows ≡ Some (codes "false")) × (first_of (codes "max-packets") rows ≡ None) × (first_of (codes "max-pixels") rows ≡ None)
decode_asked name input output h k = (
  files input output (unset (codes "y4m") ∷ no_sums),
  ap parsed_command (decode_read (asks_many (decode_words name input output)) name input output h k),
  refl,
  refl,
  refl,
  refl,
)

-- ---- vp8 decode --y4m IN OUT

abbrev y4m_words : Text → Text → Text → List Text
y4m_words name input output = name ∷ codes "decode" ∷ codes "--y4m" ∷ input ∷ output ∷ []

y4m_taken_by : (many : Bool) (name input output : Text) → IsOperand input → IsOperand output
    → fault_of (program many) (y4m_words name input output) ≡ []
unfolding program clap_on_literals
y4m_taken_by many name input output h k = rw (h.separator, h.long, h.short, k.separator, k.long, k.short) refl

pub y4m_taken : (name input output : Text) → IsOperand input → IsOperand output
    → faults_of (y4m_words name input output) ≡ []
y4m_taken name input output h k = y4m_taken_by (asks_many (y4m_words name input output)) name input output h k

y4m_read : (many : Bool) (name input output : Text) → IsOperand input → IsOperand output
    → subcommand_of (program many) (y4m_words name input output)
    ≡ Some (codes "decode", set (codes "y4m") ∷ files input output no_sums)
unfolding program clap_on_literals
y4m_read many name input output h k = rw (h.separator, h.long, h.short, k.separator, k.long, k.short) refl

pub y4m_asked : (name input output : Text) → IsOperand input → IsOperand output
    → (rows : List Row) × (parsed_args (y4m_words name input output) ≡ decodes rows input output) × (one_of (codes "y4m") rows ≡ Some (codes "true"))
    × (one_of (codes "md5") rows ≡ Some (codes "false")) × (first_of (codes "max-packets") rows ≡ None) × (first_of (codes "max-pixels") rows ≡ None)
y4m_asked name input output h k = (
  set (codes "y4m") ∷ files input output no_sums,
  ap parsed_command (y4m_read (asks_many (y4m_words name input output)) name input output h k),
  refl,
  refl,
  refl,
  refl,
)

-- ---- vp8 picture IN OUT

abbrev still_words : Text → Text → Text → List Text
still_words name input output = name ∷ codes "picture" ∷ input ∷ output ∷ []

still_taken_by : (many : Bool) (name input output : Text) → IsOperand input → IsOperand output
    → fault_of (program many) (still_words name input output) ≡ []
unfolding program clap_on_literals
still_taken_by many name input output h k = rw (h.separator, h.long, h.short, k.separator, k.long, k.short) refl

pub still_taken : (name input output : Text) → IsOperand input → IsOperand output
    → faults_of (still_words name input output) ≡ []
still_taken name input output h k = still_taken_by (asks_many (still_words name input output)) name input output h k

still_read : (many : Bool) (name input output : Text) → IsOperand input → IsOperand output
    → subcommand_of (program many) (still_words name input output) ≡ Some (codes "picture", files input output [])
unfolding program clap_on_literals
still_read many name input output h k = rw (h.separator, h.long, h.short, k.separator, k.long, k.short) refl

pub still_asked : (name input output : Text) → IsOperand input → IsOperand output
    → (rows : List Row) × (parsed_args (still_words name input output) ≡ pictures rows input output) × (first_of (codes "packet") rows ≡ None)
    × (first_of (codes "scale") rows ≡ None) × (first_of (codes "qi") rows ≡ None)
    × (first_of (codes "max-packets") rows ≡ None) × (first_of (codes "max-pixels") rows ≡ None)
still_asked name input output h k = (
  files input output [],
  ap parsed_command (still_read (asks_many (still_words name input output)) name input output h k),
  refl,
  refl,
  refl,
  refl,
  refl,
)

-- ---- vp8 decode --frame N IN OUT

abbrev frame_words : Text → Text → Text → Text → List Text
frame_words name number input output = name ∷ codes "decode" ∷ codes "--frame" ∷ number ∷ input ∷ output ∷ []

frame_taken_by : (many : Bool) (name number input output : Text) → IsOperand number → IsOperand input → IsOperand output
    → fault_of (program many) (frame_words name number input output) ≡ []
unfolding program clap_on_literals
frame_taken_by many name number input output n h k =
    rw (n.separator, n.long, n.short, h.separator, h.long, h.short, k.separator, k.long, k.short) refl

pub frame_taken : (name number input output : Text) → IsOperand number → IsOperand input → IsOperand output
    → faults_of (frame_words name number input output) ≡ []
frame_taken name number input output n h k = frame_taken_by (asks_many (frame_words name number input output)) name number input output n h k

abbrev frame_rows : Text → Text → Text → List Row
frame_rows number input output = given (codes "frame") (number ∷ []) ∷ files input output (unset (codes "y4m") ∷ no_sums)

frame_read : (many : Bool) (name number input output : Text) → IsOperand number → IsOperand input → IsOperand output
    → subcommand_of (program many) (frame_words name number input output) ≡ Some (codes "decode", frame_rows number input output)
unfolding program clap_on_literals
frame_read many name number input output n h k =
    rw (n.separator, n.long, n.short, h.separator, h.long, h.short, k.separator, k.long, k.short) refl

pub frame_asked : (name number input output : Text) → IsOperand number → IsOperand input → IsOperand output
    → (rows : List Row) × (parsed_args (frame_words name number input output) ≡ decodes_range rows input output) × (first_of (codes "frame") rows ≡ Some number)
    × (first_of (codes "frames") rows ≡ None) × (one_of (codes "y4m") rows ≡ Some (codes "false"))
frame_asked name number input output n h k = (
  frame_rows number input output,
  ap parsed_command (frame_read (asks_many (frame_words name number input output)) name number input output n h k),
  refl,
  refl,
  refl,
)

-- ---- vp8 check IN IN

abbrev check_two : Text → Text → Text → List Text
check_two name first second = name ∷ codes "check" ∷ first ∷ second ∷ []

two_taken_by : (many : Bool) (name first second : Text) → IsOperand first → IsOperand second → fault_of (program many) (check_two name first second) ≡ []
unfolding program clap_on_literals
two_taken_by many name first second h k = rw (h.separator, h.long, h.short, k.separator, k.long, k.short) refl

pub two_taken : (name first second : Text) → IsOperand first → IsOperand second → faults_of (check_two name first second) ≡ []
two_taken name first second h k = two_taken_by (asks_many (check_two name first second)) name first second h k

abbrev two_rows : Text → Text → List Row
two_rows first second = given (codes "IN") (first ∷ second ∷ []) ∷ unset (codes "verbose") ∷ unset (codes "progress") ∷ []

two_read : (many : Bool) (name first second : Text) → IsOperand first → IsOperand second
    → subcommand_of (program many) (check_two name first second) ≡ Some (codes "check", two_rows first second)
unfolding program clap_on_literals
two_read many name first second h k = rw (h.separator, h.long, h.short, k.separator, k.long, k.short) refl

pub two_asked : (name first second : Text) → IsOperand first → IsOperand second
    → (rows : List Row) × (parsed_args (check_two name first second) ≡ checks rows (first ∷ second ∷ [])) × (one_of (codes "verbose") rows ≡ Some (codes "false"))
two_asked name first second h k =
    (two_rows first second, ap parsed_command (two_read (asks_many (check_two name first second)) name first second h k), refl)

-- ---- vp8 check --verbose IN

abbrev check_told : Text → Text → List Text
check_told name input = name ∷ codes "check" ∷ codes "--verbose" ∷ input ∷ []

told_taken_by : (many : Bool) (name input : Text) → IsOperand input → fault_of (program many) (check_told name input) ≡ []
unfolding program clap_on_literals
told_taken_by many name input h = rw (h.separator, h.long, h.short) refl

pub told_taken : (name input : Text) → IsOperand input → faults_of (check_told name input) ≡ []
told_taken name input h = told_taken_by (asks_many (check_told name input)) name input h

abbrev told_rows : Text → List Row
told_rows input = set (codes "verbose") ∷ given (codes "IN") (input ∷ []) ∷ unset (codes "progress") ∷ []

told_read : (many : Bool) (name input : Text) → IsOperand input
    → subcommand_of (program many) (check_told name input) ≡ Some (codes "check", told_rows input)
unfolding program clap_on_literals
told_read many name input h = rw (h.separator, h.long, h.short) refl

pub told_asked : (name input : Text) → IsOperand input
    → (rows : List Row) × (parsed_args (check_told name input) ≡ checks rows (input ∷ [])) × (one_of (codes "verbose") rows ≡ Some (codes "true"))
told_asked name input h = (told_rows input, ap parsed_command (told_read (asks_many (check_told name input)) name input h), refl)
