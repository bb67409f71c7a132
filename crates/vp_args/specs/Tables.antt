-- Private to the crate: the tables of words and numbers, what they make of a command, and what they read.
use Rattle.std.specs.Prelude.{◌≡◌, ◌⊎◌, ◌≤◌, ◌+◌, ℕ, Bool, true, false, not, List, [], ◌∷◌, map, slice_index}
use Rattle.std.specs.Prelude.{Option, Some, None}
use Rattle.std.specs.List.{list_all, list_any}
use Rattle.std.specs.Str.Parse.{digits_value, IsNumeral}
use Rattle.clap.specs.Values.{kind_of}
use Rattle.clap.specs.Walk.{Row, Rule, Text, first_of}
use Rattle.clap.specs.Simple.{App, new_app, with_subcommand}
use Rattle.clap.specs.declared.error.kind.ErrorKind.TheVariants.{OutOfMemory}
use Rattle.vp_args.specs.declared.args.Refusal.{Refusal}
use Rattle.vp_args.specs.declared.args.Refusal.TheVariants.{ClapError, Value}
use Rattle.vp_args.specs.declared.numbers.Number.{Number}
use Rattle.vp_args.specs.declared.serve_args.NamedFile.{NamedFile}
use Rattle.vp_args.specs.declared.words.Word.{Word}
use Rattle.vp_args.specs.declared.words.Part.{Part}
use Rattle.vp_args.specs.declared.words.Form.{Form}
use Rattle.vp_args.specs.declared.words.Form.TheVariants.{Flag, Setting, Operand, Operands}
use Rattle.vp_args.specs.declared.words.Need.{Need}
use Rattle.vp_args.specs.declared.words.Need.TheVariants.{Never, Always, InTurns, OfMany}
use Rattle.vp_args.specs.Args.{AreNamed, IsNumber, is_input, is_parted}
use Rattle.vp_args.specs.Args.{flag_rule, operand_rule, operands_rule, required_if, setting_rule, with_rules}

-- a word with this need must be present
abbrev pub is_required : Bool → Need → Bool
is_required many Never = false
is_required many Always = true
is_required many InTurns = not many
is_required many OfMany = many

-- the rule of a word of this form
abbrev pub form_rule : Form → Text → Rule
form_rule Flag name = flag_rule name
form_rule (Setting value) name = setting_rule name
form_rule Operand name = operand_rule name
form_rule Operands name = operands_rule name

-- the rule of a word
abbrev pub word_rule : Bool → Word → Rule
word_rule many w = required_if (is_required many w.need) (form_rule w.form w.name.now)

-- a subcommand
abbrev pub part_app : Bool → Part → App
part_app many p = with_rules (new_app p.name.now) (map (word_rule many) p.words.now)

-- the command with these subcommands
abbrev pub with_parts : Bool → App → List Part → App
with_parts many a [] = a
with_parts many a (p ∷ ps) = with_parts many (with_subcommand a (part_app many p).top) ps

-- the number of an option of a table
abbrev pub IsNumberOf : List Row → Number → ℕ → Type 0
IsNumberOf rows option number = IsNumber (first_of option.name.now rows) option.usual number
    × (option.least ≤ number) × (number ≤ option.most)

-- the numbers of a table, from this place on in the list
abbrev pub AreNumbers : List Row → List Number → List ℕ → ℕ → Type 0
AreNumbers rows [] all place = Unit {0}
AreNumbers rows (option ∷ table) all place =
    IsNumberOf rows option (slice_index all place) × AreNumbers rows table all (place + 1)

-- the option has a value that is not such a number, or its default is not one
abbrev pub IsMissed : Number → Option Text → Type 0
IsMissed option None = option.least ≤ option.usual → option.usual ≤ option.most → ⊥
IsMissed option (Some text) =
    IsNumeral 10 text → option.least ≤ digits_value 10 text → digits_value 10 text ≤ option.most → ⊥

-- this holds of some option of the table
abbrev pub AreMissed : List Row → List Number → Type 0
AreMissed rows [] = ⊥
AreMissed rows (option ∷ table) = IsMissed option (first_of option.name.now rows) ⊎ AreMissed rows table

-- memory runs out, an operand has no `=`, or standard input is followed
abbrev pub IsNoFollowing : Bool → List Text → Refusal → Type 0
IsNoFollowing follow operands (ClapError e) = kind_of e ≡ OutOfMemory
IsNoFollowing follow operands (Value text) = (list_all is_parted operands ≡ false)
    ⊎ ((follow ≡ true) × ((streams : List NamedFile) × AreNamed operands streams × (list_any is_input streams ≡ true)))
