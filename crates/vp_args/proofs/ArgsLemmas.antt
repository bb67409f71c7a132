-- What was found for words, and the plan.
use Rattle.std.proofs.Common.{◌≡◌, ◌∙◌, ◌⊎◌, ◌<◌, ◌+◌, ◌∷◌, ◌++◌, [], inl, inr, ℕ, zero, suc, List, Option, Some, None, Bool, true, false, refl, sym, ap, subst, length, map, take, get_or, le_of_suc-le-suc, le_refl, not-suc-le-zero}
use Rattle.std.proofs.lemmas.Bool.{le-ltb}
use Rattle.std.proofs.lemmas.List.{map-append, take_more}
use Rattle.std.specs.List.{list_all, position_or_len}
use Rattle.std.specs.Prelude.{◌&&◌, codes, Result, Ok, Err, IfOk, IfErr}
use Rattle.std.specs.Borrow.{Bor}
use Rattle.clap.specs.Built.{AddsArg, AddsSubcommand}
use Rattle.clap.specs.Walk.{Row, Rule, Text, rule_of, texts}
use Rattle.clap.specs.Kinds.{FailsBy, HasKind}
use Rattle.clap.specs.Faults.{fault_of, is_simple_and_free}
use Rattle.clap.specs.Simple.{App, HasMatchesOf, app_of, is_simple, subcommand_of, subcommand_rows_of, with_rule, with_subcommand}
use Rattle.clap.proofs.OnLiterals.{clap_on_literals}
use Rattle.clap.specs.declared.error.Error.{Error}
use Rattle.clap.specs.declared.builder.arg.Arg.{Arg}
use Rattle.clap.specs.declared.builder.command.Command.{Command}
use Rattle.clap.specs.declared.builder.command.Command.TheViews.{out-Command as fields_of}
use Rattle.clap.specs.declared.parser.matches.ArgMatches.{ArgMatches}
use Rattle.vp_args.specs.Tables.{part_app, with_parts, word_rule}
use Rattle.vp_args.specs.declared.words.Part.{Part}
use Rattle.vp_args.specs.declared.words.Word.{Word}
use Rattle.vp_args.specs.declared.args.Task.TheVariants.{Nothing}
use Rattle.vp_args.specs.declared.args.Refusal.{Refusal}
use Rattle.vp_args.specs.declared.args.Refusal.TheVariants.{ClapError, Value}
use Rattle.vp_args.specs.Args.{ParsedArgs, serves, check_app, decode_app, encode_app, faults_of, info_app, picture_app, serve_app, vp8_app, IsFlag, IsForMemory, IsNoNaming, IsTaskFor, is_equals, is_parted, program, with_rules, with_service, asks_many}

-- ---- the commands

with_one_more : (a : App) (rules : List Rule) (r : Rule) → with_rules a (rules ++ r ∷ []) ≡ with_rule (with_rules a rules) r
with_one_more a [] r = refl
with_one_more a (x ∷ rules) r = with_one_more (with_rule a x) rules r

-- one more word of a table
pub gains_word : (many : Bool) (first : App) (mid new : Command) (words : List Word) (i : ℕ) (d : Word) (a : Arg) → i < length words
    → app_of mid ≡ with_rules first (map (word_rule many) (take i words)) → (fields_of mid).has_globals ≡ false
    → AddsArg mid a new → a.global ≡ false → rule_of a ≡ word_rule many (get_or words i d)
    → (app_of new ≡ with_rules first (map (word_rule many) (take (i + 1) words))) × ((fields_of new).has_globals ≡ false)
gains_word many first mid new words i d a lt is none adds local rule =
    let more = ap (map (word_rule many)) (take_more words i d lt) ∙ map-append (word_rule many) (take i words) (get_or words i d ∷ []) in
    let one = with_one_more first (map (word_rule many) (take i words)) (word_rule many (get_or words i d)) in (
      adds.shape local ∙ (ap (λ x. with_rule (app_of mid) x) rule ∙ (ap (λ x. with_rule x (word_rule many (get_or words i d))) is ∙ (sym one ∙ ap (with_rules first) (sym more)))),
      adds.globals ∙ rw (none, local) refl,
    )

-- one more subcommand of a table
with_one_part : (many : Bool) (a : App) (parts : List Part) (p : Part) → with_parts many a (parts ++ p ∷ []) ≡ with_subcommand (with_parts many a parts) (part_app many p).top
with_one_part many a [] p = refl
with_one_part many a (x ∷ parts) p = with_one_part many (with_subcommand a (part_app many x).top) parts p

pub gains_part : (many : Bool) (first : App) (old sub new : Command) (parts : List Part) (i : ℕ) (d : Part) → i < length parts
    → app_of old ≡ with_parts many first (take i parts) → app_of sub ≡ part_app many (get_or parts i d) → (fields_of sub).has_globals ≡ false
    → AddsSubcommand old sub new → app_of new ≡ with_parts many first (take (i + 1) parts)
gains_part many first old sub new parts i d lt e f local adds =
    let one = with_one_part many first (take i parts) (get_or parts i d) in
    let more = ap (with_parts many first) (take_more parts i d lt) ∙ one in
    adds.shape local ∙ (ap (λ x. with_subcommand x (app_of sub).top) e ∙ (ap (λ (x : App). with_subcommand (with_parts many first (take i parts)) x.top) f ∙ sym more))

-- the program of these subcommands
pub all_met : (many : Bool) (a : App)
    → a ≡ with_subcommand (with_subcommand (with_subcommand (with_subcommand (with_subcommand (with_subcommand vp8_app decode_app.top) encode_app.top) info_app.top) check_app.top) picture_app.top) (serve_app many).top
    → a ≡ program many
unfolding program
all_met many a e = e

-- ---- the words

is_free : (many : Bool) → is_simple_and_free (program many) ≡ true
unfolding program clap_on_literals
is_free true = refl
is_free false = refl

is_plain : (many : Bool) → is_simple (program many) ≡ true
unfolding program clap_on_literals
is_plain true = refl
is_plain false = refl

pub is_found : (r : Result ArgMatches Error) (app : App) (words : List Text) → app ≡ program (asks_many words) → IfOk r (HasMatchesOf app words)
    → (is_simple_and_free app ≡ true → FailsBy (fault_of app words) r)
    → IfOk r (λ m. (faults_of words ≡ []) × (subcommand_rows_of m ≡ subcommand_of (program (asks_many words)) words))
is_found (Ok m) app words e h k =
    (subst (λ a. fault_of a words ≡ []) e (k (ap is_simple_and_free e ∙ is_free (asks_many words))), (h (ap is_simple e ∙ is_plain (asks_many words))).1 ∙ ap (λ a. subcommand_of a words) e)
is_found (Err f) app words e h k = tt

pub is_fault : (r : Result ArgMatches Error) (app : App) (words : List Text) → app ≡ program (asks_many words)
    → (is_simple_and_free app ≡ true → FailsBy (fault_of app words) r) → IfErr r (HasKind (faults_of words))
is_fault (Ok m) app words e k = tt
is_fault (Err f) app words e k = subst (λ a. HasKind (fault_of a words) f) e (k (ap is_simple_and_free e ∙ is_free (asks_many words)))

-- ---- the plan

pub flag_is : (text : Option Text) (flag : Bool) → (text ≡ None → flag ≡ false) → (text ≡ Some (codes "true") → flag ≡ true)
    → (text ≡ Some (codes "false") → flag ≡ false) → IsFlag text flag
flag_is None flag absent set unset = absent refl
flag_is (Some t) flag absent set unset = (λ e. set (rw e refl), λ e. unset (rw e refl))

pub to_serve : (rows : List Row) (address connections : Option Text) (operands : Option (List Text)) (a c : Text) (o : List Text)
    → Some a ≡ address → Some c ≡ connections → Some o ≡ operands → (P : ParsedArgs → Type 0) → P (serves rows a c o)
    → P (with_service rows address connections operands)
to_serve rows address connections operands a c o e f g P h = rw (← e, ← f, ← g) h

pub no_service : (rows : List Row) (address connections : Option Text) (operands : Option (List Text))
    → (address ≡ None) ⊎ ((connections ≡ None) ⊎ (operands ≡ None)) → IsTaskFor (with_service rows address connections operands) Nothing
no_service rows None connections operands e = tt
no_service rows (Some a) None operands e = tt
no_service rows (Some a) (Some c) None e = tt
no_service rows (Some a) (Some c) (Some o) (inl e) = cc
no_service rows (Some a) (Some c) (Some o) (inr (inl e)) = cc
no_service rows (Some a) (Some c) (Some o) (inr (inr e)) = cc

-- ---- operands that aren't parted

unparted : (text : Text) → position_or_len is_equals text ≡ length text → is_parted text ≡ false
unparted text e = rw e (le-ltb (length text) (length text) (le_refl _))

pub no_naming : (operands : List (Bor Text)) (i : ℕ) (d : Bor Text) → i < length operands
    → position_or_len is_equals (get_or operands i d).now ≡ length (get_or operands i d).now → list_all is_parted (texts operands) ≡ false
no_naming [] i d lt e = absurd (not-suc-le-zero lt)
no_naming (x ∷ xs) zero d lt e = rw (unparted x.now e) refl
no_naming (x ∷ xs) (suc i) d lt e = still (is_parted x.now) (list_all is_parted (texts xs)) (no_naming xs i d (le_of_suc-le-suc lt) e)
  where
    still : (a b : Bool) → b ≡ false → (a && b) ≡ false
    still true b e = e
    still false b e = refl

pub naming_memory : (operands : List Text) (r : Refusal) → IsForMemory r → IsNoNaming operands r
naming_memory operands (ClapError e) h = h
naming_memory operands (Value t) h = absurd h
