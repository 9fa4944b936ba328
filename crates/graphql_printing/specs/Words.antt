-- The options that the words of a command line mean: by the arguments of the command, and by the matches that `clap` makes of words for them.
use Rattle.std.specs.Prelude.{◌≡◌, ℕ, ◌<◌, ◌^◌, pos, Bool, true, false, if◌then◌else◌, List, [], ◌∷◌, Option, Some, None, codes, fold, is_some, option_and_then}
use Rattle.std.specs.Option.{option_map_or}
use Rattle.std.specs.Str.{bytes_eq}
use Rattle.std.specs.Str.Parse.{IsNumeral, digits_value, without_leading_plus}
use Rattle.clap.specs.Words.{App, Row, Rule, first_of, new_app, new_rule, with_rule}
use Rattle.clap.specs.declared.builder.action.ArgAction.TheVariants.{SetTrue}
use Rattle.clap.specs.declared.builder.value_parser.ValueParser.TheVariants.{Signed}
use Rattle.graphql_ast_calls.specs.Answers.{reading}
use Rattle.graphql_printing.specs.declared.options.Lines.{Lines}
use Rattle.graphql_printing.specs.declared.options.Lines.TheVariants.{Spaces, Tabs, OneLine}
use Rattle.graphql_printing.specs.declared.options.Options.{Options}
use Rattle.graphql_printing.specs.declared.options.Task.{Task}
use Rattle.graphql_printing.specs.declared.options.Task.TheVariants.{Print, Check, WriteJson, WritePrettyJson}

-- ---- the arguments of the command

-- a flag: `--name`
abbrev pub flag_rule : List ℕ → Rule
flag_rule name = record (new_rule name) { long = Some name; action = Some SetTrue }

-- an option with a value: `--name VALUE`
abbrev pub option_rule : List ℕ → Rule
option_rule name = record (new_rule name) { long = Some name; value_names = 1 }

-- one whose value is a number, at most `most`
abbrev pub number_rule : ℕ → List ℕ → Rule
number_rule most name = record (option_rule name) { parser = Some (Signed (pos 0) (pos most)) }

-- an argument that may not stand with some other one
abbrev pub conflicting : Rule → Rule
conflicting rule = record rule { is_free = false }

-- the options of the lines
abbrev pub indent_rules : List Rule
indent_rules = number_rule 16 (codes "indent") ∷ conflicting (flag_rule (codes "tabs")) ∷ []

abbrev pub line_rules : List Rule
line_rules = conflicting (flag_rule (codes "one-line")) ∷ number_rule 65535 (codes "level") ∷ []

-- what is done
abbrev pub task_rules : List Rule
task_rules = flag_rule (codes "check") ∷ conflicting (flag_rule (codes "json")) ∷ []

-- what is taken
abbrev pub reading_rules : List Rule
reading_rules = flag_rule (codes "pass-over-unknown") ∷ flag_rule (codes "allow-ill-formed") ∷ []

-- the files
abbrev pub file_rules : List Rule
file_rules = option_rule (codes "source") ∷ new_rule (codes "FILE") ∷ []

abbrev pub with_rules : List Rule → App → App
with_rules rules app = fold with_rule app rules

-- the command without arguments, which has a version
abbrev pub bare_app : App
bare_app = let app = new_app (codes "graphql_print") in record app { top = record app.top { has_version = true } }

unfoldable pub printing_app : App
printing_app = with_rules file_rules (with_rules reading_rules (with_rules task_rules (with_rules line_rules (with_rules indent_rules bare_app))))

-- ---- what matches mean

-- whether a flag was given: its value is `true` then, and else `false`
abbrev pub is_given : List ℕ → List Row → Bool
is_given name rows = option_map_or (λ value. bytes_eq value (codes "true")) (first_of name rows) false

-- The number is that of an argument's value, if it has one that so many bits hold, or the one that stands for none.
abbrev pub IsNumberOf : ℕ → Option (List ℕ) → ℕ → ℕ → Type 0
IsNumberOf bits None other number = number ≡ other
IsNumberOf bits (Some text) other number =
    IsNumeral 10 (without_leading_plus text) → digits_value 10 (without_leading_plus text) < 2 ^ bits →
    number ≡ digits_value 10 (without_leading_plus text)

-- The lines that are asked for: one, or several with tabs or so many spaces, two where no number was given.
abbrev pub AreLinesOf : List Row → Lines → Type 0
AreLinesOf rows OneLine = is_given (codes "one-line") rows ≡ true
AreLinesOf rows Tabs = (is_given (codes "one-line") rows ≡ false) × (is_given (codes "tabs") rows ≡ true)
AreLinesOf rows (Spaces width) = (is_given (codes "one-line") rows ≡ false) × (is_given (codes "tabs") rows ≡ false)
    × IsNumberOf 8 (first_of (codes "indent") rows) 2 width

-- what is to be done
abbrev pub task_of : List Row → Task
task_of rows =
    if is_given (codes "check") rows then Check
    else if is_given (codes "json") rows then (if is_some (first_of (codes "indent") rows) then WritePrettyJson else WriteJson)
    else Print

-- the file that is read, if it is not the standard input, which is also `-`
abbrev pub file_of : List Row → Option (List ℕ)
file_of rows = option_and_then (λ file. if bytes_eq file (codes "-") then None else Some file) (first_of (codes "FILE") rows)

-- The options are those that were found.
pub record AreOptionsOf (rows : List Row) (options : Options) : Type 0 where
  pub task : options.task ≡ task_of rows
  pub lines : AreLinesOf rows options.lines
  pub level : IsNumberOf 16 (first_of (codes "level") rows) 0 options.level
  pub unknown : options.unknown ≡ reading (is_given (codes "pass-over-unknown") rows)
  pub allow_ill_formed : options.allow_ill_formed ≡ is_given (codes "allow-ill-formed") rows
