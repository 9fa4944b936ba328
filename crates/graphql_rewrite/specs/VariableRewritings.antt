-- What is made of values where values take the place of variables.
use Rattle.std.specs.Prelude.{List, [], ◌∷◌, Option, Some, None, if◌then◌else◌, unwrap_or}
use Rattle.graphql_text.specs.lexical.Literals.{NameText}
use Rattle.graphql_values.specs.kinds.Values.{ValueTree, variable}
use Rattle.graphql_rewrite.specs.FieldRewritings.{is_text}
use Rattle.graphql_rewrite.specs.Rewritings.{Rewriting, unchanged}

-- the first value of that name
abbrev pub value_named : NameText → List (NameText × ValueTree) → Option ValueTree
value_named name [] = None
value_named name (value ∷ values) = if is_text name.text value.0 then Some value.1 else value_named name values

-- the value of a variable, if there is one; all other values stay
abbrev pub replaced_variable : List (NameText × ValueTree) → ValueTree → ValueTree
replaced_variable values (variable name) = unwrap_or (value_named name values) (variable name)
replaced_variable values value = value

abbrev pub replacing_variables : List (NameText × ValueTree) → Rewriting
replacing_variables values = record unchanged { value = replaced_variable values }
