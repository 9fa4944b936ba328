use Rattle.graphql_text.proofs.parts.Parts.{part_always_derives}
use Rattle.graphql_executable.specs.lemmas.Selections.{selection_set_part}
use Rattle.graphql_executable.specs.lemmas.VariableDefinitions.{variable_definitions_part}
use Rattle.graphql_executable.proofs.laws.kinds.printed_tokens_derive_the_tree.Goals as goal

pub returns-clause-variable_lists : goal.returns-clause-variable_lists
returns-clause-variable_lists c = part_always_derives variable_definitions_part

pub returns-clause-selection_sets : goal.returns-clause-selection_sets
returns-clause-selection_sets c = part_always_derives selection_set_part
