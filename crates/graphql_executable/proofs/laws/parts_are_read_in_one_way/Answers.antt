use Rattle.graphql_text.proofs.parts.Parts.{part_one_way}
use Rattle.graphql_executable.specs.lemmas.Selections.{selection_set_part}
use Rattle.graphql_executable.specs.lemmas.VariableDefinitions.{variable_definitions_part}
use Rattle.graphql_executable.proofs.laws.parts_are_read_in_one_way.Goals as goal

pub returns-clause-variable_lists : goal.returns-clause-variable_lists
returns-clause-variable_lists c = part_one_way variable_definitions_part

pub returns-clause-selection_sets : goal.returns-clause-selection_sets
returns-clause-selection_sets c = part_one_way selection_set_part
