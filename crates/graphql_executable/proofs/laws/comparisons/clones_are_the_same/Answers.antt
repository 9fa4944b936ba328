use Rattle.std.proofs.Common.{◌≡◌, ◌∙◌, rules, sym}
use Rattle.std.proofs.lemmas.List.Elements.{same_from_all_zip}
use Rattle.std.specs.Option.{option_map}
use Rattle.graphql_text.specs.trees.Leaves.{description_tree, name_tree}
use Rattle.graphql_values.specs.trees.DirectiveTrees.{argument_trees, directive_node_trees}
use Rattle.graphql_values.specs.trees.LocationTrees.{operation_type_tree}
use Rattle.graphql_executable.specs.trees.ExecutableTrees.{selection_trees, variable_definition_trees}
use Rattle.graphql_executable.proofs.layout.SelectionShapes.{field_is, inline_fragment_is}
use Rattle.graphql_executable.proofs.laws.comparisons.clones_are_the_same.Goals as goal

pub returns-clause-fields : goal.returns-clause-fields
returns-clause-fields c = λ a b same. (
  same,
  field_is b ∙ (λ i. record {
    head = record {
      alias = option_map name_tree (same.alias i);
      name = name_tree (same.name i);
      arguments = argument_trees (same.arguments i);
      directives = directive_node_trees (same.directives i);
    };
    selections = selection_trees (same.selections i);
  }) ∙ sym (field_is a),
)

pub returns-clause-fragment_spreads : goal.returns-clause-fragment_spreads
returns-clause-fragment_spreads c = λ a b same.
    let directives : b.directives.0.items ≡ a.directives.0.items = same_from_all_zip (λ n m. m ≡ n) _ _ same.1.0 (λ x y e. e) in
    λ i. (same.0 i, (directives i, record { name = name_tree (same.0 i); directives = directive_node_trees (directives i) }))

pub returns-clause-inline_fragments : goal.returns-clause-inline_fragments
returns-clause-inline_fragments c = λ a b same. (
  same,
  inline_fragment_is b ∙ (λ i. record {
    head = record { type_condition = option_map name_tree (same.type_condition i); directives = directive_node_trees (same.directives i) };
    selections = selection_trees (same.selections i);
  }) ∙ sym (inline_fragment_is a),
)

pub returns-clause-operation_definitions : goal.returns-clause-operation_definitions
returns-clause-operation_definitions c = λ a b same.
    let description : b.description ≡ a.description = search rules in
    let name : b.name ≡ a.name = search rules in
    let variables : b.variables.items ≡ a.variables.items = same_from_all_zip (λ n m. m ≡ n) _ _ same.1.1.1.0.0 (λ x y e. e) in
    let directives : b.directives.0.items ≡ a.directives.0.items = same_from_all_zip (λ n m. m ≡ n) _ _ same.1.1.1.1.0.0 (λ x y e. e) in
    let selections : b.selection_set.items ≡ a.selection_set.items = same_from_all_zip (λ n m. m ≡ n) _ _ same.1.1.1.1.1.0 (λ x y e. e) in
    λ i. (
      description i,
      (
        same.1.0 i,
        (
          name i,
          (
            variables i,
            (
              directives i,
              (
                selections i,
                record {
                  description = option_map description_tree (description i);
                  body = record {
                    operation_type = operation_type_tree (same.1.0 i);
                    name = option_map name_tree (name i);
                    variables = variable_definition_trees (variables i);
                    directives = directive_node_trees (directives i);
                    selections = selection_trees (selections i);
                  };
                },
              ),
            ),
          ),
        ),
      ),
    )

pub returns-clause-fragment_definitions : goal.returns-clause-fragment_definitions
returns-clause-fragment_definitions c = λ a b same.
    let description : b.description ≡ a.description = search rules in
    let directives : b.directives.0.items ≡ a.directives.0.items = same_from_all_zip (λ n m. m ≡ n) _ _ same.1.1.1.0.0 (λ x y e. e) in
    let selections : b.selection_set.items ≡ a.selection_set.items = same_from_all_zip (λ n m. m ≡ n) _ _ same.1.1.1.1.0 (λ x y e. e) in
    λ i. (
      description i,
      (
        same.1.0 i,
        (
          same.1.1.0 i,
          (
            directives i,
            (
              selections i,
              record {
                description = option_map description_tree (description i);
                body = record {
                  name = name_tree (same.1.0 i);
                  type_condition = name_tree (same.1.1.0 i);
                  directives = directive_node_trees (directives i);
                  selections = selection_trees (selections i);
                };
              },
            ),
          ),
        ),
      ),
    )
