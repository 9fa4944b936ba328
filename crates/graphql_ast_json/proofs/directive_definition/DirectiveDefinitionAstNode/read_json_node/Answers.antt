use Rattle.graphql_values.specs.kinds.DirectiveDefinitions.{directive_definition_kind}
use Rattle.ast_json_nodes.specs.code.Errors.{IsMemory}
use Rattle.ast_json_nodes.specs.code.JsonNodes.{node_data}
use Rattle.graphql_ast_json.specs.kinds.DefinitionJson.{IsDirectiveDefinition}
use Rattle.ast_json_nodes.proofs.general.PassedErrors.{passed}
use Rattle.graphql_ast_json.proofs.directive_definition.DirectiveDefinitionAstNode.read_json_node.Goals as goal

pub returns-in_err-check-clause-err : goal.returns-in_err-check-clause-err
returns-in_err-check-clause-err c =
    let none : ¬ IsMemory c.in_err-check.field-0.0 → (tree : directive_definition_kind.Tree) →
    ¬ IsDirectiveDefinition c.args.node.unknown tree (node_data c.args.node) =
    λ m tree is. c.in_err-check.ensures.err m is.0 in
    passed _ _ _ none c.from_residual.ensures.1

pub returns-in_err-optional-clause-err : goal.returns-in_err-optional-clause-err
returns-in_err-optional-clause-err c =
    let none : ¬ IsMemory c.in_err-optional.field-0.0 → (tree : directive_definition_kind.Tree) →
    ¬ IsDirectiveDefinition c.args.node.unknown tree (node_data c.args.node) =
    λ m tree is. c.in_err-optional.ensures.err m tree.description is.1 in
    passed _ _ _ none c.from_residual-in_err-optional.ensures.1

pub returns-in_err-member-clause-err : goal.returns-in_err-member-clause-err
returns-in_err-member-clause-err c =
    let none : ¬ IsMemory c.in_err-member.field-0.0 → (tree : directive_definition_kind.Tree) →
    ¬ IsDirectiveDefinition c.args.node.unknown tree (node_data c.args.node) =
    λ m tree is. c.in_err-member.ensures.err m tree.body.name is.2 in
    passed _ _ _ none c.from_residual-in_err-member.ensures.1

pub returns-in_err-list-clause-err : goal.returns-in_err-list-clause-err
returns-in_err-list-clause-err c =
    let none : ¬ IsMemory c.in_err-list.field-0.0 → (tree : directive_definition_kind.Tree) →
    ¬ IsDirectiveDefinition c.args.node.unknown tree (node_data c.args.node) =
    λ m tree is. c.in_err-list.ensures.err m tree.body.arguments is.3 in
    passed _ _ _ none c.from_residual-in_err-list.ensures.1

pub returns-in_err-flag-clause-err : goal.returns-in_err-flag-clause-err
returns-in_err-flag-clause-err c =
    let none : ¬ IsMemory c.in_err-flag.field-0.0 → (tree : directive_definition_kind.Tree) →
    ¬ IsDirectiveDefinition c.args.node.unknown tree (node_data c.args.node) =
    λ m tree is. c.in_err-flag.ensures.err m tree.body.repeatable is.4 in
    passed _ _ _ none c.from_residual-in_err-flag.ensures.1

pub returns-in_err-required_list-clause-err : goal.returns-in_err-required_list-clause-err
returns-in_err-required_list-clause-err c =
    let none : ¬ IsMemory c.in_err-required_list.field-0.0 → (tree : directive_definition_kind.Tree) →
    ¬ IsDirectiveDefinition c.args.node.unknown tree (node_data c.args.node) =
    λ m tree is. c.in_err-required_list.ensures.err m tree.body.locations is.5 in
    passed _ _ _ none c.from_residual-in_err-required_list.ensures.1
