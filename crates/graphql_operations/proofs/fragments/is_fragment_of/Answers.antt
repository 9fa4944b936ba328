use Rattle.std.proofs.Common.{ap, sym, ◌∙◌}
use Rattle.graphql_text.specs.trees.Leaves.{name_tree, name_trees}
use Rattle.graphql_ast.specs.AstTrees.{definition_tree}
use Rattle.graphql_operations.specs.Fragments.{is_fragment_of, is_one_of}
use Rattle.graphql_operations.proofs.fragments.is_fragment_of.Goals as goal

pub returns-in-FragmentDefinition : goal.returns-in-FragmentDefinition
returns-in-FragmentDefinition c =
    c.is_one_of.ensures ∙ ap (λ fragment. is_one_of (name_trees c.args.names.now) (name_tree fragment.name)) c.deref.ensures
    ∙ ap (λ definition. is_fragment_of (name_trees c.args.names.now) (definition_tree definition)) (sym c.in-FragmentDefinition.is)
