-- Of kinds.Documents: what is made of a definition of the code.
use Rattle.std.proofs.Common.{◌≡◌, Option, Some, None, refl, ap, sym, ◌∙◌, subst}
use Rattle.graphql_base.specs.declared.node.Node.{Node}
use Rattle.graphql_base.specs.Node.{node_location, node_value}
use Rattle.graphql_ast.specs.AstTrees.{definition_tree}
use Rattle.graphql_ast.specs.DefinitionQueries.{definition_location}
use Rattle.graphql_ast.specs.Definitions.{DefinitionName, DefinitionTree, kind_named}
use Rattle.graphql_ast.specs.declared.definition.Definition.{Definition}
use Rattle.graphql_rewrite.specs.Kept.{located}
use Rattle.graphql_rewrite.specs.Outcomes.{outcome}
use Rattle.graphql_rewrite.specs.Rewritings.{Rewriting}
use Rattle.graphql_rewrite.specs.kinds.Documents.{rewritten_definition, rewritten_named}

-- the tree of a definition is made, and its location stays
abbrev IsRebuilt : Rewriting → Definition → Definition → Type 0
IsRebuilt f definition made = record {
  tree : definition_tree made ≡ rewritten_definition f (definition_tree definition);
  kept : located (definition_location made) ≡ located (definition_location definition);
}

-- a definition of this name, which is a node
module _ (f : Rewriting) (name : DefinitionName) {T : Type 0} (tree : T → (kind_named name).Tree) (wrap : Node T → Definition)
    (wrapped : (node : Node T) → definition_tree (wrap node) ≡ record { name = name; tree = tree (node_value node) })
    (located_as : (node : Node T) → definition_location (wrap node) ≡ node_location node) where
  abbrev of_tree : (kind_named name).Tree → DefinitionTree
  of_tree t = record { name = name; tree = t }

  abbrev IsMade : Node T → Option (Node T) → Type 0
  IsMade node found = outcome (λ made. tree (node_value made)) (tree (node_value node)) found ≡ rewritten_named f name (tree (node_value node))

  abbrev IsThere : Node T → Option (Node T) → Type 0
  IsThere node found = outcome node_location (node_location node) found ≡ node_location node

  pub is_made : (definition : Definition) (node made : Node T) (found : Option (Node T)) → definition ≡ wrap node → IsMade node found →
      IsThere node found → found ≡ Some made → IsRebuilt f definition (wrap made)
  is_made definition node made found is so there is_some = record {
    tree = wrapped made ∙ ap of_tree (subst (IsMade node) is_some so) ∙ sym (ap (rewritten_definition f) (ap definition_tree is ∙ wrapped node));
    kept = ap located (located_as made ∙ subst (IsThere node) is_some there ∙ sym (ap definition_location is ∙ located_as node));
  }

  pub stays : (definition : Definition) (node : Node T) (found : Option (Node T)) → definition ≡ wrap node → IsMade node found →
      found ≡ None → IsRebuilt f definition definition
  stays definition node found is so is_none =
      let at : definition_tree definition ≡ of_tree (tree (node_value node)) = ap definition_tree is ∙ wrapped node in
      record { tree = at ∙ ap of_tree (subst (IsMade node) is_none so) ∙ sym (ap (rewritten_definition f) at); kept = refl }
