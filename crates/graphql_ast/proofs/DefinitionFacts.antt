-- What is asked of a definition is what its kind says of its tree; and one that is no operation looks alike at the front of a print and behind
-- something else.
use Rattle.std.proofs.Common.{◌≡◌, ℕ, Bool, List, false, refl}
use Rattle.graphql_base.specs.declared.node.Node.{Node}
use Rattle.graphql_text.specs.kinds.Flaws.{Flaw}
use Rattle.graphql_text.specs.layout.Layout.{Item}
use Rattle.graphql_executable.specs.declared.operation_definition.OperationDefinition.{OperationDefinition}
use Rattle.graphql_ast.specs.AstStacks.{definition_list_depth, selection_depth}
use Rattle.graphql_ast.specs.AstTrees.{definition_tree}
use Rattle.graphql_ast.specs.Definitions.{DefinitionTree, definition_kind}
use Rattle.graphql_ast.specs.declared.definition.Definition.{Definition}
use Rattle.graphql_ast.specs.declared.definition.Definition.TheVariants as definition

-- WHAT IS ASKED OF A DEFINITION

pub record Facts : Type 0 where
  pub obeys : Bool
  pub flaws : List Flaw
  pub shape : Bool → Bool → List Item
  pub nesting : ℕ
  pub lists : ℕ
  pub selections : ℕ

abbrev pub facts_of : DefinitionTree → Facts
facts_of tree = record {
  obeys = definition_kind.obeys tree;
  flaws = definition_kind.flaws tree;
  shape = λ broken front. definition_kind.shape broken front tree;
  nesting = definition_kind.nesting tree;
  lists = definition_list_depth tree;
  selections = selection_depth tree;
}

-- It doesn't unfold by itself, so that a tactic finds it under each variant.
pub facts : Definition → Facts
facts one = facts_of (definition_tree one)

pub obeys_is : (one : Definition) → definition_kind.obeys (definition_tree one) ≡ (facts one).obeys
unfolding facts
obeys_is one = refl

pub flaws_is : (one : Definition) → definition_kind.flaws (definition_tree one) ≡ (facts one).flaws
unfolding facts
flaws_is one = refl

pub shape_is : (one : Definition) (broken front : Bool) →
    definition_kind.shape broken front (definition_tree one) ≡ (facts one).shape broken front
unfolding facts
shape_is one broken front = refl

pub nesting_is : (one : Definition) → definition_kind.nesting (definition_tree one) ≡ (facts one).nesting
unfolding facts
nesting_is one = refl

pub lists_is : (one : Definition) → definition_list_depth (definition_tree one) ≡ (facts one).lists
unfolding facts
lists_is one = refl

pub selections_is : (one : Definition) → selection_depth (definition_tree one) ≡ (facts one).selections
unfolding facts
selections_is one = refl

-- UNDER EACH VARIANT

pub at_OperationDefinition : (node : _) →
    facts (definition.OperationDefinition node) ≡ facts_of (definition_tree (definition.OperationDefinition node))
unfolding facts
at_OperationDefinition node = refl

pub at_FragmentDefinition : (node : _) → facts (definition.FragmentDefinition node) ≡ facts_of (definition_tree (definition.FragmentDefinition node))
unfolding facts
at_FragmentDefinition node = refl

pub at_DirectiveDefinition : (node : _) →
    facts (definition.DirectiveDefinition node) ≡ facts_of (definition_tree (definition.DirectiveDefinition node))
unfolding facts
at_DirectiveDefinition node = refl

pub at_SchemaDefinition : (node : _) → facts (definition.SchemaDefinition node) ≡ facts_of (definition_tree (definition.SchemaDefinition node))
unfolding facts
at_SchemaDefinition node = refl

pub at_ScalarTypeDefinition : (node : _) →
    facts (definition.ScalarTypeDefinition node) ≡ facts_of (definition_tree (definition.ScalarTypeDefinition node))
unfolding facts
at_ScalarTypeDefinition node = refl

pub at_ObjectTypeDefinition : (node : _) →
    facts (definition.ObjectTypeDefinition node) ≡ facts_of (definition_tree (definition.ObjectTypeDefinition node))
unfolding facts
at_ObjectTypeDefinition node = refl

pub at_InterfaceTypeDefinition : (node : _) →
    facts (definition.InterfaceTypeDefinition node) ≡ facts_of (definition_tree (definition.InterfaceTypeDefinition node))
unfolding facts
at_InterfaceTypeDefinition node = refl

pub at_UnionTypeDefinition : (node : _) →
    facts (definition.UnionTypeDefinition node) ≡ facts_of (definition_tree (definition.UnionTypeDefinition node))
unfolding facts
at_UnionTypeDefinition node = refl

pub at_EnumTypeDefinition : (node : _) → facts (definition.EnumTypeDefinition node) ≡ facts_of (definition_tree (definition.EnumTypeDefinition node))
unfolding facts
at_EnumTypeDefinition node = refl

pub at_InputObjectTypeDefinition : (node : _) →
    facts (definition.InputObjectTypeDefinition node) ≡ facts_of (definition_tree (definition.InputObjectTypeDefinition node))
unfolding facts
at_InputObjectTypeDefinition node = refl

pub at_SchemaExtension : (node : _) → facts (definition.SchemaExtension node) ≡ facts_of (definition_tree (definition.SchemaExtension node))
unfolding facts
at_SchemaExtension node = refl

pub at_ScalarTypeExtension : (node : _) →
    facts (definition.ScalarTypeExtension node) ≡ facts_of (definition_tree (definition.ScalarTypeExtension node))
unfolding facts
at_ScalarTypeExtension node = refl

pub at_ObjectTypeExtension : (node : _) →
    facts (definition.ObjectTypeExtension node) ≡ facts_of (definition_tree (definition.ObjectTypeExtension node))
unfolding facts
at_ObjectTypeExtension node = refl

pub at_InterfaceTypeExtension : (node : _) →
    facts (definition.InterfaceTypeExtension node) ≡ facts_of (definition_tree (definition.InterfaceTypeExtension node))
unfolding facts
at_InterfaceTypeExtension node = refl

pub at_UnionTypeExtension : (node : _) → facts (definition.UnionTypeExtension node) ≡ facts_of (definition_tree (definition.UnionTypeExtension node))
unfolding facts
at_UnionTypeExtension node = refl

pub at_EnumTypeExtension : (node : _) → facts (definition.EnumTypeExtension node) ≡ facts_of (definition_tree (definition.EnumTypeExtension node))
unfolding facts
at_EnumTypeExtension node = refl

pub at_InputObjectTypeExtension : (node : _) →
    facts (definition.InputObjectTypeExtension node) ≡ facts_of (definition_tree (definition.InputObjectTypeExtension node))
unfolding facts
at_InputObjectTypeExtension node = refl

pub ruleset definition_steps = (
  obeys_is,
  flaws_is,
  shape_is,
  nesting_is,
  lists_is,
  selections_is,
  at_OperationDefinition,
  at_FragmentDefinition,
  at_DirectiveDefinition,
  at_SchemaDefinition,
  at_ScalarTypeDefinition,
  at_ObjectTypeDefinition,
  at_InterfaceTypeDefinition,
  at_UnionTypeDefinition,
  at_EnumTypeDefinition,
  at_InputObjectTypeDefinition,
  at_SchemaExtension,
  at_ScalarTypeExtension,
  at_ObjectTypeExtension,
  at_InterfaceTypeExtension,
  at_UnionTypeExtension,
  at_EnumTypeExtension,
  at_InputObjectTypeExtension,
)

-- AT THE FRONT

module _ (broken front : Bool) where
  pub same_behind : (one : Definition) → ((node : Node OperationDefinition) → one ≡ definition.OperationDefinition node → ⊥) →
      definition_kind.shape broken front (definition_tree one) ≡ definition_kind.shape broken false (definition_tree one)
  same_behind (definition.OperationDefinition node) other = absurd (other node refl)
  same_behind (definition.FragmentDefinition node) other = refl
  same_behind (definition.DirectiveDefinition node) other = refl
  same_behind (definition.SchemaDefinition node) other = refl
  same_behind (definition.ScalarTypeDefinition node) other = refl
  same_behind (definition.ObjectTypeDefinition node) other = refl
  same_behind (definition.InterfaceTypeDefinition node) other = refl
  same_behind (definition.UnionTypeDefinition node) other = refl
  same_behind (definition.EnumTypeDefinition node) other = refl
  same_behind (definition.InputObjectTypeDefinition node) other = refl
  same_behind (definition.SchemaExtension node) other = refl
  same_behind (definition.ScalarTypeExtension node) other = refl
  same_behind (definition.ObjectTypeExtension node) other = refl
  same_behind (definition.InterfaceTypeExtension node) other = refl
  same_behind (definition.UnionTypeExtension node) other = refl
  same_behind (definition.EnumTypeExtension node) other = refl
  same_behind (definition.InputObjectTypeExtension node) other = refl
