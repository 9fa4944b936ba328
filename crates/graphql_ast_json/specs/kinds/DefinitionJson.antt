-- Which JSON is of which input value definition and directive definition.
use Rattle.std.specs.Prelude.{◌≡◌, [], ◌∷◌, Some, codes}
use Rattle.serde_json.specs.Data.{Data, string}
use Rattle.graphql_values.specs.kinds.DirectiveDefinitions.{directive_definition_kind}
use Rattle.graphql_values.specs.kinds.DirectiveLocations.{DirectiveLocationTree, location_name}
use Rattle.graphql_values.specs.kinds.InputValueDefinitions.{input_value_definition_kind}
use Rattle.graphql_ast_json.specs.kinds.DirectiveJson.{IsDirective}
use Rattle.ast_json_nodes.specs.declared.read.Unknown.{Unknown}
use Rattle.ast_json_nodes.specs.nodes.Nodes.{IsFlag, IsNode, IsName, IsStringValue, IsOptional, Member, ListMember, OptionalListMember, Each, member_of}
use Rattle.graphql_ast_json.specs.kinds.TypeJson.{IsTypeReference}
use Rattle.graphql_ast_json.specs.kinds.ValueJson.{IsValue}

abbrev pub IsInputValueDefinition : Unknown → input_value_definition_kind.Tree → Data → Type 0
IsInputValueDefinition unknown input json =
    IsNode unknown (codes "InputValueDefinition") (codes "description" ∷ codes "name" ∷ codes "type" ∷ codes "defaultValue" ∷ codes "directives" ∷ []) json
    × IsOptional (IsStringValue unknown) input.description (member_of (codes "description") json)
    × Member (codes "name") json (IsName unknown input.body.name)
    × Member (codes "type") json (IsTypeReference unknown input.body.type)
    × IsOptional (IsValue unknown) input.body.default_value (member_of (codes "defaultValue") json)
    × OptionalListMember (codes "directives") json (Each (IsDirective unknown) input.body.directives)

-- a location of directives is a name: its word in the grammar
abbrev pub IsDirectiveLocation : Unknown → DirectiveLocationTree → Data → Type 0
IsDirectiveLocation unknown location json =
    IsNode unknown (codes "Name") (codes "value" ∷ []) json × (member_of (codes "value") json ≡ Some (string (location_name location)))

abbrev pub IsDirectiveDefinition : Unknown → directive_definition_kind.Tree → Data → Type 0
IsDirectiveDefinition unknown definition json =
    IsNode unknown (codes "DirectiveDefinition") (codes "description" ∷ codes "name" ∷ codes "arguments" ∷ codes "repeatable" ∷ codes "locations" ∷ []) json
    × IsOptional (IsStringValue unknown) definition.description (member_of (codes "description") json)
    × Member (codes "name") json (IsName unknown definition.body.name)
    × OptionalListMember (codes "arguments") json (Each (IsInputValueDefinition unknown) definition.body.arguments)
    × IsFlag definition.body.repeatable (member_of (codes "repeatable") json)
    × ListMember (codes "locations") json (Each (IsDirectiveLocation unknown) definition.body.locations)
