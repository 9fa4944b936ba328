-- Lemmas, no definitions of the product: the JSON of input value definitions and directive definitions is of one of them, and is a node.
use Rattle.std.proofs.Common.{◌≡◌, ℕ, true, false, List, [], ◌∷◌, Option, Some, None, option_and_then, codes, nat_eq, refl, sym, ap, ◌∙◌}
use Rattle.std.specs.Cmp.Lexicographic.{pointwise}
use Rattle.graphql_values.specs.kinds.DirectiveDefinitions.{directive_definition_kind}
use Rattle.graphql_values.specs.kinds.DirectiveLocations.{DirectiveLocationTree, location_name}
use Rattle.graphql_values.specs.declared.directive_location.DirectiveLocation.TheVariants.{Query, Mutation, Subscription, Field}
use Rattle.graphql_values.specs.declared.directive_location.DirectiveLocation.TheVariants.{FragmentDefinition, FragmentSpread}
use Rattle.graphql_values.specs.declared.directive_location.DirectiveLocation.TheVariants.{InlineFragment, VariableDefinition, Schema}
use Rattle.graphql_values.specs.declared.directive_location.DirectiveLocation.TheVariants.{Scalar, Object, FieldDefinition}
use Rattle.graphql_values.specs.declared.directive_location.DirectiveLocation.TheVariants.{ArgumentDefinition, Interface, Union, Enum}
use Rattle.graphql_values.specs.declared.directive_location.DirectiveLocation.TheVariants.{EnumValue, InputObject, InputFieldDefinition}
use Rattle.graphql_values.specs.kinds.InputValueDefinitions.{input_value_definition_kind}
use Rattle.serde_json.specs.Data.{Data}
use Rattle.serde_json.specs.Find.{as_array}
use Rattle.graphql_ast_json.specs.kinds.DefinitionJson.{IsInputValueDefinition, IsDirectiveLocation, IsDirectiveDefinition}
use Rattle.graphql_ast_json.specs.kinds.DirectiveJson.{IsDirective}
use Rattle.ast_json_nodes.specs.nodes.Nodes.{Each, IsName, IsStringValue, items_or_none, member_of}
use Rattle.ast_json_nodes.specs.nodes.OneTree.{NodeLaws}
use Rattle.graphql_ast_json.specs.kinds.TypeJson.{IsTypeReference}
use Rattle.graphql_ast_json.specs.kinds.ValueJson.{IsValue}
use Rattle.graphql_ast_json.specs.lemmas.DirectiveNodes.{same_directive}
use Rattle.graphql_ast_json.specs.lemmas.Leaves.{both_some, same_each, same_flag, same_name, same_optional, same_string, same_string_value}
use Rattle.graphql_ast_json.specs.lemmas.TypeNodes.{same_type}
use Rattle.graphql_ast_json.specs.lemmas.ValueNodes.{same_value}
use Rattle.ast_json_nodes.specs.declared.read.Unknown.{Unknown}

pub same_input_value_definition : (unknown : Unknown) (a b : input_value_definition_kind.Tree) (json : Data) → IsInputValueDefinition unknown a json →
    IsInputValueDefinition unknown b json → a ≡ b
same_input_value_definition unknown a b json p q =
    let description = same_optional (IsStringValue unknown) (same_string_value unknown) a.description b.description (member_of
    (codes "description") json) p.1 q.1 in
    let name = both_some (member_of (codes "name") json) (IsName unknown a.body.name) (IsName unknown b.body.name) p.2 q.2
    (same_name unknown a.body.name b.body.name) in
    let type =
    both_some (member_of (codes "type") json) (IsTypeReference unknown a.body.type) (IsTypeReference unknown b.body.type) p.3 q.3
    (same_type unknown a.body.type b.body.type) in
    let value = same_optional (IsValue unknown) (same_value unknown) a.body.default_value b.body.default_value (member_of
    (codes "defaultValue") json) p.4 q.4 in
    let directives =
    both_some (items_or_none (member_of (codes "directives") json)) (Each (IsDirective unknown) a.body.directives)
    (Each (IsDirective unknown) b.body.directives) p.5 q.5
    (same_each (IsDirective unknown) (same_directive unknown) a.body.directives b.body.directives) in
    λ i. record { description = description i; body = record { name = name i; type = type i; default_value = value i; directives = directives i } }

location_among : List DirectiveLocationTree → List ℕ → Option DirectiveLocationTree
location_among [] name = None
location_among (location ∷ more) name = elim (pointwise nat_eq (location_name location) name) [ true ↦ Some location | false ↦ location_among more name ]

locations : List DirectiveLocationTree
locations =
    Query ∷ Mutation ∷ Subscription ∷ Field ∷ FragmentDefinition ∷ FragmentSpread ∷ InlineFragment ∷ VariableDefinition ∷ Schema ∷ Scalar
    ∷ Object ∷ FieldDefinition
    ∷ ArgumentDefinition ∷ Interface ∷ Union ∷ Enum ∷ EnumValue ∷ InputObject ∷ InputFieldDefinition ∷ []

location_is_found : (location : DirectiveLocationTree) → location_among locations (location_name location) ≡ Some location
unfolding location_among locations
location_is_found Query = refl
location_is_found Mutation = refl
location_is_found Subscription = refl
location_is_found Field = refl
location_is_found FragmentDefinition = refl
location_is_found FragmentSpread = refl
location_is_found InlineFragment = refl
location_is_found VariableDefinition = refl
location_is_found Schema = refl
location_is_found Scalar = refl
location_is_found Object = refl
location_is_found FieldDefinition = refl
location_is_found ArgumentDefinition = refl
location_is_found Interface = refl
location_is_found Union = refl
location_is_found Enum = refl
location_is_found EnumValue = refl
location_is_found InputObject = refl
location_is_found InputFieldDefinition = refl

some_location : (a b : DirectiveLocationTree) → Some a ≡ Some b → a ≡ b
some_location a b same = cc

pub same_location : (unknown : Unknown) (a b : DirectiveLocationTree) (json : Data) → IsDirectiveLocation unknown a json →
    IsDirectiveLocation unknown b json → a ≡ b
same_location unknown a b json p q =
    let name = same_string (codes "value") json (location_name a) (location_name b) p.1 q.1 in
    some_location a b (sym (location_is_found a) ∙ ap (location_among locations) name ∙ location_is_found b)

pub same_directive_definition : (unknown : Unknown) (a b : directive_definition_kind.Tree) (json : Data) → IsDirectiveDefinition unknown a json →
    IsDirectiveDefinition unknown b json → a ≡ b
same_directive_definition unknown a b json p q =
    let description = same_optional (IsStringValue unknown) (same_string_value unknown) a.description b.description (member_of
    (codes "description") json) p.1 q.1 in
    let name = both_some (member_of (codes "name") json) (IsName unknown a.body.name) (IsName unknown b.body.name) p.2 q.2
    (same_name unknown a.body.name b.body.name) in
    let arguments =
    both_some (items_or_none (member_of (codes "arguments") json)) (Each (IsInputValueDefinition unknown) a.body.arguments)
    (Each (IsInputValueDefinition unknown) b.body.arguments) p.3 q.3
    (same_each (IsInputValueDefinition unknown) (same_input_value_definition unknown) a.body.arguments b.body.arguments) in
    let repeatable = same_flag a.body.repeatable b.body.repeatable (member_of (codes "repeatable") json) p.4 q.4 in
    let places =
    both_some (option_and_then as_array (member_of (codes "locations") json)) (Each (IsDirectiveLocation unknown) a.body.locations)
    (Each (IsDirectiveLocation unknown) b.body.locations) p.5 q.5
    (same_each (IsDirectiveLocation unknown) (same_location unknown) a.body.locations b.body.locations) in
    λ i. record { description = description i; body = record { name = name i; arguments = arguments i; repeatable = repeatable i; locations = places i } }

pub input_value_definition_laws : NodeLaws IsInputValueDefinition
input_value_definition_laws = record {
  one_tree = same_input_value_definition;
  node = λ unknown tree json is. record {
    kind = codes "InputValueDefinition";
    node = record {
      names =
          codes "description" ∷ codes "name" ∷ codes "type" ∷ codes "defaultValue" ∷ codes "directives" ∷ [];
      is = is.0;
    };
  };
}

pub location_laws : NodeLaws IsDirectiveLocation
location_laws = record {
  one_tree = same_location;
  node = λ unknown tree json is. record { kind = codes "Name"; node = record { names = codes "value" ∷ []; is = is.0 } };
}

pub directive_definition_laws : NodeLaws IsDirectiveDefinition
directive_definition_laws = record {
  one_tree = same_directive_definition;
  node = λ unknown tree json is. record {
    kind = codes "DirectiveDefinition";
    node = record {
      names =
          codes "description" ∷ codes "name" ∷ codes "arguments" ∷ codes "repeatable" ∷ codes "locations" ∷ [];
      is = is.0;
    };
  };
}
