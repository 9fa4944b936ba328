-- The layout of directive locations, piece by piece.
use Rattle.std.proofs.Common.{◌≡◌, List, [], ◌∷◌, ◌++◌, Some, refl, codes}
use Rattle.graphql_text.specs.layout.Layout.{Item, Space, Word, lowers, raises}
use Rattle.graphql_text.specs.lexical.Tokens.{bar, Punctuation, Name}
use Rattle.graphql_text.specs.code.Writing.{fixed_text}
use Rattle.graphql_text.proofs.code.JoinedNamesSteps.{further_names, joined_names_balanced, joined_names_next, joined_names_opened}
use Rattle.graphql_values.specs.kinds.DirectiveDefinitions.{directive_locations_shape}
use Rattle.graphql_values.specs.kinds.DirectiveLocations.{DirectiveLocationTree, location_name}
use Rattle.graphql_values.specs.declared.directive_location.DirectiveLocation.TheVariants.{Query, Mutation, Subscription, Field}
use Rattle.graphql_values.specs.declared.directive_location.DirectiveLocation.TheVariants.{FragmentDefinition, FragmentSpread}
use Rattle.graphql_values.specs.declared.directive_location.DirectiveLocation.TheVariants.{InlineFragment, VariableDefinition, Schema}
use Rattle.graphql_values.specs.declared.directive_location.DirectiveLocation.TheVariants.{Scalar, Object, FieldDefinition}
use Rattle.graphql_values.specs.declared.directive_location.DirectiveLocation.TheVariants.{ArgumentDefinition, Interface, Union, Enum}
use Rattle.graphql_values.specs.declared.directive_location.DirectiveLocation.TheVariants.{EnumValue, InputObject, InputFieldDefinition}

-- the words of a location are ASCII
pub location_fixed : (location : DirectiveLocationTree) → fixed_text (Word (Name (location_name location)) ∷ []) ≡ Some (location_name location)
location_fixed Query = refl
location_fixed Mutation = refl
location_fixed Subscription = refl
location_fixed Field = refl
location_fixed FragmentDefinition = refl
location_fixed FragmentSpread = refl
location_fixed InlineFragment = refl
location_fixed VariableDefinition = refl
location_fixed Schema = refl
location_fixed Scalar = refl
location_fixed Object = refl
location_fixed FieldDefinition = refl
location_fixed ArgumentDefinition = refl
location_fixed Interface = refl
location_fixed Union = refl
location_fixed Enum = refl
location_fixed EnumValue = refl
location_fixed InputObject = refl
location_fixed InputFieldDefinition = refl

-- the locations after the first
abbrev pub further_locations : List DirectiveLocationTree → List Item
further_locations = further_names bar location_name

pub locations_opened : (location : DirectiveLocationTree) (more : List DirectiveLocationTree) →
    directive_locations_shape (location ∷ more)
    ≡ (Space ∷ Word (Name (codes "on")) ∷ Space ∷ Word (Name (location_name location)) ∷ []) ++ further_locations more
locations_opened = joined_names_opened bar location_name (Name (codes "on"))

pub locations_next : (location : DirectiveLocationTree) (more : List DirectiveLocationTree) →
    further_locations (location ∷ more) ≡ (Space ∷ Word (Punctuation bar) ∷ Space ∷ Word (Name (location_name location)) ∷ []) ++ further_locations more
locations_next = joined_names_next bar location_name

pub locations_balanced : (locations : List DirectiveLocationTree) → raises (directive_locations_shape locations) ≡ lowers (directive_locations_shape locations)
locations_balanced = joined_names_balanced bar location_name (Name (codes "on"))
