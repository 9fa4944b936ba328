-- Which JSON is of which argument, directive and list of directives.
use Rattle.std.specs.Prelude.{List, [], ◌∷◌, codes, IsSomeAnd}
use Rattle.serde_json.specs.Data.{Data}
use Rattle.serde_json.specs.Find.{as_array}
use Rattle.graphql_values.specs.kinds.Arguments.{ArgumentTree}
use Rattle.graphql_values.specs.kinds.Directives.{DirectiveTree}
use Rattle.ast_json_nodes.specs.declared.read.Unknown.{Unknown}
use Rattle.ast_json_nodes.specs.nodes.Nodes.{IsNode, IsName, Member, OptionalListMember, Each}
use Rattle.graphql_ast_json.specs.kinds.ValueJson.{IsValue, IsNamedValue}

abbrev pub IsArgument : Unknown → ArgumentTree → Data → Type 0
IsArgument unknown argument = IsNamedValue unknown (codes "Argument") argument.name (IsValue unknown argument.value)

abbrev pub IsDirective : Unknown → DirectiveTree → Data → Type 0
IsDirective unknown directive json =
    IsNode unknown (codes "Directive") (codes "name" ∷ codes "arguments" ∷ []) json × Member (codes "name") json (IsName unknown directive.name)
    × OptionalListMember (codes "arguments") json (Each (IsArgument unknown) directive.arguments)

-- the member `directives` has these directives, or is left out where there are none
abbrev pub HasDirectives : Unknown → List DirectiveTree → Data → Type 0
HasDirectives unknown directives json = OptionalListMember (codes "directives") json (Each (IsDirective unknown) directives)

-- a list of directives alone is an array
abbrev pub AreDirectives : Unknown → List DirectiveTree → Data → Type 0
AreDirectives unknown directives json = IsSomeAnd (as_array json) (Each (IsDirective unknown) directives)
