-- Lemmas, no definitions of the product: the JSON of arguments and directives is of one of them, and is a node.
use Rattle.std.proofs.Common.{◌≡◌, List, codes, [], ◌∷◌}
use Rattle.graphql_values.specs.kinds.Arguments.{ArgumentTree}
use Rattle.graphql_values.specs.kinds.Directives.{DirectiveTree}
use Rattle.serde_json.specs.Data.{Data}
use Rattle.serde_json.specs.Find.{as_array}
use Rattle.graphql_ast_json.specs.kinds.DirectiveJson.{IsArgument, IsDirective, AreDirectives}
use Rattle.ast_json_nodes.specs.nodes.Nodes.{Each, IsName, items_or_none, member_of}
use Rattle.ast_json_nodes.specs.nodes.OneTree.{JsonLaws, NodeLaws}
use Rattle.graphql_ast_json.specs.kinds.ValueJson.{IsValue}
use Rattle.graphql_ast_json.specs.lemmas.Leaves.{both_some, same_each, same_name}
use Rattle.graphql_ast_json.specs.lemmas.ValueNodes.{same_value}
use Rattle.ast_json_nodes.specs.declared.read.Unknown.{Unknown}

pub same_argument : (unknown : Unknown) (a b : ArgumentTree) (json : Data) → IsArgument unknown a json → IsArgument unknown b json → a ≡ b
same_argument unknown a b json p q =
    let name = both_some (member_of (codes "name") json) (IsName unknown a.name) (IsName unknown b.name) p.1 q.1 (same_name unknown a.name b.name) in
    let value = both_some (member_of (codes "value") json) (IsValue unknown a.value) (IsValue unknown b.value) p.2 q.2 (same_value unknown a.value b.value) in
    λ i. record { name = name i; value = value i }

pub same_directive : (unknown : Unknown) (a b : DirectiveTree) (json : Data) → IsDirective unknown a json → IsDirective unknown b json → a ≡ b
same_directive unknown a b json p q =
    let name = both_some (member_of (codes "name") json) (IsName unknown a.name) (IsName unknown b.name) p.1 q.1 (same_name unknown a.name b.name) in
    let arguments = both_some (items_or_none (member_of (codes "arguments") json)) (Each (IsArgument unknown) a.arguments) (Each
    (IsArgument unknown) b.arguments) p.2 q.2
    (same_each (IsArgument unknown) (same_argument unknown) a.arguments b.arguments) in
    λ i. record { name = name i; arguments = arguments i }

pub same_directives : (unknown : Unknown) (a b : List DirectiveTree) (json : Data) → AreDirectives unknown a json → AreDirectives unknown b json → a ≡ b
same_directives unknown a b json p q = both_some (as_array json) (Each (IsDirective unknown) a) (Each (IsDirective unknown) b) p q (same_each
    (IsDirective unknown) (same_directive unknown) a b)

pub argument_laws : NodeLaws IsArgument
argument_laws = record {
  one_tree = same_argument;
  node = λ unknown tree json is. record { kind = codes "Argument"; node = record { names = codes "name" ∷ codes "value" ∷ []; is = is.0 } };
}

pub directive_laws : NodeLaws IsDirective
directive_laws = record {
  one_tree = same_directive;
  node = λ unknown tree json is. record { kind = codes "Directive"; node = record { names = codes "name" ∷ codes "arguments" ∷ []; is = is.0 } };
}

pub directives_laws : JsonLaws AreDirectives
directives_laws = record { one_tree = same_directives; never_null = λ unknown directives are. are }
