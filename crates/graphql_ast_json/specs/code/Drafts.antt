-- A node while it is written: it begins with its kind and its location, and is then given its other members.
use Rattle.std.specs.Prelude.{◌≡◌, ℕ, ◌<◌, ◌^◌, List, Option, Some, None, IfSome, IsSomeAnd, option_and_then, codes}
use Rattle.std.specs.Option.{option_map}
use Rattle.graphql_base.specs.Span.{span_start, span_end}
use Rattle.graphql_base.specs.declared.span.SourceSpan.{SourceSpan}
use Rattle.serde_json.specs.Data.{Data, number, string, object, unsigned, Items, Members, no_members, member, put}
use Rattle.serde_json.specs.Find.{as_array}
use Rattle.serde_json.specs.View.{members_view}
use Rattle.ast_json_nodes.specs.nodes.Nodes.{items_or_none, present}
use Rattle.graphql_ast_json.specs.declared.write.NodeWriter.{NodeWriter}

abbrev pub location_json : SourceSpan → Data
location_json span = object (member (codes "end") (number (unsigned (span_end span))) (member (codes "start") (number (unsigned (span_start span))) no_members))

-- a member that is left out changes nothing
abbrev pub put_optional : List ℕ → Option Data → Members → Members
put_optional name None members = members
put_optional name (Some json) members = put name json members

-- what a node begins with
unfoldable pub beginning : List ℕ → Option SourceSpan → Members
beginning kind location = put_optional (codes "loc") (option_map location_json location) (put (codes "kind") (string kind) no_members)

abbrev pub members_so_far : NodeWriter → Members
members_so_far node = members_view node.members.entries

-- the node as it stands
abbrev pub written : NodeWriter → Data
written node = object (members_so_far node)

-- where it is to stand
abbrev pub location_of : NodeWriter → Option SourceSpan
location_of node = node.location

-- what is made of no location, or of one, whose offsets are below 2 ^ 32 as all are
abbrev pub IsLocationJson : Option SourceSpan → Option Data → Type 0
IsLocationJson location json = (json ≡ option_map location_json location) × IfSome location (λ span. span_end span < 2 ^ 32)

pub record IsBegun (kind : List ℕ) (location : Option SourceSpan) (members : Members) : Type 0 where
  pub are : members ≡ beginning kind location
  pub reach : IfSome location (λ span. span_end span < 2 ^ 32)

-- an array whose items are such, which is also a list that may be left out
abbrev pub IsArrayOf : (Items → Type 0) → Option Data → Type 0
IsArrayOf Are json = IsSomeAnd (option_and_then as_array json) Are × IsSomeAnd (items_or_none json) Are

-- From one list of members to the other, a member of this name was put last: one that is such, or none.
pub record IsGiven (name : List ℕ) (Is : Option Data → Type 0) (before after : Members) : Type 0 where
  pub json : Option Data
  pub made : after ≡ put_optional name json before
  pub there : option_and_then present json ≡ json
  pub is : Is json
