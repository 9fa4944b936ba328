-- Of ToldErrors: the kind of a value is one alone.
use Rattle.std.proofs.Common.{◌≡◌, ℕ, true, false, List, Option, Some, MatchOption, option_and_then, codes, nat_eq, sym, ap, ◌∙◌, subst}
use Rattle.std.proofs.lemmas.Bool.{true≢false}
use Rattle.std.proofs.lemmas.Slice.Eq.{bytes_eq-Decides}
use Rattle.std.specs.Cmp.Lexicographic.{pointwise}
use Rattle.graphql_text.specs.grammar.Forms.{is_one_of}
use Rattle.serde_json.specs.Data.{Data, string}
use Rattle.serde_json.specs.Find.{as_str}
use Rattle.ast_json_nodes.specs.code.JsonNodes.{node_data}
use Rattle.ast_json_nodes.specs.code.ToldErrors.{IsToldOfLeaf, IsToldOfMember, IsToldOfValue, value_kinds}
use Rattle.ast_json_nodes.specs.declared.error.AstJsonError.{AstJsonError}
use Rattle.ast_json_nodes.specs.declared.error.JsonType.TheVariants.{Text}
use Rattle.ast_json_nodes.specs.declared.read.JsonNode.{JsonNode}
use Rattle.ast_json_nodes.specs.nodes.Nodes.{member_of}

pub no_other : {P : Type 0} (found kind other : List ℕ) → found ≡ kind → pointwise nat_eq kind other ≡ false → found ≡ other → P
no_other found kind other is apart same = absurd (true≢false (sym ((bytes_eq-Decides kind other).1 (sym is ∙ same)) ∙ apart))

pub not_none : {P : Type 0} (found kind : List ℕ) → found ≡ kind → is_one_of value_kinds kind ≡ true → is_one_of value_kinds found ≡ false → P
not_none found kind is one none = absurd (true≢false (sym one ∙ ap (is_one_of value_kinds) (sym is) ∙ none))

-- the kind that a node tells is the one of which it is told
pub told_at : (node : JsonNode) (kind : List ℕ) (error : AstJsonError) → member_of (codes "kind") (node_data node) ≡ Some (string kind) →
    IsToldOfLeaf node kind error → IsToldOfValue node error
told_at node kind error is told =
    subst (λ (json : Option Data). MatchOption (option_and_then as_str json) (IsToldOfMember node (codes "kind") Text error)
    (λ found. IsToldOfLeaf node found error)) (sym is) told
