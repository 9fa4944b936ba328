-- A description of the code has the text of its node.
use Rattle.std.proofs.Common.{◌≡◌, ℕ, List, sym, subst, ◌∙◌}
use Rattle.std.proofs.lemmas.Str.{IsUtf8-had, encodes-chars}
use Rattle.graphql_base.specs.declared.node_str.NodeStr.{NodeStr}
use Rattle.graphql_base.specs.Node.{node_str_text}
use Rattle.graphql_text.specs.trees.Leaves.{description_tree}
use Rattle.serde_json.specs.Data.{Data}
use Rattle.ast_json_nodes.specs.nodes.Nodes.{IsStringValue}
use Rattle.ast_json_nodes.specs.code.NodeReading.{IsStringOf}
use Rattle.ast_json_nodes.specs.declared.read.Unknown.{Unknown}

pub description_is : (unknown : Unknown) (node : NodeStr) (bytes : List ℕ) (json : Data) → node_str_text node ≡ bytes → IsStringOf unknown bytes json →
    IsStringValue unknown (description_tree node) json
description_is unknown node bytes json same is =
    let spelt = encodes-chars (node_str_text node) (IsUtf8-had (node_str_text node) node.valid) ∙ same in
    subst (λ (b : List ℕ). IsStringOf unknown b json) (sym spelt) is
