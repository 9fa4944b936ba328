use Rattle.std.proofs.Common.{ap, option_map, sym, ◌∙◌}
use Rattle.std.proofs.lemmas.Str.{IsUtf8-had, encodes-chars}
use Rattle.graphql_base.specs.Node.{node_str_text}
use Rattle.graphql_text.specs.trees.Leaves.{description_tree}
use Rattle.ast_json_nodes.specs.code.NodeReading.{stretch_of}
use Rattle.json_text.proofs.ObjectTexts.{weaker}
use Rattle.ast_json_text.proofs.string.NodeStrWriteAstJson.write_ast_json.Goals as goal

pub returns : goal.returns
returns g c =
    let text = c.args.self.now in
    let bytes = node_str_text text in
    weaker g.met.O.Target.more c.write_string_node.ensures (λ json is. (
      λ unknown. is.0 unknown (description_tree text) (encodes-chars bytes (IsUtf8-had bytes text.valid) ∙ sym c.as_str-text.ensures),
      ap (option_map stretch_of) (sym c.location.ensures) ∙ is.1,
    ))
