use Rattle.std.proofs.Common.{ap, option_map, sym, ◌∙◌}
use Rattle.std.proofs.lemmas.Str.{IsUtf8-had, encodes-chars}
use Rattle.graphql_base.specs.Node.{node_str_text}
use Rattle.graphql_text.specs.trees.Leaves.{description_tree}
use Rattle.ast_json_nodes.specs.code.NodeReading.{stretch_of}
use Rattle.graphql_ast_json.proofs.general.OkValues.{one_then}
use Rattle.graphql_ast_json.proofs.string.NodeStrAstJson.to_ast_json.Goals as goal

pub returns-clause-ok : goal.returns-clause-ok
returns-clause-ok c =
    let text = c.args.self.now in
    let bytes = node_str_text text in
    one_then c.write_string.result c.write_string.ensures.ok
    (λ json is unknown. is unknown (description_tree text) (encodes-chars bytes (IsUtf8-had bytes text.valid) ∙ sym c.as_str-text.ensures))

pub returns-clause-stands : goal.returns-clause-stands
returns-clause-stands c =
    one_then c.write_string.result c.write_string.ensures.stands (λ json stands.
    ap (option_map stretch_of) (sym (c.new.ensures ∙ c.location.ensures)) ∙ stands)
