use Rattle.std.proofs.Common.{ap, codes, length, sym, ◌∙◌, subst, option_map}
use Rattle.serde_json.specs.View.{view}
use Rattle.graphql_base.specs.Name.{name_text}
use Rattle.ast_json_nodes.specs.code.NodeReading.{IsTextNode, stretch_of}
use Rattle.ast_json_nodes.specs.nodes.Nodes.{told_stretch}
use Rattle.graphql_ast_json.proofs.general.OkValues.{one_then}
use Rattle.graphql_ast_json.proofs.nodes.NameLocations.{had}
use Rattle.graphql_ast_json.proofs.name.NameAstJson.to_ast_json.Goals as goal

pub returns-clause-ok : goal.returns-clause-ok
returns-clause-ok c =
    one_then c.with_text.result c.with_text.ensures.ok (λ json is unknown.
    subst (λ text. IsTextNode unknown (codes "Name") text (view json)) c.as_str.ensures.text (is unknown))

pub returns-clause-stands : goal.returns-clause-stands
returns-clause-stands c =
    let location = c.location.result in
    one_then c.with_text.result c.with_text.ensures.stands (λ json stands.
    ap (option_map stretch_of) (sym c.location.ensures.value)
    ∙ had (length (name_text c.args.self.now)) location (told_stretch (view json)) c.location.ensures.length
    (ap (option_map stretch_of) (sym c.new.ensures) ∙ stands))
