use Rattle.std.proofs.Common.{List, [], ◌∷◌, Some, codes, option_map, refl, sym}
use Rattle.json.specs.Print.{escape_byte}
use Rattle.serde_json.specs.Data.{object, string}
use Rattle.graphql_ast_json.specs.code.Drafts.{location_json}
use Rattle.json_text.proofs.Entries.{Entry, filled, plain_object}
use Rattle.json_text.proofs.ObjectTexts.{begun, behind, ended, first, lead, next}
use Rattle.ast_json_text.proofs.FilledNodes.{is_node, member_is, optional_is, optional_list_is}
use Rattle.json_text.proofs.PlainTexts.{plain_string}
use Rattle.ast_json_text.proofs.Locations.{located, plain_location, stands_at}
use Rattle.ast_json_text.proofs.input_value_definition.InputValueDefinitionWriteAstNode.write_ast_node.Goals as goal

pub returns : goal.returns
unfolding escape_byte
returns g c =
    let more = g.met.O.Target.more in
    let in_defaultValue = c.write_default_value.ensures in
    let in_description = c.write_leading.ensures in
    let in_directives = c.write_directives.ensures in
    let location = c.write_location.ensures in
    let in_name = c.write_member.ensures in
    let in_type = c.write_member-2.ensures in
    let entries : List Entry =
    (codes "defaultValue", in_defaultValue.json) ∷ (codes "description", in_description.json) ∷ (codes "directives", Some in_directives.json)
    ∷ (codes "kind", Some (string (codes "InputValueDefinition"))) ∷ (codes "loc", option_map location_json c.args.context.location)
    ∷ (codes "name", Some in_name.json) ∷ (codes "type", Some in_type.json) ∷ [] in record {
      json = object (filled entries);
      text =
          ended more (next more (codes "type") in_type.json (next more (codes "name") in_name.json
          (behind more (codes "loc") (option_map location_json c.args.context.location) (next more (codes "kind") (string (codes "InputValueDefinition"))
          (first more (codes "directives") in_directives.json (lead more (codes "description") in_description.json
          (lead more (codes "defaultValue") in_defaultValue.json
          (begun more c.text.ensures) in_defaultValue.text) in_description.text) in_directives.text) c.text-2.ensures) location.text) in_name.text)
          in_type.text) c.text-3.ensures;
      plain = plain_object entries refl (
        in_defaultValue.plain,
        (
          in_description.plain,
          (
            in_directives.plain,
            (
              plain_string,
              (
                plain_location c.args.context.location location.reach,
                (in_name.plain, (in_type.plain, tt)),
              ),
            ),
          ),
        ),
      );
      is = (
        λ unknown. (
          is_node unknown (codes "InputValueDefinition") (codes "description" ∷ codes "name" ∷ codes "type" ∷ codes "defaultValue" ∷ codes "directives" ∷ [])
              entries _ refl refl refl refl (located unknown c.args.context.location location.reach),
          optional_is entries (codes "description") in_description refl refl unknown,
          member_is entries (codes "name") in_name refl refl unknown,
          member_is entries (codes "type") in_type refl refl unknown,
          optional_is entries (codes "defaultValue") in_defaultValue refl refl unknown,
          optional_list_is entries (codes "directives") in_directives refl refl unknown,
        ),
        stands_at entries c.args.context.location location.reach refl refl,
      );
    }
