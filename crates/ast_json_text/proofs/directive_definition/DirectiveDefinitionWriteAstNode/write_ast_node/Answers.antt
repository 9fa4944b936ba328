use Rattle.std.proofs.Common.{List, [], ◌∷◌, Some, codes, option_map, refl, sym, subst}
use Rattle.json.specs.Print.{escape_byte}
use Rattle.serde_json.specs.Data.{object, string}
use Rattle.ast_json_nodes.specs.nodes.Nodes.{IsFlag}
use Rattle.graphql_ast_json.specs.code.Drafts.{location_json}
use Rattle.json_text.proofs.Entries.{Entry, filled, plain_object}
use Rattle.json_text.proofs.ObjectTexts.{behind, ended, next, opened}
use Rattle.ast_json_text.proofs.FilledNodes.{is_node, leaf_is, list_is, member_is, optional_is, optional_list_is}
use Rattle.json_text.proofs.PlainTexts.{plain_string}
use Rattle.ast_json_text.proofs.Locations.{located, plain_location, stands_at}
use Rattle.ast_json_text.proofs.directive_definition.DirectiveDefinitionWriteAstNode.write_ast_node.Goals as goal

pub returns : goal.returns
unfolding escape_byte
returns g c =
    let more = g.met.O.Target.more in
    let in_arguments = c.write_parameters.ensures in
    let in_description = c.write_optional.ensures in
    let location = c.write_location.ensures in
    let in_locations = c.write_list.ensures in
    let in_name = c.write_member.ensures in
    let in_repeatable = c.write_boolean.ensures in
    let entries : List Entry =
    (codes "arguments", Some in_arguments.json) ∷ (codes "description", in_description.json)
    ∷ (codes "kind", Some (string (codes "DirectiveDefinition"))) ∷ (codes "loc", option_map location_json c.args.context.location)
    ∷ (codes "locations", Some in_locations.json) ∷ (codes "name", Some in_name.json) ∷ (codes "repeatable", Some in_repeatable.json) ∷ [] in record {
      json = object (filled entries);
      text =
          ended more (next more (codes "repeatable") in_repeatable.json (next more (codes "name") in_name.json
          (next more (codes "locations") in_locations.json (behind more (codes "loc") (option_map location_json c.args.context.location)
          (next more (codes "kind") (string (codes "DirectiveDefinition")) (behind more (codes "description") in_description.json
          (opened more (codes "arguments") in_arguments.json in_arguments.text) in_description.text) c.text.ensures) location.text) in_locations.text)
          in_name.text) in_repeatable.text) c.text-2.ensures;
      plain = plain_object entries refl (
        in_arguments.plain,
        (
          in_description.plain,
          (
            plain_string,
            (
              plain_location c.args.context.location location.reach,
              (
                in_locations.plain,
                (in_name.plain, (in_repeatable.plain, tt)),
              ),
            ),
          ),
        ),
      );
      is = (
        λ unknown. (
          is_node unknown (codes "DirectiveDefinition") (codes "description" ∷ codes "name" ∷ codes "arguments" ∷ codes "repeatable" ∷ codes "locations" ∷ [])
              entries _ refl refl refl refl (located unknown c.args.context.location location.reach),
          optional_is entries (codes "description") in_description refl refl unknown,
          member_is entries (codes "name") in_name refl refl unknown,
          rw (sym c.deref-2.ensures.value) (optional_list_is entries (codes "arguments") in_arguments refl refl unknown),
          subst (IsFlag c.args.self.now.repeatable) (sym (leaf_is entries (codes "repeatable") in_repeatable refl refl)) refl,
          rw (sym c.deref-3.ensures.value) (list_is entries (codes "locations") in_locations refl refl unknown),
        ),
        stands_at entries c.args.context.location location.reach refl refl,
      );
    }
