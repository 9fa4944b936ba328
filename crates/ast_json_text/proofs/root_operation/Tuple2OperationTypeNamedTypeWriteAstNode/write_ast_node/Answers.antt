use Rattle.std.proofs.Common.{List, [], ◌∷◌, Some, codes, option_map, refl, sym}
use Rattle.json.specs.Print.{escape_byte}
use Rattle.serde_json.specs.Data.{object, string}
use Rattle.graphql_ast_json.specs.code.Drafts.{location_json}
use Rattle.json_text.proofs.Entries.{Entry, filled, plain_object}
use Rattle.json_text.proofs.ObjectTexts.{behind, ended, next, opened}
use Rattle.ast_json_text.proofs.FilledNodes.{is_node, leaf_is, member_is}
use Rattle.json_text.proofs.PlainTexts.{plain_string}
use Rattle.ast_json_text.proofs.Locations.{located, plain_location, stands_at}
use Rattle.ast_json_text.proofs.root_operation.Tuple2OperationTypeNamedTypeWriteAstNode.write_ast_node.Goals as goal

pub returns : goal.returns
unfolding escape_byte
returns g c =
    let more = g.met.O.Target.more in
    let location = c.write_location.ensures in
    let in_operation = c.write_text.ensures in
    let in_type = c.write_member.ensures in
    let entries : List Entry =
    (codes "kind", Some (string (codes "OperationTypeDefinition"))) ∷ (codes "loc", option_map location_json c.args.context.location)
    ∷ (codes "operation", Some in_operation.json) ∷ (codes "type", Some in_type.json) ∷ [] in record {
      json = object (filled entries);
      text =
          ended more (next more (codes "type") in_type.json (next more (codes "operation") in_operation.json
          (behind more (codes "loc") (option_map location_json c.args.context.location)
          (opened more (codes "kind") (string (codes "OperationTypeDefinition")) c.text.ensures) location.text) in_operation.text) in_type.text)
          c.text-2.ensures;
      plain = plain_object entries refl (plain_string, (plain_location c.args.context.location location.reach, (in_operation.plain, (in_type.plain, tt))));
      is = (
        λ unknown. (
          is_node unknown (codes "OperationTypeDefinition") (codes "operation" ∷ codes "type" ∷ [])
              entries _ refl refl refl refl (located unknown c.args.context.location location.reach),
          rw (sym c.name.ensures) (leaf_is entries (codes "operation") in_operation refl refl),
          member_is entries (codes "type") in_type refl refl unknown,
        ),
        stands_at entries c.args.context.location location.reach refl refl,
      );
    }
