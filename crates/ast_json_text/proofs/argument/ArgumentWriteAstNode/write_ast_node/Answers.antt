use Rattle.std.proofs.Common.{List, [], ◌∷◌, Some, codes, option_map, refl, sym}
use Rattle.json.specs.Print.{escape_byte}
use Rattle.serde_json.specs.Data.{object, string}
use Rattle.graphql_ast_json.specs.code.Drafts.{location_json}
use Rattle.json_text.proofs.Entries.{Entry, filled, plain_object}
use Rattle.json_text.proofs.ObjectTexts.{behind, ended, next, opened}
use Rattle.ast_json_text.proofs.FilledNodes.{is_node, member_is}
use Rattle.json_text.proofs.PlainTexts.{plain_string}
use Rattle.ast_json_text.proofs.Locations.{located, plain_location, stands_at}
use Rattle.ast_json_text.proofs.argument.ArgumentWriteAstNode.write_ast_node.Goals as goal

pub returns : goal.returns
unfolding escape_byte
returns g c =
    let more = g.met.O.Target.more in
    let location = c.write_location.ensures in
    let in_name = c.write_member.ensures in
    let in_value = c.write_member-2.ensures in
    let entries : List Entry =
    (codes "kind", Some (string (codes "Argument"))) ∷ (codes "loc", option_map location_json c.args.context.location) ∷ (codes "name", Some in_name.json)
    ∷ (codes "value", Some in_value.json) ∷ [] in record {
      json = object (filled entries);
      text =
          ended more (next more (codes "value") in_value.json (next more (codes "name") in_name.json
          (behind more (codes "loc") (option_map location_json c.args.context.location)
          (opened more (codes "kind") (string (codes "Argument")) c.text.ensures) location.text) in_name.text) in_value.text) c.text-2.ensures;
      plain = plain_object entries refl (plain_string, (plain_location c.args.context.location location.reach, (in_name.plain, (in_value.plain, tt))));
      is = (
        λ unknown. (
          is_node unknown (codes "Argument") (codes "name" ∷ codes "value" ∷ [])
              entries _ refl refl refl refl (located unknown c.args.context.location location.reach),
          member_is entries (codes "name") in_name refl refl unknown,
          member_is entries (codes "value") in_value refl refl unknown,
        ),
        stands_at entries c.args.context.location location.reach refl refl,
      );
    }
