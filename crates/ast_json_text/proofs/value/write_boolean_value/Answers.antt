use Rattle.std.proofs.Common.{List, [], ◌∷◌, Some, codes, option_map, refl}
use Rattle.json.specs.Print.{escape_byte}
use Rattle.serde_json.specs.Data.{object, string}
use Rattle.graphql_ast_json.specs.code.Drafts.{location_json}
use Rattle.json_text.proofs.Entries.{Entry, filled, plain_object}
use Rattle.json_text.proofs.ObjectTexts.{behind, ended, next, opened}
use Rattle.json_text.proofs.PlainTexts.{plain_string}
use Rattle.ast_json_text.proofs.FilledNodes.{is_node, leaf_is}
use Rattle.ast_json_text.proofs.Locations.{located, plain_location, stands_at}
use Rattle.ast_json_text.proofs.value.write_boolean_value.Goals as goal

pub returns : goal.returns
unfolding escape_byte
returns g c =
    let more = g.met.O.Target.more in
    let location = c.write_location.ensures in
    let at = option_map location_json c.args.location in
    let in_value = c.write_boolean.ensures in
    let entries : List Entry = (codes "kind", Some (string (codes "BooleanValue"))) ∷ (codes "loc", at) ∷ (codes "value", Some in_value.json) ∷ [] in record {
      json = object (filled entries);
      text =
          ended more (next more (codes "value") in_value.json (behind more (codes "loc") at (opened more (codes "kind") (string (codes "BooleanValue"))
          c.text.ensures)
          location.text) in_value.text) c.text-2.ensures;
      plain = plain_object entries refl (plain_string, (plain_location c.args.location location.reach, (in_value.plain, tt)));
      is = (
        λ unknown. (
          is_node unknown (codes "BooleanValue") (codes "value" ∷ []) entries _ refl refl refl refl (located unknown c.args.location location.reach),
          leaf_is entries (codes "value") in_value refl refl,
        ),
        stands_at entries c.args.location location.reach refl refl,
      );
    }
