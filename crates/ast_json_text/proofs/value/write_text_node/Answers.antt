use Rattle.std.proofs.Common.{List, [], ◌∷◌, Some, codes, option_map, refl, subst}
use Rattle.json.specs.Print.{escape_byte}
use Rattle.serde_json.specs.Data.{object, string}
use Rattle.graphql_ast_json.specs.code.Drafts.{location_json}
use Rattle.json_text.proofs.Entries.{Entry, filled, plain_object}
use Rattle.json_text.proofs.ObjectTexts.{behind, ended, next, opened}
use Rattle.ast_json_text.proofs.FilledNodes.{is_node, leaf_is}
use Rattle.json_text.proofs.PlainTexts.{plain_string}
use Rattle.ast_json_text.proofs.Locations.{located, plain_location, stands_at}
use Rattle.ast_json_text.proofs.value.write_text_node.Goals as goal

pub returns : goal.returns
unfolding escape_byte
returns g c = λ kind opens.
    let more = g.met.O.Target.more in
    let wrote = g.O.Target.wrote in
    let in_value = c.write_text.ensures in
    let location = c.write_location.ensures in
    let opening = subst (λ t. wrote c.args.out.now t c.text.new.self) opens c.text.ensures in
    let entries : List Entry =
    (codes "kind", Some (string kind)) ∷ (codes "loc", option_map location_json c.args.location) ∷ (codes "value", Some in_value.json) ∷ [] in record {
      json = object (filled entries);
      text =
          ended more (next more (codes "value") in_value.json (behind more (codes "loc") (option_map location_json c.args.location)
          (opened more (codes "kind") (string kind) opening) location.text) in_value.text) c.text-2.ensures;
      plain = plain_object entries refl (plain_string, (plain_location c.args.location location.reach, (in_value.plain, tt)));
      is = (
        λ unknown. (
          is_node unknown kind (codes "value" ∷ []) entries _ refl refl refl refl (located unknown c.args.location location.reach),
          leaf_is entries (codes "value") in_value refl refl,
        ),
        stands_at entries c.args.location location.reach refl refl,
      );
    }
