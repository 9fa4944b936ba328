use Rattle.std.proofs.Common.{List, [], ◌∷◌, Some, codes, option_map, refl, sym}
use Rattle.json.specs.Print.{escape_byte}
use Rattle.serde_json.specs.Data.{object, string}
use Rattle.graphql_ast_json.specs.code.Drafts.{location_json}
use Rattle.json_text.proofs.Entries.{Entry, filled, plain_object}
use Rattle.json_text.proofs.ObjectTexts.{behind, ended, next, opened}
use Rattle.ast_json_text.proofs.FilledNodes.{is_node, list_is}
use Rattle.json_text.proofs.PlainTexts.{plain_string}
use Rattle.ast_json_text.proofs.Locations.{located, plain_location, stands_at}
use Rattle.ast_json_text.proofs.document.DocumentWriteAstNode.write_ast_node.Goals as goal

pub returns : goal.returns
unfolding escape_byte
returns g c =
    let more = g.met.O.Target.more in
    let in_definitions = c.write_list.ensures in
    let location = c.write_location.ensures in
    let entries : List Entry =
    (codes "definitions", Some in_definitions.json) ∷ (codes "kind", Some (string (codes "Document")))
    ∷ (codes "loc", option_map location_json c.args.context.location) ∷ [] in record {
      json = object (filled entries);
      text =
          ended more (behind more (codes "loc") (option_map location_json c.args.context.location) (next more (codes "kind") (string (codes "Document"))
          (opened more (codes "definitions") in_definitions.json in_definitions.text) c.text.ensures) location.text) c.text-2.ensures;
      plain = plain_object entries refl (in_definitions.plain, (plain_string, (plain_location c.args.context.location location.reach, tt)));
      is = (
        λ unknown. (
          is_node unknown (codes "Document") (codes "definitions" ∷ []) entries _ refl refl refl refl (located unknown c.args.context.location location.reach),
          rw (sym c.deref.ensures.value) (list_is entries (codes "definitions") in_definitions refl refl unknown),
        ),
        stands_at entries c.args.context.location location.reach refl refl,
      );
    }
