use Rattle.std.proofs.Common.{List, [], ◌∷◌, Some, codes, option_map, refl, sym, ap, ◌∙◌, subst}
use Rattle.json.specs.Print.{escape_byte}
use Rattle.serde_json.specs.Data.{object, string}
use Rattle.graphql_ast_json.specs.code.Drafts.{location_json}
use Rattle.json_text.proofs.Entries.{Entry, filled, plain_object}
use Rattle.json_text.proofs.ObjectTexts.{begun, behind, ended, first, lead, next}
use Rattle.ast_json_text.proofs.FilledNodes.{exactly_is, is_node, leaf_is}
use Rattle.ast_json_text.proofs.Flags.{flag_is_boolean}
use Rattle.json_text.proofs.PlainTexts.{plain_string}
use Rattle.ast_json_text.proofs.Locations.{located, plain_location, stands_at}
use Rattle.ast_json_text.proofs.string.write_string_node.Goals as goal

pub returns : goal.returns
unfolding escape_byte
returns g c =
    let more = g.met.O.Target.more in
    let in_block = c.write_block.ensures in
    let in_value = c.write_text.ensures in
    let location = c.write_location.ensures in
    let entries : List Entry =
    (codes "block", in_block.json) ∷ (codes "kind", Some (string (codes "StringValue"))) ∷ (codes "loc", option_map location_json c.args.location)
    ∷ (codes "value", Some in_value.json) ∷ [] in
    let flag = exactly_is entries (codes "block") in_block refl refl in record {
      json = object (filled entries);
      text =
          ended more (next more (codes "value") in_value.json (behind more (codes "loc") (option_map location_json c.args.location)
          (first more (codes "kind") (string (codes "StringValue")) (lead more (codes "block") in_block.json (begun more c.text.ensures) in_block.text)
          c.text-2.ensures) location.text) in_value.text) c.text-3.ensures;
      plain = plain_object entries refl (in_block.plain, (plain_string, (plain_location c.args.location location.reach, (in_value.plain, tt))));
      is = (
        λ unknown text same. (
          is_node unknown (codes "StringValue") (codes "value" ∷ codes "block" ∷ []) entries _ refl refl refl refl
              (located unknown c.args.location location.reach),
          leaf_is entries (codes "value") in_value refl refl ∙ ap (λ t. Some (string t)) (sym same),
          flag_is_boolean c.args.is_block _ flag,
        ),
        stands_at entries c.args.location location.reach refl refl,
        flag,
      );
    }
