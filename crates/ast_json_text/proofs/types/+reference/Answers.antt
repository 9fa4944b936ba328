use Rattle.std.proofs.Common.{List, [], ◌∷◌, Some, ap, codes, option_map, refl, sym, subst, ◌∙◌}
use Rattle.json.specs.Print.{escape_byte}
use Rattle.serde_json.specs.Data.{object, string}
use Rattle.graphql_text.specs.trees.Leaves.{name_tree}
use Rattle.graphql_values.specs.kinds.TypeReferences.{named_type, list_type}
use Rattle.graphql_values.specs.trees.TypeTrees.{type_tree}
use Rattle.ast_json_nodes.specs.declared.read.Unknown.{Unknown}
use Rattle.ast_json_nodes.specs.declared.read.Unknown.TheVariants.{Refuse}
use Rattle.graphql_ast_json.proofs.trees.ValueAndTypeTrees.{list_type_tree, named_type_tree, non_null_list_type_tree, non_null_named_type_tree}
use Rattle.graphql_ast_json.specs.code.Drafts.{location_json}
use Rattle.graphql_ast_json.specs.kinds.TypeJson.{IsNamedType, IsTypeAround, IsTypeReference}
use Rattle.graphql_ast_json.specs.lemmas.Leaves.{never_null_of, there}
use Rattle.graphql_ast_json.specs.lemmas.TypeNodes.{type_laws}
use Rattle.json_text.proofs.Entries.{Entry, filled, plain_object}
use Rattle.json_text.proofs.ObjectTexts.{behind, ended, next, opened, weaker}
use Rattle.json_text.proofs.PlainTexts.{plain_string}
use Rattle.ast_json_text.specs.Members.{WritesMember}
use Rattle.ast_json_text.proofs.FilledNodes.{is_node, member_is}
use Rattle.ast_json_text.proofs.Locations.{located, plain_location, stands_at}
use Rattle.ast_json_text.proofs.types.+reference.Goals as goal

pub write_type-returns-in-Named : goal.write_type-returns-in-Named
write_type-returns-in-Named g t c =
    weaker g.met.O.Target.more c.write_named_type.ensures (λ json is. (
      λ unknown. subst (λ tree. IsTypeReference unknown tree json) (sym (ap type_tree c.in-Named.is ∙ named_type_tree c.in-Named.name)) (is.0 unknown),
      is.1,
    ))

pub write_type-returns-in-List : goal.write_type-returns-in-List
write_type-returns-in-List g t c =
    weaker g.met.O.Target.more c.write_list_type.ensures (λ json is. (
      λ unknown.
          subst (λ tree. IsTypeReference unknown tree json) (sym (ap type_tree c.in-List.is ∙ list_type_tree c.in-List.item))
          (subst (λ ty. IsTypeAround unknown (codes "ListType") (IsTypeReference unknown (type_tree ty)) json) c.deref.ensures (is.0 unknown)),
      is.1,
    ))

pub write_type-returns-in-NonNullNamed : goal.write_type-returns-in-NonNullNamed
unfolding escape_byte
write_type-returns-in-NonNullNamed g t c =
    let more = g.met.O.Target.more in
    let location = c.write_location.ensures in
    let at = option_map location_json c.args.location in
    let made = c.write_named_type-in-NonNullNamed.ensures in
    let is : (unknown : Unknown) → IsNamedType unknown (name_tree c.in-NonNullNamed.name) made.json = made.is.0 in
    let type : WritesMember g.O.Target.wrote c.write_location.new.out (codes ",\"type\":") c.write_named_type-in-NonNullNamed.new.out (λ json. (unknown :
    Unknown) → IsNamedType unknown (name_tree c.in-NonNullNamed.name) json) = record {
      json = made.json;
      text = more _ _ _ _ _ c.text-in-NonNullNamed.ensures made.text;
      there = there (IsTypeReference Refuse) (never_null_of type_laws Refuse) (named_type (name_tree c.in-NonNullNamed.name)) made.json (is Refuse);
      plain = made.plain;
      is = is;
    } in
    let entries : List Entry = (codes "kind", Some (string (codes "NonNullType"))) ∷ (codes "loc", at) ∷ (codes "type", Some type.json) ∷ [] in record {
      json = object (filled entries);
      text =
          ended more (next more (codes "type") type.json (behind more (codes "loc") at
          (opened more (codes "kind") (string (codes "NonNullType")) c.text.ensures) location.text) type.text) c.text-in-NonNullNamed-2.ensures;
      plain = plain_object entries refl (plain_string, (plain_location c.args.location location.reach, (type.plain, tt)));
      is = (
        λ unknown.
            subst (λ tree. IsTypeReference unknown tree (object (filled entries)))
            (sym (ap type_tree c.in-NonNullNamed.is ∙ non_null_named_type_tree c.in-NonNullNamed.name)) (
              is_node unknown (codes "NonNullType") (codes "type" ∷ []) entries _ refl refl refl refl (located unknown c.args.location location.reach),
              member_is entries (codes "type") type refl refl unknown,
            ),
        stands_at entries c.args.location location.reach refl refl,
      );
    }

pub write_type-returns-in-NonNullList : goal.write_type-returns-in-NonNullList
unfolding escape_byte
write_type-returns-in-NonNullList g t c =
    let more = g.met.O.Target.more in
    let location = c.write_location-in-NonNullList.ensures in
    let at = option_map location_json c.args.location in
    let made = c.write_list_type-in-NonNullList.ensures in
    let is : (unknown : Unknown) → IsTypeAround unknown (codes "ListType") (IsTypeReference unknown (type_tree c.in-NonNullList.item.value)) made.json = λ
    unknown. subst (λ ty. IsTypeAround unknown (codes "ListType") (IsTypeReference unknown (type_tree ty)) made.json) c.deref-in-NonNullList.ensures
    (made.is.0 unknown) in
    let type : WritesMember g.O.Target.wrote c.write_location-in-NonNullList.new.out (codes ",\"type\":") c.write_list_type-in-NonNullList.new.out (λ json.
    (unknown : Unknown) → IsTypeAround unknown (codes "ListType") (IsTypeReference unknown (type_tree c.in-NonNullList.item.value)) json) = record {
      json = made.json;
      text = more _ _ _ _ _ c.text-in-NonNullList-2.ensures made.text;
      there = there (IsTypeReference Refuse) (never_null_of type_laws Refuse) (list_type (type_tree c.in-NonNullList.item.value)) made.json (is Refuse);
      plain = made.plain;
      is = is;
    } in
    let entries : List Entry = (codes "kind", Some (string (codes "NonNullType"))) ∷ (codes "loc", at) ∷ (codes "type", Some type.json) ∷ [] in record {
      json = object (filled entries);
      text =
          ended more (next more (codes "type") type.json (behind more (codes "loc") at
          (opened more (codes "kind") (string (codes "NonNullType")) c.text-in-NonNullList.ensures) location.text) type.text) c.text-in-NonNullList-3.ensures;
      plain = plain_object entries refl (plain_string, (plain_location c.args.location location.reach, (type.plain, tt)));
      is = (
        λ unknown.
            subst (λ tree. IsTypeReference unknown tree (object (filled entries)))
            (sym (ap type_tree c.in-NonNullList.is ∙ non_null_list_type_tree c.in-NonNullList.item)) (
              is_node unknown (codes "NonNullType") (codes "type" ∷ []) entries _ refl refl refl refl (located unknown c.args.location location.reach),
              member_is entries (codes "type") type refl refl unknown,
            ),
        stands_at entries c.args.location location.reach refl refl,
      );
    }

pub write_list_type-returns : goal.write_list_type-returns
unfolding escape_byte
write_list_type-returns g t c =
    let more = g.met.O.Target.more in
    let location = c.write_location.ensures in
    let at = option_map location_json c.args.location in
    let made = c.write_type.ensures in
    let is : (unknown : Unknown) → IsTypeReference unknown (type_tree c.args.item.now) made.json = made.is.0 in
    let type : WritesMember g.O.Target.wrote c.write_location.new.out (codes ",\"type\":") c.write_type.new.out (λ json. (unknown : Unknown) →
    IsTypeReference unknown (type_tree c.args.item.now) json) = record {
      json = made.json;
      text = more _ _ _ _ _ c.text-2.ensures made.text;
      there = there (IsTypeReference Refuse) (never_null_of type_laws Refuse) (type_tree c.args.item.now) made.json (is Refuse);
      plain = made.plain;
      is = is;
    } in
    let entries : List Entry = (codes "kind", Some (string (codes "ListType"))) ∷ (codes "loc", at) ∷ (codes "type", Some type.json) ∷ [] in record {
      json = object (filled entries);
      text =
          ended more (next more (codes "type") type.json (behind more (codes "loc") at
          (opened more (codes "kind") (string (codes "ListType")) c.text.ensures) location.text) type.text) c.text-3.ensures;
      plain = plain_object entries refl (plain_string, (plain_location c.args.location location.reach, (type.plain, tt)));
      is = (
        λ unknown. (
          is_node unknown (codes "ListType") (codes "type" ∷ []) entries _ refl refl refl refl (located unknown c.args.location location.reach),
          member_is entries (codes "type") type refl refl unknown,
        ),
        stands_at entries c.args.location location.reach refl refl,
      );
    }
