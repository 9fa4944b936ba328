use Rattle.std.proofs.Common.{◌≡◌, ℕ, suc, ◌+◌, ◌<◌, ◌≤◌, List, [], ◌∷◌, ◌++◌, length, take, map, Some, codes, inl, inr, refl, sym, ap, subst, ◌∙◌, arith}
use Rattle.std.proofs.lemmas.Grind.{common_steps}
use Rattle.std.proofs.lemmas.List.{take_all}
use Rattle.graphql_base.specs.declared.name.Name.{Name}
use Rattle.graphql_base.specs.declared.node.Node.{Node}
use Rattle.graphql_base.specs.Node.{node_value}
use Rattle.graphql_text.specs.trees.Leaves.{name_tree}
use Rattle.graphql_values.specs.trees.ValueTrees.{value_tree, value_trees, object_field_trees}
use Rattle.graphql_values.specs.declared.value.Value.{Value}
use Rattle.graphql_values.specs.kinds.Values.{ValueTree}
use Rattle.serde_json.specs.Data.{Data, depth, items_depth, null, string}
use Rattle.serde_json.specs.View.{items_of}
use Rattle.parsed_json.specs.AnyJson.{any_data, item_datas}
use Rattle.ast_json_nodes.specs.code.JsonNodes.{node_data}
use Rattle.ast_json_nodes.specs.code.Errors.{IsMemory}
use Rattle.ast_json_nodes.specs.nodes.Nodes.{member_of}
use Rattle.graphql_ast_json.specs.kinds.ValueJson.{IsValue, AreValues, AreObjectFields, IsNamedValue}
use Rattle.ast_json_nodes.proofs.nodes.JsonDepths.{item-depth}
use Rattle.ast_json_nodes.proofs.nodes.NodeLists.{take_item}
use Rattle.ast_json_nodes.proofs.general.PassedErrors.{passed, turned}
use Rattle.graphql_ast_json.proofs.kinds.ValueJsonByKind.{only_list}
use Rattle.graphql_ast_json.proofs.kinds.ValueJsonByKind.{only_object, more_are_values, more_are_fields, none_at, no_field_at}
use Rattle.graphql_ast_json.proofs.kinds.ToldValueKinds.{each_field, each_value, field_tree, nested_at, no_leaf_of_list, no_leaf_of_object}
use Rattle.graphql_ast_json.proofs.kinds.ValueKinds.{no_other, told_at}
use Rattle.graphql_ast_json.proofs.nodes.ToldMembers.{first_told, where_none, where_some}
use Rattle.graphql_ast_json.proofs.nodes.ToldTexts.{no_text}
use Rattle.ast_json_nodes.specs.code.ToldErrors.{IsToldOfLeaf, IsToldOfValue}
use Rattle.graphql_ast_json.specs.code.ToldValues.{IsField, IsToldInside, IsToldOfListValue, IsToldOfLocated, IsToldOfNamed, IsToldOfObjectValue}
use Rattle.graphql_ast_json.specs.code.ToldValues.{IsToldOfValueIn, OfValues}
use Rattle.graphql_ast_json.proofs.value.read.+value.Goals as goal

pub read_value-returns-in_err-list_items-in-ListValue-clause-err : goal.read_value-returns-in_err-list_items-in-ListValue-clause-err
read_value-returns-in_err-list_items-in-ListValue-clause-err t c =
    let json = node_data c.args.node in
    let kind : member_of (codes "kind") json ≡ Some (string (codes "ListValue")) =
    c.in_ok-kind.ensures.ok ∙ ap (λ (s : List ℕ). Some (string s)) c.in-ListValue.is in
    let none : ¬ IsMemory c.in_err-list_items-in-ListValue.field-0.0 → (tree : ValueTree) → ¬ IsValue c.args.node.unknown tree json =
    λ m. only_list c.args.node.unknown json kind (c.in_err-list_items-in-ListValue.ensures.err m) in
    passed _ _ _ none c.from_residual-in_err-list_items-in-ListValue.ensures.1

pub read_value-returns-in_err-object_fields-in-ObjectValue-clause-err : goal.read_value-returns-in_err-object_fields-in-ObjectValue-clause-err
read_value-returns-in_err-object_fields-in-ObjectValue-clause-err t c =
    let json = node_data c.args.node in
    let kind : member_of (codes "kind") json ≡ Some (string (codes "ObjectValue")) =
    c.in_ok-kind.ensures.ok ∙ ap (λ (s : List ℕ). Some (string s)) c.in-ObjectValue.is in
    let none : ¬ IsMemory c.in_err-object_fields-in-ObjectValue.field-0.0 → (tree : ValueTree) → ¬ IsValue c.args.node.unknown tree json =
    λ m. only_object c.args.node.unknown json kind (c.in_err-object_fields-in-ObjectValue.ensures.err m) in
    passed _ _ _ none c.from_residual-in_err-object_fields-in-ObjectValue.ensures.1

pub read_value-returns-in_err-list_items-in-ListValue-clause-told : goal.read_value-returns-in_err-list_items-in-ListValue-clause-told
read_value-returns-in_err-list_items-in-ListValue-clause-told t c =
    let kind = c.in_ok-kind.kind.now in
    let is = c.in-ListValue.is in
    passed _ c.in_err-list_items-in-ListValue.field-0.0 (λ error. ¬ IsMemory error → IsToldOfValue c.args.node error)
    (λ m. told_at c.args.node kind _ c.in_ok-kind.ensures.ok (no_leaf_of_list c.args.node kind _ is))
    c.from_residual-in_err-list_items-in-ListValue.ensures.1

pub read_value-returns-in_err-object_fields-in-ObjectValue-clause-told : goal.read_value-returns-in_err-object_fields-in-ObjectValue-clause-told
read_value-returns-in_err-object_fields-in-ObjectValue-clause-told t c =
    let kind = c.in_ok-kind.kind.now in
    let is = c.in-ObjectValue.is in
    passed _ c.in_err-object_fields-in-ObjectValue.field-0.0 (λ error. ¬ IsMemory error → IsToldOfValue c.args.node error)
    (λ m. told_at c.args.node kind _ c.in_ok-kind.ensures.ok (no_leaf_of_object c.args.node kind _ is))
    c.from_residual-in_err-object_fields-in-ObjectValue.ensures.1

pub read_value-returns-in_default-clause-told : goal.read_value-returns-in_default-clause-told
read_value-returns-in_default-clause-told t c =
    turned c.leaf.result (λ error. ¬ IsMemory error → IsToldOfLeaf c.args.node c.in_ok-kind.kind.now error)
    (λ error. ¬ IsMemory error → IsToldOfValue c.args.node error)
    (λ error told m. told_at c.args.node c.in_ok-kind.kind.now error c.in_ok-kind.ensures.ok (told m)) c.leaf.ensures.told

pub values-read_value_node-requires : goal.values-read_value_node-requires
values-read_value_node-requires t c =
    let items = item_datas c.args.items in
    let within : c.loop-index.index < length items = omega (arith, c.len.ensures) in
    let deep : depth (any_data c.at-json.result) ≤ items_depth (items_of items) =
    subst (λ (d : Data). depth d ≤ items_depth (items_of items)) (sym c.at-json.ensures) (item-depth items c.loop-index.index null within) in
    (omega arith, tt)

pub values-returns-in-Err-clause-err : goal.values-returns-in-Err-clause-err
values-returns-in-Err-clause-err t c refused =
    let items = item_datas c.args.items in
    let within : c.loop-index.index < length items = omega (arith, c.len.ensures) in
    none_at c.args.node.unknown items c.loop-index.index null within (λ tree is. c.in-Err.ensures.err (λ m. refused (c.in_item.ensures.memory m)) tree
    (subst (λ (d : Data). IsValue c.args.node.unknown tree d) (sym c.at-json.ensures) is))

pub values-loop-index-preserved : goal.values-loop-index-preserved
values-loop-index-preserved t c =
    let items = item_datas c.args.items in
    let i = c.loop-index.index in
    let item = any_data c.at-json.result in
    let old = c.loop-index.values.items in
    let within : i < length items = omega (arith, c.len.ensures) in
    let next = more_are_values c.args.node.unknown old (take i items) c.in-Ok.value item c.loop-index.invariant c.in-Ok.ensures.ok in
    let taken = take_item items i item null within c.at-json.ensures in
    subst (λ (ns : List (Node Value)). AreValues c.args.node.unknown (value_trees ns) (items_of (take (i + 1) items))) (sym c.in_ok-push-in-Ok.ensures.items)
    (subst (λ (ds : List Data). AreValues c.args.node.unknown (value_trees (old ++ c.in-Ok.value ∷ [])) (items_of ds)) (sym taken) next)

pub values-returns-clause-ok : goal.values-returns-clause-ok
values-returns-clause-ok t c =
    let items = item_datas c.args.items in
    subst (λ (ds : List Data). AreValues c.args.node.unknown (value_trees c.loop-index.values.items) (items_of ds))
    (take_all c.loop-index.index items (omega (arith, c.len.ensures))) c.loop-index.invariant

pub fields-object_field-requires : goal.fields-object_field-requires
fields-object_field-requires t c =
    let items = item_datas c.args.items in
    let within : c.loop-index.index < length items = omega (arith, c.len.ensures) in
    let deep : depth (any_data c.at-json.result) ≤ items_depth (items_of items) =
    subst (λ (d : Data). depth d ≤ items_depth (items_of items)) (sym c.at-json.ensures) (item-depth items c.loop-index.index null within) in
    (omega arith, tt)

pub fields-returns-in-Err-clause-err : goal.fields-returns-in-Err-clause-err
fields-returns-in-Err-clause-err t c refused =
    let items = item_datas c.args.items in
    let within : c.loop-index.index < length items = omega (arith, c.len.ensures) in
    no_field_at c.args.node.unknown items c.loop-index.index null within (λ name tree is.
    c.in-Err.ensures.err (λ m. refused (c.in_item.ensures.memory m)) name tree
    (subst (λ (d : Data). IsNamedValue c.args.node.unknown (codes "ObjectField") name (IsValue c.args.node.unknown tree) d) (sym c.at-json.ensures) is))

pub fields-loop-index-preserved : goal.fields-loop-index-preserved
fields-loop-index-preserved t c =
    let items = item_datas c.args.items in
    let i = c.loop-index.index in
    let item = any_data c.at-json.result in
    let old = c.loop-index.fields.items in
    let within : i < length items = omega (arith, c.len.ensures) in
    let next = more_are_fields c.args.node.unknown old (take i items) c.in-Ok.field item c.loop-index.invariant c.in-Ok.ensures.ok in
    let taken = take_item items i item null within c.at-json.ensures in
    subst (λ (ns : List (Name × Node Value)). AreObjectFields c.args.node.unknown (object_field_trees ns) (items_of (take (i + 1) items)))
    (sym c.in_ok-push-in-Ok.ensures.items)
    (subst (λ (ds : List Data). AreObjectFields c.args.node.unknown (object_field_trees (old ++ c.in-Ok.field ∷ [])) (items_of ds)) (sym taken) next)

pub fields-returns-clause-ok : goal.fields-returns-clause-ok
fields-returns-clause-ok t c =
    let items = item_datas c.args.items in
    subst (λ (ds : List Data). AreObjectFields c.args.node.unknown (object_field_trees c.loop-index.fields.items) (items_of ds))
    (take_all c.loop-index.index items (omega (arith, c.len.ensures))) c.loop-index.invariant

pub fields-returns-in_err-push-in-Ok-clause-err : goal.fields-returns-in_err-push-in-Ok-clause-err
fields-returns-in_err-push-in-Ok-clause-err t c = grind (arith, common_steps)

pub read_value-returns-in_err-kind-clause-nested : goal.read_value-returns-in_err-kind-clause-nested
read_value-returns-in_err-kind-clause-nested t c =
    passed _ c.in_err-kind.field-0.0 (λ error. ¬ IsMemory error → OfValues (λ Told. Told c.args.node error))
    (λ m. (1, no_text _ _ _ (c.in_err-kind.ensures.err m) (c.in_err-kind.ensures.told m))) c.from_residual.ensures.1

pub read_value-returns-in_err-list_items-in-ListValue-clause-nested : goal.read_value-returns-in_err-list_items-in-ListValue-clause-nested
read_value-returns-in_err-list_items-in-ListValue-clause-nested t c =
    let node = c.args.node in
    let kind = c.in_ok-kind.kind.now in
    let is = c.in-ListValue.is in
    let error = c.in_err-list_items-in-ListValue.field-0.0 in
    passed _ error (λ error. ¬ IsMemory error → OfValues (λ Told. Told node error))
    (λ m. let told = c.in_err-list_items-in-ListValue.ensures.told m in (
      suc told.0,
      nested_at told.0 node kind error c.in_ok-kind.ensures.ok
          (no_leaf_of_list node kind error is, λ _. told.1, no_other kind (codes "ListValue") (codes "ObjectValue") is refl),
    ))
    c.from_residual-in_err-list_items-in-ListValue.ensures.1

pub read_value-returns-in_err-object_fields-in-ObjectValue-clause-nested : goal.read_value-returns-in_err-object_fields-in-ObjectValue-clause-nested
read_value-returns-in_err-object_fields-in-ObjectValue-clause-nested t c =
    let node = c.args.node in
    let kind = c.in_ok-kind.kind.now in
    let is = c.in-ObjectValue.is in
    let error = c.in_err-object_fields-in-ObjectValue.field-0.0 in
    passed _ error (λ error. ¬ IsMemory error → OfValues (λ Told. Told node error))
    (λ m. let told = c.in_err-object_fields-in-ObjectValue.ensures.told m in (
      suc told.0,
      nested_at told.0 node kind error c.in_ok-kind.ensures.ok
          (no_leaf_of_object node kind error is, no_other kind (codes "ObjectValue") (codes "ListValue") is refl, λ _. told.1),
    ))
    c.from_residual-in_err-object_fields-in-ObjectValue.ensures.1

pub read_value-returns-in_default-clause-nested : goal.read_value-returns-in_default-clause-nested
read_value-returns-in_default-clause-nested t c =
    let node = c.args.node in
    let kind = c.in_ok-kind.kind.now in
    turned c.leaf.result (λ error. ¬ IsMemory error → IsToldOfLeaf node kind error) (λ error. ¬ IsMemory error → OfValues (λ Told. Told node error))
    (λ error told m. (
      1,
      nested_at 0 node kind error c.in_ok-kind.ensures.ok
          (told m, λ is. absurd (c.in_default.not-ListValue is), λ is. absurd (c.in_default.not-ObjectValue is)),
    )) c.leaf.ensures.told

pub read_value_node-returns-in_err-location-clause-told : goal.read_value_node-returns-in_err-location-clause-told
read_value_node-returns-in_err-location-clause-told t c =
    passed _ c.in_err-location.field-0.0 (λ error. ¬ IsMemory error → OfValues (λ Told. IsToldOfLocated Told c.args.node error))
    (λ m. (0, inl (c.in_err-location.ensures.err m))) c.from_residual.ensures.1

pub read_value_node-returns-in_err-value-clause-told : goal.read_value_node-returns-in_err-value-clause-told
read_value_node-returns-in_err-value-clause-told t c =
    passed _ c.in_err-value.field-0.0 (λ error. ¬ IsMemory error → OfValues (λ Told. IsToldOfLocated Told c.args.node error))
    (λ m. let told = c.in_err-value.ensures.nested m in (told.0, inr told.1)) c.from_residual-in_err-value.ensures.1

pub list_items-returns-in_err-check-clause-told : goal.list_items-returns-in_err-check-clause-told
list_items-returns-in_err-check-clause-told t c =
    passed _ c.in_err-check.field-0.0 (λ error. ¬ IsMemory error → OfValues (λ Told. IsToldOfListValue Told c.args.node error))
    (λ m. (0, (λ not. c.in_err-check.ensures.told m, λ is. absurd (c.in_err-check.ensures.err m is)))) c.from_residual.ensures.1

pub list_items-returns-in_err-items-clause-told : goal.list_items-returns-in_err-items-clause-told
list_items-returns-in_err-items-clause-told t c =
    passed _ c.in_err-items.field-0.0 (λ error. ¬ IsMemory error → OfValues (λ Told. IsToldOfListValue Told c.args.node error))
    (λ m. (
      0,
      (
        λ not. absurd (not c.in_ok-check.ensures.ok),
        λ is. where_none _ _ _ (c.in_err-items.ensures.err m) (c.in_err-items.ensures.told m),
      ),
    )) c.from_residual-in_err-items.ensures.1

pub list_items-returns-in-Err-clause-told : goal.list_items-returns-in-Err-clause-told
list_items-returns-in-Err-clause-told t c refused =
    let told = c.in-Err.ensures.told (λ m. refused (c.within.ensures.memory m)) in
    (told.0, (λ not. absurd (not c.in_ok-check.ensures.ok), λ is. where_some _ _ _ _ c.in_ok-items.ensures.ok (c.in-Err.error, told.1, c.within.ensures.told)))

pub values-returns-in-Err-clause-told : goal.values-returns-in-Err-clause-told
values-returns-in-Err-clause-told t c refused =
    let node = c.args.node in
    let items = item_datas c.args.items in
    let within : c.loop-index.index < length items = omega (arith, c.len.ensures) in
    let m : ¬ IsMemory c.in-Err.error = λ m. refused (c.in_item.ensures.memory m) in
    let told = c.in-Err.ensures.told m in (
      told.0,
      first_told (IsValue node.unknown) (IsToldInside (IsToldOfValueIn told.0) node) items c.loop-index.index (any_data c.at-json.result)
          (map (λ (n : Node Value). value_tree (node_value n)) c.loop-index.values.items) c.in-Err.error c.in_item.result within c.at-json.ensures
          (each_value node.unknown c.loop-index.values.items _ c.loop-index.invariant) (c.in-Err.ensures.err m) c.in_item.ensures.told
          (_, (refl, refl, refl), told.1),
    )

pub object_fields-returns-in_err-check-clause-told : goal.object_fields-returns-in_err-check-clause-told
object_fields-returns-in_err-check-clause-told t c =
    passed _ c.in_err-check.field-0.0 (λ error. ¬ IsMemory error → OfValues (λ Told. IsToldOfObjectValue Told c.args.node error))
    (λ m. (0, (λ not. c.in_err-check.ensures.told m, λ is. absurd (c.in_err-check.ensures.err m is)))) c.from_residual.ensures.1

pub object_fields-returns-in_err-items-clause-told : goal.object_fields-returns-in_err-items-clause-told
object_fields-returns-in_err-items-clause-told t c =
    passed _ c.in_err-items.field-0.0 (λ error. ¬ IsMemory error → OfValues (λ Told. IsToldOfObjectValue Told c.args.node error))
    (λ m. (
      0,
      (
        λ not. absurd (not c.in_ok-check.ensures.ok),
        λ is. where_none _ _ _ (c.in_err-items.ensures.err m) (c.in_err-items.ensures.told m),
      ),
    )) c.from_residual-in_err-items.ensures.1

pub object_fields-returns-in-Err-clause-told : goal.object_fields-returns-in-Err-clause-told
object_fields-returns-in-Err-clause-told t c refused =
    let told = c.in-Err.ensures.told (λ m. refused (c.within.ensures.memory m)) in
    (told.0, (λ not. absurd (not c.in_ok-check.ensures.ok), λ is. where_some _ _ _ _ c.in_ok-items.ensures.ok (c.in-Err.error, told.1, c.within.ensures.told)))

pub fields-returns-in-Err-clause-told : goal.fields-returns-in-Err-clause-told
fields-returns-in-Err-clause-told t c refused =
    let node = c.args.node in
    let items = item_datas c.args.items in
    let within : c.loop-index.index < length items = omega (arith, c.len.ensures) in
    let m : ¬ IsMemory c.in-Err.error = λ m. refused (c.in_item.ensures.memory m) in
    let told = c.in-Err.ensures.told m in (
      told.0,
      first_told (IsField node.unknown) (IsToldInside (IsToldOfNamed (codes "ObjectField") (IsToldOfValueIn told.0)) node) items c.loop-index.index
          (any_data c.at-json.result) (map field_tree c.loop-index.fields.items) c.in-Err.error c.in_item.result within c.at-json.ensures
          (each_field node.unknown c.loop-index.fields.items _ c.loop-index.invariant) (λ field. c.in-Err.ensures.err m field.0 field.1) c.in_item.ensures.told
          (_, (refl, refl, refl), told.1),
    )

pub object_field-returns-in_err-location-clause-told : goal.object_field-returns-in_err-location-clause-told
object_field-returns-in_err-location-clause-told t c =
    passed _ c.in_err-location.field-0.0
    (λ error. ¬ IsMemory error → OfValues (λ Told. IsToldOfLocated (IsToldOfNamed (codes "ObjectField") Told) c.args.node error))
    (λ m. (0, inl (c.in_err-location.ensures.err m))) c.from_residual.ensures.1

pub object_field-returns-clause-told : goal.object_field-returns-clause-told
object_field-returns-clause-told t c =
    turned c.named_value.result (λ error. ¬ IsMemory error → OfValues (λ Told. IsToldOfNamed (codes "ObjectField") Told c.args.node error))
    (λ error. ¬ IsMemory error → OfValues (λ Told. IsToldOfLocated (IsToldOfNamed (codes "ObjectField") Told) c.args.node error))
    (λ error told m. let named = told m in (named.0, inr named.1)) c.named_value.ensures.told

pub named_value-returns-in_err-check-clause-told : goal.named_value-returns-in_err-check-clause-told
named_value-returns-in_err-check-clause-told t c =
    passed _ c.in_err-check.field-0.0 (λ error. ¬ IsMemory error → OfValues (λ Told. IsToldOfNamed c.args.kind.now Told c.args.node error))
    (λ m. (0, (λ not. c.in_err-check.ensures.told m, λ is. absurd (c.in_err-check.ensures.err m is)))) c.from_residual.ensures.1

pub named_value-returns-in_err-name-clause-told : goal.named_value-returns-in_err-name-clause-told
named_value-returns-in_err-name-clause-told t c =
    passed _ c.in_err-name.field-0.0 (λ error. ¬ IsMemory error → OfValues (λ Told. IsToldOfNamed c.args.kind.now Told c.args.node error))
    (λ m. (
      0,
      (
        λ not. absurd (not c.in_ok-check.ensures.ok),
        λ is. (λ none. c.in_err-name.ensures.told m, λ name has. absurd (c.in_err-name.ensures.err m name has)),
      ),
    )) c.from_residual-in_err-name.ensures.1

pub named_value-returns-in_err-json-clause-told : goal.named_value-returns-in_err-json-clause-told
named_value-returns-in_err-json-clause-told t c =
    passed _ c.in_err-json.field-0.0 (λ error. ¬ IsMemory error → OfValues (λ Told. IsToldOfNamed c.args.kind.now Told c.args.node error))
    (λ m. (
      0,
      (
        λ not. absurd (not c.in_ok-check.ensures.ok),
        λ is. (
          λ none. absurd (none (name_tree c.in_ok-name.name) c.in_ok-name.ensures.ok),
          λ name has. where_none _ _ _ (c.in_err-json.ensures.err m) (c.in_err-json.ensures.told m),
        ),
      ),
    )) c.from_residual-in_err-json.ensures.1

pub named_value-returns-in-Err-clause-told : goal.named_value-returns-in-Err-clause-told
named_value-returns-in-Err-clause-told t c refused =
    let told = c.in-Err.ensures.told (λ m. refused (c.within.ensures.memory m)) in (
      told.0,
      (
        λ not. absurd (not c.in_ok-check.ensures.ok),
        λ is. (
          λ none. absurd (none (name_tree c.in_ok-name.name) c.in_ok-name.ensures.ok),
          λ name has. where_some _ _ _ _ c.in_ok-json.ensures.ok (c.in-Err.error, (_, (refl, refl, refl), told.1), c.within.ensures.told),
        ),
      ),
    )
