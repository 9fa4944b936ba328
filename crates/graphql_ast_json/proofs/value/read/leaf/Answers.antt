use Rattle.std.proofs.Common.{◌≡◌, ℕ, List, Some, codes, string_bytes, refl, ap, ◌∙◌, arith}
use Rattle.graphql_values.specs.kinds.Values.{ValueTree}
use Rattle.serde_json.specs.Data.{string}
use Rattle.ast_json_nodes.specs.code.JsonNodes.{node_data}
use Rattle.ast_json_nodes.specs.code.Errors.{IsMemory}
use Rattle.ast_json_nodes.specs.nodes.Nodes.{member_of}
use Rattle.graphql_ast_json.specs.kinds.ValueJson.{IsValue}
use Rattle.ast_json_nodes.proofs.general.PassedErrors.{passed}
use Rattle.graphql_ast_json.proofs.kinds.ValueJsonByKind.{only_enum, only_string, only_float, only_int, only_boolean}
use Rattle.graphql_ast_json.proofs.kinds.ValueJsonByKind.{string_is}
use Rattle.graphql_ast_json.proofs.kinds.ValueKinds.{no_other, not_none}
use Rattle.ast_json_nodes.specs.code.ToldErrors.{IsToldOfLeaf}
use Rattle.graphql_ast_json.proofs.value.read.leaf.Goals as goal

pub returns-in_err-name_of_kind-in-EnumValue-clause-err : goal.returns-in_err-name_of_kind-in-EnumValue-clause-err
returns-in_err-name_of_kind-in-EnumValue-clause-err c =
    let json = node_data c.args.node in
    let kind : member_of (codes "kind") json ≡ Some (string (codes "EnumValue")) =
    c.requires.kind ∙ ap (λ (s : List ℕ). Some (string s)) c.in-EnumValue.is in
    let none : ¬ IsMemory c.in_err-name_of_kind-in-EnumValue.field-0.0 → (tree : ValueTree) → ¬ IsValue c.args.node.unknown tree json =
    λ m. only_enum c.args.node.unknown json kind (c.in_err-name_of_kind-in-EnumValue.ensures.err m) in
    passed _ _ _ none c.from_residual-in_err-name_of_kind-in-EnumValue.ensures.1

pub returns-in_err-text-in-StringValue-clause-err : goal.returns-in_err-text-in-StringValue-clause-err
returns-in_err-text-in-StringValue-clause-err c =
    let json = node_data c.args.node in
    let kind : member_of (codes "kind") json ≡ Some (string (codes "StringValue")) =
    c.requires.kind ∙ ap (λ (s : List ℕ). Some (string s)) c.in-StringValue.is in
    let none : ¬ IsMemory c.in_err-text-in-StringValue.field-0.0 → (tree : ValueTree) → ¬ IsValue c.args.node.unknown tree json =
    λ m. only_string c.args.node.unknown json kind (c.in_err-text-in-StringValue.ensures.err m) in
    passed _ _ _ none c.from_residual-in_err-text-in-StringValue.ensures.1

pub returns-in_err-float-in-FloatValue-clause-err : goal.returns-in_err-float-in-FloatValue-clause-err
returns-in_err-float-in-FloatValue-clause-err c =
    let json = node_data c.args.node in
    let kind : member_of (codes "kind") json ≡ Some (string (codes "FloatValue")) =
    c.requires.kind ∙ ap (λ (s : List ℕ). Some (string s)) c.in-FloatValue.is in
    let none : ¬ IsMemory c.in_err-float-in-FloatValue.field-0.0 → (tree : ValueTree) → ¬ IsValue c.args.node.unknown tree json =
    λ m. only_float c.args.node.unknown json kind (c.in_err-float-in-FloatValue.ensures.err m) in
    passed _ _ _ none c.from_residual-in_err-float-in-FloatValue.ensures.1

pub returns-in_err-int-in-IntValue-clause-err : goal.returns-in_err-int-in-IntValue-clause-err
returns-in_err-int-in-IntValue-clause-err c =
    let json = node_data c.args.node in
    let kind : member_of (codes "kind") json ≡ Some (string (codes "IntValue")) =
    c.requires.kind ∙ ap (λ (s : List ℕ). Some (string s)) c.in-IntValue.is in
    let none : ¬ IsMemory c.in_err-int-in-IntValue.field-0.0 → (tree : ValueTree) → ¬ IsValue c.args.node.unknown tree json =
    λ m. only_int c.args.node.unknown json kind (c.in_err-int-in-IntValue.ensures.err m) in
    passed _ _ _ none c.from_residual-in_err-int-in-IntValue.ensures.1

pub returns-in_err-boolean-in-BooleanValue-clause-err : goal.returns-in_err-boolean-in-BooleanValue-clause-err
returns-in_err-boolean-in-BooleanValue-clause-err c =
    let json = node_data c.args.node in
    let kind : member_of (codes "kind") json ≡ Some (string (codes "BooleanValue")) =
    c.requires.kind ∙ ap (λ (s : List ℕ). Some (string s)) c.in-BooleanValue.is in
    let none : ¬ IsMemory c.in_err-boolean-in-BooleanValue.field-0.0 → (tree : ValueTree) → ¬ IsValue c.args.node.unknown tree json =
    λ m. only_boolean c.args.node.unknown json kind (c.in_err-boolean-in-BooleanValue.ensures.err m) in
    passed _ _ _ none c.from_residual-in_err-boolean-in-BooleanValue.ensures.1

pub returns-in_ok-from_str-in-StringValue-clause-ok : goal.returns-in_ok-from_str-in-StringValue-clause-ok
returns-in_ok-from_str-in-StringValue-clause-ok c =
    let text = c.in_ok-from_str-in-StringValue.field-0 in
    let same : string_bytes text ≡ c.in_ok-text-in-StringValue.text.now = grind arith in
    string_is c.args.node.unknown text c.in_ok-text-in-StringValue.text.now (node_data c.args.node) same c.in_ok-text-in-StringValue.ensures.ok

pub returns-in_err-check-in-NullValue-clause-told : goal.returns-in_err-check-in-NullValue-clause-told
returns-in_err-check-in-NullValue-clause-told c =
    let kind = c.args.kind.now in
    let is = c.in-NullValue.is in
    passed _ c.in_err-check-in-NullValue.field-0.0 (λ error. ¬ IsMemory error → IsToldOfLeaf c.args.node kind error)
    (λ m. (
      λ same. c.in_err-check-in-NullValue.ensures.told m,
      no_other kind (codes "NullValue") (codes "EnumValue") is refl,
      no_other kind (codes "NullValue") (codes "Variable") is refl,
      no_other kind (codes "NullValue") (codes "StringValue") is refl,
      no_other kind (codes "NullValue") (codes "FloatValue") is refl,
      no_other kind (codes "NullValue") (codes "IntValue") is refl,
      no_other kind (codes "NullValue") (codes "BooleanValue") is refl,
      not_none kind (codes "NullValue") is refl,
    ))
    c.from_residual.ensures.1

pub returns-in_err-name_of_kind-in-EnumValue-clause-told : goal.returns-in_err-name_of_kind-in-EnumValue-clause-told
returns-in_err-name_of_kind-in-EnumValue-clause-told c =
    let kind = c.args.kind.now in
    let is = c.in-EnumValue.is in
    passed _ c.in_err-name_of_kind-in-EnumValue.field-0.0 (λ error. ¬ IsMemory error → IsToldOfLeaf c.args.node kind error)
    (λ m. (
      no_other kind (codes "EnumValue") (codes "NullValue") is refl,
      λ same. c.in_err-name_of_kind-in-EnumValue.ensures.told m,
      no_other kind (codes "EnumValue") (codes "Variable") is refl,
      no_other kind (codes "EnumValue") (codes "StringValue") is refl,
      no_other kind (codes "EnumValue") (codes "FloatValue") is refl,
      no_other kind (codes "EnumValue") (codes "IntValue") is refl,
      no_other kind (codes "EnumValue") (codes "BooleanValue") is refl,
      not_none kind (codes "EnumValue") is refl,
    ))
    c.from_residual-in_err-name_of_kind-in-EnumValue.ensures.1

pub returns-in_err-variable_name-in-Variable-clause-told : goal.returns-in_err-variable_name-in-Variable-clause-told
returns-in_err-variable_name-in-Variable-clause-told c =
    let kind = c.args.kind.now in
    let is = c.in-Variable.is in
    passed _ c.in_err-variable_name-in-Variable.field-0.0 (λ error. ¬ IsMemory error → IsToldOfLeaf c.args.node kind error)
    (λ m. (
      no_other kind (codes "Variable") (codes "NullValue") is refl,
      no_other kind (codes "Variable") (codes "EnumValue") is refl,
      λ same. c.in_err-variable_name-in-Variable.ensures.told m,
      no_other kind (codes "Variable") (codes "StringValue") is refl,
      no_other kind (codes "Variable") (codes "FloatValue") is refl,
      no_other kind (codes "Variable") (codes "IntValue") is refl,
      no_other kind (codes "Variable") (codes "BooleanValue") is refl,
      not_none kind (codes "Variable") is refl,
    ))
    c.from_residual-in_err-variable_name-in-Variable.ensures.1

pub returns-in_err-text-in-StringValue-clause-told : goal.returns-in_err-text-in-StringValue-clause-told
returns-in_err-text-in-StringValue-clause-told c =
    let kind = c.args.kind.now in
    let is = c.in-StringValue.is in
    passed _ c.in_err-text-in-StringValue.field-0.0 (λ error. ¬ IsMemory error → IsToldOfLeaf c.args.node kind error)
    (λ m. (
      no_other kind (codes "StringValue") (codes "NullValue") is refl,
      no_other kind (codes "StringValue") (codes "EnumValue") is refl,
      no_other kind (codes "StringValue") (codes "Variable") is refl,
      λ same. c.in_err-text-in-StringValue.ensures.told m,
      no_other kind (codes "StringValue") (codes "FloatValue") is refl,
      no_other kind (codes "StringValue") (codes "IntValue") is refl,
      no_other kind (codes "StringValue") (codes "BooleanValue") is refl,
      not_none kind (codes "StringValue") is refl,
    ))
    c.from_residual-in_err-text-in-StringValue.ensures.1

pub returns-in_err-float-in-FloatValue-clause-told : goal.returns-in_err-float-in-FloatValue-clause-told
returns-in_err-float-in-FloatValue-clause-told c =
    let kind = c.args.kind.now in
    let is = c.in-FloatValue.is in
    passed _ c.in_err-float-in-FloatValue.field-0.0 (λ error. ¬ IsMemory error → IsToldOfLeaf c.args.node kind error)
    (λ m. (
      no_other kind (codes "FloatValue") (codes "NullValue") is refl,
      no_other kind (codes "FloatValue") (codes "EnumValue") is refl,
      no_other kind (codes "FloatValue") (codes "Variable") is refl,
      no_other kind (codes "FloatValue") (codes "StringValue") is refl,
      λ same. c.in_err-float-in-FloatValue.ensures.told m,
      no_other kind (codes "FloatValue") (codes "IntValue") is refl,
      no_other kind (codes "FloatValue") (codes "BooleanValue") is refl,
      not_none kind (codes "FloatValue") is refl,
    ))
    c.from_residual-in_err-float-in-FloatValue.ensures.1

pub returns-in_err-int-in-IntValue-clause-told : goal.returns-in_err-int-in-IntValue-clause-told
returns-in_err-int-in-IntValue-clause-told c =
    let kind = c.args.kind.now in
    let is = c.in-IntValue.is in
    passed _ c.in_err-int-in-IntValue.field-0.0 (λ error. ¬ IsMemory error → IsToldOfLeaf c.args.node kind error)
    (λ m. (
      no_other kind (codes "IntValue") (codes "NullValue") is refl,
      no_other kind (codes "IntValue") (codes "EnumValue") is refl,
      no_other kind (codes "IntValue") (codes "Variable") is refl,
      no_other kind (codes "IntValue") (codes "StringValue") is refl,
      no_other kind (codes "IntValue") (codes "FloatValue") is refl,
      λ same. c.in_err-int-in-IntValue.ensures.told m,
      no_other kind (codes "IntValue") (codes "BooleanValue") is refl,
      not_none kind (codes "IntValue") is refl,
    ))
    c.from_residual-in_err-int-in-IntValue.ensures.1

pub returns-in_err-boolean-in-BooleanValue-clause-told : goal.returns-in_err-boolean-in-BooleanValue-clause-told
returns-in_err-boolean-in-BooleanValue-clause-told c =
    let kind = c.args.kind.now in
    let is = c.in-BooleanValue.is in
    passed _ c.in_err-boolean-in-BooleanValue.field-0.0 (λ error. ¬ IsMemory error → IsToldOfLeaf c.args.node kind error)
    (λ m. (
      no_other kind (codes "BooleanValue") (codes "NullValue") is refl,
      no_other kind (codes "BooleanValue") (codes "EnumValue") is refl,
      no_other kind (codes "BooleanValue") (codes "Variable") is refl,
      no_other kind (codes "BooleanValue") (codes "StringValue") is refl,
      no_other kind (codes "BooleanValue") (codes "FloatValue") is refl,
      no_other kind (codes "BooleanValue") (codes "IntValue") is refl,
      λ same. c.in_err-boolean-in-BooleanValue.ensures.told m,
      not_none kind (codes "BooleanValue") is refl,
    ))
    c.from_residual-in_err-boolean-in-BooleanValue.ensures.1
