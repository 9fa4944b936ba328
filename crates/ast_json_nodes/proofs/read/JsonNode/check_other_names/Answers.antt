use Rattle.std.proofs.Common.{◌≡◌, ℕ, [], ◌++◌, List, IsTrue, IfErr, sym, ap, ◌∙◌, subst}
use Rattle.std.specs.Borrow.{Bor}
use Rattle.std.specs.declared.alloc.Global.{Global}
use Rattle.json.proofs.Trees.{view-Object as parsed-Object}
use Rattle.json.specs.Value.{members_view as parsed_members}
use Rattle.json.specs.declared.value.Value.{Value}
use Rattle.serde_json.specs.Data.{Data, no_members, object}
use Rattle.parsed_json.specs.AnyJson.{any_data}
use Rattle.parsed_json.specs.ParsedJson.{data_of, parsed_data, with_members}
use Rattle.ast_json_nodes.specs.code.Errors.{IsMemory}
use Rattle.ast_json_nodes.specs.code.JsonNodes.{has_other_names, node_data}
use Rattle.ast_json_nodes.specs.code.NodeReading.{texts_of}
use Rattle.ast_json_nodes.specs.code.ToldErrors.{HasUnknown, IsTold}
use Rattle.ast_json_nodes.proofs.read.JsonNode.check_other_names.Goals as goal

pub returns-in-Object-value-clause-err : goal.returns-in-Object-value-clause-err
returns-in-Object-value-clause-err c =
    let all = texts_of c.args.names.now ++ texts_of c.args.others.now in
    let is : object (with_members (parsed_members c.as_slice.result.now) no_members) ≡ node_data c.args.self =
    ap (λ (ms : List (Bor (List ℕ) × Value Global)). object (with_members (parsed_members ms) no_members)) c.as_slice.ensures.value
    ∙ ap data_of (sym (parsed-Object c.in-Object-value.members)) ∙ ap (λ (v : Value Global). parsed_data v) (sym c.in-Object-value.is)
    ∙ ap any_data (sym c.in-Parsed.is) in
    subst (λ (json : Data). IfErr c.check_parsed_names.result (λ error. (IsMemory error → ⊥) → IsTrue (has_other_names all json))) is
    c.check_parsed_names.ensures.err

pub returns-in-Object-value-clause-told : goal.returns-in-Object-value-clause-told
returns-in-Object-value-clause-told c =
    let all = texts_of c.args.names.now ++ texts_of c.args.others.now in
    let is : object (with_members (parsed_members c.as_slice.result.now) no_members) ≡ node_data c.args.self =
    ap (λ (ms : List (Bor (List ℕ) × Value Global)). object (with_members (parsed_members ms) no_members)) c.as_slice.ensures.value
    ∙ ap data_of (sym (parsed-Object c.in-Object-value.members)) ∙ ap (λ (v : Value Global). parsed_data v) (sym c.in-Object-value.is)
    ∙ ap any_data (sym c.in-Parsed.is) in
    subst (λ (json : Data). IfErr c.check_parsed_names.result (λ error. (IsMemory error → ⊥)
    → IsTold c.args.self [] (HasUnknown all c.args.of.now json) error)) is
    c.check_parsed_names.ensures.told
