use Rattle.std.proofs.Common.{◌≡◌, ℕ, IfSome, List, sym, ap, ◌∙◌, subst}
use Rattle.std.specs.Borrow.{Bor}
use Rattle.std.specs.declared.alloc.Global.{Global}
use Rattle.json.proofs.Trees.{view-Object}
use Rattle.json.specs.Value.{members_view as parsed_members}
use Rattle.json.specs.declared.value.Value.{Value}
use Rattle.serde_json.specs.Data.{Data, no_members, object}
use Rattle.parsed_json.specs.AnyJson.{any_data, two_numbers}
use Rattle.parsed_json.specs.ParsedJson.{data_of, parsed_data, with_members}
use Rattle.parsed_json.proofs.any_json.AnyJson.two_numbers.Goals as goal

pub returns-in-Object : goal.returns-in-Object
returns-in-Object c =
    let members : (ms : List (Bor (List ℕ) × Value Global)) → Data = λ ms. object (with_members (parsed_members ms) no_members) in
    let same =
    ap any_data c.in-Parsed.is ∙ ap (λ (v : Value Global). parsed_data v) c.in-Object.is ∙ ap data_of (view-Object c.in-Object.members)
    ∙ ap members (sym c.as_slice.ensures.value) in
    subst (λ (d : Data). IfSome c.two_numbers.result (λ n. d ≡ two_numbers c.args.first.now n.0 c.args.second.now n.1)) (sym same) c.two_numbers.ensures
