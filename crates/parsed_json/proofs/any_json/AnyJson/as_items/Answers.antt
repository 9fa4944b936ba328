use Rattle.std.proofs.Common.{List, Some, sym, ap, ◌∙◌}
use Rattle.json.proofs.Trees.{view-Array}
use Rattle.json.specs.declared.value.Value.{Value}
use Rattle.std.specs.declared.alloc.Global.{Global}
use Rattle.serde_json.specs.Find.{as_array}
use Rattle.parsed_json.specs.AnyJson.{any_data}
use Rattle.parsed_json.specs.ParsedJson.{data_of, parsed_data, parsed_items}
use Rattle.parsed_json.proofs.ParsedMembers.{items_one_by_one}
use Rattle.parsed_json.proofs.any_json.AnyJson.as_items.Goals as goal

pub returns-in-Array-json : goal.returns-in-Array-json
returns-in-Array-json c =
    ap Some (sym (items_one_by_one c.as_slice-in-Array-json.result.now))
    ∙ ap (λ (vs : List (Value Global)). Some (parsed_items vs)) c.as_slice-in-Array-json.ensures.value
    ∙ ap (λ j. as_array (data_of j)) (sym (view-Array c.in-Array-json.items))
    ∙ ap (λ (v : Value Global). as_array (parsed_data v)) (sym c.in-Array-json.is)
    ∙ ap (λ v. as_array (any_data v)) (sym c.in-Parsed.is)
