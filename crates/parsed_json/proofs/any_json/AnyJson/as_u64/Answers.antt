use Rattle.std.proofs.Common.{option_and_then, sym, ap, ◌∙◌}
use Rattle.json.specs.Value.{value_view}
use Rattle.serde_json.specs.Find.{as_number, as_u64}
use Rattle.parsed_json.specs.AnyJson.{any_data}
use Rattle.parsed_json.proofs.ParsedNumbers.{number_found}
use Rattle.parsed_json.proofs.any_json.AnyJson.as_u64.Goals as goal

pub returns-in-Some : goal.returns-in-Some
returns-in-Some c =
    c.unsigned_number.ensures ∙ number_found (value_view c.in-Parsed.json.now) c.in-Some.text.now c.in-Some.ensures
    ∙ ap (λ v. option_and_then as_u64 (as_number (any_data v))) (sym c.in-Parsed.is)
