use Rattle.std.proofs.Common.{option_map, sym, ap, ◌∙◌}
use Rattle.parsed_json.specs.AnyJson.{any_data}
use Rattle.graphql_ast_json.proofs.nodes.ToldMembers.{and_some}
use Rattle.graphql_ast_json.proofs.members.optional.Goals as goal

pub returns-in-Err-clause-told : goal.returns-in-Err-clause-told
returns-in-Err-clause-told g c refused =
    and_some _ _ _ (sym c.find_member.ensures.value ∙ ap (option_map any_data) c.in-Some.is)
    (c.in-Err.error, c.in-Err.ensures.err (λ m. refused (c.within.ensures.memory m)), c.within.ensures.told)
