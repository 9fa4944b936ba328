use Rattle.std.proofs.Common.{rules}
use Rattle.graphql_rewrite.proofs.DefinitionsSorted.{on_ok, sorted_by, stable_by}
use Rattle.graphql_rewrite.proofs.sorting.sort_definitions.Goals as goal

pub returns-clause-sorted : goal.returns-clause-sorted
returns-clause-sorted c =
    on_ok c.sort_by.result (λ sorted. sorted_by _ _ _ sorted (λ a r f' k. search rules)) c.sort_by.ensures.sorted

pub returns-clause-stable : goal.returns-clause-stable
returns-clause-stable c = stable_by _ _ _ _ c.sort_by.ensures.stable (λ a r f' k. search rules)
