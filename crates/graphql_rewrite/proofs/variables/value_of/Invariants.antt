use Rattle.graphql_rewrite.proofs.VariablesReplaced.{IsLeft}
use Rattle.graphql_rewrite.proofs.variables.value_of.Given as goal

abbrev pub invariant-loop-value : goal.invariant-loop-value
invariant-loop-value l = IsLeft l.name l.values l.value-index
