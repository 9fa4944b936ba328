use Rattle.graphql_rewrite.proofs.FieldsMade.{IsLeft}
use Rattle.graphql_rewrite.proofs.fields.has_response.Given as goal

abbrev pub invariant-loop-selection : goal.invariant-loop-selection
invariant-loop-selection l = IsLeft l.name l.selections l.selection-index
