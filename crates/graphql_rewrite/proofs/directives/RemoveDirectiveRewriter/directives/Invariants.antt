use Rattle.graphql_rewrite.proofs.DirectivesLeft.{AreLeft}
use Rattle.graphql_rewrite.proofs.directives.RemoveDirectiveRewriter.directives.Given as goal

abbrev pub invariant-loop-directive : goal.invariant-loop-directive
invariant-loop-directive l = AreLeft l.self.name.now l.old l.directive-index l.made.items
