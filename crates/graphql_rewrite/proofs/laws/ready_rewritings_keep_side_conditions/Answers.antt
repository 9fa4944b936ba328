use Rattle.graphql_rewrite.proofs.ReadyKept.{adding_keeps, removing_keeps, renaming_keeps, replacing_keeps}
use Rattle.graphql_rewrite.proofs.laws.ready_rewritings_keep_side_conditions.Goals as goal

pub returns-clause-renamed : goal.returns-clause-renamed
returns-clause-renamed c = renaming_keeps

pub returns-clause-added : goal.returns-clause-added
returns-clause-added c = adding_keeps

pub returns-clause-replaced : goal.returns-clause-replaced
returns-clause-replaced c = replacing_keeps

pub returns-clause-removed : goal.returns-clause-removed
returns-clause-removed c = removing_keeps
