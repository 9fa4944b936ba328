use Rattle.graphql_executable.proofs.code.SelectionWalkSteps.{opened_and_finished, selection_balanced}
use Rattle.graphql_executable.proofs.code.ExecutableStacksKept.{all_kept, can_finish, can_open}
use Rattle.graphql_executable.proofs.field.print.FieldWrittenExecutableStacks.write_at.Goals as goal

pub open_field-requires : goal.open_field-requires
open_field-requires g c = can_open c.requires

pub finish_sets-requires : goal.finish_sets-requires
finish_sets-requires g c = can_finish c.requires c.open_field.ensures.kept c.open_field.ensures.opened

pub returns-clause-kept : goal.returns-clause-kept
returns-clause-kept g c = all_kept c.open_field.ensures.kept c.finish_sets.ensures.kept

pub returns-clause-written : goal.returns-clause-written
returns-clause-written g c =
    let finished = rw c.open_field.ensures.prefix at c.finish_sets.ensures.finished in
    opened_and_finished c.requires.selections.entries c.open_field.ensures.opened finished (selection_balanced _)
