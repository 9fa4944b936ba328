use Rattle.graphql_values.proofs.code.DefinitionStacksKept.{stacks_unused}
use Rattle.graphql_executable.specs.code.SelectionWalk.{LoseNoRoom}
use Rattle.graphql_executable.proofs.code.SelectionWalkSteps.{opened_and_finished, set_balanced}
use Rattle.graphql_executable.proofs.code.ExecutableStacksKept.{all_kept, can_finish}
use Rattle.graphql_executable.proofs.selection.print.write_selection_set.Goals as goal

pub finish_sets-requires : goal.finish_sets-requires
finish_sets-requires g c =
    let kept : LoseNoRoom c.args.stacks.now (record { definitions = c.args.stacks.now.definitions; selections = c.open_set.new.stack }) =
    record { definitions = stacks_unused c.requires.definition; selections = c.open_set.ensures.room } in
    can_finish c.requires kept c.open_set.ensures.opened

pub returns-clause-kept : goal.returns-clause-kept
returns-clause-kept g c =
    let kept : LoseNoRoom c.args.stacks.now (record { definitions = c.args.stacks.now.definitions; selections = c.open_set.new.stack }) =
    record { definitions = stacks_unused c.requires.definition; selections = c.open_set.ensures.room } in
    all_kept kept c.finish_sets.ensures.kept

pub returns-clause-written : goal.returns-clause-written
returns-clause-written g c =
    let finished = rw c.open_set.ensures.prefix at c.finish_sets.ensures.finished in
    opened_and_finished c.requires.selections.entries c.open_set.ensures.opened finished (set_balanced _)
