use Rattle.std.proofs.Common.{arith}
use Rattle.graphql_text.specs.code.Stack.{stack_entries}
use Rattle.graphql_text.proofs.code.PendingStackSteps.{goes_on_after, pending_need_push}
use Rattle.graphql_text.proofs.code.KeptStacks.{kept_twice}
use Rattle.graphql_executable.specs.declared.stacks.SelectionEntry.{SelectionEntry}
use Rattle.graphql_executable.specs.code.SelectionWalk.{entry_nesting}
use Rattle.graphql_executable.proofs.selection.print.write_entry.Goals as goal

pub write_leaves-rest-requires-clause-ready : goal.write_leaves-rest-requires-clause-ready
write_leaves-rest-requires-clause-ready g c =
    let values = c.requires.room.values in
    record {
      entries = values.entries;
      room = omega (arith, pending_need_push entry_nesting (stack_entries c.args.stacks.now.selections) c.args.entry, values.room);
    }

pub write_next-requires : goal.write_next-requires
write_next-requires g c =
    let entries = stack_entries c.args.stacks.now.selections in
    let rest : SelectionEntry = record { rest = c.write_leaves-rest.result } in
    let leaves = c.write_leaves-rest.ensures in
    let room = c.requires.room in
    record {
      room = record {
        values = record {
          entries = leaves.kept.entries;
          room =
              omega (
                arith,
                leaves.nesting,
                leaves.kept.room,
                pending_need_push entry_nesting entries c.args.entry,
                pending_need_push entry_nesting entries rest,
                room.values.room,
              );
        };
        types = record { entries = room.types.entries; room = omega arith };
        selections =
            omega (
              arith,
              leaves.nesting,
              pending_need_push entry_nesting entries c.args.entry,
              pending_need_push entry_nesting entries rest,
              room.selections,
            );
      };
      fits = omega (arith, leaves.nesting, c.requires.fits);
      inside = c.requires.inside;
    }

pub returns-clause-kept : goal.returns-clause-kept
returns-clause-kept g c =
    let kept = c.write_next.ensures.kept in
    record {
      definitions = record { values = kept_twice c.write_leaves-rest.ensures.kept kept.definitions.values; types = kept.definitions.types };
      selections = kept.selections;
    }

pub returns-clause-written : goal.returns-clause-written
returns-clause-written g c =
    goes_on_after g.met.O.Target.nothing g.met.O.Target.more c.args.entry (record { rest = c.write_leaves-rest.result })
    (stack_entries c.args.stacks.now.selections) (stack_entries c.write_next.new.stacks.selections)
    c.write_leaves-rest.ensures.nesting c.write_leaves-rest.ensures.written c.write_next.ensures.written
