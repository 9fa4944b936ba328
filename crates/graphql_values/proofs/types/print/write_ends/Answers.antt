use Rattle.std.proofs.Common.{arith, ap, ◌∙◌}
use Rattle.graphql_text.specs.code.Stack.{stack_entries}
use Rattle.graphql_text.proofs.code.WritingSteps.{writes_nothing, writes_then}
use Rattle.graphql_values.specs.code.TypeEnds.{ends_items}
use Rattle.graphql_values.proofs.layout.TypeShapes.{ends_push, ends_balanced}
use Rattle.graphql_values.proofs.types.print.write_ends.Goals as goal

pub returns-then-is_stopped-clause-written : goal.returns-then-is_stopped-clause-written
returns-then-is_stopped-clause-written g c = λ mode level.
    c.loop-end.invariant.written c.loop-end.out mode level (record {
      text = g.met.O.Target.idle _ _ (c.is_stopped.ensures.0 c.if-is_stopped.true);
      balanced = ends_balanced (stack_entries c.loop-end.stack);
    })

pub loop-end-preserved : goal.loop-end-preserved
loop-end-preserved g c = record {
  room = omega (arith, c.loop-end.invariant.room, c.pop.ensures.room);
  written = λ after mode level rest.
      let both = writes_then g.met.O.Target.more (c.write_end.ensures mode level) rest in
      let order = ap ends_items c.in-Some.ensures.entries ∙ ends_push (stack_entries c.pop.new.self) c.in-Some.end in
      c.loop-end.invariant.written after mode level (rw order both);
}

pub returns-clause-written : goal.returns-clause-written
returns-clause-written g c = λ mode level.
    let none = ap ends_items c.in_default.ensures.entries.0 in
    c.loop-end.invariant.written c.loop-end.out mode level (rw none (writes_nothing g.met.O.Target.nothing))
