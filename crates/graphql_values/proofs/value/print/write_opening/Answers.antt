use Rattle.std.proofs.Common.{◌++◌, ◌∙◌, ap, arith, refl}
use Rattle.graphql_text.specs.layout.Layout.{is_broken}
use Rattle.graphql_text.specs.code.Place.{mode_of}
use Rattle.graphql_text.specs.code.Stack.{stack_entries}
use Rattle.graphql_text.proofs.code.WritingSteps.{beginning_none, beginning_next, levels_raise, levels_then, writes_levels}
use Rattle.graphql_values.specs.trees.ValueTrees.{value_tree}
use Rattle.graphql_values.specs.code.ValueWalk.{opening_word, stack_items}
use Rattle.graphql_values.proofs.layout.ValueShapes.{group_opening, leaf_opening}
use Rattle.graphql_values.proofs.value.print.write_opening.Goals as goal
use Rattle.graphql_values.proofs.value.print.write_opening.Goals.{in-Some, in-None}

pub returns-clause-opened : goal.returns-clause-opened
returns-clause-opened g c =
    let b = is_broken (mode_of c.args.here.now.prefix) in
    let tree = value_tree c.args.value.now in
    let later = stack_items b (stack_entries c.put_inner.new.stack) in
    let more = g.met.O.Target.more in
    let nothing = g.met.O.Target.nothing in
    elim c.match-opening_bracket.branch [
      | in-Some w ↦
          let parted = c.put_inner.ensures.items b ∙ ap (λ word. word ++ later) (group_opening b tree w.in-Some.ensures.0) in
          rw (w.out-is, w.here-is) (record {
            written =
                beginning_next more (beginning_none nothing) parted
                (levels_then more (writes_levels (w.write_words.ensures.items _ _ (opening_word tree) w.in-Some.ensures.1))
                (levels_raise nothing refl));
            levels = omega (arith, w.in-Some.ensures.0);
            count = c.put_inner.ensures.level;
            need = c.put_inner.ensures.need;
          })
      | in-None w ↦
          let parted = c.put_inner.ensures.items b ∙ ap (λ word. word ++ later) (leaf_opening b tree w.in-None.ensures) in
          rw (w.out-is, w.here-is) (record {
            written = beginning_next more (beginning_none nothing) parted (writes_levels w.write_leaf.ensures);
            levels = omega (arith, w.in-None.ensures);
            count = c.put_inner.ensures.level;
            need = c.put_inner.ensures.need;
          })
    ]
