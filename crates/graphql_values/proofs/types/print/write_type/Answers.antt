use Rattle.std.proofs.Common.{◌∷◌, [], refl, ap, ◌∙◌, arith}
use Rattle.graphql_text.specs.layout.Layout.{Word}
use Rattle.graphql_text.specs.lexical.Tokens.{bang, lbracket, Punctuation}
use Rattle.graphql_text.specs.code.Stack.{stack_entries}
use Rattle.graphql_text.proofs.code.WritingSteps.{writes_then}
use Rattle.graphql_values.specs.kinds.TypeReferences.{type_shape}
use Rattle.graphql_values.specs.trees.TypeTrees.{type_tree}
use Rattle.graphql_values.proofs.layout.TypeShapes.{named_shape, non_null_named_shape, list_opened, non_null_list_opened, rest_balanced}
use Rattle.graphql_values.proofs.types.print.write_type.Goals as goal
use Rattle.graphql_values.proofs.types.print.write_type.Goals.{in-Named, in-NonNullNamed}

pub returns-then-is_stopped-clause-written : goal.returns-then-is_stopped-clause-written
returns-then-is_stopped-clause-written g c = λ mode level.
    let balanced = rest_balanced (type_tree c.loop-inner.inner.now) (stack_entries c.loop-inner.stack) in
    c.loop-inner.invariant.written c.loop-inner.out mode level
    (record { text = g.met.O.Target.idle _ _ (c.is_stopped.ensures.0 c.if-is_stopped.true); balanced = balanced })

pub loop-inner-preserved-in-List : goal.loop-inner-preserved-in-List
loop-inner-preserved-in-List g c =
    let opened = list_opened c.in-List.item c.in-List.is c.deref-inner.ensures c.push.ensures.entries in
    record {
      need = omega (arith, opened.need, c.loop-inner.invariant.need, c.push.ensures.room);
      room = omega (arith, c.loop-inner.invariant.room, c.push.ensures.room);
      written = λ after mode level rest.
          c.loop-inner.invariant.written after mode level
          (rw opened.left (writes_then g.met.O.Target.more
          (c.write_words.ensures.items mode level (Word (Punctuation lbracket) ∷ []) refl) rest));
    }

pub loop-inner-preserved : goal.loop-inner-preserved
loop-inner-preserved g c =
    let opened = non_null_list_opened c.in-NonNullList.item c.in-NonNullList.is c.deref-inner-in-NonNullList.ensures c.push-in-NonNullList.ensures.entries in
    record {
      need = omega (arith, opened.need, c.loop-inner.invariant.need, c.push-in-NonNullList.ensures.room);
      room = omega (arith, c.loop-inner.invariant.room, c.push-in-NonNullList.ensures.room);
      written = λ after mode level rest.
          c.loop-inner.invariant.written after mode level
          (rw opened.left (writes_then g.met.O.Target.more
          (c.write_words-in-NonNullList.ensures.items mode level (Word (Punctuation lbracket) ∷ []) refl) rest));
    }

pub returns-clause-written : goal.returns-clause-written
returns-clause-written g c = λ mode level.
    let ends = c.write_ends.ensures.written mode level in
    c.loop-inner.invariant.written c.write_ends.new.out mode level
    (elim c.match-inner.branch [
      | in-Named w ↦
          let shape = ap (λ ty. type_shape (type_tree ty)) w.in-Named.is ∙ named_shape w.in-Named.name in
          let name = w.write_name.ensures mode level in
          rw shape (writes_then g.met.O.Target.more name (rw (← w.out-is) ends))
      | in-NonNullNamed w ↦
          let shape = ap (λ ty. type_shape (type_tree ty)) w.in-NonNullNamed.is ∙ non_null_named_shape w.in-NonNullNamed.name in
          let name = w.write_name_then.ensures (Word (Punctuation bang) ∷ []) refl mode level in
          rw shape (writes_then g.met.O.Target.more name (rw (← w.out-is) ends))
    ])
