use Rattle.std.proofs.Common.{◌+◌, [], ◌∷◌, ◌∙◌, None, ap, arith, drop, drop_of_length-le, false, map, refl}
use Rattle.std.proofs.lemmas.List.{nil_from_length}
use Rattle.graphql_text.specs.code.Groups.{comma_rest}
use Rattle.graphql_text.specs.layout.Layout.{Comma, Space, Word}
use Rattle.graphql_text.specs.code.Place.{mode_of}
use Rattle.graphql_text.specs.lexical.Tokens.{lparen, rparen, Punctuation}
use Rattle.graphql_text.proofs.code.CommaGroupOnOneLine.{flat_closed, flat_next, flat_opened}
use Rattle.graphql_text.proofs.general.SliceRest.{next_item}
use Rattle.graphql_text.proofs.code.KeptStacks.{kept_twice}
use Rattle.graphql_text.proofs.code.WritingSteps.{beginning_next, beginning_stopped, writes_flat, writes_levels, writes_nothing}
use Rattle.graphql_values.specs.kinds.Arguments.{argument_items, arguments_nesting}
use Rattle.graphql_values.specs.trees.DirectiveTrees.{argument_tree, argument_trees}
use Rattle.graphql_values.proofs.layout.DirectiveShapes.{group_balanced}
use Rattle.graphql_values.proofs.argument.print.write_arguments.Goals as goal

pub returns-in_default-clause-written : goal.returns-in_default-clause-written
returns-in_default-clause-written g c = rw (nil_from_length c.args.arguments.now c.in_default.ensures.cases) (writes_nothing g.met.O.Target.nothing)

pub loop-argument-init : goal.loop-argument-init
loop-argument-init g c =
    let more = g.met.O.Target.more in
    let all = c.in-Some.ensures.cases.0 in
    let inner = c.inner-inner.ensures.level ∙ ap (λ level. level + 1) c.flat.ensures.level in
    let bracket = c.write_words.ensures.items None c.args.place.now.level (Word (Punctuation lparen) ∷ []) refl in
    let opened =
    flat_opened g.met.O.Target.nothing more lparen rparen (argument_items (argument_tree c.in-Some.first.now.value))
    (map argument_items (argument_trees c.in-Some.rest.now)) inner bracket in
    let first = rw c.deref.ensures at c.write_argument.ensures.written in
    record {
      nesting = omega (arith, ap (λ arguments. arguments_nesting (argument_trees arguments)) all);
      kept = c.write_argument.ensures.kept;
      written = rw all (beginning_next more opened refl (writes_levels first));
    }

pub returns-then-is_stopped-clause-written : goal.returns-then-is_stopped-clause-written
returns-then-is_stopped-clause-written g c =
    let all = c.in-Some.ensures.cases.0 in
    let group =
    beginning_stopped g.met.O.Target.more c.loop-argument.invariant.written
    (λ x. g.met.O.Target.idle _ x (c.is_stopped.ensures.0 c.if-is_stopped.true))
    (group_balanced (argument_trees c.args.arguments.now)) in
    rw all (writes_flat (mode_of c.args.place.now.prefix) (rw all at group))

pub loop-argument-preserved : goal.loop-argument-preserved
loop-argument-preserved g c =
    let i = c.loop-argument.invariant in
    let rest = drop (c.loop-argument.argument-index + 1) c.in-Some.rest.now in
    let step = next_item c.in-Some.rest.now c.loop-argument.argument-index c.argument-item.result c.loop-argument-test.true c.argument-item.is in
    let left = ap (λ arguments. comma_rest rparen false false (map argument_items (argument_trees arguments))) step in
    let comma = c.write_words-in-loop-argument.ensures.items None c.inner-inner.result.level (Comma ∷ Space ∷ []) refl in
    let item = rw c.deref-in-loop-argument.ensures at c.write_argument-in-loop-argument.ensures.written in
    record {
      nesting = omega (arith, i.nesting, ap (λ arguments. arguments_nesting (argument_trees arguments)) step);
      kept = kept_twice i.kept c.write_argument-in-loop-argument.ensures.kept;
      written =
          flat_next g.met.O.Target.nothing g.met.O.Target.more rparen (argument_items (argument_tree c.argument-item.result.value))
          (map argument_items (argument_trees rest)) i.written left comma item;
    }

pub returns-clause-written : goal.returns-clause-written
returns-clause-written g c =
    let all = c.in-Some.ensures.cases.0 in
    let inner = c.inner-inner.ensures.level ∙ ap (λ level. level + 1) c.flat.ensures.level in
    let none =
    ap (λ arguments. comma_rest rparen false false (map argument_items (argument_trees arguments)))
    (drop_of_length-le c.in-Some.rest.now c.loop-argument-test.false) in
    let bracket = c.write_words-2.ensures.items None c.args.place.now.level (Word (Punctuation rparen) ∷ []) refl in
    let group = flat_closed g.met.O.Target.nothing g.met.O.Target.more rparen c.loop-argument.invariant.written none inner bracket in
    rw all (writes_flat (mode_of c.args.place.now.prefix) (rw all at group))
