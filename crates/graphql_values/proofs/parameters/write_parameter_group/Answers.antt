use Rattle.std.proofs.Common.{◌+◌, [], ◌∷◌, ap, arith, drop, drop_of_length-le, false, refl}
use Rattle.graphql_base.specs.Node.{node_value}
use Rattle.graphql_text.specs.parts.Greatest.{greatest}
use Rattle.graphql_text.specs.code.Groups.{comma_rest}
use Rattle.graphql_text.specs.layout.Layout.{Word, is_broken}
use Rattle.graphql_text.specs.trees.Leaves.{node_trees}
use Rattle.graphql_text.specs.parts.Parentheses.{parentheses_nesting}
use Rattle.graphql_text.specs.code.Place.{mode_of}
use Rattle.graphql_text.specs.lexical.Tokens.{lparen, rparen, Punctuation}
use Rattle.graphql_text.proofs.code.CommaGroupSteps.{comma_ended, comma_next, comma_opened}
use Rattle.graphql_text.proofs.general.SliceRest.{next_item}
use Rattle.graphql_text.proofs.code.WritingSteps.{beginning_stopped}
use Rattle.graphql_values.proofs.layout.ParameterGroups.{parameters_balanced, parameters_nest, parameters_opened, shapes}
use Rattle.graphql_values.proofs.code.DefinitionStacksKept.{stacks_twice, stacks_unused}
use Rattle.graphql_values.proofs.parameters.write_parameter_group.Goals as goal

pub inner-inner-requires : goal.inner-inner-requires
inner-inner-requires g c = omega (arith, c.requires.ready.fits, parameters_nest g.P.SyntaxTree.kind g.P.SyntaxTree.tree c.args.parameters.now c.requires.some)

pub loop-parameter-init : goal.loop-parameter-init
loop-parameter-init g c =
    let broken = is_broken (mode_of c.args.place.now.prefix) in
    let all = shapes g.P.SyntaxTree.kind broken (node_trees g.P.SyntaxTree.tree c.args.parameters.now) in
    let opened = parameters_opened g.P.SyntaxTree.kind g.P.SyntaxTree.tree broken c.args.parameters.now c.requires.some in
    let bracket = c.write_words.ensures.items (mode_of c.args.place.now.prefix) c.args.place.now.level (Word (Punctuation lparen) ∷ []) refl in
    record {
      nesting = omega arith;
      depth = omega arith;
      kept = stacks_unused c.requires.ready;
      written = comma_opened g.met.O.Target.nothing g.met.O.Target.more lparen rparen broken all opened c.inner-inner.ensures.level bracket;
    }

pub returns-then-is_stopped-clause-written : goal.returns-then-is_stopped-clause-written
returns-then-is_stopped-clause-written g c =
    let broken = is_broken (mode_of c.args.place.now.prefix) in
    let balanced =
    parameters_balanced g.P.SyntaxTree.kind broken ((λ parameter. g.P.SyntaxTree.laws.balanced broken false parameter))
    (node_trees g.P.SyntaxTree.tree c.args.parameters.now) in
    beginning_stopped g.met.O.Target.more c.loop-parameter.invariant.written
    (λ x. g.met.O.Target.idle _ x (c.is_stopped.ensures.0 c.if-is_stopped.true)) balanced

pub loop-parameter-preserved : goal.loop-parameter-preserved
loop-parameter-preserved g c =
    let i = c.loop-parameter.invariant in
    let kind = g.P.SyntaxTree.kind in
    let trees = node_trees g.P.SyntaxTree.tree in
    let broken = is_broken (mode_of c.args.place.now.prefix) in
    let step = next_item c.args.parameters.now c.loop-parameter.parameter-index c.parameter-item.result c.loop-parameter-test.true c.parameter-item.is in
    let left = ap (λ parameters. comma_rest rparen broken c.loop-parameter.is_first (shapes kind broken (trees parameters))) step in
    let lead = rw c.inner-inner.ensures.prefix at c.write_comma_lead.ensures in
    let parameter = rw (c.inner-inner.ensures.prefix, c.deref.ensures) at c.write_at.ensures.written in
    let shape = kind.shape broken false (g.P.SyntaxTree.tree (node_value c.parameter-item.result)) in
    let rest = shapes kind broken (trees (drop (c.loop-parameter.parameter-index + 1) c.args.parameters.now)) in
    record {
      nesting = omega (arith, i.nesting, ap (λ parameters. parentheses_nesting kind.nesting (trees parameters)) step);
      depth = omega (arith, i.depth, ap (λ parameters. greatest g.P.SyntaxTree.list_depth (trees parameters)) step);
      kept = stacks_twice i.kept c.write_at.ensures.kept;
      written = comma_next g.met.O.Target.more rparen broken c.loop-parameter.is_first shape rest i.written left lead parameter;
    }

pub returns-clause-written : goal.returns-clause-written
returns-clause-written g c =
    let mode = mode_of c.args.place.now.prefix in
    let broken = is_broken mode in
    let none =
    ap (λ parameters.
    comma_rest rparen broken c.loop-parameter.is_first
    (shapes g.P.SyntaxTree.kind broken (node_trees g.P.SyntaxTree.tree parameters)))
    (drop_of_length-le c.args.parameters.now c.loop-parameter-test.false) in
    let bracket = c.write_words-2.ensures.items mode c.args.place.now.level (Word (Punctuation rparen) ∷ []) refl in
    comma_ended g.met.O.Target.nothing g.met.O.Target.more rparen broken c.loop-parameter.invariant.written none c.inner-inner.ensures.level
    c.write_comma_end.ensures bracket
