use Rattle.std.proofs.Common.{◌+◌, [], ◌∷◌, ap, drop, drop_of_length-le, false, refl}
use Rattle.std.proofs.lemmas.List.{nil_from_length}
use Rattle.graphql_text.specs.layout.Layout.{Blank, Finish, is_broken, is_front}
use Rattle.graphql_text.specs.code.Place.{mode_of}
use Rattle.graphql_text.proofs.general.SliceRest.{next_item}
use Rattle.graphql_text.proofs.code.WritingSteps.{beginning_all, beginning_next, beginning_none, beginning_stopped, writes_levels, writes_nothing, writes_then}
use Rattle.graphql_ast.specs.AstTrees.{definition_tree, definition_trees}
use Rattle.graphql_ast.specs.Definitions.{definition_kind}
use Rattle.graphql_ast.specs.Documents.{document_shape, more_definitions_shape}
use Rattle.graphql_ast.proofs.DocumentShapes.{can_write_again, can_write_first, can_write_more}
use Rattle.graphql_ast.specs.lemmas.Documents.{document_laws}
use Rattle.graphql_ast.proofs.document.print.write_definitions.Goals as goal

pub returns-in_default : goal.returns-in_default
unfolding document_shape
returns-in_default g c = rw (nil_from_length c.args.definitions.now c.in_default.ensures.cases) (writes_nothing g.met.O.Target.nothing)

pub write_first_definition-requires : goal.write_first_definition-requires
write_first_definition-requires g c =
    can_write_first (definition_tree c.in-Some.first.now) (definition_trees c.in-Some.rest.now) (rw c.in-Some.ensures.cases.0 at c.requires)

pub loop-definition-init : goal.loop-definition-init
unfolding document_shape
loop-definition-init g c =
    let mode = mode_of c.args.place.now.prefix in
    let front = is_front mode c.args.place.now.level in
    let shape = definition_kind.shape (is_broken mode) front (definition_tree c.in-Some.first.now) in
    let all = ap (λ definitions. document_shape (is_broken mode) front (definition_trees definitions)) c.in-Some.ensures.cases.0 in
    record {
      ready =
          can_write_again c.write_first_definition.ensures.kept
          (can_write_more (definition_tree c.in-Some.first.now) (definition_trees c.in-Some.rest.now)
          (rw c.in-Some.ensures.cases.0 at c.requires));
      written =
          beginning_next g.met.O.Target.more (beginning_none g.met.O.Target.nothing) all
          (writes_levels {xs = shape} c.write_first_definition.ensures.written);
    }

pub returns-then-is_stopped : goal.returns-then-is_stopped
returns-then-is_stopped g c =
    let mode = mode_of c.args.place.now.prefix in
    let definitions = definition_trees c.args.definitions.now in
    let all = document_shape (is_broken mode) (is_front mode c.args.place.now.level) definitions in
    beginning_stopped g.met.O.Target.more {all = all} c.loop-definition.invariant.written
    (λ x. g.met.O.Target.idle _ x (c.is_stopped.ensures.0 c.if-is_stopped.true))
    (document_laws.balanced (is_broken mode) (is_front mode c.args.place.now.level) definitions)

pub write_definition-requires : goal.write_definition-requires
write_definition-requires g c =
    let definitions = c.in-Some.rest.now in
    let step = next_item definitions c.loop-definition.definition-index c.definition-item.result c.loop-definition-test.true c.definition-item.is in
    can_write_first (definition_tree c.definition-item.result)
    (definition_trees (drop (c.loop-definition.definition-index + 1) definitions)) (rw step at c.loop-definition.invariant.ready)

pub loop-definition-preserved : goal.loop-definition-preserved
unfolding more_definitions_shape
loop-definition-preserved g c =
    let definitions = c.in-Some.rest.now in
    let broken = is_broken (mode_of c.args.place.now.prefix) in
    let step = next_item definitions c.loop-definition.definition-index c.definition-item.result c.loop-definition-test.true c.definition-item.is in
    let left = ap (λ more. more_definitions_shape broken (definition_trees more)) step in
    let rest = definition_trees (drop (c.loop-definition.definition-index + 1) definitions) in
    let shape = definition_kind.shape broken false (definition_tree c.definition-item.result) in
    record {
      ready =
          can_write_again c.write_definition.ensures.kept
          (can_write_more (definition_tree c.definition-item.result) rest (rw step at c.loop-definition.invariant.ready));
      written =
          beginning_next g.met.O.Target.more c.loop-definition.invariant.written left
          (writes_levels {xs = Blank ∷ shape} (writes_then g.met.O.Target.more {xs = Blank ∷ []}
          {ys = shape} c.write_blank.ensures c.write_definition.ensures.written));
    }

pub returns : goal.returns
unfolding more_definitions_shape
returns g c =
    let broken = is_broken (mode_of c.args.place.now.prefix) in
    let none = ap (λ more. more_definitions_shape broken (definition_trees more)) (drop_of_length-le c.in-Some.rest.now c.loop-definition-test.false) in
    beginning_all (beginning_next g.met.O.Target.more {rest' = []} c.loop-definition.invariant.written none
    (writes_levels {xs = Finish ∷ []} c.write_finish.ensures)) refl refl
