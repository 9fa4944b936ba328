use Rattle.std.proofs.Common.{◌∙◌, sym}
use Rattle.std.proofs.lemmas.Bool.{eq-eqb, eqb-true, false≢true}
use Rattle.std.proofs.lemmas.List.{nil_from_length}
use Rattle.graphql_text.specs.layout.Layout.{is_broken}
use Rattle.graphql_text.specs.code.Place.{mode_of}
use Rattle.graphql_text.proofs.code.WritingSteps.{writes_flat, writes_nothing}
use Rattle.graphql_values.proofs.layout.ParameterGroups.{parameters_on_one_line, parameters_over_lines}
use Rattle.graphql_values.proofs.parameters.write_parameters.Goals as goal

pub returns-then-is_empty-clause-written : goal.returns-then-is_empty-clause-written
returns-then-is_empty-clause-written g c =
    λ wants_lines is. rw (nil_from_length c.args.parameters.now (eqb-true _ _ (sym c.if-is_empty.ensures))) (writes_nothing g.met.O.Target.nothing)

pub returns-then-over_lines-clause-written : goal.returns-then-over_lines-clause-written
returns-then-over_lines-clause-written g c =
    λ wants_lines is.
    let p = g.P.SyntaxTree in
    rw (parameters_over_lines p.kind p.tree wants_lines (is_broken (mode_of c.args.place.now.prefix)) c.args.parameters.now
    (sym is ∙ c.if-over_lines.true))
    c.write_parameter_group.ensures.written

pub returns-else-over_lines-clause-written : goal.returns-else-over_lines-clause-written
returns-else-over_lines-clause-written g c =
    λ wants_lines is.
    let p = g.P.SyntaxTree in
    let mode = mode_of c.args.place.now.prefix in
    let shape =
    parameters_on_one_line p.kind p.tree wants_lines (is_broken mode) c.args.parameters.now
    (λ none. false≢true (c.if-is_empty.ensures ∙ eq-eqb _ _ none)) (sym is ∙ c.if-over_lines.false) in
    let group = rw (c.flat.ensures.prefix, c.flat.ensures.level) at c.write_parameter_group-else-over_lines.ensures.written in
    rw shape (writes_flat mode group)
