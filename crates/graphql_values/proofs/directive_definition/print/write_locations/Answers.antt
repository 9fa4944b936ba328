use Rattle.std.proofs.Common.{◌+◌, [], ◌∷◌, ◌∙◌, Some, ap, codes, drop, drop_of_length-le, get_or, map, refl, sym}
use Rattle.std.proofs.lemmas.List.{drop_more, nil_from_length}
use Rattle.graphql_text.specs.layout.Layout.{Space, Word, each_after}
use Rattle.graphql_text.specs.lexical.Tokens.{bar, Punctuation, Name}
use Rattle.graphql_text.proofs.code.WritingSteps.{beginning_all, beginning_next, beginning_none, beginning_stopped, writes_levels, writes_nothing, writes_then}
use Rattle.graphql_values.specs.kinds.DirectiveDefinitions.{directive_locations_shape}
use Rattle.graphql_values.specs.kinds.DirectiveLocations.{location_name}
use Rattle.graphql_values.specs.trees.LocationTrees.{location_tree}
use Rattle.graphql_values.specs.declared.directive_location.DirectiveLocation.TheVariants.{Query}
use Rattle.graphql_values.proofs.layout.LocationShapes.{further_locations, location_fixed, locations_balanced, locations_next, locations_opened}
use Rattle.graphql_values.proofs.directive_definition.print.write_locations.Goals as goal

pub returns-in_default : goal.returns-in_default
unfolding each_after
returns-in_default g c = λ mode level.
    rw (nil_from_length c.args.locations.now c.in_default.ensures.cases) (writes_nothing g.met.O.Target.nothing)

pub loop-location-init : goal.loop-location-init
loop-location-init g c = λ mode level.
    let first = location_tree c.in-Some.first.now in
    let all =
    ap (λ locations. directive_locations_shape (map location_tree locations)) c.in-Some.ensures.cases.0
    ∙ locations_opened first (map location_tree c.in-Some.rest.now) in
    let on = c.write_words.ensures.items mode level (Space ∷ Word (Name (codes "on")) ∷ Space ∷ []) refl in
    let name = c.write_words-2.ensures.items mode level (Word (Name (location_name first)) ∷ []) (location_fixed first ∙ ap Some (sym c.name.ensures)) in
    beginning_next g.met.O.Target.more (beginning_none g.met.O.Target.nothing) all (writes_levels (writes_then g.met.O.Target.more on name))

pub returns-then-is_stopped : goal.returns-then-is_stopped
returns-then-is_stopped g c = λ mode level.
    beginning_stopped g.met.O.Target.more (c.loop-location.invariant mode level)
    (λ x. g.met.O.Target.idle _ x (c.is_stopped.ensures.0 c.if-is_stopped.true))
    (locations_balanced (map location_tree c.args.locations.now))

pub loop-location-preserved : goal.loop-location-preserved
loop-location-preserved g c = λ mode level.
    let item = get_or c.in-Some.rest.now c.loop-location.location-index Query in
    let location = location_tree item in
    let step = drop_more c.in-Some.rest.now c.loop-location.location-index Query c.loop-location-test.true in
    let left =
    ap (λ locations. further_locations (map location_tree locations)) step
    ∙ locations_next location (map location_tree (drop (c.loop-location.location-index + 1) c.in-Some.rest.now)) in
    let between = c.write_words-in-loop-location.ensures.items mode level (Space ∷ Word (Punctuation bar) ∷ Space ∷ []) refl in
    let name =
    c.write_words-in-loop-location-2.ensures.items mode level (Word (Name (location_name location)) ∷ [])
    (location_fixed location ∙ ap Some (sym c.name-in-loop-location.ensures)) in
    beginning_next g.met.O.Target.more (c.loop-location.invariant mode level) left (writes_levels (writes_then g.met.O.Target.more between name))

pub returns : goal.returns
unfolding each_after
returns g c = λ mode level.
    let none = ap (λ locations. further_locations (map location_tree locations)) (drop_of_length-le c.in-Some.rest.now c.loop-location-test.false) in
    beginning_all (c.loop-location.invariant mode level) none refl
