use Rattle.std.proofs.Common.{[], ◌∷◌, ap, refl}
use Rattle.graphql_text.specs.code.Groups.{comma_rest}
use Rattle.graphql_text.specs.code.Place.{breaks}
use Rattle.graphql_text.specs.layout.Layout.{Space, Word}
use Rattle.graphql_text.specs.lexical.Tokens.{colon, rbrace, Punctuation}
use Rattle.graphql_text.proofs.code.WritingSteps.{beginning_none, beginning_next, writes_levels, writes_then}
use Rattle.graphql_values.specs.kinds.Values.{object_fields_shapes}
use Rattle.graphql_values.specs.trees.ValueTrees.{object_field_trees}
use Rattle.graphql_values.proofs.value.print.write_first_field.Goals as goal

pub returns-in-Some-clause-written : goal.returns-in-Some-clause-written
returns-in-Some-clause-written g c =
    let more = g.met.O.Target.more in
    let broken = breaks c.args.here.now in
    let name = c.write_name_then.ensures (Word (Punctuation colon) ∷ Space ∷ []) refl _ _ in
    let leaf = rw c.deref-in-Some.ensures at c.write_leaf.ensures in
    let lead =
    beginning_next more (beginning_none g.met.O.Target.nothing)
    (ap (λ fields. comma_rest rbrace broken c.args.is_first (object_fields_shapes broken (object_field_trees fields))) c.in-Some.ensures.cases.0)
    (writes_levels c.write_comma_lead.ensures) in
    beginning_next more lead refl (writes_levels (writes_then more name leaf))

pub returns-then-not-is_first-clause-written : goal.returns-then-not-is_first-clause-written
returns-then-not-is_first-clause-written g c = rw c.if-not-is_first.true (beginning_none g.met.O.Target.nothing)
