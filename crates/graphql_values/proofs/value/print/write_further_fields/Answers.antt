use Rattle.std.proofs.Common.{[], ◌∷◌, ap, arith, false, refl, le_refl}
use Rattle.graphql_text.specs.code.Groups.{comma_rest}
use Rattle.graphql_text.specs.code.Place.{breaks}
use Rattle.graphql_text.specs.layout.Layout.{Space, Word}
use Rattle.graphql_text.specs.lexical.Tokens.{colon, rbrace, Punctuation}
use Rattle.graphql_text.proofs.code.WritingSteps.{beginning_none, beginning_next, writes_levels, writes_then}
use Rattle.graphql_values.specs.kinds.Values.{object_fields_nesting, object_fields_shapes}
use Rattle.graphql_values.specs.trees.ValueTrees.{object_field_trees}
use Rattle.graphql_values.proofs.value.print.write_further_fields.Goals as goal

pub loop-field-init : goal.loop-field-init
loop-field-init g c = record { nesting = le_refl _; written = beginning_none g.met.O.Target.nothing }

pub loop-field-preserved : goal.loop-field-preserved
loop-field-preserved g c =
    let more = g.met.O.Target.more in
    let broken = breaks c.args.here.now in
    let i = c.loop-field.invariant in
    let split = c.in-Some.ensures.cases.0 in
    let name = c.write_name_then.ensures (Word (Punctuation colon) ∷ Space ∷ []) refl _ _ in
    let leaf = rw c.deref-in-Some.ensures at c.write_leaf.ensures in
    let lead =
    beginning_next more i.written
    (ap (λ fields. comma_rest rbrace broken false (object_fields_shapes broken (object_field_trees fields))) split)
    (writes_levels c.write_comma_lead.ensures) in
    record {
      nesting = omega (arith, i.nesting, ap (λ fields. object_fields_nesting (object_field_trees fields)) split);
      written = beginning_next more lead refl (writes_levels (writes_then more name leaf));
    }
