use Rattle.std.proofs.Common.{◌∷◌, [], false, ap, arith, refl}
use Rattle.std.proofs.lemmas.List.{nil_from_length}
use Rattle.graphql_text.specs.code.Groups.{comma_lead, comma_rest}
use Rattle.graphql_text.specs.layout.Layout.{Word, is_broken}
use Rattle.graphql_text.specs.code.Place.{mode_of}
use Rattle.graphql_text.specs.code.Stack.{stack_entries}
use Rattle.graphql_text.specs.lexical.Tokens.{rbracket, Punctuation}
use Rattle.graphql_text.proofs.code.PendingStackSteps.{goes_on_by_end, goes_on_by_item, need_by_item, pending_need_push}
use Rattle.graphql_values.specs.kinds.Values.{values_nesting, values_shapes, value_shape}
use Rattle.graphql_values.specs.trees.ValueTrees.{value_tree, value_trees}
use Rattle.graphql_values.specs.code.ValueWalk.{entry_nesting}
use Rattle.graphql_values.specs.declared.value.print.ValueEntry.TheVariants.{Items}
use Rattle.graphql_values.proofs.code.ValueWalkSteps.{lead_some, end_some}
use Rattle.graphql_values.proofs.value.print.write_next_item.Goals as goal

pub push-requires : goal.push-requires
push-requires g c =
    omega (
      arith,
      c.requires.goes_on.room,
      pending_need_push entry_nesting (stack_entries c.args.stack.now) (Items c.args.items c.args.is_first),
    )

pub write_opening-requires-clause-room : goal.write_opening-requires-clause-room
write_opening-requires-clause-room g c =
    let nests = ap (λ items. values_nesting (value_trees items)) c.in-Some.ensures.cases.0 in
    let need =
    need_by_item entry_nesting _ (stack_entries c.args.stack.now) (stack_entries c.push.new.self) (Items c.args.items c.args.is_first)
    (Items c.in-Some.rest false) nests c.push.ensures.entries in
    rw c.deref.ensures (omega (arith, need, c.requires.goes_on.room, c.push.ensures.room))

pub returns-in-Some-clause-written : goal.returns-in-Some-clause-written
returns-in-Some-clause-written g c =
    let b = is_broken (mode_of c.args.here.now.prefix) in
    let entries = stack_entries c.args.stack.now in
    let entry = Items c.args.items c.args.is_first in
    let rest = Items c.in-Some.rest false in
    let split = c.in-Some.ensures.cases.0 in
    let nests = ap (λ items. values_nesting (value_trees items)) split in
    let lead = comma_lead c.args.is_first in
    let led = c.write_comma_lead.ensures in
    let parted = ap (λ items. comma_rest rbracket b c.args.is_first (values_shapes b (value_trees items))) split in
    let opened = rw c.deref.ensures at c.write_opening.ensures.opened in
    goes_on_by_item g.met.O.Target.nothing g.met.O.Target.more
    {shape = value_shape b (value_tree c.in-Some.item.now.value)} entry rest entries (stack_entries c.push.new.self)
    (stack_entries c.write_opening.new.stack) lead
    parted (lead_some c.args.is_first) nests c.push.ensures.entries led opened

pub returns-in-None-clause-written : goal.returns-in-None-clause-written
returns-in-None-clause-written g c =
    let b = is_broken (mode_of c.args.here.now.prefix) in
    let none = nil_from_length c.args.items.now c.in-None.ensures.cases in
    goes_on_by_end g.met.O.Target.nothing g.met.O.Target.more (Items c.args.items c.args.is_first) (stack_entries c.args.stack.now) _
    (ap (λ items. comma_rest rbracket b c.args.is_first (values_shapes b (value_trees items))) none) (end_some b rbracket)
    (c.write_closing.ensures.written (Word (Punctuation rbracket) ∷ []) refl) c.write_closing.ensures.level
