use Rattle.std.proofs.Common.{◌∙◌, ◌++◌, ◌∷◌, [], false, ap, sym, arith, refl, append_assoc}
use Rattle.std.proofs.lemmas.List.{nil_from_length}
use Rattle.graphql_base.specs.Name.{name_text}
use Rattle.graphql_text.specs.code.Groups.{comma_lead, comma_rest}
use Rattle.graphql_text.specs.layout.Layout.{Space, Word, is_broken}
use Rattle.graphql_text.specs.code.Place.{mode_of}
use Rattle.graphql_text.specs.code.Stack.{stack_entries}
use Rattle.graphql_text.specs.lexical.Tokens.{colon, rbrace, Punctuation, Name}
use Rattle.graphql_text.proofs.code.PendingStackSteps.{goes_on_by_end, goes_on_by_item, need_by_item, pending_need_push}
use Rattle.graphql_text.proofs.code.WritingSteps.{writes_then}
use Rattle.graphql_values.specs.kinds.Values.{object_fields_nesting, object_fields_shapes, value_shape}
use Rattle.graphql_values.specs.trees.ValueTrees.{value_tree, object_field_trees}
use Rattle.graphql_values.specs.code.ValueWalk.{entry_items, entry_nesting}
use Rattle.graphql_values.specs.declared.value.print.ValueEntry.TheVariants.{Fields}
use Rattle.graphql_values.proofs.code.ValueWalkSteps.{named_some, end_some}
use Rattle.graphql_values.proofs.value.print.write_next_field.Goals as goal

pub push-requires : goal.push-requires
push-requires g c =
    omega (
      arith,
      c.requires.goes_on.room,
      pending_need_push entry_nesting (stack_entries c.args.stack.now) (Fields c.args.fields c.args.is_first),
    )

pub write_opening-requires-clause-room : goal.write_opening-requires-clause-room
write_opening-requires-clause-room g c =
    let nests = ap (λ fields. object_fields_nesting (object_field_trees fields)) c.in-Some.ensures.cases.0 in
    let need =
    need_by_item entry_nesting _ (stack_entries c.args.stack.now) (stack_entries c.push.new.self) (Fields c.args.fields c.args.is_first)
    (Fields c.in-Some.rest false) nests c.push.ensures.entries in
    rw c.deref.ensures (omega (arith, need, c.requires.goes_on.room, c.push.ensures.room))

pub returns-in-Some-clause-written : goal.returns-in-Some-clause-written
returns-in-Some-clause-written g c =
    let more = g.met.O.Target.more in
    let b = is_broken (mode_of c.args.here.now.prefix) in
    let entries = stack_entries c.args.stack.now in
    let entry = Fields c.args.fields c.args.is_first in
    let rest = Fields c.in-Some.rest false in
    let split = c.in-Some.ensures.cases.0 in
    let nests = ap (λ fields. object_fields_nesting (object_field_trees fields)) split in
    let words = Word (Name (name_text c.in-Some.field.now.0)) ∷ Word (Punctuation colon) ∷ Space ∷ [] in
    let lead = comma_lead c.args.is_first ++ words in
    let name = c.write_name_then.ensures (Word (Punctuation colon) ∷ Space ∷ []) refl _ _ in
    let led = writes_then more c.write_comma_lead.ensures name in
    let parted =
    ap (λ fields. comma_rest rbrace b c.args.is_first (object_fields_shapes b (object_field_trees fields))) split
    ∙ sym (append_assoc (comma_lead c.args.is_first) words (value_shape b (value_tree c.in-Some.field.now.1.value) ++ entry_items b rest)) in
    let opened = rw c.deref.ensures at c.write_opening.ensures.opened in
    goes_on_by_item g.met.O.Target.nothing more {shape = value_shape b (value_tree c.in-Some.field.now.1.value)} entry rest entries
    (stack_entries c.push.new.self) (stack_entries c.write_opening.new.stack) lead
    parted (named_some c.args.is_first (name_text c.in-Some.field.now.0)) nests c.push.ensures.entries led opened

pub returns-in-None-clause-written : goal.returns-in-None-clause-written
returns-in-None-clause-written g c =
    let b = is_broken (mode_of c.args.here.now.prefix) in
    let none = nil_from_length c.args.fields.now c.in-None.ensures.cases in
    goes_on_by_end g.met.O.Target.nothing g.met.O.Target.more (Fields c.args.fields c.args.is_first) (stack_entries c.args.stack.now) _
    (ap (λ fields. comma_rest rbrace b c.args.is_first (object_fields_shapes b (object_field_trees fields))) none) (end_some b rbrace)
    (c.write_closing.ensures.written (Word (Punctuation rbrace) ∷ []) refl) c.write_closing.ensures.level
