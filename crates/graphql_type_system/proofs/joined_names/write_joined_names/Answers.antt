use Rattle.std.proofs.Common.{◌+◌, [], ◌∷◌, ◌∙◌, ap, drop, drop_of_length-le, refl}
use Rattle.std.proofs.lemmas.List.{nil_from_length}
use Rattle.graphql_text.specs.parts.JoinedNames.{joined_names_shape}
use Rattle.graphql_text.specs.layout.Layout.{Space, Word, each_after}
use Rattle.graphql_text.specs.trees.Leaves.{name_tree}
use Rattle.graphql_text.specs.lexical.Literals.{NameText}
use Rattle.graphql_text.specs.lexical.Tokens.{Punctuation}
use Rattle.graphql_text.proofs.code.JoinedNamesSteps.{further_names, joined_names_balanced, joined_names_next, joined_names_opened}
use Rattle.graphql_text.proofs.general.SliceRest.{next_item}
use Rattle.graphql_text.proofs.code.WritingSteps.{beginning_all, beginning_next, beginning_none, beginning_stopped, writes_levels, writes_nothing, writes_then}
use Rattle.graphql_text.specs.trees.Leaves.{name_trees}
use Rattle.graphql_type_system.proofs.joined_names.write_joined_names.Goals as goal

pub returns-in_default : goal.returns-in_default
unfolding each_after
returns-in_default g c = λ word mark opens separates mode level.
    rw (nil_from_length c.args.names.now c.in_default.ensures.cases) (writes_nothing g.met.O.Target.nothing)

pub loop-name-init : goal.loop-name-init
loop-name-init g c = λ word mark opens separates mode level.
    let first = name_tree c.in-Some.first.now in
    let all = ap (λ names. joined_names_shape word mark (λ (name : NameText). name.text) (name_trees names)) c.in-Some.ensures.cases.0
    ∙ joined_names_opened mark (λ (name : NameText). name.text) word first (name_trees c.in-Some.rest.now) in
    let opening = c.write_words.ensures.items mode level (Space ∷ Word word ∷ Space ∷ []) opens in
    beginning_next g.met.O.Target.more (beginning_none g.met.O.Target.nothing) all
    (writes_levels (writes_then g.met.O.Target.more opening (c.write_name.ensures mode level)))

pub returns-then-is_stopped : goal.returns-then-is_stopped
returns-then-is_stopped g c = λ word mark opens separates mode level.
    beginning_stopped g.met.O.Target.more (c.loop-name.invariant word mark opens separates mode level)
    (λ x. g.met.O.Target.idle _ x (c.is_stopped.ensures.0 c.if-is_stopped.true))
    (joined_names_balanced mark (λ (name : NameText). name.text) word (name_trees c.args.names.now))

pub loop-name-preserved : goal.loop-name-preserved
loop-name-preserved g c = λ word mark opens separates mode level.
    let names = c.in-Some.rest.now in
    let step = next_item names c.loop-name.name-index c.name-item.result c.loop-name-test.true c.name-item.is in
    let left = ap (λ names. further_names mark (λ (name : NameText). name.text) (name_trees names)) step
    ∙ joined_names_next mark (λ (name : NameText). name.text) (name_tree c.name-item.result) (name_trees (drop (c.loop-name.name-index + 1) names)) in
    let between = c.write_words-in-loop-name.ensures.items mode level (Space ∷ Word (Punctuation mark) ∷ Space ∷ []) separates in
    beginning_next g.met.O.Target.more (c.loop-name.invariant word mark opens separates mode level) left
    (writes_levels (writes_then g.met.O.Target.more between (c.write_name-in-loop-name.ensures mode level)))

pub returns : goal.returns
unfolding each_after
returns g c = λ word mark opens separates mode level.
    let none =
    ap (λ names. further_names mark (λ (name : NameText). name.text) (name_trees names))
    (drop_of_length-le c.in-Some.rest.now c.loop-name-test.false) in
    beginning_all (c.loop-name.invariant word mark opens separates mode level) none refl
