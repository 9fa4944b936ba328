use Rattle.std.proofs.Common.{◌+◌, [], ◌∷◌, ap, arith, drop, drop_of_length-le, false, map, refl}
use Rattle.graphql_base.specs.Node.{node_value}
use Rattle.graphql_text.specs.parts.Greatest.{greatest}
use Rattle.graphql_text.specs.code.Groups.{curly_rest}
use Rattle.graphql_text.specs.layout.Layout.{Space, Word, is_broken}
use Rattle.graphql_text.specs.trees.Leaves.{node_trees}
use Rattle.graphql_text.specs.parts.Members.{members_nesting, required_members_shape}
use Rattle.graphql_text.specs.code.Place.{mode_of}
use Rattle.graphql_text.specs.lexical.Tokens.{lbrace, rbrace, Punctuation}
use Rattle.graphql_text.proofs.code.CurlyGroupSteps.{curly_closed, curly_next, curly_opened, members_nest, members_opened}
use Rattle.graphql_text.proofs.general.SliceRest.{next_item}
use Rattle.graphql_text.proofs.code.WritingSteps.{beginning_stopped}
use Rattle.graphql_values.proofs.code.DefinitionStacksKept.{stacks_twice, stacks_unused}
use Rattle.graphql_type_system.proofs.MembersBalanced.{members_balanced}
use Rattle.graphql_type_system.proofs.members.write_member_group.Goals as goal

pub inner-inner-requires : goal.inner-inner-requires
inner-inner-requires g c =
    omega (arith, c.requires.ready.fits, members_nest g.M.Member.kind (λ node. g.M.Member.tree (node_value node)) c.args.members.now c.requires.some)

pub loop-member-init : goal.loop-member-init
loop-member-init g c =
    let mode = mode_of c.args.place.now.prefix in
    let broken = is_broken mode in
    let kind = g.M.Member.kind in
    let all = map (kind.shape broken false) (node_trees g.M.Member.tree c.args.members.now) in
    let opened = members_opened kind (λ node. g.M.Member.tree (node_value node)) broken c.args.members.now c.requires.some in
    let bracket = c.write_words.ensures.items mode c.args.place.now.level (Space ∷ Word (Punctuation lbrace) ∷ []) refl in
    record {
      nesting = omega arith;
      depth = omega arith;
      kept = stacks_unused c.requires.ready;
      written = curly_opened g.met.O.Target.nothing g.met.O.Target.more (Space ∷ Word (Punctuation lbrace) ∷ []) all opened c.inner-inner.ensures.level bracket;
    }

pub returns-then-is_stopped-clause-written : goal.returns-then-is_stopped-clause-written
returns-then-is_stopped-clause-written g c =
    let broken = is_broken (mode_of c.args.place.now.prefix) in
    let group = required_members_shape g.M.Member.kind broken (node_trees g.M.Member.tree c.args.members.now) in
    let left = curly_rest (map (g.M.Member.kind.shape broken false) (node_trees g.M.Member.tree (drop c.loop-member.member-index c.args.members.now))) in
    beginning_stopped g.met.O.Target.more {all = group} {rest = left} c.loop-member.invariant.written
    (λ x. g.met.O.Target.idle _ x (c.is_stopped.ensures.0 c.if-is_stopped.true))
    (members_balanced g.M.Member.kind broken (g.M.Member.balanced broken) (node_trees g.M.Member.tree c.args.members.now))

pub loop-member-preserved : goal.loop-member-preserved
loop-member-preserved g c =
    let i = c.loop-member.invariant in
    let kind = g.M.Member.kind in
    let broken = is_broken (mode_of c.args.place.now.prefix) in
    let step = next_item c.args.members.now c.loop-member.member-index c.member-item.result c.loop-member-test.true c.member-item.is in
    let left = ap (λ members. curly_rest (map (kind.shape broken false) (node_trees g.M.Member.tree members))) step in
    let soft = rw c.inner-inner.ensures.prefix at c.write_soft.ensures in
    let member = rw (c.inner-inner.ensures.prefix, c.deref.ensures) at c.write_member.ensures.written in
    let shape = kind.shape broken false (g.M.Member.tree (node_value c.member-item.result)) in
    let rest = map (kind.shape broken false) (node_trees g.M.Member.tree (drop (c.loop-member.member-index + 1) c.args.members.now)) in
    record {
      nesting = omega (arith, i.nesting, ap (λ members. members_nesting kind (node_trees g.M.Member.tree members)) step);
      depth = omega (arith, i.depth, ap (λ members. greatest g.M.Member.list_depth (node_trees g.M.Member.tree members)) step);
      kept = stacks_twice i.kept c.write_member.ensures.kept;
      written = curly_next g.met.O.Target.more shape rest i.written left soft member;
    }

pub returns-clause-written : goal.returns-clause-written
returns-clause-written g c =
    let mode = mode_of c.args.place.now.prefix in
    let broken = is_broken mode in
    let none =
    ap (λ members. curly_rest (map (g.M.Member.kind.shape broken false) (node_trees g.M.Member.tree members)))
    (drop_of_length-le c.args.members.now c.loop-member-test.false) in
    let bracket = c.write_words-2.ensures.items mode c.args.place.now.level (Word (Punctuation rbrace) ∷ []) refl in
    curly_closed g.met.O.Target.nothing g.met.O.Target.more c.loop-member.invariant.written none c.inner-inner.ensures.level c.write_soft-2.ensures bracket
