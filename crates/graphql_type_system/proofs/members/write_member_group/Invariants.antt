use Rattle.std.proofs.Common.{◌≤◌, drop, map, false}
use Rattle.graphql_text.specs.parts.Greatest.{greatest}
use Rattle.graphql_text.specs.code.Groups.{curly_rest}
use Rattle.graphql_text.specs.layout.Layout.{is_broken}
use Rattle.graphql_text.specs.trees.Leaves.{node_trees}
use Rattle.graphql_text.specs.parts.Members.{members_nesting, required_members_shape}
use Rattle.graphql_text.specs.code.Place.{mode_of}
use Rattle.graphql_text.specs.code.Writing.{WritesBeginning}
use Rattle.graphql_values.specs.code.Stacks.{AreKept}
use Rattle.graphql_type_system.proofs.members.write_member_group.Given as goal

abbrev pub invariant-loop-member : goal.invariant-loop-member
invariant-loop-member g l =
    let mode = mode_of l.place.prefix in
    let kind = g.M.Member.kind in
    let all = node_trees g.M.Member.tree l.members in
    let rest = node_trees g.M.Member.tree (drop l.member-index l.members) in
    record {
      nesting : members_nesting kind rest ≤ members_nesting kind all;
      depth : greatest g.M.Member.list_depth rest ≤ greatest g.M.Member.list_depth all;
      kept : AreKept l.fn.stacks l.stacks;
      written : WritesBeginning g.O.Target.wrote l.fn.out l.out mode l.place.level
          (required_members_shape kind (is_broken mode) all) l.inner.level (curly_rest (map (kind.shape (is_broken mode) false) rest));
    }
