use Rattle.std.proofs.Common.{◌≡◌, ◌++◌}
use Rattle.serde_json.specs.View.{members_view}
use Rattle.ast_json_nodes.specs.code.JsonNodes.{member_names}
use Rattle.ast_json_nodes.specs.code.NodeReading.{texts_of}
use Rattle.ast_json_nodes.specs.code.ToldErrors.{first_unknown}
use Rattle.ast_json_nodes.specs.nodes.Nodes.{names_among}
use Rattle.ast_json_nodes.proofs.read.unknown_name.Given as goal

abbrev pub invariant-loop-name : goal.invariant-loop-name
invariant-loop-name l =
    let all = texts_of l.names ++ texts_of l.others in
    (names_among all (members_view l.members.entries) ≡ names_among all (members_view l.name-iterator))
    × (first_unknown all (member_names (members_view l.members.entries)) ≡ first_unknown all (member_names (members_view l.name-iterator)))
