use Rattle.std.proofs.Common.{◌≡◌, [], drop}
use Rattle.json.specs.Value.{members_view as parsed_members}
use Rattle.serde_json.specs.View.{members_view}
use Rattle.ast_json_nodes.specs.code.JsonNodes.{member_names}
use Rattle.ast_json_nodes.proofs.nodes.MemberNames.{put_names}
use Rattle.ast_json_nodes.proofs.read.names_alone.Given as goal

abbrev pub invariant-loop-name : goal.invariant-loop-name
invariant-loop-name l =
    put_names (parsed_members l.members) [] ≡ put_names (parsed_members (drop l.name-index l.members)) (member_names (members_view l.names.entries))
