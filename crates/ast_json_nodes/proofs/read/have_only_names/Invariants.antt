use Rattle.std.proofs.Common.{◌≡◌, ◌++◌, drop}
use Rattle.json.specs.Value.{members_view as parsed_members}
use Rattle.ast_json_nodes.specs.code.NodeReading.{texts_of}
use Rattle.ast_json_nodes.proofs.nodes.ParsedNames.{only_names}
use Rattle.ast_json_nodes.proofs.read.have_only_names.Given as goal

abbrev pub invariant-loop-name : goal.invariant-loop-name
invariant-loop-name l =
    only_names (texts_of l.names ++ texts_of l.others) (parsed_members l.members)
    ≡ only_names (texts_of l.names ++ texts_of l.others) (parsed_members (drop l.name-index l.members))
