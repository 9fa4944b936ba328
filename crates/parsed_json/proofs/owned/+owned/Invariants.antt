use Rattle.std.proofs.Common.{◌≡◌, drop, map, take}
use Rattle.json.specs.Value.{members_view as parsed_members}
use Rattle.serde_json.specs.Data.{no_members}
use Rattle.serde_json.specs.View.{members_view, view}
use Rattle.parsed_json.specs.ParsedJson.{parsed_data, with_members}
use Rattle.parsed_json.proofs.owned.+owned.Given as goal

abbrev pub invariant-owned_items-loop-item : goal.invariant-owned_items-loop-item
invariant-owned_items-loop-item l = map view l.owned.items ≡ map parsed_data (take l.item-index l.items)

abbrev pub invariant-owned_members-loop-name : goal.invariant-owned_members-loop-name
invariant-owned_members-loop-name l =
    with_members (parsed_members l.members) no_members ≡ with_members (parsed_members (drop l.name-index l.members)) (members_view l.owned.entries)
