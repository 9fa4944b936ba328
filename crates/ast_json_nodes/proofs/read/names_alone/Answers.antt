use Rattle.std.proofs.Common.{ℕ, ◌+◌, List, drop, sym, ap, ◌∙◌}
use Rattle.std.proofs.lemmas.List.{drop_all}
use Rattle.std.specs.Borrow.{Bor}
use Rattle.std.specs.declared.alloc.Global.{Global}
use Rattle.json.specs.Value.{members_view as parsed_members}
use Rattle.json.specs.declared.value.Value.{Value}
use Rattle.serde_json.specs.Data.{no_members}
use Rattle.serde_json.specs.View.{members_view}
use Rattle.ast_json_nodes.specs.code.JsonNodes.{member_names}
use Rattle.ast_json_nodes.proofs.nodes.NodeLists.{drop_next}
use Rattle.ast_json_nodes.proofs.nodes.MemberNames.{names_put, names_with, put_names}
use Rattle.ast_json_nodes.proofs.read.names_alone.Goals as goal

pub loop-name-preserved : goal.loop-name-preserved
loop-name-preserved c =
    let members = c.args.members.now in
    let i = c.loop-name.name-index in
    let before = members_view c.loop-name.names.entries in
    c.loop-name.invariant
    ∙ ap (λ (ms : List (Bor (List ℕ) × Value Global)). put_names (parsed_members ms) (member_names before))
    (drop_next members i c.loop-name-item.result c.loop-name-test.true c.loop-name-item.is)
    ∙ ap (λ names. put_names (parsed_members (drop (i + 1) members)) names)
    (sym (ap member_names c.in_ok-put.ensures.ok ∙ names_put c.loop-name-item.result.0.now _ before))

pub returns : goal.returns
returns c =
    let members = c.args.members.now in
    sym (names_with (parsed_members members) no_members ∙ c.loop-name.invariant
    ∙ ap (λ (ms : List (Bor (List ℕ) × Value Global)). put_names (parsed_members ms) (member_names (members_view c.loop-name.names.entries)))
    (drop_all c.loop-name.name-index members c.loop-name-test.false))
