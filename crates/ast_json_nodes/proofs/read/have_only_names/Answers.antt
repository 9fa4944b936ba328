use Rattle.std.proofs.Common.{ℕ, ◌+◌, ◌++◌, ◌&&◌, List, drop, sym, ap, ◌∙◌}
use Rattle.std.proofs.lemmas.List.{drop_all}
use Rattle.std.specs.Borrow.{Bor}
use Rattle.std.specs.declared.alloc.Global.{Global}
use Rattle.json.specs.Value.{members_view as parsed_members}
use Rattle.json.specs.declared.value.Value.{Value}
use Rattle.ast_json_nodes.specs.code.NodeReading.{texts_of}
use Rattle.ast_json_nodes.proofs.nodes.NodeLists.{drop_next}
use Rattle.ast_json_nodes.proofs.nodes.ParsedNames.{names_of_members, only_names}
use Rattle.ast_json_nodes.proofs.read.have_only_names.Goals as goal

pub returns-then-not-is_one_of_either : goal.returns-then-not-is_one_of_either
returns-then-not-is_one_of_either c =
    let all = texts_of c.args.names.now ++ texts_of c.args.others.now in
    let members = c.args.members.now in
    let i = c.loop-name.name-index in
    let rest = only_names all (parsed_members (drop (i + 1) members)) in
    sym (names_of_members all (parsed_members members) ∙ c.loop-name.invariant
    ∙ ap (λ (ms : List (Bor (List ℕ) × Value Global)). only_names all (parsed_members ms))
    (drop_next members i c.loop-name-item.result c.loop-name-test.true c.loop-name-item.is)
    ∙ ap (λ b. b && rest) (sym c.if-not-is_one_of_either.ensures))

pub returns : goal.returns
returns c =
    let all = texts_of c.args.names.now ++ texts_of c.args.others.now in
    let members = c.args.members.now in
    sym (names_of_members all (parsed_members members) ∙ c.loop-name.invariant
    ∙ ap (λ (ms : List (Bor (List ℕ) × Value Global)). only_names all (parsed_members ms)) (drop_all c.loop-name.name-index members c.loop-name-test.false))
