use Rattle.std.proofs.Common.{◌∷◌, [], Some, ap, ◌∙◌}
use Rattle.serde_json.specs.Data.{object, put}
use Rattle.serde_json.specs.View.{view}
use Rattle.graphql_ast_json.proofs.nodes.DraftsAreNodes.{IsWritten, one_written}
use Rattle.graphql_ast_json.proofs.write.NodeWriter.with_member.Goals as goal

pub returns : goal.returns
returns c =
    let begun = c.in_ok-begin.ensures in
    let w : IsWritten c.args.kind.now c.args.self.location ((c.args.name.now, Some (view c.args.json)) ∷ []) (view c.into_json.result) = record {
      are = c.into_json.ensures ∙ ap object (c.in_ok-put_json.ensures.ok ∙ ap (put c.args.name.now (view c.args.json)) begun.are);
      reach = begun.reach;
    } in
    let is = one_written c.args.kind.now c.args.self.location c.args.name.now (view c.args.json) (view c.into_json.result) c.requires w in
    record { node = is.node; stands = is.stands; member = is.at }
