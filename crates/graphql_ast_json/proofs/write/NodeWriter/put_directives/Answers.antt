use Rattle.std.proofs.Common.{sym}
use Rattle.graphql_ast_json.proofs.general.OkValues.{one_then}
use Rattle.graphql_ast_json.proofs.write.NodeWriter.put_directives.Goals as goal

pub returns : goal.returns
returns c =
    one_then c.put_list.result c.put_list.ensures (λ _ one. record {
      json = one.json;
      made = one.made;
      there = one.there;
      is = λ unknown. rw (sym c.as_slice.ensures.value) (one.is unknown);
    })
