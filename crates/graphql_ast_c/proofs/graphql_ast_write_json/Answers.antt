use Rattle.std.proofs.Common.{subst, sym}
use Rattle.graphql_ast_json.specs.kinds.DocumentJson.{IsDocument}
use Rattle.graphql_ast_calls.specs.Answers.{WriteAnswer, reading}
use Rattle.graphql_ast_calls.specs.declared.status.Status.{Status}
use Rattle.graphql_ast_c.proofs.graphql_ast_write_json.Goals as goal

pub returns : goal.returns
returns c =
    subst (λ (status : Status). WriteAnswer IsDocument (reading c.args.pass_over) c.args.json.now c.args.out.now c.write_json.new.out
    c.write_json.new.needed status) (sym c.code.ensures.back) c.write_json.ensures
