use Rattle.std.proofs.Common.{subst, sym}
use Rattle.graphql_ast.specs.Documents.{document_kind}
use Rattle.graphql_ast_json.specs.kinds.DocumentJson.{IsDocument}
use Rattle.graphql_ast_calls.specs.Answers.{CheckAnswer, reading}
use Rattle.graphql_ast_calls.specs.declared.status.Status.{Status}
use Rattle.graphql_ast_c.proofs.graphql_ast_check_json.Goals as goal

pub returns : goal.returns
returns c =
    subst (λ (status : Status). CheckAnswer document_kind (IsDocument (reading c.args.pass_over)) c.args.json.now c.args.out.now c.check_json.new.out
    c.check_json.new.needed status) (sym c.code.ensures.back) c.check_json.ensures
