use Rattle.std.proofs.Common.{refl, subst, sym}
use Rattle.graphql_text.proofs.grammar.FormParsers.{one_reading}
use Rattle.graphql_text.proofs.parts.Parts.{part_one_way}
use Rattle.graphql_text.proofs.kinds.PrintedKinds.{read_as_displayed, same_kind}
use Rattle.graphql_text.proofs.parts.ToldShapes.{told_derives}
use Rattle.graphql_ast.specs.AstTrees.{definition_tree, document_tree}
use Rattle.graphql_ast.specs.Definitions.{definition_kind}
use Rattle.graphql_ast.specs.Documents.{document_kind}
use Rattle.graphql_ast.specs.contracts.definition.DefinitionHash.TheImpl.Laws as definition
use Rattle.graphql_ast.specs.contracts.document.DocumentHash.TheImpl.Laws as document
use Rattle.graphql_ast.specs.lemmas.Definitions.{definition_laws, definition_part, first_definition_told, first_definition_written}
use Rattle.graphql_ast.specs.lemmas.Documents.{document_is_read, document_laws, document_spelt, document_written}
use Rattle.graphql_ast.proofs.AstEquality.{definitions_decide, documents_decide}
use Rattle.graphql_ast.proofs.laws.thirty_kinds.thirty_kinds_are_read_back.Goals as goal

pub returns-clause-definitions : goal.returns-clause-definitions
returns-clause-definitions c = record {
  is = same_kind definition_tree;
  stacked = λ definition. refl;
  laws = definition_laws;
  displayed = read_as_displayed definition_tree definition_laws;
  one_way = part_one_way definition_part;
  derives = λ front broken tree holds rest stops.
      told_derives (definition_kind.form tree) rest (first_definition_told broken front tree) (first_definition_written front tree holds rest stops);
  compared = definitions_decide;
  hashed = definition.respects_eq-law;
}

pub returns-clause-documents : goal.returns-clause-documents
returns-clause-documents c = record {
  is = same_kind document_tree;
  stacked = λ document. refl;
  laws = document_laws;
  displayed = read_as_displayed document_tree document_laws;
  one_way = λ tree other tokens rest rest' d e stops stops'. one_reading (document_is_read _ tree) (document_is_read _ other) d e stops stops';
  derives = λ front broken tree holds rest stops.
      let spelt = document_spelt broken front tree in
      subst (λ tokens. document_kind.form tree tokens rest) (sym (spelt.lists rest)) (document_written front tree holds rest stops);
  compared = documents_decide;
  hashed = document.respects_eq-law;
}
