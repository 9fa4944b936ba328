use Rattle.std.proofs.Common.{ap₂}
use Rattle.graphql_rewrite.proofs.SourcesCloned.{mapped_alike}
use Rattle.graphql_rewrite.proofs.documents.with_definitions.Goals as goal

pub returns-clause-sources : goal.returns-clause-sources
returns-clause-sources c =
    mapped_alike _ _ (λ p q same. ap₂ (λ id texts. (id, texts)) same.0 (ap₂ (λ path text. (path, text)) same.1.0 same.1.1))
    c.args.document.now.sources.entries c.in_ok-clone.field-0.entries c.in_ok-clone.ensures.cases
