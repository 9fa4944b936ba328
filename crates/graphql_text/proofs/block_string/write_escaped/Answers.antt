use Rattle.std.proofs.Common.{◌∙◌, sym}
use Rattle.std.proofs.lemmas.Bool.{false≢true}
use Rattle.graphql_text.proofs.strings.ThreeQuotesScan.{no_quotes}
use Rattle.graphql_text.proofs.block_string.write_escaped.Goals as goal

pub returns-else-holds_quotes : goal.returns-else-holds_quotes
returns-else-holds_quotes g c =
    rw (no_quotes c.args.text.now (λ k is. false≢true (sym c.if-holds_quotes.false ∙ c.holds_quotes.ensures.1 (k, is)))) c.write_piece.ensures
