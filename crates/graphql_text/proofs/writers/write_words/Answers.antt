use Rattle.graphql_text.proofs.code.FixedText.{writes_fixed}
use Rattle.graphql_text.proofs.writers.write_words.Goals as goal

pub returns-clause-items : goal.returns-clause-items
returns-clause-items g c = λ mode level items is. writes_fixed mode level items is c.text.ensures
