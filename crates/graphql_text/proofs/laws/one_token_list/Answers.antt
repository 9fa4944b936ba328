use Rattle.std.proofs.Common.{List, ℕ, subst}
use Rattle.std.proofs.lemmas.Str.{encodes_same}
use Rattle.graphql_text.specs.lexical.Tokens.{Lexes}
use Rattle.graphql_text.proofs.reader.ReaderComplete.{one_list}
use Rattle.graphql_text.proofs.laws.one_token_list.Goals as goal

pub returns-clause-texts : goal.returns-clause-texts
returns-clause-texts c = one_list

pub returns-clause-bytes : goal.returns-clause-bytes
returns-clause-bytes c =
    λ a b xs ys same p q. one_list b xs ys (subst (λ (text : List ℕ). Lexes text xs) (encodes_same a b same) p) q
