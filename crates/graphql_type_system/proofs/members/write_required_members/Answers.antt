use Rattle.std.proofs.Common.{[], ◌∷◌, refl, sym}
use Rattle.std.proofs.lemmas.Bool.{eqb-true}
use Rattle.std.proofs.lemmas.List.{nil_from_length}
use Rattle.graphql_text.specs.layout.Layout.{Space, Word}
use Rattle.graphql_text.specs.lexical.Tokens.{lbrace, rbrace, Punctuation}
use Rattle.graphql_type_system.proofs.members.write_required_members.Goals as goal

pub returns-then-is_empty-clause-written : goal.returns-then-is_empty-clause-written
returns-then-is_empty-clause-written g c =
    rw (nil_from_length c.args.members.now (eqb-true _ _ (sym c.if-is_empty.ensures)))
    (c.write_words.ensures.items _ _ (Space ∷ Word (Punctuation lbrace) ∷ Word (Punctuation rbrace) ∷ []) refl)
