use Rattle.std.proofs.Common.{refl, inl, inr}
use Rattle.graphql_text.specs.lexical.Characters.{is_ignored}
use Rattle.graphql_text.specs.lexical.Tokens.{Punctuation, punctuator_text, Name, IntValue, FloatValue, StringValue}
use Rattle.graphql_text.proofs.lexical.CharacterClasses.{list_all_each}
use Rattle.graphql_text.proofs.lexical.LexesAppend.{token_before, ignored_before, before-append}
use Rattle.graphql_text.proofs.lexical.FollowingCharacters.{lexes-line}
use Rattle.graphql_text.proofs.laws.tokens_side_by_side.Goals as goal

pub returns-clause-punctuators : goal.returns-clause-punctuators
returns-clause-punctuators c =
    λ mark after. token_before (Punctuation mark) (punctuator_text mark) after refl

pub returns-clause-names : goal.returns-clause-names
returns-clause-names c =
    λ text after valid stops. token_before (Name text) text after (valid, refl, stops)

pub returns-clause-ints : goal.returns-clause-ints
returns-clause-ints c =
    λ text after valid stops. token_before (IntValue text) text after (valid, refl, stops)

pub returns-clause-floats : goal.returns-clause-floats
returns-clause-floats c =
    λ text after valid stops. token_before (FloatValue text) text after (valid, refl, stops)

pub returns-clause-quoted : goal.returns-clause-quoted
returns-clause-quoted c = λ spelling value after quoted.
    token_before (StringValue value) spelling after (inl quoted)

pub returns-clause-blocks : goal.returns-clause-blocks
returns-clause-blocks c =
    λ spelling value after block. token_before (StringValue value) spelling after (inr block)

pub returns-clause-ignored : goal.returns-clause-ignored
returns-clause-ignored c =
    λ text after all. ignored_before text after (list_all_each is_ignored text all)

pub returns-clause-joined : goal.returns-clause-joined
returns-clause-joined c = λ a b after xs ys. before-append xs ys a b after

pub returns-clause-lines : goal.returns-clause-lines
returns-clause-lines c = λ a b xs ys. lexes-line xs ys a b
