-- The reader passes over ignored stretches.
use Rattle.std.proofs.Common.{◌≡◌, ℕ, Bool, true, false, List, [], ◌∷◌, ◌++◌, refl, ap, ◌∙◌, append_assoc}
use Rattle.std.specs.List.{list_all}
use Rattle.graphql_base.specs.Names.{begins_in}
use Rattle.graphql_text.specs.lexical.Tokens.{is_comment_character, ends_comment, IsIgnored, nothing, character, comment}
use Rattle.graphql_text.proofs.reader.TokenReader.{past, front, skip}
use Rattle.std.proofs.lemmas.Bool.{not-true, and_parts}
use Rattle.graphql_text.proofs.lexical.CharacterClasses.{Each, terminator_ignored}

-- a run of a class, before what isn't of it
pub front-append : (class : ℕ → Bool) (xs ys : List ℕ) → Each class xs →
    begins_in class ys ≡ false → front class (xs ++ ys) ≡ xs
front-append class [] [] list_of stops = refl
front-append class [] (y ∷ ys) list_of stops = rw stops refl
front-append class (x ∷ xs) ys list_of stops =
    rw (list_of.0) (ap (λ l. x ∷ l) (front-append class xs ys list_of.1 stops))

pub past-append : (class : ℕ → Bool) (xs ys : List ℕ) → Each class xs → begins_in class ys ≡ false →
    past class (xs ++ ys) ≡ ys
past-append class [] [] list_of stops = refl
past-append class [] (y ∷ ys) list_of stops = rw stops refl
past-append class (x ∷ xs) ys list_of stops =
    rw (list_of.0) (past-append class xs ys list_of.1 stops)

skip_end : (after : List ℕ) → ends_comment after ≡ true → skip true after ≡ skip false after
skip_end [] ends = refl
skip_end (c ∷ cs) ends = rw (terminator_ignored c ends, ends) refl

skip_comment : (words after : List ℕ) → list_all is_comment_character words ≡ true →
    ends_comment after ≡ true → skip true (words ++ after) ≡ skip false after
skip_comment [] after all ends = skip_end after ends
skip_comment (c ∷ cs) after all ends =
    let (first, more) = and_parts (is_comment_character c) (list_all is_comment_character cs) all in
    rw (not-true _ first) (skip_comment cs after more ends)

-- what is past an ignored stretch is past the rest
pub skip_ignored : (stretch after : List ℕ) → IsIgnored stretch after →
    skip false (stretch ++ after) ≡ skip false after
skip_ignored _ _ nothing = refl
skip_ignored _ _ (character ignored more) = rw ignored (skip_ignored _ _ more)
skip_ignored _ after (comment {text = text} words all ends more) =
    ap (skip true) (append_assoc words text after) ∙ (skip_comment words (text ++ after) all ends ∙ skip_ignored text after more)
