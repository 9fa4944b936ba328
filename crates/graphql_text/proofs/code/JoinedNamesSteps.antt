-- The layout of joined names, name by name.
use Rattle.std.proofs.Common.{◌≡◌, ℕ, List, [], ◌∷◌, ◌++◌, map, refl, arith}
use Rattle.graphql_text.specs.parts.JoinedNames.{joined_names_shape}
use Rattle.graphql_text.specs.layout.Layout.{Item, Space, Word, each_after, raises, lowers}
use Rattle.graphql_text.specs.lexical.Tokens.{Punctuator, Token, Punctuation, Name}

module _ {A : Type 0} (separator : Punctuator) (name : A → List ℕ) where
  -- the names after the first
  abbrev pub further_names : List A → List Item
  further_names parts =
      each_after (Space ∷ Word (Punctuation separator) ∷ Space ∷ []) (Space ∷ Word (Punctuation separator) ∷ Space ∷ [])
      (map (λ part. Word (Name (name part)) ∷ []) parts)

  pub joined_names_opened : (word : Token) (part : A) (more : List A) →
      joined_names_shape word separator name (part ∷ more) ≡ (Space ∷ Word word ∷ Space ∷ Word (Name (name part)) ∷ []) ++ further_names more
  unfolding each_after
  joined_names_opened word part more = refl

  pub joined_names_next : (part : A) (more : List A) →
      further_names (part ∷ more) ≡ (Space ∷ Word (Punctuation separator) ∷ Space ∷ Word (Name (name part)) ∷ []) ++ further_names more
  unfolding each_after
  joined_names_next part more = refl

  further_names_balanced : (parts : List A) → raises (further_names parts) ≡ lowers (further_names parts)
  unfolding each_after raises lowers
  further_names_balanced [] = refl
  further_names_balanced (part ∷ more) = omega (arith, further_names_balanced more)

  pub joined_names_balanced : (word : Token) (parts : List A) →
      raises (joined_names_shape word separator name parts) ≡ lowers (joined_names_shape word separator name parts)
  unfolding each_after raises lowers
  joined_names_balanced word [] = refl
  joined_names_balanced word (part ∷ more) = omega (arith, further_names_balanced more)
