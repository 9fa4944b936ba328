use Rattle.std.proofs.Common.{◌≡◌, ℕ, List, [], ◌∷◌, Option, Some, drop}
use Rattle.graphql_text.specs.parts.JoinedNames.{joined_names_shape}
use Rattle.graphql_text.specs.layout.Layout.{Space, Word}
use Rattle.graphql_text.specs.lexical.Literals.{NameText}
use Rattle.graphql_text.specs.lexical.Tokens.{Punctuator, Token, Punctuation}
use Rattle.graphql_text.specs.code.Writing.{WritesBeginning, fixed_text}
use Rattle.graphql_text.proofs.code.JoinedNamesSteps.{further_names}
use Rattle.graphql_text.specs.trees.Leaves.{name_trees}
use Rattle.graphql_type_system.proofs.joined_names.write_joined_names.Given as goal

abbrev pub invariant-loop-name : goal.invariant-loop-name
invariant-loop-name g l =
    (word : Token) (mark : Punctuator) → fixed_text (Space ∷ Word word ∷ Space ∷ []) ≡ Some l.opening →
    fixed_text (Space ∷ Word (Punctuation mark) ∷ Space ∷ []) ≡ Some l.separator → (mode : Option (List ℕ)) (level : ℕ) →
    WritesBeginning g.O.Target.wrote l.fn.out l.out mode level (joined_names_shape word mark (λ (name : NameText). name.text) (name_trees l.names)) level
    (further_names mark (λ (name : NameText). name.text) (name_trees (drop l.name-index l.rest)))
