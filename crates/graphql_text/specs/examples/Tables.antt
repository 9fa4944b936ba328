-- Tables of examples: texts that are read as trees, and texts that are read as none.
use Rattle.std.specs.Prelude.{ℕ, List}
use Rattle.std.specs.List.{All}
use Rattle.graphql_text.specs.grammar.Forms.{Form}
use Rattle.graphql_text.specs.kinds.Reading.{ReadsAs}

-- The text is read as no tree.
abbrev pub IsRefused : {Tree : Type 0} → (Tree → Form) → List ℕ → Type 0
IsRefused {Tree} form text = (tree : Tree) → ReadsAs form text tree → ⊥

module _ {Tree : Type 0} (form : Tree → Form) where
  pub record AreRead (rows : List (List ℕ × Tree)) : Type 0 where
    -- each text is read as the tree beside it
    pub each : All (λ row. ReadsAs form row.0 row.1) rows

  pub record AreRefused (texts : List (List ℕ)) : Type 0 where
    -- each text is read as no tree
    pub each : All (IsRefused form) texts
