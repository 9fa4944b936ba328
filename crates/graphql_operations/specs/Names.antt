-- Lists of names that have the same names, and lists that begin alike.
use Rattle.std.specs.Prelude.{◌≡◌, List, ◌++◌}
use Rattle.graphql_text.specs.lexical.Literals.{NameText}
use Rattle.graphql_operations.specs.Fragments.{is_one_of}

abbrev pub AreSame : List NameText → List NameText → Type 0
AreSame names others = (name : NameText) → is_one_of names name ≡ is_one_of others name

abbrev pub Begins : {X : Type 0} → List X → List X → Type 0
Begins {X} first all = (more : List X) × (all ≡ first ++ more)
