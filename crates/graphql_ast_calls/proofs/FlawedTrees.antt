-- Of Refusals: JSON of trees that aren't well formed.
use Rattle.std.proofs.Common.{◌≡◌, ℕ, Bool, false, List, [], ◌∷◌, Some, refl}
use Rattle.serde_json.specs.Data.{Data}
use Rattle.graphql_text.specs.kinds.Flaws.{Flaw, first_flaw, has_no_flaw}
use Rattle.graphql_ast_calls.specs.Answers.{IsJsonOf}
use Rattle.graphql_ast_calls.specs.Refusals.{IsIllFormedOrMemory, IsTreeRefusal}
use Rattle.graphql_ast_calls.specs.declared.read.Refusal.{Refusal}
use Rattle.graphql_ast_calls.specs.declared.read.Refusal.TheVariants as refusal

-- what has a first flaw has one
pub has_first : (flaws : List Flaw) (flaw : Flaw) → first_flaw flaws ≡ Some flaw → has_no_flaw flaws ≡ false
has_first [] flaw first = cc
has_first (other ∷ more) flaw first = refl

-- that it is told is right
pub told : {T Tree : Type 0} (Is : Tree → Data → Type 0) (tree_of : T → Tree) (obeys : T → Bool) (json : List ℕ) (refusal : Refusal) →
    IsIllFormedOrMemory refusal → (value : T) → IsJsonOf Is json (tree_of value) → obeys value ≡ false → IsTreeRefusal Is tree_of obeys json refusal
told Is tree_of obeys json (refusal.IllFormed message) is value of_json breaks = (value, of_json, breaks)
told Is tree_of obeys json refusal.Memory is value of_json breaks = tt
told Is tree_of obeys json (refusal.NotJson message) is value of_json breaks = absurd is
told Is tree_of obeys json (refusal.NoTree message) is value of_json breaks = absurd is
