-- Why no tree was read, and what is told of it.
use Rattle.std.specs.Prelude.{◌≡◌, ℕ, Bool, false, List, ⊤}
use Rattle.serde_json.specs.Data.{Data}
use Rattle.graphql_ast_calls.specs.Answers.{IsJsonOf, IsJsonOfNone, IsNoJson}
use Rattle.graphql_ast_calls.specs.Messages.{HasMessage}
use Rattle.graphql_ast_calls.specs.declared.read.Refusal.{Refusal}
use Rattle.graphql_ast_calls.specs.declared.read.Refusal.TheVariants as refusal
use Rattle.graphql_ast_calls.specs.declared.status.Status.{Status}
use Rattle.graphql_ast_calls.specs.declared.status.Status.TheVariants as status

abbrev pub IsNotJsonOrMemory : Refusal → Type 0
IsNotJsonOrMemory (refusal.NotJson _) = ⊤
IsNotJsonOrMemory refusal.Memory = ⊤
IsNotJsonOrMemory _ = ⊥

abbrev pub IsNoTreeOrMemory : Refusal → Type 0
IsNoTreeOrMemory (refusal.NoTree _) = ⊤
IsNoTreeOrMemory refusal.Memory = ⊤
IsNoTreeOrMemory _ = ⊥

abbrev pub IsIllFormedOrMemory : Refusal → Type 0
IsIllFormedOrMemory (refusal.IllFormed _) = ⊤
IsIllFormedOrMemory refusal.Memory = ⊤
IsIllFormedOrMemory _ = ⊥

-- The refusal is right of these bytes, as long as it says nothing of trees.
abbrev pub IsDataRefusal : List ℕ → Refusal → Type 0
IsDataRefusal json (refusal.NotJson _) = IsNoJson json
IsDataRefusal json refusal.Memory = ⊤
IsDataRefusal json _ = ⊥

-- It is right, as long as it says nothing of side conditions.
abbrev pub IsRefusal : {Tree : Type 0} → (Tree → Data → Type 0) → List ℕ → Refusal → Type 0
IsRefusal Is json (refusal.NotJson _) = IsNoJson json
IsRefusal Is json (refusal.NoTree _) = IsJsonOfNone Is json
IsRefusal Is json (refusal.IllFormed _) = ⊥
IsRefusal Is json refusal.Memory = ⊤

-- It is right, where these are the trees of values, and the test is that of their side conditions.
abbrev pub IsTreeRefusal : {T Tree : Type 0} → (Tree → Data → Type 0) → (T → Tree) → (T → Bool) → List ℕ → Refusal → Type 0
IsTreeRefusal {T = T} Is tree_of obeys json (refusal.IllFormed _) = (value : T) × IsJsonOf Is json (tree_of value) × (obeys value ≡ false)
IsTreeRefusal Is tree_of obeys json other = IsRefusal Is json other

-- The refusal is told by its status, with a message.
abbrev pub TellsRefusal : Refusal → List ℕ → List ℕ → ℕ → Status → Type 0
TellsRefusal (refusal.NotJson _) old new needed told = (told ≡ status.NotJson) × HasMessage old new needed
TellsRefusal (refusal.NoTree _) old new needed told = (told ≡ status.NoTree) × HasMessage old new needed
TellsRefusal (refusal.IllFormed _) old new needed told = (told ≡ status.IllFormed) × HasMessage old new needed
TellsRefusal refusal.Memory old new needed told = (told ≡ status.OutOfMemory) × HasMessage old new needed
