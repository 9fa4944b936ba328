-- A member that is such was given under its name.
use Rattle.std.proofs.Common.{◌≡◌, ℕ, List, Some, option_and_then, IsSomeAnd, refl, sym, subst}
use Rattle.serde_json.specs.Data.{Data, null, boolean, number, string, array, object, Items}
use Rattle.serde_json.specs.Find.{get, as_array}
use Rattle.ast_json_nodes.specs.nodes.Nodes.{present, Member, ListMember}

-- what is found under a name is such
pub member_is : (name : List ℕ) (json inner : Data) (Is : Data → Type 0) → get name json ≡ Some inner → present inner ≡ Some inner →
    Is inner → Member name json Is
member_is name json inner Is at there is = subst (λ o. IsSomeAnd (option_and_then present o) Is) (sym at) (subst (λ o. IsSomeAnd o Is) (sym there) is)

pub list_is : (name : List ℕ) (json inner : Data) (Are : Items → Type 0) → get name json ≡ Some inner → IsSomeAnd (as_array inner) Are →
    ListMember name json Are
list_is name json (array items) Are at are = subst (λ o. IsSomeAnd (option_and_then as_array (option_and_then present o)) Are) (sym at) are
list_is name json null Are at are = absurd are
list_is name json (boolean b) Are at are = absurd are
list_is name json (number n) Are at are = absurd are
list_is name json (string s) Are at are = absurd are
list_is name json (object _) Are at are = absurd are

-- an array is present
pub array_there : (json : Data) (Are : Items → Type 0) → IsSomeAnd (as_array json) Are → present json ≡ Some json
array_there (array items) Are are = refl
array_there null Are are = absurd are
array_there (boolean b) Are are = absurd are
array_there (number n) Are are = absurd are
array_there (string s) Are are = absurd are
array_there (object _) Are are = absurd are
