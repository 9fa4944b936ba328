-- A clone of a list or an object has its very items.
use Rattle.std.proofs.Common.{◌≡◌, Vec, Global, sym, subst₂}
use Rattle.std.specs.List.{AllZip}
use Rattle.std.proofs.lemmas.List.Elements.{same_from_all_zip}
use Rattle.graphql_base.specs.declared.name.Name.{Name}
use Rattle.graphql_base.specs.declared.node.Node.{Node}
use Rattle.graphql_values.specs.trees.ValueTrees.{IsCloneOf, IsLevelCloneOf}
use Rattle.graphql_values.specs.declared.value.Value.{Value, List, Object}
use Rattle.graphql_values.specs.declared.value.Value.TheVariants.{outs-List, outs-Object}

pub list_clone : (items copy : Vec (Node Value) Global) → AllZip (λ n m. m ≡ n) items.items copy.items → IsCloneOf (List items) (List copy)
list_clone items copy all =
    subst₂ IsLevelCloneOf (sym (outs-List items)) (sym (outs-List copy))
    (same_from_all_zip (λ n m. m ≡ n) items.items copy.items all (λ n m e. e))

pub object_clone : (fields copy : Vec (Name × Node Value) Global) → AllZip (λ p q. (q.0 ≡ p.0) × (q.1 ≡ p.1)) fields.items copy.items →
    IsCloneOf (Object fields) (Object copy)
object_clone fields copy all =
    subst₂ IsLevelCloneOf (sym (outs-Object fields)) (sym (outs-Object copy))
    (same_from_all_zip (λ p q. (q.0 ≡ p.0) × (q.1 ≡ p.1)) fields.items copy.items all (λ p q e. λ i. (e.0 i, e.1 i)))
