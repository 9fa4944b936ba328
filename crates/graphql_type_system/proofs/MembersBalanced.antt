-- What is written of members between braces raises the level as often as it lowers it.
use Rattle.std.proofs.Common.{◌≡◌, ◌+◌, Bool, false, List, [], ◌∷◌, map, ap, arith, refl}
use Rattle.graphql_text.specs.code.Groups.{curly_rest}
use Rattle.graphql_text.specs.kinds.Kinds.{Kind}
use Rattle.graphql_text.specs.layout.Layout.{Space, lowers, raises}
use Rattle.graphql_text.specs.parts.Members.{required_members_shape}
use Rattle.graphql_text.proofs.code.GroupsOpened.{curly_group_opened}
use Rattle.graphql_text.proofs.layout.TextOfItems.{lowers_append, raises_append}

module _ (kind : Kind) (broken : Bool)
    (balanced : (member : kind.Tree) → raises (kind.shape broken false member) ≡ lowers (kind.shape broken false member)) where
  rest_balanced : (members : List kind.Tree) →
      raises (curly_rest (map (kind.shape broken false) members)) + 1 ≡ lowers (curly_rest (map (kind.shape broken false) members))
  unfolding raises lowers
  rest_balanced [] = refl
  rest_balanced (member ∷ more) =
      let shape = kind.shape broken false member in
      let rest = curly_rest (map (kind.shape broken false) more) in
      omega (arith, raises_append shape rest, lowers_append shape rest, balanced member, rest_balanced more)

  pub members_balanced : (members : List kind.Tree) → raises (required_members_shape kind broken members) ≡ lowers (required_members_shape kind broken members)
  unfolding raises lowers
  members_balanced [] = refl
  members_balanced (member ∷ more) =
      let opened = ap (λ items. Space ∷ items) (curly_group_opened (kind.shape broken false member) (map (kind.shape broken false) more)) in
      omega (arith, ap raises opened, ap lowers opened, rest_balanced (member ∷ more))
