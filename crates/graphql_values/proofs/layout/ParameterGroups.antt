-- Parameters in parentheses, piece by piece.
use Rattle.std.proofs.Common.{◌≡◌, ◌≢◌, ◌+◌, ◌<◌, ◌≤◌, Bool, true, false, List, [], ◌∷◌, ◌++◌, length, map, ap, arith, refl}
use Rattle.std.specs.List.{list_any}
use Rattle.graphql_base.specs.declared.node.Node.{Node}
use Rattle.graphql_base.specs.Node.{node_value}
use Rattle.graphql_text.specs.code.Groups.{comma_lead, comma_rest}
use Rattle.graphql_text.specs.kinds.Kinds.{Kind}
use Rattle.graphql_text.specs.layout.Layout.{Item, Raise, Word, comma_group, flat, lowers, raises}
use Rattle.graphql_text.specs.trees.Leaves.{node_trees}
use Rattle.graphql_text.specs.parts.Parentheses.{parentheses_nesting, parentheses_shape}
use Rattle.graphql_text.specs.lexical.Tokens.{lparen, rparen, Punctuation}
use Rattle.graphql_text.proofs.code.GroupsOpened.{comma_group_opened}
use Rattle.graphql_text.proofs.layout.TextOfItems.{lowers_append, raises_append}

-- the items of each parameter
abbrev pub shapes : (kind : Kind) → Bool → List kind.Tree → List (List Item)
shapes kind broken = map (kind.shape broken false)

module _ {P : Type 0} (kind : Kind) (tree : P → kind.Tree) where
  pub parameters_nest : (parameters : List (Node P)) → 0 < length parameters → 1 ≤ parentheses_nesting kind.nesting (node_trees tree parameters)
  parameters_nest [] some = absurd (omega (arith, some))
  parameters_nest (parameter ∷ more) some = omega arith

  pub parameters_opened : (broken : Bool) (parameters : List (Node P)) → 0 < length parameters →
      comma_group lparen rparen broken (shapes kind broken (node_trees tree parameters))
      ≡ (Word (Punctuation lparen) ∷ []) ++ (Raise ∷ comma_rest rparen broken true (shapes kind broken (node_trees tree parameters)))
  parameters_opened broken [] some = absurd (omega (arith, some))
  parameters_opened broken (parameter ∷ more) some =
      comma_group_opened rparen broken lparen (kind.shape broken false (tree (node_value parameter))) (shapes kind broken (node_trees tree more))

  pub parameters_over_lines : (wants_line : kind.Tree → Bool) (broken : Bool) (parameters : List (Node P)) →
      list_any wants_line (node_trees tree parameters) ≡ true →
      parentheses_shape wants_line (λ broken. kind.shape broken false) broken (node_trees tree parameters)
      ≡ comma_group lparen rparen broken (shapes kind broken (node_trees tree parameters))
  parameters_over_lines wants_line broken [] is = cc
  parameters_over_lines wants_line broken (parameter ∷ more) is = rw is refl

  pub parameters_on_one_line : (wants_line : kind.Tree → Bool) (broken : Bool) (parameters : List (Node P)) → length parameters ≢ 0 →
      list_any wants_line (node_trees tree parameters) ≡ false →
      parentheses_shape wants_line (λ broken. kind.shape broken false) broken (node_trees tree parameters)
      ≡ flat (comma_group lparen rparen false (shapes kind false (node_trees tree parameters)))
  parameters_on_one_line wants_line broken [] some is = absurd (some refl)
  parameters_on_one_line wants_line broken (parameter ∷ more) some is = rw is refl

-- What is written of them raises the level as often as it lowers it.

lead_balanced : (is_first : Bool) → raises (comma_lead is_first) ≡ lowers (comma_lead is_first)
unfolding raises lowers
lead_balanced true = refl
lead_balanced false = refl

end_balanced : (broken : Bool) → raises (comma_rest rparen broken false []) + 1 ≡ lowers (comma_rest rparen broken false [])
unfolding raises lowers
end_balanced true = refl
end_balanced false = refl

module _ (kind : Kind) (broken : Bool)
    (balanced : (parameter : kind.Tree) → raises (kind.shape broken false parameter) ≡ lowers (kind.shape broken false parameter)) where
  rest_balanced : (is_first : Bool) (parameters : List kind.Tree) →
      raises (comma_rest rparen broken is_first (shapes kind broken parameters)) + 1
      ≡ lowers (comma_rest rparen broken is_first (shapes kind broken parameters))
  rest_balanced is_first [] = end_balanced broken
  rest_balanced is_first (parameter ∷ more) =
      let lead = comma_lead is_first in
      let shape = kind.shape broken false parameter in
      let rest = comma_rest rparen broken false (shapes kind broken more) in
      omega (
        arith,
        raises_append lead (shape ++ rest),
        lowers_append lead (shape ++ rest),
        raises_append shape rest,
        lowers_append shape rest,
        lead_balanced is_first,
        balanced parameter,
        rest_balanced false more,
      )

  pub parameters_balanced : (parameters : List kind.Tree) →
      raises (comma_group lparen rparen broken (shapes kind broken parameters)) ≡ lowers (comma_group lparen rparen broken (shapes kind broken parameters))
  unfolding raises lowers
  parameters_balanced [] = refl
  parameters_balanced (parameter ∷ more) =
      let opened = comma_group_opened rparen broken lparen (kind.shape broken false parameter) (shapes kind broken more) in
      omega (arith, ap raises opened, ap lowers opened, rest_balanced true (parameter ∷ more))
