-- What is promised of a printed kind, from its part and laws, and how its type is compared and hashed.
use Rattle.std.proofs.Common.{ℕ, Bool, false, List, Some, ◌≡◌, ◌++◌, codes, refl, subst}
use Rattle.graphql_text.specs.trees.Comparisons.{IsComparedBy, IsHashedAlike}
use Rattle.graphql_text.specs.grammar.Forms.{TokenClass}
use Rattle.graphql_text.specs.kinds.Kinds.{Kind}
use Rattle.graphql_text.specs.kinds.PrintedKinds.{IsPrintedKind}
use Rattle.graphql_text.specs.parts.PrintedParts.{KindTokensDeriveBefore}
use Rattle.graphql_text.specs.kinds.Printing.{IsKind, IsReadWhereItObeys, default_bytes}
use Rattle.graphql_text.specs.kinds.Reading.{Laws}
use Rattle.graphql_text.specs.layout.Spelling.{tokens_of_items}
use Rattle.graphql_text.proofs.parts.Parts.{KindPart, part_derives, part_one_way}

module _ {T : Type 0} {kind : Kind} (tree : T → kind.Tree) where
  pub same_kind : IsKind kind tree kind tree
  same_kind = record {
    printed = λ s. refl;
    read = λ bytes t. (λ x. x, λ x. x);
    obeyed = λ t. refl;
    flawed = λ t. refl;
    nested = λ t. refl;
  }

  pub read_as_displayed : Laws kind → (t : T) → IsReadWhereItObeys kind (Some (default_bytes kind (tree t))) (tree t)
  read_as_displayed laws t obeyed = laws.reads_alone (tree t) (Some (codes "  ")) 0 obeyed refl

-- a kind whose layout is the same at the front and behind something else
abbrev pub IsAlikeAtTheFront : Kind → Type 0
IsAlikeAtTheFront kind = (broken front : Bool) (tree : kind.Tree) → kind.shape broken false tree ≡ kind.shape broken front tree

module _ {F L S : List TokenClass} {empty opens : Bool} where
  pub part_derives_anywhere : (kind : Kind) → KindPart kind F L empty S opens → IsAlikeAtTheFront kind → KindTokensDeriveBefore kind S
  part_derives_anywhere kind part same front broken tree holds rest stops =
      subst (λ items. kind.form tree (tokens_of_items items ++ rest) rest) (same broken front tree) (part_derives part broken tree holds rest stops)

  pub printed_kind : {kind : Kind} {T H : Type 0} {tree : T → kind.Tree} {lists : kind.Tree → ℕ} {eq : T → T → Bool} {hash_input : T → H} →
      KindPart kind F L empty S opens → IsAlikeAtTheFront kind → Laws kind → IsComparedBy eq tree → IsHashedAlike eq hash_input →
      IsPrintedKind kind tree lists (λ t. Some (default_bytes kind (tree t))) eq hash_input kind tree lists F S
  printed_kind {kind} {tree = tree} part same laws compared hashed = record {
    is = same_kind tree;
    stacked = λ t. refl;
    laws = laws;
    displayed = read_as_displayed tree laws;
    one_way = part_one_way part;
    derives = part_derives_anywhere kind part same;
    compared = compared;
    hashed = hashed;
  }
