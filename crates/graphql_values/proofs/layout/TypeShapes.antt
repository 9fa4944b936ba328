-- The trees and the layouts of types, level by level.
use Rattle.std.proofs.Common.{◌≡◌, ◌+◌, List, [], ◌∷◌, ◌++◌, length, refl, ap, sym, ◌∙◌, arith, append_assoc, append-nil}
use Rattle.std.proofs.lemmas.List.{length_push}
use Rattle.std.specs.declared.alloc.Global.{Global}
use Rattle.std.specs.declared.boxed.Box.{Box}
use Rattle.graphql_base.specs.Name.{name_text}
use Rattle.graphql_base.specs.declared.name.Name.{Name}
use Rattle.graphql_text.specs.lexical.Tokens.{bang, lbracket, Punctuation, Name as NameToken}
use Rattle.graphql_text.specs.layout.Layout.{Word, raises, lowers}
use Rattle.graphql_text.proofs.layout.TextOfItems.{raises_append, lowers_append}
use Rattle.graphql_text.proofs.parts.ToldShapes.{told_balanced}
use Rattle.graphql_values.specs.lemmas.Types.{told_type_reference}
use Rattle.graphql_text.specs.trees.Leaves.{name_tree}
use Rattle.graphql_values.specs.code.TypeEnds.{end_items, ends_items}
use Rattle.graphql_values.specs.kinds.TypeReferences.{TypeTree, named_type, non_null_named_type, list_type, non_null_list_type, type_shape, list_depth}
use Rattle.graphql_values.specs.trees.TypeTrees.{type_tree, type_tree_step}
use Rattle.graphql_values.specs.declared.types.print.TypeEntry.{TypeEntry}
use Rattle.graphql_values.specs.declared.types.print.TypeEntry.TheVariants.{EndOfList, EndOfNonNullList}
use Rattle.graphql_values.specs.declared.types.Type.{«Type», Type-F, map-Type, fold_out-Type}
use Rattle.graphql_values.specs.declared.types.Type.TheVariants as variant

abbrev of_level : Type-F «Type» → TypeTree
of_level level = type_tree_step (map-Type «Type» TypeTree type_tree level)

pub named_tree : (name : Name) → type_tree (variant.Named name) ≡ named_type (name_tree name)
named_tree name = fold_out-Type TypeTree type_tree_step (variant.Named name) ∙ ap of_level (variant.outs-Named name)

pub non_null_named_tree : (name : Name) → type_tree (variant.NonNullNamed name) ≡ non_null_named_type (name_tree name)
non_null_named_tree name = fold_out-Type TypeTree type_tree_step (variant.NonNullNamed name) ∙ ap of_level (variant.outs-NonNullNamed name)

pub list_tree : (item : Box «Type» Global) → type_tree (variant.List item) ≡ list_type (type_tree item.value)
list_tree item = fold_out-Type TypeTree type_tree_step (variant.List item) ∙ ap of_level (variant.outs-List item)

pub non_null_list_tree : (item : Box «Type» Global) → type_tree (variant.NonNullList item) ≡ non_null_list_type (type_tree item.value)
non_null_list_tree item = fold_out-Type TypeTree type_tree_step (variant.NonNullList item) ∙ ap of_level (variant.outs-NonNullList item)

pub named_shape : (name : Name) → type_shape (type_tree (variant.Named name)) ≡ Word (NameToken (name_text name)) ∷ []
unfolding type_shape
named_shape name = ap type_shape (named_tree name)

pub non_null_named_shape : (name : Name) → type_shape (type_tree (variant.NonNullNamed name)) ≡ Word (NameToken (name_text name)) ∷ Word (Punctuation bang) ∷ []
unfolding type_shape
non_null_named_shape name = ap type_shape (non_null_named_tree name)

-- an end that is put on the stack is written first
pub ends_push : (ends : List TypeEntry) (end : TypeEntry) → ends_items (ends ++ end ∷ []) ≡ end_items end ++ ends_items ends
ends_push [] end = sym (append-nil (end_items end))
ends_push (other ∷ ends) end = rw (ends_push ends end) (append_assoc (end_items end) (ends_items ends) (end_items other))

-- A list is opened: its bracket is written, and its items and its end are left. It is one list deeper than its items.
pub record IsOpened (ty inner : «Type») (before after : List TypeEntry) : Type 0 where
  pub left : type_shape (type_tree ty) ++ ends_items before ≡ (Word (Punctuation lbracket) ∷ []) ++ (type_shape (type_tree inner) ++ ends_items after)
  pub need : length after + list_depth (type_tree inner) ≡ length before + list_depth (type_tree ty)

opens : (tree item : TypeTree) (end : TypeEntry) (ty inner : «Type») (before after : List TypeEntry) →
    type_tree ty ≡ tree → type_tree inner ≡ item → after ≡ before ++ end ∷ [] →
    type_shape tree ≡ Word (Punctuation lbracket) ∷ (type_shape item ++ end_items end) → list_depth tree ≡ list_depth item + 1 → IsOpened ty inner before after
opens tree item end ty inner before after outside inside ends shape depth = record {
  left =
      rw (outside, shape, inside, ends, ends_push before end)
      (ap (λ rest. Word (Punctuation lbracket) ∷ rest) (append_assoc (type_shape item) (end_items end) (ends_items before)));
  need = rw (outside, inside, ends) (omega (arith, depth, length_push before end));
}

pub list_opened : {ty inner : «Type»} {before after : List TypeEntry} (item : Box «Type» Global) → ty ≡ variant.List item →
    inner ≡ item.value → after ≡ before ++ EndOfList ∷ [] → IsOpened ty inner before after
unfolding type_shape
list_opened {ty} {inner} {before} {after} item outside inside ends =
    opens (list_type (type_tree item.value)) (type_tree item.value) EndOfList ty inner before after (ap type_tree outside ∙ list_tree item)
    (ap type_tree inside) ends refl refl

pub non_null_list_opened : {ty inner : «Type»} {before after : List TypeEntry} (item : Box «Type» Global) → ty ≡ variant.NonNullList item →
    inner ≡ item.value → after ≡ before ++ EndOfNonNullList ∷ [] → IsOpened ty inner before after
unfolding type_shape
non_null_list_opened {ty} {inner} {before} {after} item outside inside ends =
    opens (non_null_list_type (type_tree item.value)) (type_tree item.value) EndOfNonNullList ty inner before after
    (ap type_tree outside ∙ non_null_list_tree item) (ap type_tree inside) ends refl refl

-- no word of a type changes the level
pub type_balanced : (tree : TypeTree) → raises (type_shape tree) ≡ lowers (type_shape tree)
type_balanced tree = told_balanced (told_type_reference 0 tree)

end_balanced : (end : TypeEntry) → raises (end_items end) ≡ lowers (end_items end)
unfolding raises lowers
end_balanced EndOfList = refl
end_balanced EndOfNonNullList = refl

pub ends_balanced : (ends : List TypeEntry) → raises (ends_items ends) ≡ lowers (ends_items ends)
unfolding raises lowers
ends_balanced [] = refl
ends_balanced (end ∷ ends) =
    omega (
      arith,
      ends_balanced ends,
      end_balanced end,
      raises_append (ends_items ends) (end_items end),
      lowers_append (ends_items ends) (end_items end),
    )

pub rest_balanced : (tree : TypeTree) (ends : List TypeEntry) → raises (type_shape tree ++ ends_items ends) ≡ lowers (type_shape tree ++ ends_items ends)
rest_balanced tree ends =
    omega (
      arith,
      type_balanced tree,
      ends_balanced ends,
      raises_append (type_shape tree) (ends_items ends),
      lowers_append (type_shape tree) (ends_items ends),
    )
