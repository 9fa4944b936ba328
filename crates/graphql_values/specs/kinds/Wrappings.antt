-- Wrapping types, section 3.4.1: a type as the name that is wrapped, and what is non-null around it.
use Rattle.std.specs.Prelude.{◌≡◌, Bool, true, false, List, [], ◌∷◌, IsTrue, length, nat_lt, ◌==◌}
use Rattle.std.specs.List.{AllZip}
use Rattle.graphql_text.specs.lexical.Literals.{NameText}
use Rattle.graphql_values.specs.kinds.TypeReferences.{TypeTree, named_type, non_null_named_type, list_type, non_null_list_type}

-- The base name, and whether the type is non-null, then its items, then theirs, and so on down to the name.
pub record Wrapping (Base : Type 0) : Type 0 where
  pub base : Base
  pub nullability : List Bool

-- the first set
abbrev pub first_set : Bool → List Bool → List Bool
first_set non_null [] = []
first_set non_null (_ ∷ inner) = non_null ∷ inner

-- without the first, where others follow
abbrev pub inner_nullability : List Bool → List Bool
inner_nullability (_ ∷ item ∷ inner) = item ∷ inner
inner_nullability alone = alone

abbrev pub is_first_non_null : List Bool → Bool
is_first_non_null [] = false
is_first_non_null (non_null ∷ _) = non_null

module _ {Base : Type 0} where
  -- a name by itself
  abbrev pub bare : Bool → Base → Wrapping Base
  bare non_null name = record { base = name; nullability = non_null ∷ [] }

  -- a list of such items
  abbrev pub listed : Bool → Wrapping Base → Wrapping Base
  listed non_null item = record { base = item.base; nullability = non_null ∷ item.nullability }

  -- the same, but non-null or nullable
  abbrev pub with_nullability : Bool → Wrapping Base → Wrapping Base
  with_nullability non_null wrapping = record { base = wrapping.base; nullability = first_set non_null wrapping.nullability }

  -- the items of a list, and what is no list itself
  abbrev pub item_wrapping : Wrapping Base → Wrapping Base
  item_wrapping wrapping = record { base = wrapping.base; nullability = inner_nullability wrapping.nullability }

-- another base in the same wrapping
abbrev pub renamed : {Base Other : Type 0} → (Base → Other) → Wrapping Base → Wrapping Other
renamed other wrapping = record { base = other wrapping.base; nullability = wrapping.nullability }

-- The wrapping of a type.
abbrev pub tree_wrapping : TypeTree → Wrapping NameText
tree_wrapping (named_type name) = bare false name
tree_wrapping (non_null_named_type name) = bare true name
tree_wrapping (list_type item) = listed false (tree_wrapping item)
tree_wrapping (non_null_list_type item) = listed true (tree_wrapping item)

abbrev pub tree_nullability : TypeTree → List Bool
tree_nullability tree = (tree_wrapping tree).nullability

-- NonNullType, section 2.11
abbrev pub is_non_null : TypeTree → Bool
is_non_null tree = is_first_non_null (tree_nullability tree)

-- ListType, section 2.11, non-null or not: there are items
abbrev pub is_list : TypeTree → Bool
is_list tree = nat_lt 1 (length (tree_nullability tree))

-- NamedType, section 2.11, non-null or not: nothing is wrapped but the name
abbrev pub is_named_type : TypeTree → Bool
is_named_type tree = length (tree_nullability tree) == 1

-- AreTypesCompatible, section 5.8.5: the base names are the same, the lists are as many, and where the target is non-null, so is the source.
pub record IsAssignable (source target : TypeTree) : Type 0 where
  pub base : (tree_wrapping source).base.text ≡ (tree_wrapping target).base.text
  pub nullability : AllZip (λ given wanted. IsTrue wanted → IsTrue given) (tree_nullability source) (tree_nullability target)
