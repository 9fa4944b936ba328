use Rattle.std.proofs.Common.{[], ◌∷◌, refl}
use Rattle.graphql_text.specs.lexical.Tokens.{dollar, Punctuation}
use Rattle.graphql_text.specs.layout.Layout.{Word, is_broken}
use Rattle.graphql_text.specs.code.Place.{mode_of}
use Rattle.graphql_text.proofs.code.WritingSteps.{writes_then}
use Rattle.graphql_values.proofs.layout.ValueShapes.{value_tree_null, value_tree_enum, value_tree_variable, value_tree_float}
use Rattle.graphql_values.proofs.layout.ValueShapes.{value_tree_int, value_tree_boolean, leaf_list, leaf_object}
use Rattle.graphql_values.proofs.value.print.write_leaf.Goals as goal

pub returns-in-Null : goal.returns-in-Null
returns-in-Null g c = rw (c.in-Null.is, value_tree_null) (c.write_words.ensures.items _ _ _ refl)

pub returns-in-Enum : goal.returns-in-Enum
returns-in-Enum g c = rw (c.in-Enum.is, value_tree_enum) (c.write_name.ensures _ _)

pub returns-in-Variable : goal.returns-in-Variable
returns-in-Variable g c = rw (c.in-Variable.is, value_tree_variable)
    (writes_then g.met.O.Target.more (c.write_words-in-Variable.ensures.items _ _ (Word (Punctuation dollar) ∷ []) refl) (c.write_name-in-Variable.ensures _ _))

pub returns-in-Float : goal.returns-in-Float
returns-in-Float g c = rw (c.in-Float.is, value_tree_float) (c.write_float_value.ensures _ _)

pub returns-in-Int : goal.returns-in-Int
returns-in-Int g c = rw (c.in-Int.is, value_tree_int) (c.write_int_value.ensures _ _)

pub returns-in-Boolean : goal.returns-in-Boolean
returns-in-Boolean g c =
    rw (c.in-Boolean.is, value_tree_boolean)
    (c.write_words-in-Boolean.ensures.items _ _ _ (c.boolean_word.ensures (is_broken (mode_of c.args.place.now.prefix))))

pub returns-in-List : goal.returns-in-List
returns-in-List g c =
    let leaf = rw c.in-List.is at c.requires in
    rw (c.in-List.is, leaf_list c.in-List.field-0 leaf) (c.write_words-in-List.ensures.items _ _ _ refl)

pub returns-in-Object : goal.returns-in-Object
returns-in-Object g c =
    let leaf = rw c.in-Object.is at c.requires in
    rw (c.in-Object.is, leaf_object c.in-Object.field-0 leaf) (c.write_words-in-Object.ensures.items _ _ _ refl)
