-- The words that a run of the program is given, and what it prints.
use Rattle.std.specs.Prelude.{ℕ, List, [], ◌∷◌, ◌++◌, Bool, false, Option, None, Some, String, chars, codes, encode_utf8_all, string_bytes}
use Rattle.std.specs.Borrow.{Bor}
use Rattle.std.specs.declared.alloc.Global.{Global}
use Rattle.std.specs.Io.KnownBytes.{Appends}
use Rattle.graphql_ast.specs.DirectiveDefinitions.{directive_definition_kind}
use Rattle.graphql_ast.specs.Documents.{document_kind}
use Rattle.graphql_ast.specs.FieldDefinitions.{field_definition_kind}
use Rattle.graphql_ast.specs.Forms.{is_one_of}
use Rattle.graphql_ast.specs.Kinds.{Kind, layout_of}
use Rattle.graphql_ast.specs.ObjectTypes.{object_type_definition_kind}
use Rattle.graphql_ast.specs.OperationDefinitions.{operation_definition_kind}
use Rattle.graphql_ast.specs.ScalarTypes.{scalar_type_definition_kind}
use Rattle.graphql_ast.specs.Values.{ValueTree, value_kind}

-- the numbers of the vectors
abbrev pub vector_numbers : List (List ℕ)
vector_numbers =
    codes "1" ∷ codes "2" ∷ codes "3" ∷ codes "4" ∷ codes "5" ∷ codes "6" ∷ codes "7" ∷ codes "8" ∷ codes "9" ∷
    codes "10" ∷ codes "11" ∷ codes "12" ∷ codes "13" ∷ codes "14" ∷ codes "15" ∷ codes "16" ∷
    codes "17" ∷ codes "18" ∷ codes "19" ∷ codes "20" ∷ codes "21" ∷ codes "22" ∷ []

-- whether a word is the number of a vector
abbrev pub is_vector_number : List ℕ → Bool
is_vector_number word = is_one_of vector_numbers word

-- whether the words are one, and it is the number of a vector
abbrev pub name_a_vector : List (String Global) → Bool
name_a_vector (word ∷ []) = is_vector_number (string_bytes word)
name_a_vector words = false

-- the prefix of a layout, as characters, or none on one line
abbrev pub mode_of : Option (Bor (List ℕ)) → Option (List ℕ)
mode_of None = None
mode_of (Some prefix) = Some (chars prefix.now)

-- the line of a tree: its layout with this prefix, or none on one line, from this level on, and a line feed
abbrev pub line_of : (kind : Kind) → Option (List ℕ) → ℕ → kind.Tree → List ℕ
line_of kind mode level tree = encode_utf8_all (layout_of kind mode level tree) ++ codes "\n"

-- a tree that a vector may have
pub data VectorTree : Type 0 where
  a_value : ValueTree → VectorTree
  a_directive_definition : directive_definition_kind.Tree → VectorTree
  a_scalar_type : scalar_type_definition_kind.Tree → VectorTree
  an_object_type : object_type_definition_kind.Tree → VectorTree
  a_field_definition : field_definition_kind.Tree → VectorTree
  an_operation : operation_definition_kind.Tree → VectorTree
  a_document : document_kind.Tree → VectorTree

-- the line of such a tree
abbrev pub vector_line : Option (List ℕ) → ℕ → VectorTree → List ℕ
vector_line mode level (a_value tree) = line_of value_kind mode level tree
vector_line mode level (a_directive_definition tree) = line_of directive_definition_kind mode level tree
vector_line mode level (a_scalar_type tree) = line_of scalar_type_definition_kind mode level tree
vector_line mode level (an_object_type tree) = line_of object_type_definition_kind mode level tree
vector_line mode level (a_field_definition tree) = line_of field_definition_kind mode level tree
vector_line mode level (an_operation tree) = line_of operation_definition_kind mode level tree
vector_line mode level (a_document tree) = line_of document_kind mode level tree

-- known bytes grow by the line of some vector
pub record GrowsByLine (old new : Option (List ℕ)) : Type 0 where
  pub mode : Option (List ℕ)
  pub level : ℕ
  pub tree : VectorTree
  pub appended : Appends old new (vector_line mode level tree)
