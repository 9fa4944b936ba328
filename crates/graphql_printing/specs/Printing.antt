-- What options mean: the layout of a print, and the bytes that are written of a document.
use Rattle.std.specs.Prelude.{◌≡◌, ℕ, List, [], ◌++◌, Option, Some, None, IsTrue, chars, codes, encode_utf8_all, string_bytes}
use Rattle.std.specs.declared.alloc.Global.{Global}
use Rattle.std.specs.declared.string.String.{String}
use Rattle.std.specs.List.{repeat}
use Rattle.std.specs.Io.KnownBytes.{Appends}
use Rattle.graphql_ast.specs.Documents.{document_kind}
use Rattle.graphql_ast.specs.Kinds.{layout_of}
use Rattle.graphql_ast.specs.Reading.{ReadsAlone}
use Rattle.graphql_ast_json.specs.kinds.DocumentJson.{IsDocument}
use Rattle.graphql_ast_calls.specs.Answers.{IsTextOf}
use Rattle.graphql_printing.specs.declared.options.Lines.{Lines}
use Rattle.graphql_printing.specs.declared.options.Lines.TheVariants.{Spaces, Tabs, OneLine}
use Rattle.graphql_printing.specs.declared.options.Options.{Options}
use Rattle.graphql_printing.specs.declared.options.Task.{Task}
use Rattle.graphql_printing.specs.declared.options.Task.TheVariants.{Print, Check, WriteJson, WritePrettyJson}

-- the prefix of the lines for each level, or none on one line
abbrev pub mode_of : Lines → Option (List ℕ)
mode_of (Spaces width) = Some (repeat width (codes " "))
mode_of Tabs = Some (codes "\t")
mode_of OneLine = None

-- the characters of a prefix
abbrev pub prefix_chars : String Global → List ℕ
prefix_chars prefix = chars (string_bytes prefix)

-- what stands behind a layout: a line feed, where it has none of its own
abbrev pub line_end : Option (List ℕ) → List ℕ
line_end None = codes "\n"
line_end (Some prefix) = []

-- the bytes of a document in a layout, and of its line's end
abbrev pub lines_bytes : Option (List ℕ) → ℕ → document_kind.Tree → List ℕ
lines_bytes mode level tree = encode_utf8_all (layout_of document_kind mode level tree) ++ line_end mode

-- the bytes that are printed of a document
abbrev pub printed : Options → document_kind.Tree → List ℕ
printed options tree = lines_bytes (mode_of options.lines) options.level tree

-- The known bytes of a writer grow by JSON of the tree, and by a line feed.
pub record WritesJson (old new : Option (List ℕ)) (tree : document_kind.Tree) : Type 0 where
  pub text : List ℕ
  pub of_tree : IsTextOf IsDocument tree text
  pub appended : Appends old new (text ++ codes "\n")

-- They grow by the bytes that are printed of it, which are read as it alone if it is well formed.
pub record Prints (options : Options) (old new : Option (List ℕ)) (tree : document_kind.Tree) : Type 0 where
  pub appended : Appends old new (printed options tree)
  pub read : IsTrue (document_kind.obeys tree) → ReadsAlone document_kind (printed options tree) tree

-- What was asked for was done with the document.
abbrev pub Does : Task → Options → Option (List ℕ) → Option (List ℕ) → document_kind.Tree → Type 0
Does Print options old new tree = Prints options old new tree
Does Check options old new tree = new ≡ old
Does WriteJson options old new tree = WritesJson old new tree
Does WritePrettyJson options old new tree = WritesJson old new tree
