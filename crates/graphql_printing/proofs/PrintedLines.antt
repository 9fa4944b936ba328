-- Of Printing: prefixes, and how the layout of a document is read with its line's end.
use Rattle.std.proofs.Common.{◌≡◌, ℕ, zero, suc, true, List, [], ◌∷◌, ◌++◌, Option, Some, None, Result, Ok}
use Rattle.std.proofs.Common.{Err, OnOk, IsOk, IsTrue, refl, ap, subst, sym, ◌∙◌, append-nil}
use Rattle.std.proofs.Common.{chars, codes, encode_utf8_all}
use Rattle.std.proofs.lemmas.Str.{encodes-append}
use Rattle.std.proofs.Math.Utf8.{encode, scalar}
use Rattle.std.proofs.lemmas.Bool.{and_parts, and_from}
use Rattle.std.specs.List.{repeat}
use Rattle.std.specs.Str.{all_scalars}
use Rattle.std.specs.Io.KnownBytes.{Appends, Keeps}
use Rattle.graphql_text.specs.lexical.Tokens.{Token, nothing, Lexes}
use Rattle.graphql_text.proofs.lexical.FollowingCharacters.{lexes-line}
use Rattle.graphql_ast.specs.BlockStringValue.{is_blank}
use Rattle.graphql_ast.specs.Documents.{document_kind}
use Rattle.graphql_ast.specs.Kinds.{layout_of}
use Rattle.graphql_ast.specs.Layout.{IsBlankMode}
use Rattle.graphql_ast.specs.Reading.{BytesReadAs, ReadsAlone, ReadsAs}
use Rattle.graphql_ast.specs.lemmas.Documents.{document_laws}
use Rattle.graphql_ast_calls.proofs.Prefixes.{blank_chars}
use Rattle.graphql_printing.specs.Printing.{Prints, lines_bytes, mode_of}
use Rattle.graphql_printing.specs.declared.options.Options.{Options}
use Rattle.graphql_printing.specs.declared.options.Lines.{Lines}
use Rattle.graphql_printing.specs.declared.options.Lines.TheVariants.{Spaces, Tabs, OneLine}

pub spaces_blank : (width : ℕ) → is_blank (repeat width (codes " ")) ≡ true
spaces_blank zero = refl
spaces_blank (suc width) = spaces_blank width

pub spaces_chars : (width : ℕ) → chars (repeat width (codes " ")) ≡ repeat width (codes " ")
spaces_chars width = blank_chars (repeat width (codes " ")) (spaces_blank width)

pub tab_chars : chars (codes "\t") ≡ codes "\t"
tab_chars = blank_chars (codes "\t") refl

pub blank_mode : (lines : Lines) → IsBlankMode (mode_of lines)
blank_mode (Spaces width) = spaces_blank width
blank_mode Tabs = refl
blank_mode OneLine = tt

scalars_then_line : (text : List ℕ) → all_scalars text ≡ true → all_scalars (text ++ codes "\n") ≡ true
scalars_then_line [] h = refl
scalars_then_line (c ∷ text) h =
    let parts = and_parts (scalar c) (all_scalars text) h in
    and_from (scalar c) (all_scalars (text ++ codes "\n")) parts.0 (scalars_then_line text parts.1)

lf_is_byte : encode_utf8_all (codes "\n") ≡ codes "\n"
unfolding encode
lf_is_byte = refl

-- a text is read alike with a line feed behind it
line_reads_as : (text : List ℕ) (tree : document_kind.Tree) → ReadsAs document_kind.form text tree →
    ReadsAs document_kind.form (text ++ codes "\n") tree
line_reads_as text tree (source, tokens, lexes, derives) = (
  scalars_then_line text source,
  tokens,
  subst (λ (ts : List Token). Lexes (text ++ codes "\n") ts) (append-nil tokens) (lexes-line tokens [] text [] lexes nothing),
  derives,
)

pub reads_alone : (mode : Option (List ℕ)) (level : ℕ) (tree : document_kind.Tree) → IsBlankMode mode → IsTrue (document_kind.obeys tree) →
    ReadsAlone document_kind (lines_bytes mode level tree) tree
reads_alone (Some prefix) level tree blank obeys =
    subst (λ (bytes : List ℕ). ReadsAlone document_kind bytes tree)
    (sym (append-nil (encode_utf8_all (layout_of document_kind (Some prefix) level tree))))
    (document_laws.reads_alone tree (Some prefix) level obeys blank)
reads_alone None level tree blank obeys =
    let text = layout_of document_kind None level tree in
    let read : BytesReadAs document_kind.form (lines_bytes None level tree) tree = (
      text ++ codes "\n",
      encodes-append text (codes "\n") ∙ ap (λ bytes. encode_utf8_all text ++ bytes) lf_is_byte,
      line_reads_as text tree (document_laws.reads_back tree None level obeys blank),
    ) in
    record {
      itself = read;
      alone = λ other is. document_laws.one_tree_of_bytes (lines_bytes None level tree) other tree is read;
    }

pub appends_kept : (a b c : Option (List ℕ)) (bytes : List ℕ) → Appends a b bytes → Keeps b c → Appends a c bytes
appends_kept None b c bytes h k = tt
appends_kept (Some x) None c bytes h k = absurd h
appends_kept (Some x) (Some y) None bytes h k = absurd k
appends_kept (Some x) (Some y) (Some z) bytes h k = k ∙ h

pub prints : {A B E F : Type 0} (options : Options) (tree : document_kind.Tree) (a b c : Option (List ℕ)) (mode : Option (List ℕ))
    (written : Result A E) (ended : Result B F) → mode ≡ mode_of options.lines → OnOk written (Appends a b (lines_bytes mode options.level tree)) →
    OnOk ended (IsOk written) → OnOk ended (Keeps b c) → OnOk ended (Prints options a c tree)
prints options tree a b c mode written (Err error) is appends whole kept = tt
prints options tree a b c mode (Err error) (Ok end) is appends whole kept = cc
prints options tree a b c mode (Ok all) (Ok end) is appends whole kept = record {
  appended = subst (λ (m : Option (List ℕ)). Appends a c (lines_bytes m options.level tree)) is (appends_kept a b c _ appends kept);
  read = reads_alone (mode_of options.lines) options.level tree (blank_mode options.lines);
}
