-- Of Leaves: texts that are the same have the same tree, and lists are made part by part.
use Rattle.std.proofs.Common.{◌≡◌, ℕ, ◌+◌, ◌<◌, ◌≤◌, List, [], ◌∷◌, ◌++◌, length, get_or, take, map, chars, Result, Ok, Err, Global, ap, ap₂, sym, ◌∙◌}
use Rattle.std.specs.List.{flat_map}
use Rattle.std.specs.Prelude.{IfOk, String, string_bytes}
use Rattle.std.specs.declared.alloc.AllocError.{AllocError}
use Rattle.std.proofs.lemmas.Grind.{flat_map-append}
use Rattle.std.proofs.lemmas.List.{map-append, take_all, take_more}
use Rattle.graphql_base.specs.declared.name.Name.{Name}
use Rattle.graphql_base.specs.declared.node_str.NodeStr.{NodeStr}
use Rattle.graphql_base.specs.declared.span.SourceSpan.{SourceSpan}
use Rattle.graphql_base.specs.Name.{name_text}
use Rattle.graphql_base.specs.Node.{node_str_text}
use Rattle.graphql_text.proofs.lexical.CheckedTexts.{same_text}
use Rattle.graphql_text.specs.trees.Leaves.{description_tree, name_tree}
use Rattle.graphql_values.specs.trees.Literals.{string_tree}

same_name : (a b : Name) → name_text a ≡ name_text b → name_tree a ≡ name_tree b
same_name a b same = same_text (name_tree a) (name_tree b) same

pub same_if_made : (made : Result Name AllocError) (old : Name) → IfOk made (λ name. name_text name ≡ name_text old) →
    IfOk made (λ name. name_tree name ≡ name_tree old)
same_if_made (Ok name) old same = same_name name old same
same_if_made (Err error) old same = tt

pub same_description : (a b : NodeStr) → node_str_text a ≡ node_str_text b → description_tree a ≡ description_tree b
same_description a b same = same_text (description_tree a) (description_tree b) (ap chars same)

pub same_string : (a b : String Global) → string_bytes a ≡ string_bytes b → string_tree a ≡ string_tree b
same_string a b same = same_text (string_tree a) (string_tree b) (ap chars same)

-- LISTS

module _ {X T : Type 0} (tree : X → T) (items : List X) where
  -- the first parts are made
  abbrev pub IsMadeUpTo : ℕ → List X → Type 0
  IsMadeUpTo i made = map tree made ≡ map tree (take i items)

  pub made_on : (i : ℕ) (x y : X) (made : List X) → i < length items → x ≡ get_or items i x → tree y ≡ tree x → IsMadeUpTo i made →
      IsMadeUpTo (i + 1) (made ++ y ∷ [])
  made_on i x y made below is same so_far =
      map-append tree made (y ∷ []) ∙ ap₂ (λ l t. l ++ t ∷ []) so_far same ∙ sym (map-append tree (take i items) (x ∷ []))
      ∙ sym (ap (map tree) (take_more items i x below ∙ ap (λ z. take i items ++ z ∷ []) (sym is)))

  pub all_made : (i : ℕ) (made : List X) → length items ≤ i → IsMadeUpTo i made → map tree made ≡ map tree items
  all_made i made past so_far = so_far ∙ ap (map tree) (take_all i items past)

pub none_on : {X : Type 0} (locations : X → List SourceSpan) (made : List X) (y : X) → flat_map locations made ≡ [] → locations y ≡ [] →
    flat_map locations (made ++ y ∷ []) ≡ []
none_on locations made y none one =
    flat_map-append locations made (y ∷ []) ∙ ap₂ (λ l t. l ++ (t ++ [])) none one

pub ruleset list_steps = (made_on, all_made, none_on)
