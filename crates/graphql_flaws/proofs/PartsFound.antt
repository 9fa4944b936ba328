-- Of FoundFlaws: what is found of two parts, and of parts in a row.
use Rattle.std.specs.Prelude.{⊤, OnOk, Result, Ok, Err}
use Rattle.std.specs.declared.alloc.AllocError.{AllocError}
use Rattle.std.proofs.Common.{ℕ, ◌+◌, ◌<◌, ◌≡◌, List, [], ◌∷◌, ◌++◌, length, get_or, take, sym, ap, ◌∙◌, append_assoc, append-nil}
use Rattle.std.proofs.lemmas.List.{take_more}
use Rattle.graphql_text.specs.kinds.Flaws.{Flaw}
use Rattle.graphql_flaws.specs.FoundFlaws.{Finds}
use Rattle.graphql_flaws.specs.declared.search.FlawSearch.{FlawSearch}

found_then : (start between behind first second : List Flaw) → between ≡ start ++ first → behind ≡ between ++ second →
    behind ≡ start ++ (first ++ second)
found_then start between behind first second at_first at_second =
    at_second ∙ ap (λ found. found ++ second) at_first ∙ append_assoc start first second

pub finds_then : (result : Result ⊤ AllocError) (old between new : FlawSearch) (first second : List Flaw) → Finds first old between →
    OnOk result (Finds second between new) → OnOk result (Finds (first ++ second) old new)
finds_then (Ok u) old between new first second at_first at_second = found_then _ _ _ first second at_first at_second
finds_then (Err error) old between new first second at_first at_second = tt

-- parts in a row, of which each has these flaws, in a loop over them
module _ {A : Type 0} (one : A → List Flaw) (all : List A → List Flaw)
    (none : all [] ≡ []) (splits : (part : A) (more : List A) → all (part ∷ more) ≡ one part ++ all more) where
  all_of_more : (parts : List A) (part : A) → all (parts ++ part ∷ []) ≡ all parts ++ one part
  all_of_more [] part = splits part [] ∙ ap (λ flaws. one part ++ flaws) none ∙ append-nil (one part) ∙ ap (λ flaws. flaws ++ one part) (sym none)
  all_of_more (first ∷ parts) part =
      splits first (parts ++ part ∷ [])
      ∙ ap (λ flaws. one first ++ flaws) (all_of_more parts part)
      ∙ sym (append_assoc (one first) (all parts) (one part))
      ∙ ap (λ flaws. flaws ++ one part) (sym (splits first parts))

  -- one more, to which the search came, and behind which it went back
  pub found_on : (parts : List A) (i : ℕ) (part : A) (start before entered found behind : List Flaw) → i < length parts → part ≡ get_or parts i part →
      before ≡ start ++ all (take i parts) → entered ≡ before → found ≡ entered ++ one part → behind ≡ found →
      behind ≡ start ++ all (take (i + 1) parts)
  found_on parts i part start before entered found behind below is so_far enters here leaves =
      leaves
      ∙ found_then start entered found (all (take i parts)) (one part) (enters ∙ so_far) here
      ∙ ap (λ flaws. start ++ flaws) (sym (all_of_more (take i parts) part))
      ∙ ap (λ parts. start ++ all parts) (sym (take_more parts i part below ∙ ap (λ z. take i parts ++ z ∷ []) (sym is)))
