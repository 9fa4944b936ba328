-- Names, decided.
use Rattle.std.proofs.Common.{◌≡◌, ℕ, true, ◌&&◌, List, [], ◌∷◌, refl, ap, ◌∙◌, Decides, arith}
use Rattle.std.proofs.lemmas.Bool.Decides.{nat_tests}
use Rattle.std.specs.List.{list_all}
use Rattle.graphql_text.proofs.lexical.CharacterClasses.{list_all_each, each_list_all}
use Rattle.std.proofs.lemmas.Bool.{and_parts, and_from}
use Rattle.graphql_base.specs.Names.{is_name_start, is_name_continue, begins_in}
use Rattle.graphql_text.proofs.lexical.NameAndNumberParts.{IsName}

pub start_is_part : (c : ℕ) → is_name_start c ≡ true → is_name_continue c ≡ true
start_is_part c h = grind (arith, nat_tests)

-- the two tests decide a name
pub name_decided : (text : List ℕ) →
    Decides (begins_in is_name_start text && list_all is_name_continue text) (IsName text)
name_decided [] = ((λ h. cc), (λ name. let e = name.2 in cc))
name_decided (c ∷ cs) = (yes_way, no_way)
  where
    yes_way : begins_in is_name_start (c ∷ cs) && list_all is_name_continue (c ∷ cs) ≡ true →
        IsName (c ∷ cs)
    yes_way h =
        let (start, all) = and_parts (is_name_start c) (list_all is_name_continue (c ∷ cs)) h in
        (c, cs, refl, start, (list_all_each is_name_continue (c ∷ cs) all).1)

    no_way : IsName (c ∷ cs) →
        begins_in is_name_start (c ∷ cs) && list_all is_name_continue (c ∷ cs) ≡ true
    no_way (d, ds, is, start, list_of) =
        let all : list_all is_name_continue (d ∷ ds) ≡ true = each_list_all is_name_continue (d ∷ ds) (start_is_part d start, list_of) in
        ap (λ l. begins_in is_name_start l && list_all is_name_continue l) is ∙ and_from (is_name_start d) (list_all is_name_continue (d ∷ ds)) start all
