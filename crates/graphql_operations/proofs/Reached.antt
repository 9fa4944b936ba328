-- Of Names and Fragments: which names are in lists, and what is reached from lists of the same names.
use Rattle.std.proofs.Common.{◌≡◌, ℕ, zero, suc, ◌+◌, ◌-◌, ◌<◌, ◌≤◌, Bool, true, false, List, [], ◌∷◌, ◌++◌, length, get_or, take, Option, Some, None, Result}
use Rattle.std.proofs.Common.{Ok, Err, IfOk, refl, ap, ap₂, sym, ◌∙◌, subst, append-nil, arith}
use Rattle.std.specs.Prelude.{◌||◌, cond, filter, nat_eq}
use Rattle.std.specs.Cmp.Lexicographic.{pointwise, same_text}
use Rattle.std.specs.List.{flat_map, list_any}
use Rattle.std.specs.Option.{option_map_or}
use Rattle.std.proofs.Math.Seq.{take-append_seam}
use Rattle.std.proofs.lemmas.List.{append_assoc, map-append, take_all, take_more}
use Rattle.std.proofs.lemmas.List.Elements.{filter-append, filter_agree}
use Rattle.std.proofs.lemmas.Grind.{flat_map-append}
use Rattle.std.proofs.lemmas.List.Folds.{list_any-append}
use Rattle.graphql_base.specs.declared.name.Name.{Name}
use Rattle.graphql_text.specs.lexical.Literals.{NameText}
use Rattle.graphql_text.specs.trees.Leaves.{name_tree, name_trees}
use Rattle.graphql_ast.specs.AstTrees.{definition_tree, definition_trees}
use Rattle.graphql_ast.specs.declared.definition.Definition.{Definition}
use Rattle.graphql_ast.specs.Definitions.{DefinitionTree}
use Rattle.graphql_operations.specs.Fragments.{after_steps, fragment_name, further, is_fragment_of, is_one_of, spreads_within}
use Rattle.graphql_operations.specs.Names.{AreSame, Begins}

-- NAMES IN LISTS

-- a test of the names of the code
pub any_name : (p : NameText → Bool) (names : List Name) → list_any p (name_trees names) ≡ list_any (λ name. p (name_tree name)) names
any_name p [] = refl
any_name p (name ∷ names) = ap (λ b. p (name_tree name) || b) (any_name p names)

both : (names more : List NameText) (name : NameText) → is_one_of (names ++ more) name ≡ (is_one_of names name || is_one_of more name)
both names more name = list_any-append (λ other. pointwise nat_eq other.text name.text) names more

pub same_behind : (names others more : List NameText) → AreSame names others → AreSame (names ++ more) (others ++ more)
same_behind names others more same name =
    both names more name ∙ ap (λ b. b || is_one_of more name) (same name) ∙ sym (both others more name)

-- WHAT IS REACHED FROM LISTS OF THE SAME NAMES

fragment_same : (names others : List NameText) → AreSame names others → (found : Option NameText) →
    option_map_or (is_one_of names) found false ≡ option_map_or (is_one_of others) found false
fragment_same names others same None = refl
fragment_same names others same (Some name) = same name

pub fragments_same : (names others : List NameText) → AreSame names others → (definitions : List DefinitionTree) →
    filter (is_fragment_of names) definitions ≡ filter (is_fragment_of others) definitions
fragments_same names others same =
    filter_agree (is_fragment_of names) (is_fragment_of others) (λ d. fragment_same names others same (fragment_name d.name d.tree))

further_same : (definitions : List DefinitionTree) (names others : List NameText) → AreSame names others →
    AreSame (further definitions names) (further definitions others)
further_same definitions names others same name =
    same_behind names others (flat_map spreads_within (filter (is_fragment_of names) definitions)) same name
    ∙ ap (λ ds. is_one_of (others ++ flat_map spreads_within ds) name) (fragments_same names others same definitions)

pub one_step : (definitions : List DefinitionTree) (start names all : List NameText) (steps : ℕ) → AreSame names (after_steps steps definitions start) →
    AreSame all (further definitions names) → AreSame all (after_steps (suc steps) definitions start)
one_step definitions start names all steps so_far step name =
    step name ∙ further_same definitions names (after_steps steps definitions start) so_far name

-- where a step finds nothing, all further ones find nothing
abbrev steps_on : ℕ → ℕ → ℕ
steps_on zero steps = steps
steps_on (suc more) steps = suc (steps_on more steps)

steps_on_is : (more steps : ℕ) → steps_on more steps ≡ more + steps
steps_on_is zero steps = omega arith
steps_on_is (suc more) steps = let rest : steps_on more steps ≡ more + steps = steps_on_is more steps in omega arith

still_same : (definitions : List DefinitionTree) (start names : List NameText) (steps more : ℕ) →
    AreSame names (after_steps steps definitions start) → AreSame names (further definitions names) →
    AreSame names (after_steps (steps_on more steps) definitions start)
still_same definitions start names steps zero so_far none = so_far
still_same definitions start names steps (suc more) so_far none =
    one_step definitions start names names (steps_on more steps) (still_same definitions start names steps more so_far none) none

pub nothing_more : (definitions : List DefinitionTree) (start names : List NameText) (steps all : ℕ) → steps ≤ all →
    AreSame names (after_steps steps definitions start) → AreSame names (further definitions names) →
    AreSame names (after_steps all definitions start)
nothing_more definitions start names steps all within so_far none =
    let sum : steps_on (all - steps) steps ≡ (all - steps) + steps = steps_on_is (all - steps) steps in
    let is : steps_on (all - steps) steps ≡ all = omega arith in
    subst (λ n. AreSame names (after_steps n definitions start)) is (still_same definitions start names steps (all - steps) so_far none)

-- NAMES THAT ARE ADDED

pub begins_itself : {X : Type 0} (xs : List X) → Begins xs xs
begins_itself xs = ([], sym (append-nil xs))

pub begins_on : {X : Type 0} (first all more : List X) → Begins first all → Begins first (all ++ more)
begins_on first all more begins = (begins.0 ++ more, ap (λ l. l ++ more) begins.1 ∙ append_assoc first begins.0 more)

pub begins_further : {X : Type 0} (first all more : List X) → Begins first all → Begins all more → Begins first more
begins_further first all more one two = subst (Begins first) (sym two.1) (begins_on first all two.0 one)

one_more : (names : List NameText) (last name : NameText) →
    is_one_of (names ++ last ∷ []) name ≡ (is_one_of names name || (pointwise nat_eq last.text name.text || false))
one_more names last name = both names (last ∷ []) name

or_false : (b : Bool) → (b || false) ≡ b
or_false true = refl
or_false false = refl

-- a name that is there is none more
is_there : (names : List NameText) (last name : NameText) (test : Bool) → test ≡ pointwise nat_eq last.text name.text → is_one_of names last ≡ true →
    (is_one_of names name || (test || false)) ≡ is_one_of names name
is_there names last name false is there = or_false (is_one_of names name)
is_there names last name true is there =
    let same : last.text ≡ name.text = same_text last.text name.text is in
    let found : is_one_of names name ≡ true = ap (λ text. list_any (λ other. pointwise nat_eq other.text text) names) (sym same) ∙ there in
    ap (λ b. b || true) found ∙ sym found

pub added_before : (names : List NameText) (last : NameText) → is_one_of names last ≡ true → AreSame names (names ++ last ∷ [])
added_before names last there name =
    sym (one_more names last name ∙ is_there names last name (pointwise nat_eq last.text name.text) refl there)

module _ (names yielded all : List Name) (x : Name) where
  pub new_pushed : AreSame (name_trees all) (name_trees names ++ name_trees yielded) →
      AreSame (name_trees (all ++ x ∷ [])) (name_trees names ++ name_trees (yielded ++ x ∷ []))
  new_pushed so_far name =
      ap (λ l. is_one_of l name) (map-append name_tree all (x ∷ []))
      ∙ same_behind (name_trees all) (name_trees names ++ name_trees yielded) (name_tree x ∷ []) so_far name
      ∙ ap (λ l. is_one_of l name) (append_assoc (name_trees names) (name_trees yielded) (name_tree x ∷ [])
      ∙ ap (λ l. name_trees names ++ l) (sym (map-append name_tree yielded (x ∷ []))))

  pub new_there : is_one_of (name_trees all) (name_tree x) ≡ true → AreSame (name_trees all) (name_trees names ++ name_trees yielded) →
      AreSame (name_trees all) (name_trees names ++ name_trees (yielded ++ x ∷ []))
  new_there there so_far name =
      added_before (name_trees all) (name_tree x) there name ∙ ap (λ l. is_one_of l name) (sym (map-append name_tree all (x ∷ [])))
      ∙ new_pushed so_far name

pub none_yet : (names : List Name) → AreSame (name_trees names) (name_trees names ++ name_trees [])
none_yet names name = ap (λ l. is_one_of l name) (sym (append-nil (name_trees names)))

pub ruleset new_steps = (new_pushed, new_there, none_yet, begins_itself, begins_on)

-- ONE STEP FURTHER

pub none_added : (names : List Name) (b : Bool) (more : List NameText) → b ≡ false → AreSame (name_trees names) (name_trees names ++ cond b more [])
none_added names b more is name = ap (λ l. is_one_of l name) (sym (append-nil (name_trees names)) ∙ ap (λ c. name_trees names ++ cond c more []) (sym is))

pub some_added : (names next : List Name) (found more : List NameText) (b : Bool) → b ≡ true → found ≡ more →
    AreSame (name_trees next) (name_trees names ++ found) → AreSame (name_trees next) (name_trees names ++ cond b more [])
some_added names next found more b is same added name = added name ∙ ap (λ l. is_one_of (name_trees names ++ l) name) (same ∙ ap (λ c. cond c more []) (sym is))

pub first_names : {X : Type 0} (first all : List X) (count : ℕ) → Begins first all → count ≡ length first → take count all ≡ first
first_names first all count begins is = ap₂ take is begins.1 ∙ take-append_seam first begins.0

abbrev found : List NameText → List DefinitionTree → List NameText
found names definitions = flat_map spreads_within (filter (is_fragment_of names) definitions)

module _ (names : List NameText) (definitions : List Definition) where
  abbrev pub IsFoundUpTo : ℕ → List Name → Type 0
  IsFoundUpTo i all = AreSame (name_trees all) (names ++ found names (definition_trees (take i definitions)))

  found_one : (b : Bool) (x : DefinitionTree) → flat_map spreads_within (cond b (x ∷ []) []) ≡ cond b (spreads_within x) []
  found_one true x = append-nil (spreads_within x)
  found_one false x = refl

  found_more : (i : ℕ) (x : Definition) → i < length definitions → x ≡ get_or definitions i x →
      found names (definition_trees (take (i + 1) definitions))
      ≡ found names (definition_trees (take i definitions)) ++ cond (is_fragment_of names (definition_tree x)) (spreads_within (definition_tree x)) []
  found_more i x below is =
      ap (λ l. found names (definition_trees l)) (take_more definitions i x below ∙ ap (λ y. take i definitions ++ y ∷ []) (sym is))
      ∙ ap (found names) (map-append definition_tree (take i definitions) (x ∷ []))
      ∙ ap (flat_map spreads_within) (filter-append (is_fragment_of names) (definition_trees (take i definitions)) (definition_tree x ∷ []))
      ∙ flat_map-append spreads_within (filter (is_fragment_of names) (definition_trees (take i definitions)))
      (filter (is_fragment_of names) (definition_tree x ∷ []))
      ∙ ap (λ l. found names (definition_trees (take i definitions)) ++ l) (found_one (is_fragment_of names (definition_tree x)) (definition_tree x))

  pub found_on : (first all more : List Name) (count i : ℕ) (x : Definition) → i < length definitions → x ≡ get_or definitions i x →
      names ≡ name_trees first → Begins first all → count ≡ length first →
      AreSame (name_trees more) (name_trees all
      ++ cond (is_fragment_of (name_trees (take count all)) (definition_tree x)) (spreads_within (definition_tree x)) []) →
      IsFoundUpTo i all → IsFoundUpTo (i + 1) more
  found_on first all more count i x below is named begins counted added so_far name =
      let last : List NameText → List NameText = λ ns. cond (is_fragment_of ns (definition_tree x)) (spreads_within (definition_tree x)) [] in
      let front : List NameText = found names (definition_trees (take i definitions)) in
      added name
      ∙ ap (λ ns. is_one_of (name_trees all ++ last ns) name) (ap name_trees (first_names first all count begins counted) ∙ sym named)
      ∙ same_behind (name_trees all) (names ++ front) (last names) so_far name
      ∙ ap (λ l. is_one_of l name) (append_assoc names front (last names) ∙ ap (λ l. names ++ l) (sym (found_more i x below is)))

  pub all_found : (i : ℕ) (all : List Name) → length definitions ≤ i → IsFoundUpTo i all →
      AreSame (name_trees all) (further (definition_trees definitions) names)
  all_found i all past so_far name = so_far name ∙ ap (λ l. is_one_of (names ++ found names (definition_trees l)) name) (take_all i definitions past)

  pub found_none : (all : List Name) → names ≡ name_trees all → IsFoundUpTo 0 all
  found_none all is name = ap (λ l. is_one_of l name) (sym is ∙ sym (append-nil names))

pub ruleset further_steps = (found_on, all_found, found_none, begins_itself, begins_further)

-- ALL STEPS

nothing : {X : Type 0} (first more : List X) → length (first ++ more) ≡ length first → first ++ more ≡ first
nothing [] [] is = refl
nothing [] (x ∷ more) is = absurd (omega arith)
nothing (y ∷ first) more is = ap (λ l. y ∷ l) (nothing first more (omega arith))

pub same_length : {X : Type 0} (first all : List X) → Begins first all → length all ≡ length first → all ≡ first
same_length first all begins is = begins.1 ∙ nothing first begins.0 (ap length (sym begins.1) ∙ is)

pub ruleset reached_steps = (one_step, nothing_more, same_length)

-- THE FRAGMENTS

module _ (names : List NameText) (definitions first : List Definition) where
  abbrev pub AreKeptUpTo : ℕ → List Definition → Type 0
  AreKeptUpTo i kept =
      definition_trees kept ≡ definition_trees first ++ filter (is_fragment_of names) (definition_trees (take i definitions))

  kept_more : (i : ℕ) (x : Definition) → i < length definitions → x ≡ get_or definitions i x →
      filter (is_fragment_of names) (definition_trees (take (i + 1) definitions))
      ≡ filter (is_fragment_of names) (definition_trees (take i definitions))
      ++ cond (is_fragment_of names (definition_tree x)) (definition_tree x ∷ []) []
  kept_more i x below is =
      ap (λ l. filter (is_fragment_of names) (definition_trees l)) (take_more definitions i x below ∙ ap (λ y. take i definitions ++ y ∷ []) (sym is))
      ∙ ap (filter (is_fragment_of names)) (map-append definition_tree (take i definitions) (x ∷ []))
      ∙ filter-append (is_fragment_of names) (definition_trees (take i definitions)) (definition_tree x ∷ [])

  of_one : (b : Bool) (x : Definition) → definition_trees (cond b (x ∷ []) []) ≡ cond b (definition_tree x ∷ []) []
  of_one true x = refl
  of_one false x = refl

  pub kept_on : (i : ℕ) (x : Definition) (kept more : List Definition) → i < length definitions → x ≡ get_or definitions i x →
      more ≡ kept ++ cond (is_fragment_of names (definition_tree x)) (x ∷ []) [] → AreKeptUpTo i kept → AreKeptUpTo (i + 1) more
  kept_on i x kept more below is added so_far =
      let front : List DefinitionTree = filter (is_fragment_of names) (definition_trees (take i definitions)) in
      ap definition_trees added ∙ map-append definition_tree kept (cond (is_fragment_of names (definition_tree x)) (x ∷ []) [])
      ∙ ap₂ (λ l m. l ++ m) so_far (of_one (is_fragment_of names (definition_tree x)) x)
      ∙ append_assoc (definition_trees first) front (cond (is_fragment_of names (definition_tree x)) (definition_tree x ∷ []) [])
      ∙ ap (λ l. definition_trees first ++ l) (sym (kept_more i x below is))

  pub none_kept : AreKeptUpTo 0 first
  none_kept = sym (append-nil (definition_trees first))

  pub all_kept : (i : ℕ) (kept : List Definition) → length definitions ≤ i → AreKeptUpTo i kept →
      definition_trees kept ≡ definition_trees first ++ filter (is_fragment_of names) (definition_trees definitions)
  all_kept i kept past so_far =
      so_far ∙ ap (λ l. definition_trees first ++ filter (is_fragment_of names) (definition_trees l)) (take_all i definitions past)

pub ruleset kept_steps = (kept_on, none_kept, all_kept)

-- what follows where a call succeeds
pub if_ok : {A E : Type 0} {P Q : A → Type 0} (result : Result A E) → ((a : A) → P a → Q a) → IfOk result P → IfOk result Q
if_ok (Ok a) f p = f a p
if_ok (Err e) f p = p
