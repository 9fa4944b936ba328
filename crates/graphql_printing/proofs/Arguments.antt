-- Of Words: the arguments of the command, and what a parse found of them.
use Rattle.std.proofs.Common.{◌≡◌, ℕ, Bool, true, false, not, ◌&&◌, List, [], ◌∷◌, ◌++◌, Result, Ok, Err, IfOk, refl, ap, subst, ◌∙◌, arith}
use Rattle.std.specs.Borrow.{Bor}
use Rattle.clap.specs.Adds.{AddsConflicts}
use Rattle.clap.specs.Words.{App, HasMatchesOf, first_of, first_value, found_of, is_simple, matches_of, rows_of, rule_of}
use Rattle.clap.proofs.OnLiterals.{clap_on_literals}
use Rattle.clap.specs.declared.parser.matches.ArgMatches.{ArgMatches}
use Rattle.clap.specs.Walk.{is_empty, is_free_arg}
use Rattle.clap.proofs.WalkLemmas.{first_value-rows}
use Rattle.clap.specs.declared.builder.arg.Arg.{Arg}
use Rattle.clap.specs.declared.parser.matches.Found.{Found}
use Rattle.graphql_printing.specs.Words.{conflicting, printing_app}

pub value_in_rows : (found : Found) (name : List ℕ) → first_value found name ≡ first_of name (rows_of found)
value_in_rows found name = first_value-rows found name

never_empty : (xs : List (Bor (List ℕ))) (x : Bor (List ℕ)) → is_empty (xs ++ x ∷ []) ≡ false
never_empty [] x = refl
never_empty (y ∷ xs) x = grind arith

and_false : (b : Bool) → (b && false) ≡ false
and_false true = refl
and_false false = refl

is_bound : (arg : Arg) → is_empty arg.conflicts.items ≡ false → is_free_arg arg ≡ false
is_bound arg h = rw h (and_false (not arg.exclusive))

same_but_free : (old new : Arg) → new ≡ record old { conflicts = new.conflicts } → rule_of new ≡ record (rule_of old) { is_free = is_free_arg new }
same_but_free old new is = ap (λ (arg : Arg). record (rule_of arg) { is_free = is_free_arg new }) is

pub conflicting_rule : (old new : Arg) (name : Bor (List ℕ)) → AddsConflicts old new (name ∷ []) → rule_of new ≡ conflicting (rule_of old)
conflicting_rule old new name (is, items) =
    same_but_free old new is
    ∙ ap (λ (free : Bool). record (rule_of old) { is_free = free })
    (is_bound new (ap is_empty items ∙ never_empty old.conflicts.items name))

is_simple_app : is_simple printing_app ≡ true
unfolding clap_on_literals printing_app
is_simple_app = refl

rows_matched : (app : App) (words : List (List ℕ)) (found : ArgMatches) → app ≡ printing_app → HasMatchesOf app words found →
    rows_of (found_of found) ≡ matches_of printing_app words
rows_matched app words found is has = (subst (λ (a : App). HasMatchesOf a words found) is has is_simple_app).0

pub matched : {E : Type 0} (app : App) (words : List (List ℕ)) (result : Result ArgMatches E) → app ≡ printing_app →
    IfOk result (HasMatchesOf app words) → IfOk result (λ found. rows_of (found_of found) ≡ matches_of printing_app words)
matched app words (Ok found) is has = rows_matched app words found is has
matched app words (Err error) is has = tt
