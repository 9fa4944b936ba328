-- Of DefinitionOrder: what is sorted by calls that compare sort keys.
use Rattle.std.proofs.Common.{◌≡◌, List, Result, Ok, Err, OnOk, Bor, ap}
use Rattle.std.specs.Prelude.{IsSortedBy}
use Rattle.std.specs.Cmp.Lexicographic.{slice_cmp}
use Rattle.std.specs.Fn.{Called, ComparesAs}
use Rattle.std.specs.List.Sorted.{IsSortedByClosure, IsStableBy, IsStableByClosure}
use Rattle.std.specs.Ordering.{is_lt, nat_cmp}
use Rattle.std.specs.declared.cmp.Ordering.{Ordering}
use Rattle.std.proofs.lemmas.Cmp.{nat_list_cmp_total}
use Rattle.std.proofs.lemmas.Fn.{always_returns_same}
use Rattle.std.proofs.lemmas.List.MinMax.{ranks_by}
use denote.Param.Members.{Mut}
use Rattle.graphql_ast.specs.declared.definition.Definition.{Definition}
use Rattle.graphql_rewrite.specs.DefinitionOrder.{comes_before, sort_key}

pub on_ok : {A E P Q : Type 0} (result : Result A E) → (P → Q) → OnOk result P → OnOk result Q
on_ok (Ok a) f p = f p
on_ok (Err e) f p = p

module _ {F : Type 0} (g : Mut F (Bor Definition × (Bor Definition × Unit {0})) Ordering) (f : F) where
  abbrev ComparesKeys : Type 0
  ComparesKeys = (a : Bor Definition × (Bor Definition × Unit {0})) (r : Ordering) (f' : F) → Called g f a r f' →
      (r ≡ slice_cmp nat_cmp (sort_key a.0.now) (sort_key a.1.0.now)) × (f' ≡ f)

  compares : ComparesKeys → ComparesAs g comes_before f
  compares h =
      always_returns_same g (λ a r. is_lt r ≡ comes_before a.0.now a.1.0.now) f (λ a r f' k. (ap is_lt (h a r f' k).0, (h a r f' k).1))

  pub sorted_by : (xs : List Definition) → IsSortedByClosure g f xs → ComparesKeys → IsSortedBy comes_before xs
  sorted_by xs sorted h = sorted comes_before (ranks_by nat_list_cmp_total sort_key) (compares h)

  pub stable_by : (xs ys : List Definition) → IsStableByClosure g f xs ys → ComparesKeys → IsStableBy comes_before xs ys
  stable_by xs ys stable h = stable comes_before (ranks_by nat_list_cmp_total sort_key) (compares h)
