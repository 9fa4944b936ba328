-- Of Walks: one node, nodes one behind another, and a loop over nodes.
use Rattle.std.proofs.Common.{◌≡◌, ℕ, suc, ◌+◌, ◌<◌, ◌≤◌, Bool, true, false, Result, Ok, Err, List, ◌∷◌, length, get_or, drop, map}
use Rattle.std.proofs.Common.{ControlFlow, refl, ap, sym, ◌∙◌, subst, add-one, drop-cons}
use Rattle.std.proofs.Math.ListN.{drop_of_length-le}
use Rattle.std.specs.Prelude.{⊤}
use Rattle.graphql_visit.specs.NodeTrees.{NodeTree}
use Rattle.graphql_visit.specs.Visits.{Visits, no_visits, visit, Visited, one, each, ◌⨟◌}
use Rattle.graphql_visit.specs.Walks.{Enters, Leaves, WalksNode, Walks}
use Rattle.graphql_visit.specs.declared.visitor.Ended.{Ended}
use Rattle.graphql_visit.specs.declared.visitor.Flow.{Flow}

-- what is left of a list at one of its elements
pub drop_at : {A : Type 0} (xs : List A) (i : ℕ) (x : A) → i < length xs → x ≡ get_or xs i x → drop i xs ≡ x ∷ drop (i + 1) xs
drop_at xs i x below is = drop-cons xs i x below ∙ ap (λ y. y ∷ drop (suc i) xs) (sym is) ∙ ap (λ k. x ∷ drop k xs) (sym (add-one i))

module _ {S E : Type 0} (enters : NodeTree → S → Result Flow E → S → Type 0) (leaves : NodeTree → S → Result (ControlFlow ⊤ ⊤) E → S → Type 0) where
  -- nodes, and then nodes
  both : (first second : Visits) (s m t : S) (answer : Result ⊤ (Ended E)) (u : ⊤) → Walks enters leaves first s (Ok u) m →
      Walks enters leaves second m answer t → Walks enters leaves (first ⨟ second) s answer t
  unfolding Walks
  both no_visits second s m t answer u p q = subst (λ z. Walks enters leaves second z answer t) p.1 q
  both (visit node within behind) second s m t answer u (at, Ok v, here, more) q = (at, Ok v, here, both behind second at m t answer u more q)
  both (visit node within behind) second s m t answer u (at, Err ended, here, more) q = absurd (cc more.0)

  first_ends : (first second : Visits) (s m : S) (ended : Ended E) → Walks enters leaves first s (Err ended) m →
      Walks enters leaves (first ⨟ second) s (Err ended) m
  unfolding Walks
  first_ends no_visits second s m ended p = absurd (cc p.0)
  first_ends (visit node within behind) second s m ended (at, Ok v, here, more) = (at, Ok v, here, first_ends behind second at m ended more)
  first_ends (visit node within behind) second s m ended (at, Err e, here, more) = (at, Err e, here, more)

  pub goes_on : (first second : Visits) (s m t : S) (found answer : Result ⊤ (Ended E)) (u : ⊤) → Walks enters leaves first s found m → found ≡ Ok u →
      Walks enters leaves second m answer t → Walks enters leaves (first ⨟ second) s answer t
  goes_on first second s m t found answer u p is q = both first second s m t answer u (subst (λ x. Walks enters leaves first s x m) is p) q

  pub ends_early : (first second : Visits) (s m : S) (found : Result ⊤ (Ended E)) (ended : Ended E) → Walks enters leaves first s found m → found ≡ Err ended →
      Walks enters leaves (first ⨟ second) s (Err ended) m
  ends_early first second s m found ended p is = first_ends first second s m ended (subst (λ x. Walks enters leaves first s x m) is p)

  -- a node alone
  alone : (node : NodeTree) (within : Visits) (s t : S) (answer : Result ⊤ (Ended E)) → WalksNode enters leaves node (Walks enters leaves within) s answer t →
      Walks enters leaves (visit node within no_visits) s answer t
  unfolding Walks
  alone node within s t (Ok u) h = (t, Ok u, h, (refl, refl))
  alone node within s t (Err ended) h = (t, Err ended, h, (refl, refl))

  -- no nodes
  pub walks_none : (s : S) → Walks enters leaves no_visits s (Ok tt) s
  unfolding Walks
  walks_none s = (refl, refl)

  -- past a node, not into it, up to where the walk ends within it, and through it
  pub walked_past : (told node : NodeTree) (within : Visits) (s t : S) (go : Result Bool (Ended E)) → told ≡ node → Enters enters leaves told s go t →
      go ≡ Ok false → Walks enters leaves (visit node within no_visits) s (Ok tt) t
  walked_past told node within s t go at h is =
      alone node within s t (Ok tt) (
        t,
        Ok false,
        subst (λ n. Enters enters leaves n s (Ok false) t) at
            (subst (λ g. Enters enters leaves told s g t) is h),
        (refl, refl),
      )

  pub not_entered : (told node : NodeTree) (within : Visits) (s t : S) (go : Result Bool (Ended E)) (ended : Ended E) → told ≡ node →
      Enters enters leaves told s go t → go ≡ Err ended → Walks enters leaves (visit node within no_visits) s (Err ended) t
  not_entered told node within s t go ended at h is =
      alone node within s t (Err ended) (
        t,
        Err ended,
        subst (λ n. Enters enters leaves n s (Err ended) t) at
            (subst (λ g. Enters enters leaves told s g t) is h),
        (refl, refl),
      )

  pub ended_within : (told node : NodeTree) (within : Visits) (s m t : S) (go : Result Bool (Ended E)) (found : Result ⊤ (Ended E)) (ended : Ended E) →
      told ≡ node → Enters enters leaves told s go m → go ≡ Ok true → Walks enters leaves within m found t → found ≡ Err ended →
      Walks enters leaves (visit node within no_visits) s (Err ended) t
  ended_within told node within s m t go found ended at h is p stopped =
      alone node within s t (Err ended) (
        m,
        Ok true,
        subst (λ n. Enters enters leaves n s (Ok true) m) at (subst (λ g. Enters enters leaves told s g m) is h),
        (t, Err ended, subst (λ x. Walks enters leaves within m x t) stopped p, (refl, refl)),
      )

  pub walked_through : (told node : NodeTree) (within : Visits) (s m n t : S) (go : Result Bool (Ended E)) (found answer : Result ⊤ (Ended E)) (u : ⊤) →
      told ≡ node → Enters enters leaves told s go m → go ≡ Ok true → Walks enters leaves within m found n → found ≡ Ok u →
      Leaves enters leaves told n answer t → Walks enters leaves (visit node within no_visits) s answer t
  walked_through told node within s m n t go found answer u at h is p done l =
      alone node within s t answer (
        m,
        Ok true,
        subst (λ n. Enters enters leaves n s (Ok true) m) at (subst (λ g. Enters enters leaves told s g m) is h),
        (n, Ok u, subst (λ x. Walks enters leaves within m x n) done p, subst (λ k. Leaves enters leaves k n answer t) at l),
      )

  -- a node, and then nodes
  pub one_goes_on : (node : NodeTree) (within behind : Visits) (s m t : S) (found answer : Result ⊤ (Ended E)) (u : ⊤) →
      Walks enters leaves (visit node within no_visits) s found m → found ≡ Ok u → Walks enters leaves behind m answer t →
      Walks enters leaves (visit node within behind) s answer t
  one_goes_on node within behind = goes_on (visit node within no_visits) behind

  pub one_ends_early : (node : NodeTree) (within behind : Visits) (s m : S) (found : Result ⊤ (Ended E)) (ended : Ended E) →
      Walks enters leaves (visit node within no_visits) s found m → found ≡ Err ended → Walks enters leaves (visit node within behind) s (Err ended) m
  one_ends_early node within behind = ends_early (visit node within no_visits) behind

  -- a loop over nodes: at one of them, and ended there
  pub loop_on : {T Tree : Type 0} (visited : Visited Tree) (tree : T → Tree) (items : List T) (i : ℕ) (item : T) (s m : S) (found : Result ⊤ (Ended E))
      (u : ⊤) →
      i < length items → item ≡ get_or items i item → Walks enters leaves (one visited (tree item)) s found m → found ≡ Ok u →
      (answer : Result ⊤ (Ended E)) (t : S) → Walks enters leaves (each visited (map tree (drop (i + 1) items))) m answer t →
      Walks enters leaves (each visited (map tree (drop i items))) s answer t
  loop_on visited tree items i item s m found u below is p done answer t q =
      subst (λ xs. Walks enters leaves (each visited (map tree xs)) s answer t) (sym (drop_at items i item below is))
      (goes_on (one visited (tree item)) (each visited (map tree (drop (i + 1) items))) s m t found answer u p done q)

  pub loop_ends : {T Tree : Type 0} (visited : Visited Tree) (tree : T → Tree) (items : List T) (i : ℕ) (item : T) (s m : S) (found : Result ⊤ (Ended E))
      (ended : Ended E) →
      i < length items → item ≡ get_or items i item → Walks enters leaves (one visited (tree item)) s found m → found ≡ Err ended →
      Walks enters leaves (each visited (map tree (drop i items))) s (Err ended) m
  loop_ends visited tree items i item s m found ended below is p stopped =
      subst (λ xs. Walks enters leaves (each visited (map tree xs)) s (Err ended) m) (sym (drop_at items i item below is))
      (ends_early (one visited (tree item)) (each visited (map tree (drop (i + 1) items))) s m found ended p stopped)

  -- a loop that came to its end
  pub loop_done : {T Tree : Type 0} (visited : Visited Tree) (tree : T → Tree) (items : List T) (i : ℕ) (s : S) → length items ≤ i →
      Walks enters leaves (each visited (map tree (drop i items))) s (Ok tt) s
  loop_done visited tree items i s past =
      subst (λ xs. Walks enters leaves (each visited (map tree xs)) s (Ok tt) s) (sym (drop_of_length-le items past)) (walks_none s)

pub ruleset walk_steps = (walks_none, goes_on, ends_early, one_goes_on, one_ends_early)

pub ruleset one_steps = (walked_past, not_entered, ended_within, walked_through)

pub ruleset loop_steps = (loop_on, loop_ends, loop_done)
