-- Of Readings: a walk that only reads comes by each node once, in order, until a call fails, and is never stopped.
use Rattle.std.proofs.Common.{◌≡◌, ◌⊎◌, inl, inr, Result, Ok, Err, List, [], ◌∷◌, ◌++◌, refl, sym, ap, ◌∙◌, subst}
use Rattle.std.specs.Prelude.{⊤, Bool, true, false}
use Rattle.graphql_visit.specs.NodeTrees.{NodeTree}
use Rattle.graphql_visit.specs.Readings.{GoesOn, Reads, ReadsAt}
use Rattle.graphql_visit.specs.Visits.{Visits, no_visits, visit, nodes_of}
use Rattle.graphql_visit.specs.Walks.{Step, Then, Enters, Leaves, Entered, Walks, entered, left}
use Rattle.graphql_visit.specs.declared.visitor.Ended.{Ended}
use Rattle.graphql_visit.specs.declared.visitor.Ended.TheVariants.{Stopped, Failed}

module _ {S E : Type 0} (reads : NodeTree → S → Result ⊤ E → S → Type 0) where
  -- what is read, by the answer of the walk
  abbrev Told : List NodeTree → S → Result ⊤ (Ended E) → S → Type 0
  Told nodes s (Ok u) t = Reads reads nodes s (Ok u) t
  Told nodes s (Err Stopped) t = ⊥
  Told nodes s (Err (Failed error)) t = Reads reads nodes s (Err error) t

  both : (xs ys : List NodeTree) (s m t : S) (answer : Result ⊤ E) (u : ⊤) → Reads reads xs s (Ok u) m → Reads reads ys m answer t →
      Reads reads (xs ++ ys) s answer t
  unfolding Reads
  both [] ys s m t answer u p q = subst (λ k. Reads reads ys k answer t) p.1 q
  both (x ∷ xs) ys s m t (Ok v) u (at, h, p) q = (at, h, both xs ys at m t (Ok v) u p q)
  both (x ∷ xs) ys s m t (Err e) u (at, h, p) q = inr (at, h, both xs ys at m t (Err e) u p q)

  first : (xs ys : List NodeTree) (s t : S) (error : E) → Reads reads xs s (Err error) t → Reads reads (xs ++ ys) s (Err error) t
  unfolding Reads
  first [] ys s t error p = absurd (cc p.0)
  first (x ∷ xs) ys s t error (inl h) = inl h
  first (x ∷ xs) ys s t error (inr (at, h, p)) = inr (at, h, first xs ys at t error p)

  then_told : (xs ys : List NodeTree) (s m t : S) (answer : Result ⊤ (Ended E)) (u : ⊤) → Reads reads xs s (Ok u) m → Told ys m answer t →
      Told (xs ++ ys) s answer t
  then_told xs ys s m t (Ok v) u p q = both xs ys s m t (Ok v) u p q
  then_told xs ys s m t (Err Stopped) u p q = q
  then_told xs ys s m t (Err (Failed error)) u p q = both xs ys s m t (Err error) u p q

  -- the call before a node reads it
  before : (node : NodeTree) (s t : S) (go : Result Bool (Ended E)) → Enters (ReadsAt reads) GoesOn node s go t →
      ((go ≡ Ok true) × reads node s (Ok tt) t) ⊎ ((error : E) × (go ≡ Err (Failed error)) × reads node s (Err error) t)
  before node s t go (Ok flow, (on, read), is) = inl (subst (λ f. go ≡ entered (Ok f)) on is, read)
  before node s t go (Err error, read, is) = inr (error, is, read)

  more_told : (node : NodeTree) (nodes : List NodeTree) (s at t : S) (answer : Result ⊤ (Ended E)) → reads node s (Ok tt) at → Told nodes at answer t →
      Told (node ∷ nodes) s answer t
  unfolding Reads
  more_told node nodes s at t (Ok u) read p = (at, read, p)
  more_told node nodes s at t (Err Stopped) read p = p
  more_told node nodes s at t (Err (Failed error)) read p = inr (at, read, p)

  fails_at : (node : NodeTree) (nodes : List NodeTree) (s t : S) (error : E) → reads node s (Err error) t → Told (node ∷ nodes) s (Err (Failed error)) t
  unfolding Reads
  fails_at node nodes s t error read = inl read

  -- what is within a node, and the call behind it
  inside : (node : NodeTree) (nodes : List NodeTree) (s inner t : S) (done answer : Result ⊤ (Ended E)) → Told nodes s done inner →
      Then (Leaves (ReadsAt reads) GoesOn node) done inner answer t → Told nodes s answer t
  inside node nodes s inner t (Ok tt) answer p (flow, (on, same), is) =
      subst (λ k. Told nodes s k t) (sym (is ∙ ap left on)) (subst (λ k. Told nodes s (Ok tt) k) (sym same) p)
  inside node nodes s inner t (Err ended) answer p (is, same) =
      subst (λ k. Told nodes s k t) (sym is) (subst (λ k. Told nodes s (Err ended) k) (sym same) p)

  node_told : (node : NodeTree) (nodes : List NodeTree) (within : Step S (E)) (s at t : S) (go : Result Bool (Ended E)) (answer : Result ⊤ (Ended E)) →
      ((m k : S) (found : Result ⊤ (Ended E)) → within m found k → Told nodes m found k) →
      ((go ≡ Ok true) × reads node s (Ok tt) at) ⊎ ((error : E) × (go ≡ Err (Failed error)) × reads node s (Err error) at) →
      Entered (ReadsAt reads) GoesOn node within go at answer t → Told (node ∷ nodes) s answer t
  node_told node nodes within s at t (Ok true) answer each (inl (is, read)) (inner, done, walked, rest) =
      more_told node nodes s at t answer read (inside node nodes at inner t done answer (each at inner done walked) rest)
  node_told node nodes within s at t (Ok false) answer each (inl (is, read)) rest = absurd (cc is)
  node_told node nodes within s at t (Err ended) answer each (inl (is, read)) rest = absurd (cc is)
  node_told node nodes within s at t (Ok b) answer each (inr (error, is, read)) rest = absurd (cc is)
  node_told node nodes within s at t (Err ended) answer each (inr (error, is, read)) (same, end) =
      let told : ended ≡ Failed error = cc is in
      subst (λ k. Told (node ∷ nodes) s k t) (sym (same ∙ ap Err told)) (fails_at node nodes s t error (subst (λ k. reads node s (Err error) k) (sym end) read))

  behind_told : (xs ys : List NodeTree) (behind : Step S E) (s at t : S) (done answer : Result ⊤ (Ended E)) → Told xs s done at →
      ((m k : S) (found : Result ⊤ (Ended E)) → behind m found k → Told ys m found k) → Then behind done at answer t → Told (xs ++ ys) s answer t
  behind_told xs ys behind s at t (Ok u) answer p each rest = then_told xs ys s at t answer u p (each at t answer rest)
  behind_told xs ys behind s at t (Err Stopped) answer p each rest = absurd p
  behind_told xs ys behind s at t (Err (Failed error)) answer p each (is, end) =
      subst (λ k. Told (xs ++ ys) s k t) (sym is) (first xs ys s t error (subst (λ k. Reads reads xs s (Err error) k) (sym end) p))

  told : (visits : Visits) (s t : S) (answer : Result ⊤ (Ended E)) → Walks (ReadsAt reads) GoesOn visits s answer t → Told (nodes_of visits) s answer t
  unfolding Walks Reads
  told no_visits s t (Ok tt) p = (refl, p.1)
  told no_visits s t (Err ended) p = absurd (cc p.0)
  told (visit node within behind) s t answer (at, done, (m, go, entering, rest), more) =
      behind_told (node ∷ nodes_of within) (nodes_of behind) (Walks (ReadsAt reads) GoesOn behind) s at t done answer
      (node_told node (nodes_of within) (Walks (ReadsAt reads) GoesOn within) s m at go done (λ a b found p. told within a b found p)
      (before node s m go entering) rest)
      (λ a b found p. told behind a b found p) more

  -- by the answer of the walk
  pub all_read : (visits : Visits) (s t : S) (answer : Result ⊤ (Ended E)) (u : ⊤) → Walks (ReadsAt reads) GoesOn visits s answer t → answer ≡ Ok u →
      Reads reads (nodes_of visits) s (Ok tt) t
  all_read visits s t answer tt p is = subst (λ k. Told (nodes_of visits) s k t) is (told visits s t answer p)

  pub read_until : (visits : Visits) (s t : S) (answer : Result ⊤ (Ended E)) (error : E) → Walks (ReadsAt reads) GoesOn visits s answer t →
      answer ≡ Err (Failed error) → Reads reads (nodes_of visits) s (Err error) t
  read_until visits s t answer error p is = subst (λ k. Told (nodes_of visits) s k t) is (told visits s t answer p)

  pub never_stopped : (visits : Visits) (s t : S) (answer : Result ⊤ (Ended E)) → Walks (ReadsAt reads) GoesOn visits s answer t → ¬ (answer ≡ Err Stopped)
  never_stopped visits s t answer p is = subst (λ k. Told (nodes_of visits) s k t) is (told visits s t answer p)
