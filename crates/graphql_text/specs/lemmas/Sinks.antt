-- Lemmas, no definitions: how what was done to a sink follows on.
use Rattle.std.proofs.Common.{◌≡◌, ℕ, ◌+◌, List, [], ◌++◌, Option, Some, None, refl, ap, sym, ◌∙◌, append_assoc, append-nil, arith}
use Rattle.std.proofs.Common.{length-append, Bool, true, false, subst}
use Rattle.std.specs.Io.KnownBytes.{Appends}
use Rattle.graphql_text.specs.code.Sinks.{SinkTook, SinkFaulted, SinkTookBeginning, SendsBuffered}

pub appends_nothing : (x : Option (List ℕ)) → Appends x x []
appends_nothing None = tt
appends_nothing (Some x) = sym (append-nil x)

pub appends_more : (x y z : Option (List ℕ)) (bs cs : List ℕ) → Appends x y bs → Appends y z cs → Appends x z (bs ++ cs)
appends_more None y z bs cs h k = tt
appends_more (Some x) None z bs cs h k = absurd h
appends_more (Some x) (Some y) None bs cs h k = absurd k
appends_more (Some x) (Some y) (Some z) bs cs h k = k ∙ ap (λ t. t ++ cs) h ∙ append_assoc x bs cs

module _ {S : Type 0} {taken : S → Option (List ℕ)} {faults : S → ℕ} where
  pub took_nothing : (a : S) → SinkTook taken faults a [] a
  took_nothing a = record { appended = appends_nothing (taken a); counted = refl }

  pub took_more : {a b c : S} {x y : List ℕ} → SinkTook taken faults a x b → SinkTook taken faults b y c → SinkTook taken faults a (x ++ y) c
  took_more {a} {b} {c} {x} {y} h k = record {
    appended = appends_more (taken a) (taken b) (taken c) x y h.appended k.appended;
    counted = k.counted ∙ h.counted;
  }

  pub faulted_later : {a b c : S} {x y : List ℕ} → SinkTook taken faults a x b → SinkFaulted taken faults b y c → SinkFaulted taken faults a (x ++ y) c
  faulted_later {a} {b} {c} {x} {y} h k = record {
    before = x ++ k.before;
    left_out = k.left_out;
    whole = ap (λ t. x ++ t) k.whole ∙ sym (append_assoc x k.before k.left_out);
    proper = k.proper;
    appended = appends_more (taken a) (taken b) (taken c) x k.before h.appended k.appended;
    counted = k.counted ∙ ap (λ n. n + 1) h.counted;
  }

  pub faulted_before : {a b : S} {x : List ℕ} (y : List ℕ) → SinkFaulted taken faults a x b → SinkFaulted taken faults a (x ++ y) b
  faulted_before {a} {b} {x} y h = record {
    before = h.before;
    left_out = h.left_out ++ y;
    whole = ap (λ t. t ++ y) h.whole ∙ append_assoc h.before h.left_out y;
    proper = omega (arith, h.proper, length-append h.left_out y);
    appended = h.appended;
    counted = h.counted;
  }

  pub faulted_quiet : {a b c : S} {x : List ℕ} → SinkFaulted taken faults a x b → SinkTook taken faults b [] c → SinkFaulted taken faults a x c
  faulted_quiet {a} {b} {c} {x} h k = record {
    before = h.before;
    left_out = h.left_out;
    whole = h.whole;
    proper = h.proper;
    appended = subst (λ t. Appends (taken a) (taken c) t) (append-nil h.before) (appends_more (taken a) (taken b) (taken c) h.before [] h.appended k.appended);
    counted = k.counted ∙ h.counted;
  }

  beginning_more : {a b c : S} {q r : List ℕ} (p x y : List ℕ) → SinkTookBeginning taken faults a (p ++ x) b q →
      SinkTookBeginning taken faults b (q ++ y) c r → SinkTookBeginning taken faults a (p ++ (x ++ y)) c r
  beginning_more {a} {b} {c} {q} {r} p x y h k = record {
    sent = h.sent ++ k.sent;
    whole = sym (append_assoc p x y) ∙ ap (λ t. t ++ y) h.whole ∙ append_assoc h.sent q y ∙ ap (λ t. h.sent ++ t) k.whole ∙ sym (append_assoc h.sent k.sent r);
    took = took_more h.took k.took;
  }

  beginning_faulted : {a b c : S} {q : List ℕ} (p x y : List ℕ) → SinkTookBeginning taken faults a (p ++ x) b q →
      SinkFaulted taken faults b (q ++ y) c → SinkFaulted taken faults a (p ++ (x ++ y)) c
  beginning_faulted {a} {b} {c} {q} p x y h k =
      subst (λ t. SinkFaulted taken faults a t c) (sym (append_assoc h.sent q y) ∙ ap (λ t. t ++ y) (sym h.whole) ∙ append_assoc p x y) (faulted_later h.took k)

module _ {S : Type 0} (taken : S → Option (List ℕ)) (faults : S → ℕ) where
  pub buffered_nothing : (a : S) (s : Bool) (p : List ℕ) → SendsBuffered taken faults a s p [] a s p
  buffered_nothing a true p = took_nothing a
  buffered_nothing a false p = λ few. record { sent = []; whole = append-nil p; took = took_nothing a }

  pub buffered_idle : (a : S) (s : Bool) (p x : List ℕ) → s ≡ true → SendsBuffered taken faults a s p x a s p
  buffered_idle a true p x e = took_nothing a
  buffered_idle a false p x e = absurd cc

  pub buffered_more : (a b c : S) (s t u : Bool) (p q r x y : List ℕ) → SendsBuffered taken faults a s p x b t q →
      SendsBuffered taken faults b t q y c u r → SendsBuffered taken faults a s p (x ++ y) c u r
  buffered_more a b c true true true p q r x y h k = took_more h k
  buffered_more a b c true true false p q r x y h k = absurd k
  buffered_more a b c true false u p q r x y h k = absurd h
  buffered_more a b c false true true p q r x y h k =
      λ few. subst (λ t. SinkFaulted taken faults a t c) (append_assoc p x y) (faulted_before y (faulted_quiet (h few) k))
  buffered_more a b c false true false p q r x y h k = absurd k
  buffered_more a b c false false true p q r x y h k = λ few. let e = (h few).took.counted in beginning_faulted p x y (h few) (k (omega (arith, few, e)))
  buffered_more a b c false false false p q r x y h k = λ few. let e = (h few).took.counted in beginning_more p x y (h few) (k (omega (arith, few, e)))
