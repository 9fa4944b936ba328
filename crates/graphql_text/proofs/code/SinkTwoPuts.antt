-- Two puts one after another.
use Rattle.std.proofs.Common.{◌≡◌, ℕ, List, [], ◌++◌, Option, ap, sym, ◌∙◌, append-nil}
use Rattle.graphql_text.specs.code.Sinks.{SinkTook, SinkTookBeginning}
use Rattle.graphql_text.specs.lemmas.Sinks.{took_more, faulted_later}

module _ {S : Type 0} {taken : S → Option (List ℕ)} {faults : S → ℕ} where
  pub both_taken : {a b c : S} {p x q : List ℕ} → SinkTook taken faults a p b → SinkTook taken faults b x c → q ≡ [] →
      SinkTookBeginning taken faults a (p ++ x) c q
  both_taken {a} {b} {c} {p} {x} {q} h k e = record {
    sent = p ++ x;
    whole = sym (append-nil (p ++ x)) ∙ ap (λ t. (p ++ x) ++ t) (sym e);
    took = took_more h k;
  }

-- what follows of one put, and of two
pub ruleset put_steps = (both_taken, faulted_later)
