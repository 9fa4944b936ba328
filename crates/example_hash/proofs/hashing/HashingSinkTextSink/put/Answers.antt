use Rattle.std.proofs.Common.{[], ap, refl, sym, subst, unwrap_or, ◌∙◌}
use Rattle.std.proofs.Math.Logic.{∥∥₁_map}
use Rattle.sha2.specs.Hashers.{Holds256}
use Rattle.example_hash.proofs.hashing.HashingSinkTextSink.put.Goals as goal

pub invariant_of-self-2 : goal.invariant_of-self-2
invariant_of-self-2 c = record {
  hashed = λ bytes is. ∥∥₁_map (c.args.self.now.hashed _ refl)
      (λ held. subst (Holds256 c.update.new.self) (sym c.in_ok-taken.ensures.bytes ∙ ap (λ known. unwrap_or known []) is) (c.update.ensures _ held));
}
