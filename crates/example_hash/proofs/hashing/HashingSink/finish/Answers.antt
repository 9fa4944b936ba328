use Rattle.std.proofs.Math.Logic.{∥∥₁_elim}
use denote.Struct.Props.{props}
use Rattle.example_hash.proofs.hashing.HashingSink.finish.Goals as goal

pub returns-clause-digest : goal.returns-clause-digest
returns-clause-digest c = ∥∥₁_elim (c.args.self.hashed _ c.into_bytes.ensures) (search props) (λ held. c.finalize.ensures _ held)
