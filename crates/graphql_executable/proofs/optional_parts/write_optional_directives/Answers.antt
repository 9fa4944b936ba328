use Rattle.std.proofs.Common.{sym}
use Rattle.std.proofs.lemmas.Bool.{eqb-true}
use Rattle.std.proofs.lemmas.List.{nil_from_length}
use Rattle.graphql_text.proofs.code.WritingSteps.{writes_nothing}
use Rattle.graphql_executable.proofs.optional_parts.write_optional_directives.Goals as goal

pub returns-then-is_empty-clause-written : goal.returns-then-is_empty-clause-written
returns-then-is_empty-clause-written g c =
    rw (nil_from_length c.args.directives.now.0.items (eqb-true _ _ (sym c.if-is_empty.ensures))) (writes_nothing g.met.O.Target.nothing)
