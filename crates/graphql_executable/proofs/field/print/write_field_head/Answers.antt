use Rattle.std.proofs.Common.{[], ◌∷◌}
use Rattle.graphql_base.specs.Name.{name_text}
use Rattle.graphql_text.specs.layout.Layout.{Word}
use Rattle.graphql_text.specs.lexical.Tokens.{Name}
use Rattle.graphql_text.proofs.code.WritingSteps.{writes_then}
use Rattle.graphql_executable.specs.kinds.SelectionHeads.{field_head_shape}
use Rattle.graphql_executable.proofs.layout.SelectionShapes.{field_head_is}
use Rattle.graphql_executable.proofs.field.print.write_field_head.Goals as goal

pub returns-clause-written : goal.returns-clause-written
unfolding field_head_shape
returns-clause-written g c =
    let more = g.met.O.Target.more in
    let alias = rw c.as_ref.ensures.value at c.write_alias.ensures _ _ in
    let arguments = rw c.deref.ensures.value at c.write_optional_arguments.ensures.written in
    rw (field_head_is c.args.field.now)
    (writes_then more alias (writes_then more {xs = Word (Name (name_text c.args.field.now.name)) ∷ []} (c.write_name.ensures _ _)
    (writes_then more arguments c.write_optional_directives.ensures.written)))
