use Rattle.std.proofs.Common.{[], ◌∷◌, chars}
use Rattle.graphql_base.specs.Node.{node_str_text}
use Rattle.graphql_text.specs.layout.Layout.{AsDescription, StringItem}
use Rattle.graphql_text.proofs.code.WritingSteps.{writes_nothing, writes_then}
use Rattle.graphql_text.proofs.writers.write_leading_description.Goals as goal

pub returns-in-Some : goal.returns-in-Some
returns-in-Some g c =
    let string = rw c.as_str.ensures at c.write_description.ensures in
    rw c.in-Some.is (writes_then g.met.O.Target.more
    {xs = StringItem (chars (node_str_text c.in-Some.description.now)) AsDescription ∷ []} string c.write_soft.ensures)

pub returns-in_default : goal.returns-in_default
returns-in_default g c = rw c.in_default.is (writes_nothing g.met.O.Target.nothing)
