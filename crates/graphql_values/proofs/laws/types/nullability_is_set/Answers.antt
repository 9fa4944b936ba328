use Rattle.std.proofs.Common.{ap, not, sym, ◌∙◌}
use Rattle.graphql_values.specs.trees.TypeTrees.{type_wrapping}
use Rattle.graphql_values.specs.kinds.Wrappings.{with_nullability}
use Rattle.graphql_values.proofs.kinds.WrappingLaws.{is_set, set_back, set_twice}
use Rattle.graphql_values.proofs.laws.types.nullability_is_set.Goals as goal

pub returns-clause-set : goal.returns-clause-set
returns-clause-set c = λ non_null. is_set non_null c.args.ty.now c.args.made.now

pub returns-clause-idempotent : goal.returns-clause-idempotent
returns-clause-idempotent c = λ non_null made.
    ap (with_nullability non_null) made
    ∙ ap (λ nullability. record { base = (type_wrapping c.args.ty.now).base; nullability = nullability })
    (set_twice non_null non_null (type_wrapping c.args.ty.now).nullability)
    ∙ sym made

pub returns-clause-gives_back : goal.returns-clause-gives_back
returns-clause-gives_back c = λ non_null was made.
    ap (with_nullability non_null) made ∙ set_back non_null (not non_null) c.args.ty.now was
