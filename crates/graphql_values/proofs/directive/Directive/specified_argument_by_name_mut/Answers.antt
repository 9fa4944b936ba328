use Rattle.std.proofs.Common.{refl, sym, ◌∙◌}
use Rattle.std.proofs.lemmas.Result.{IfOk-weaker, IfErr-at_err}
use Rattle.graphql_values.specs.code.Queries.{argument_value, is_argument_named}
use Rattle.graphql_values.specs.code.Loans.{with_value}
use Rattle.graphql_values.proofs.general.PositionAndFind.{changed_at_position, is_found, not_found, read_at_position}
use Rattle.graphql_values.proofs.directive.Directive.specified_argument_by_name_mut.Goals as goal

pub returns-in-Some : goal.returns-in-Some
returns-in-Some c =
    let test = is_argument_named c.args.name.now in
    let items = c.args.self.now.arguments.items in
    let is_index = sym c.specified_argument_index.ensures.index ∙ c.in-Some.is in (
      (
        refl,
        (λ w ok.
            let ends = c.value_at.follows.holds w ok in
            (ends.0, changed_at_position test (λ argument. with_value argument w) items _ c.in-Some.index is_index ends.1)),
        c.value_at.follows.holds-at-none,
      ),
      (
        IfOk-weaker c.value_at.result _ _ (λ value. read_at_position test argument_value items c.in-Some.index _ is_index) c.value_at.ensures.value,
        (
          (λ e. let is_memory = IfErr-at_err _ e c.value_at.ensures.memory in absurd cc),
          (λ none. absurd (is_found test items c.in-Some.index is_index none)),
        ),
      ),
    )

pub returns-in-None : goal.returns-in-None
returns-in-None c =
    let none = not_found (is_argument_named c.args.name.now) c.args.self.now.arguments.items (sym c.specified_argument_index.ensures.index ∙ c.in-None.is) in
    ((refl, (λ w e. absurd cc), (refl, refl)), (tt, ((λ e. none), (λ e. refl))))
