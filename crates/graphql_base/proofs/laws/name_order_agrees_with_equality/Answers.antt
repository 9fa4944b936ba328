use Rattle.std.proofs.Common.{◌≡◌, ◌∙◌, true, sym, ap, refl, true≢false}
use Rattle.std.specs.Ordering.{is_eq}
use Rattle.std.specs.Cmp.Lexicographic.{texts_ties}
use Rattle.std.specs.declared.cmp.Ordering.{Ordering}
use Rattle.std.specs.declared.cmp.Ordering.TheVariants.{Less, Equal, Greater}
use Rattle.graphql_base.proofs.laws.name_order_agrees_with_equality.Goals as goal

is_equal : (o : Ordering) → is_eq o ≡ true → o ≡ Equal
is_equal Equal e = refl
is_equal Less e = absurd (true≢false (sym e))
is_equal Greater e = absurd (true≢false (sym e))

pub returns : goal.returns
returns c =
    let ties = texts_ties c.args.a.now.text.bytes c.args.b.now.text.bytes in
    (λ same. ties ∙ ap is_eq same, λ equal. is_equal _ (sym ties ∙ equal))
