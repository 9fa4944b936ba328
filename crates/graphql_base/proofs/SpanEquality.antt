-- What `==` decides of spans, locations and errors.
use Rattle.std.proofs.Common.{◌≡◌, Bool, true, Option, Some, None, rules}
use Rattle.std.specs.Bool.{Decides}
use Rattle.std.specs.Option.{option_eq}
use Rattle.graphql_base.specs.declared.span.SourceSpan.{SourceSpan}
use Rattle.graphql_base.specs.declared.name.InvalidNameError.{InvalidNameError}
use Rattle.graphql_base.specs.declared.name.NameError.{NameError}
use Rattle.graphql_base.specs.declared.name.NameError.TheVariants.{Invalid, Memory}
use Rattle.graphql_base.specs.contracts.span.SourceSpanPartialEq.TheImpl as of_spans
use Rattle.graphql_base.specs.contracts.name.InvalidNameErrorPartialEq.TheImpl as of_invalids
use Rattle.graphql_base.specs.contracts.name.NameErrorPartialEq.TheImpl as of_errors
use Rattle.graphql_base.specs.NameErrors.{AreSameInvalid, AreSameErrors}
use Rattle.graphql_base.proofs.SpanStretches.{same_span}

abbrev span_eq : SourceSpan → SourceSpan → Bool
span_eq = of_spans.ghosts.eq

abbrev invalid_eq : InvalidNameError → InvalidNameError → Bool
invalid_eq = of_invalids.ghosts.eq

abbrev error_eq : NameError → NameError → Bool
error_eq = of_errors.ghosts.eq

numbers : (a b : SourceSpan) → span_eq a b ≡ true → (a.file_id.number ≡ b.file_id.number) × (a.start ≡ b.start) × (a.end ≡ b.end)
numbers a b equal = search rules

spans : (a b : SourceSpan) → Decides (span_eq a b) (a ≡ b)
spans a b = (λ equal. let n = numbers a b equal in same_span a b (λ i. record { number = n.0 i }) n.1 n.2, λ same. search rules)

pub locations : (a b : Option SourceSpan) → Decides (option_eq span_eq a b) (a ≡ b)
locations None None = search rules
locations None (Some b) = search rules
locations (Some a) None = search rules
locations (Some a) (Some b) = let s = spans a b in search (rules, s)

pub invalids : (a b : InvalidNameError) → Decides (invalid_eq a b) (AreSameInvalid a b)
invalids a b = let same = locations a.location b.location in search (rules, same)

pub errors : (a b : NameError) → Decides (error_eq a b) (AreSameErrors a b)
errors (Invalid a) (Invalid b) = invalids a b
errors Memory Memory = search rules
errors (Invalid a) Memory = search rules
errors Memory (Invalid b) = search rules
