use Rattle.std.proofs.Common.{◌≡◌, Result, Ok, Err, IfOk, subst, sym, rules}
use Rattle.std.specs.Prelude.{string_bytes}
use Rattle.graphql_text.specs.kinds.Printing.{print_bytes, print_tree}
use Rattle.graphql_text.specs.kinds.Reading.{ReadsAlone}
use Rattle.graphql_text.proofs.engine.Serialize.to_text.Goals as goal

if_ok_then : {T E : Type 0} (P Q : T → Type 0) → ((value : T) → P value → Q value) → (result : Result T E) → IfOk result P → IfOk result Q
if_ok_then P Q then (Ok value) holds = then value holds
if_ok_then P Q then (Err error) holds = holds

pub returns-clause-read : goal.returns-clause-read
returns-clause-read g c =
    let self = c.args.self.now in
    let printed : IfOk c.ok_or.result (λ text. string_bytes text ≡ print_bytes g.T.SyntaxTree.kind g.T.SyntaxTree.tree self) = search rules in
    if_ok_then _ _ (λ text is obeyed blank.
    subst (λ bytes. ReadsAlone g.T.SyntaxTree.kind bytes (g.T.SyntaxTree.tree (print_tree self))) (sym is)
    (g.T.SyntaxTree.laws.reads_alone _ _ _ obeyed blank))
    c.ok_or.result printed
