use Rattle.std.specs.List.{position_from}
use Rattle.std.specs.Cmp.Lexicographic.{pointwise}
use Rattle.std.proofs.Common.{◌≡◌, drop, nat_eq}
use Rattle.graphql_text.specs.grammar.Forms.{is_one_of}
use Rattle.ast_json_nodes.specs.code.NodeReading.{texts_of}
use Rattle.ast_json_nodes.proofs.read.index_of.Given as goal

abbrev pub invariant-loop-index : goal.invariant-loop-index
invariant-loop-index l = (is_one_of (texts_of l.names) l.name ≡ is_one_of (texts_of (drop l.index l.names)) l.name)
    × (position_from (λ known. pointwise nat_eq known l.name) 0 (texts_of l.names)
    ≡ position_from (λ known. pointwise nat_eq known l.name) l.index (texts_of (drop l.index l.names)))
