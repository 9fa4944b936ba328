use Rattle.std.proofs.Common.{map, take}
use Rattle.ast_json_nodes.specs.declared.read.Unknown.{Unknown}
use Rattle.ast_json_nodes.specs.nodes.Nodes.{Each}
use Rattle.json_text.proofs.ArrayTexts.{HasItems}
use Rattle.ast_json_text.proofs.write.write_array.Given as goal

abbrev pub invariant-loop-value : goal.invariant-loop-value
invariant-loop-value g l =
    HasItems g.O.Target.wrote l.fn.out l.out l.is_behind (λ items. (unknown : Unknown) →
    Each (g.F.WriteForm.is_json_of unknown) (map g.F.WriteForm.tree (take l.value-index l.values)) items)
