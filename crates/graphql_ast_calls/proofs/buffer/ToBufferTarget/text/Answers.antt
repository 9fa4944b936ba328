use Rattle.std.proofs.Common.{◌-◌, List, ℕ, refl, subst, sym, ◌∙◌}
use borrow.Rule.Slice.PartMut.{put_mid}
use Rattle.graphql_ast_calls.specs.Buffers.{WentTo}
use Rattle.graphql_ast_calls.proofs.Prints.{went_inside}
use Rattle.graphql_ast_calls.proofs.buffer.ToBufferTarget.text.Goals as goal

pub returns-then-self : goal.returns-then-self
returns-then-self c =
    let a = c.args.self.now.out.now in
    let n = c.args.self.now.needed in
    let m = c.saturating_add-self.result in
    let text = c.args.text.now in (
      refl,
      subst (λ (l : List ℕ). WentTo a n text (put_mid n (m - n) a l) m) (sym (c.copy_from_slice.ensures.after ∙ c.as_bytes.ensures.value))
          (went_inside a text n m c.saturating_add-self.ensures c.if-self.true c.args.self.now.room),
    )
