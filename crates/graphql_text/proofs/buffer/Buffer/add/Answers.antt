use Rattle.std.proofs.Common.{◌≡◌, ◌+◌, ◌-◌, ◌++◌, IsUtf8, arith, length, subst, sym, take}
use Rattle.std.proofs.lemmas.Grind.{common_steps}
use borrow.Rule.Slice.PartMut.{put_mid}
use Rattle.std.proofs.lemmas.Str.{IsUtf8-append, IsUtf8-had}
use Rattle.graphql_text.proofs.buffer.Buffer.add.Goals as goal

pub invariant_of-self-clause-utf8 : goal.invariant_of-self-clause-utf8
invariant_of-self-clause-utf8 c =
    let s = c.args.self.now in
    let end = s.used + length c.args.text.now in
    let joined : take end (put_mid s.used (end - s.used) s.bytes c.copy_piece.new.to) ≡ take s.used s.bytes ++ c.args.text.now = grind (arith, common_steps) in
    ∣ subst IsUtf8 (sym joined) (IsUtf8-append _ _ (IsUtf8-had _ s.utf8) c.utf8.text) ∣₁
